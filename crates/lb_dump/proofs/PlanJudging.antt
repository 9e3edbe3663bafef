-- How what follows the elements is judged, as far as its bytes have come.
use Rattle.std.proofs.Common.{◌≡◌, ℕ, ◌+◌, ◌-◌, ◌*◌, ◌<◌, ◌≤◌, List, length, drop, refl, ap, sym, subst, ◌∙◌, None, Bool, true, false, inl, inr, ◌⊎◌, arith}
use Rattle.std.specs.Prelude.{◌==◌, ◌&&◌, nat_le, nat_lt, if◌then◌else◌}
use Rattle.std.specs.Int.{w32, w64, from_be_bytes}
use Rattle.std.proofs.lemmas.Bool.{and_from, and_right, le-leb, lt-leb, lt-ltb}
use Rattle.chare_index.specs.declared.limits.TheConstants.Limits.{PES}
use Rattle.dump_format.specs.Fields.{any, after_floor, decision, ending, moves, numbers, unless}
use Rattle.dump_format.specs.Layout.{Layout, End, Field, Unfinished, Broken, judge}
use Rattle.dump_format.specs.declared.error.DumpError.TheVariants.{Flag, Target, Floor, MoveCount}
use Rattle.dump_format.proofs.Judging.{field_short, gives_fault, gives_none}
use Rattle.lb_dump.specs.Plans.{flag_in, kind_at, plan_len, target_in, word_at}
use Rattle.lb_dump.proofs.JudgedFrom.{Needs, broken_at, field_at, needs_any, needs_field, needs_numbers, numbers_at, short_at}

-- the fields from the kind of the floor on, those from the bottleneck on, and the number of moves
abbrev floor_field : ℕ → ℕ → Layout
floor_field count target = Field w32 (λ kind. unless (nat_le kind 1) Floor) (λ kind. after_floor count target kind)

abbrev lists : ℕ → ℕ → Layout
lists count target = any w64 (λ _. numbers w32 (target + 1) (floor_field count target))

abbrev move_count : ℕ → Layout
move_count count = Field w32 (λ n. unless (nat_le n count) MoveCount) (λ n. moves count 0 n)

-- the flag
pub short_flag : (count : ℕ) (text : List ℕ) → length text < 4 → judge (ending count) text ≡ Unfinished
short_flag count text short = field_short w32 (λ flag. unless (nat_le flag 1) Flag) (λ flag. if flag == 0 then End else decision count) text short

pub broken_flag : (count : ℕ) (text : List ℕ) → 4 ≤ length text → 1 < flag_in text → judge (ending count) text ≡ Broken Flag
broken_flag count text long high =
    broken_at w32 (λ flag. unless (nat_le flag 1) Flag) (λ flag. if flag == 0 then End else decision count) text 0 (flag_in text) Flag long
    refl (gives_fault (nat_le (flag_in text) 1) Flag (lt-leb (flag_in text) 1 high))

flagged : (count : ℕ) (text : List ℕ) → 4 ≤ length text → flag_in text ≡ 1 → judge (ending count) text ≡ judge (decision count) (drop 4 text)
flagged count text long flag = field_at w32 (λ flag. unless (nat_le flag 1) Flag) (λ flag. if flag == 0 then End else decision count) text 0 4 1 refl long flag refl

-- the target
pub short_target : (count : ℕ) (text : List ℕ) → 4 ≤ length text → length text < 8 → flag_in text ≡ 1 → judge (ending count) text ≡ Unfinished
short_target count text long short flag =
    flagged count text long flag
    ∙ short_at (decision count) 4 text 4 (needs_field w32 (λ t. unless (nat_lt 0 t && nat_le t PES) Target) (λ t. lists count t)) long short

no_target : (count : ℕ) (text : List ℕ) → 8 ≤ length text → flag_in text ≡ 1 → target_in text ≡ 0 → judge (ending count) text ≡ Broken Target
no_target count text long flag none =
    flagged count text (omega arith) flag
    ∙ broken_at w32 (λ t. unless (nat_lt 0 t && nat_le t PES) Target) (λ t. lists count t) text 4 0 Target long none refl

many_targets : (count : ℕ) (text : List ℕ) (target : ℕ) → 8 ≤ length text → flag_in text ≡ 1 → target_in text ≡ target → PES < target → judge (ending count) text ≡ Broken Target
many_targets count text target long flag is high =
    flagged count text (omega arith) flag
    ∙ broken_at w32 (λ t. unless (nat_lt 0 t && nat_le t PES) Target) (λ t. lists count t) text 4 target Target long is
    (gives_fault (nat_lt 0 target && nat_le target PES) Target (and_right (nat_lt 0 target) (nat_le target PES) (lt-leb target PES high)))

pub broken_target : (count : ℕ) (text : List ℕ) (target : ℕ) → 8 ≤ length text → flag_in text ≡ 1 → target ≡ target_in text
    → (target ≡ 0) ⊎ (PES < target) → judge (ending count) text ≡ Broken Target
broken_target count text target long flag is (inl none) = no_target count text long flag (sym is ∙ none)
broken_target count text target long flag is (inr many) = many_targets count text target long flag (sym is) many

-- a flag and a target that keep their rules
pub record IsOpened (text : List ℕ) (target : ℕ) : Type 0 where
  pub long : 8 ≤ length text
  pub flag : flag_in text ≡ 1
  pub target_is : target_in text ≡ target
  pub some_target : 0 < target
  pub few_targets : target ≤ PES

opened : (count : ℕ) (text : List ℕ) (target : ℕ) → IsOpened text target → judge (ending count) text ≡ judge (lists count target) (drop 8 text)
opened count text target known =
    let long = known.long in
    let good : (nat_lt 0 target && nat_le target PES) ≡ true = and_from (nat_lt 0 target) (nat_le target PES)
    (lt-ltb 0 target known.some_target) (le-leb target PES known.few_targets) in
    flagged count text (omega arith) known.flag
    ∙ field_at w32 (λ t. unless (nat_lt 0 t && nat_le t PES) Target) (λ t. lists count t) text 4 8 target refl long known.target_is
    (gives_none (nat_lt 0 target && nat_le target PES) Target good)

-- up to the kind of the floor
pub short_lists : (count : ℕ) (text : List ℕ) (target : ℕ) → IsOpened text target → length text < kind_at target + 4 → judge (ending count) text ≡ Unfinished
short_lists count text target known short =
    let needs : Needs (8 + ((target + 1) * 4 + 4)) (lists count target) =
    needs_any w64 (λ _. numbers w32 (target + 1) (floor_field count target)) ((target + 1) * 4 + 4) (λ _. needs_numbers w32 (target + 1) (floor_field count target) 4
    (needs_field w32 (λ kind. unless (nat_le kind 1) Floor) (λ kind. after_floor count target kind))) in
    opened count text target known ∙ short_at (lists count target) (8 + ((target + 1) * 4 + 4)) text 8 needs known.long (omega arith)

to_floor : (count : ℕ) (text : List ℕ) (target : ℕ) → IsOpened text target → kind_at target ≤ length text
    → judge (ending count) text ≡ judge (floor_field count target) (drop (kind_at target) text)
to_floor count text target known long =
    opened count text target known
    ∙ field_at w64 (λ _. None) (λ _. numbers w32 (target + 1) (floor_field count target)) text 8 16 (from_be_bytes w64 (drop 8 text)) refl (omega arith) refl refl
    ∙ numbers_at w32 (target + 1) (floor_field count target) text 16 (kind_at target) (omega arith) long

pub broken_floor : (count : ℕ) (text : List ℕ) (target from kind : ℕ) → IsOpened text target → from ≡ kind_at target
    → from + 4 ≤ length text → kind ≡ word_at text from → 1 < kind → judge (ending count) text ≡ Broken Floor
broken_floor count text target from kind known from_is long is high =
    let there : kind_at target + 4 ≤ length text = subst (λ n. n + 4 ≤ length text) from_is long in
    to_floor count text target known (omega arith)
    ∙ broken_at w32 (λ k. unless (nat_le k 1) Floor) (λ k. after_floor count target k) text (kind_at target) kind Floor there
    (ap (word_at text) (sym from_is) ∙ sym is) (gives_fault (nat_le kind 1) Floor (lt-leb kind 1 high))

-- a kind of a floor that keeps its rule
pub record IsFloored (text : List ℕ) (target kind : ℕ) : Type 0 where
  pub opened : IsOpened text target
  pub long : kind_at target + 4 ≤ length text
  pub kind_is : word_at text (kind_at target) ≡ kind
  pub good : kind ≤ 1

floored : (count : ℕ) (text : List ℕ) (target kind : ℕ) → IsFloored text target kind
    → judge (ending count) text ≡ judge (after_floor count target kind) (drop (kind_at target + 4) text)
floored count text target kind is =
    let long = is.long in
    to_floor count text target is.opened (omega arith)
    ∙ field_at w32 (λ k. unless (nat_le k 1) Floor) (λ k. after_floor count target k) text (kind_at target) (kind_at target + 4) kind refl
    long is.kind_is (gives_none (nat_le kind 1) Floor (le-leb kind 1 is.good))

-- the number of stops, and their bytes
abbrev stops : ℕ → ℕ → ℕ
stops kind target = if kind == 0 then 0 else target + 1

four_times : (b : Bool) (n : ℕ) → (if b then 0 else 4 * n) ≡ 4 * (if b then 0 else n)
four_times true n = refl
four_times false n = refl

stops_len : (kind target : ℕ) → (if kind == 0 then 0 else 4 * (target + 1)) ≡ 4 * stops kind target
stops_len kind target = four_times (kind == 0) (target + 1)

-- up to the number of moves
pub short_plan : (count : ℕ) (text : List ℕ) (target kind : ℕ) → IsFloored text target kind → length text < plan_len target kind → judge (ending count) text ≡ Unfinished
short_plan count text target kind is short =
    let rest : Layout = any w64 (λ _. move_count count) in
    let v : Layout = numbers w64 target rest in
    let u : Layout = numbers w64 target v in
    let names : Layout = numbers w32 target u in
    let needs_rest : Needs (8 + 4) rest = needs_any w64 (λ _. move_count count) 4 (λ _. needs_field w32 (λ n. unless (nat_le n count) MoveCount) (λ n. moves count 0 n)) in
    let needs_v : Needs (target * 8 + (8 + 4)) v = needs_numbers w64 target rest (8 + 4) needs_rest in
    let needs_u : Needs (target * 8 + (target * 8 + (8 + 4))) u = needs_numbers w64 target v (target * 8 + (8 + 4)) needs_v in
    let needs_names : Needs (target * 4 + (target * 8 + (target * 8 + (8 + 4)))) names = needs_numbers w32 target u (target * 8 + (target * 8 + (8 + 4))) needs_u in
    let needs : Needs (stops kind target * 4 + (target * 4 + (target * 8 + (target * 8 + (8 + 4))))) (after_floor count target kind) =
    needs_numbers w32 (stops kind target) names (target * 4 + (target * 8 + (target * 8 + (8 + 4)))) needs_names in
    floored count text target kind is
    ∙ short_at (after_floor count target kind) (stops kind target * 4 + (target * 4 + (target * 8 + (target * 8 + (8 + 4))))) text
    (kind_at target + 4) needs is.long (omega (arith, stops_len kind target))

to_moves : (count : ℕ) (text : List ℕ) (target kind : ℕ) → IsFloored text target kind → length text ≡ plan_len target kind
    → judge (ending count) text ≡ judge (move_count count) (drop (length text - 4) text)
to_moves count text target kind is whole =
    let rest : Layout = any w64 (λ _. move_count count) in
    let v : Layout = numbers w64 target rest in
    let u : Layout = numbers w64 target v in
    let names : Layout = numbers w32 target u in
    let from : ℕ = kind_at target + 4 in
    let names_at : ℕ = from + stops kind target * 4 in
    let bytes : (if kind == 0 then 0 else 4 * (target + 1)) ≡ 4 * stops kind target = stops_len kind target in
    let len : length text ≡ names_at + target * 4 + target * 8 + target * 8 + 12 = omega arith in
    floored count text target kind is
    ∙ numbers_at w32 (stops kind target) names text from names_at refl (omega arith)
    ∙ numbers_at w32 target u text names_at (names_at + target * 4) refl (omega arith)
    ∙ numbers_at w64 target v text (names_at + target * 4) (names_at + target * 4 + target * 8) refl (omega arith)
    ∙ numbers_at w64 target rest text (names_at + target * 4 + target * 8) (names_at + target * 4 + target * 8 + target * 8) refl (omega arith)
    ∙ field_at w64 (λ _. None) (λ _. move_count count) text (names_at + target * 4 + target * 8 + target * 8) (length text - 4)
    (from_be_bytes w64 (drop (names_at + target * 4 + target * 8 + target * 8) text)) (omega arith) (omega arith) refl refl

pub broken_moves : (count : ℕ) (text : List ℕ) (target kind end n : ℕ) → IsFloored text target kind → length text ≡ plan_len target kind
    → end ≡ plan_len target kind → n ≡ word_at text (end - 4) → count < n → judge (ending count) text ≡ Broken MoveCount
broken_moves count text target kind end n floored whole end_is is high =
    let there : end - 4 ≡ length text - 4 = ap (λ e. e - 4) (end_is ∙ sym whole) in
    to_moves count text target kind floored whole
    ∙ broken_at w32 (λ m. unless (nat_le m count) MoveCount) (λ m. moves count 0 m) text (length text - 4) n MoveCount (omega arith)
    (ap (word_at text) (sym there) ∙ sym is) (gives_fault (nat_le n count) MoveCount (lt-leb n count high))

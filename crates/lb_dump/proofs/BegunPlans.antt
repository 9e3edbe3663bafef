-- Bytes that have begun a decision.
use Rattle.std.proofs.Common.{◌≡◌, ℕ, ◌+◌, ◌<◌, ◌≤◌, List, [], ◌++◌, length, drop, take, ◌-◌, ap, sym, ◌∙◌, subst, arith, length-append}
use Rattle.std.specs.Int.{w32, from_be_bytes}
use Rattle.dump_format.specs.Fields.{ending}
use Rattle.dump_format.specs.Layout.{Unfinished, judge}
use Rattle.chare_index.specs.declared.limits.TheConstants.Limits.{PES}
use Rattle.lb_dump.proofs.PlanJudging.{IsFloored, IsOpened, short_flag, short_lists, short_plan, short_target}
use Rattle.lb_dump.proofs.NumbersRead.{word-append, word_at-append, word_read}
use Rattle.lb_dump.specs.Plans.{IsBegun, MayBegin, flag_in, kind_at, kind_in, plan_len, target_in, word_at}

-- no byte has come
pub none_begun : IsBegun []
none_begun =
    record {
      flag = λ long. absurd (omega arith);
      some_target = λ long. absurd (omega arith);
      few_targets = λ long. absurd (omega arith);
      kind = λ long. absurd (omega arith);
      short = λ long. absurd (omega arith);
    }

-- up to the end of the flag
pub begun_to_flag : (begun rest : List ℕ) → length begun + length rest ≤ 4 → MayBegin (begun ++ rest)
begun_to_flag begun rest fits =
    let all : length (begun ++ rest) ≤ 4 = rw length-append fits in
    record {
      flag = λ past. absurd (omega arith);
      some_target = λ past. absurd (omega arith);
      few_targets = λ past. absurd (omega arith);
      kind = λ past. absurd (omega arith);
      within = λ past. absurd (omega arith);
    }

-- up to the end of the target
pub begun_to_target : (begun : List ℕ) → IsBegun begun → 4 ≤ length begun → (rest : List ℕ) → length begun + length rest ≤ 8 → MayBegin (begun ++ rest)
begun_to_target begun known long rest fits =
    let all : length (begun ++ rest) ≤ 8 = rw length-append fits in
    record {
      flag = λ _. word-append begun rest long ∙ known.flag long;
      some_target = λ past. absurd (omega arith);
      few_targets = λ past. absurd (omega arith);
      kind = λ past. absurd (omega arith);
      within = λ past. absurd (omega arith);
    }

-- up to the end of the kind of the floor
pub begun_to_kind : (begun : List ℕ) (target from : ℕ) → IsBegun begun → 8 ≤ length begun → target ≡ target_in begun → from ≡ kind_at target
    → (rest : List ℕ) → length begun + length rest ≤ from + 4 → MayBegin (begun ++ rest)
begun_to_kind begun target from known long is from_is rest fits =
    let at_4 : word_at (begun ++ rest) 4 ≡ target_in begun = word_at-append begun rest 4 long in
    let all : length (begun ++ rest) ≤ kind_at (target_in begun) + 4 = rw length-append (omega arith) in
    record {
      flag = λ _. word-append begun rest (omega arith) ∙ known.flag (omega arith);
      some_target = λ _. rw at_4 (known.some_target long);
      few_targets = λ _. rw at_4 (known.few_targets long);
      kind = λ past. absurd (not_past past);
      within = λ past. absurd (not_past past);
    }
  where
    not_past : kind_at (target_in (begun ++ rest)) + 4 < length (begun ++ rest) → ⊥
    not_past past =
        let at_4 : target_in (begun ++ rest) ≡ target_in begun = word_at-append begun rest 4 long in
        let joined : length (begun ++ rest) ≡ length begun + length rest = length-append begun rest in
        omega arith

-- bytes whose fields with a rule are known
may_begin : (xs : List ℕ) (target kind : ℕ) → flag_in xs ≡ 1 → target_in xs ≡ target → word_at xs (kind_at target) ≡ kind → 0 < target
    → target ≤ PES → kind ≤ 1 → length xs ≤ plan_len target kind → MayBegin xs
may_begin xs target kind flag target_is kind_is some few good within =
    let kind_there : kind_in xs ≡ kind = ap (λ t. word_at xs (kind_at t)) target_is ∙ kind_is in
    let end : plan_len target kind ≡ plan_len (target_in xs) (kind_in xs) = ap (λ t. plan_len t kind) (sym target_is) ∙ ap (plan_len (target_in xs)) (sym kind_there) in
    record {
      flag = λ _. flag;
      some_target = λ _. rw target_is some;
      few_targets = λ _. rw target_is few;
      kind = λ _. rw kind_there good;
      within = λ _. subst (λ n. length xs ≤ n) end within;
    }

-- up to the end of the decision
pub begun_to_end : (begun : List ℕ) (target kind from end : ℕ) → IsBegun begun → target ≡ target_in begun → from ≡ kind_at target
    → kind ≡ word_at begun from → from + 4 ≤ length begun → end ≡ plan_len target kind → (rest : List ℕ) → length begun + length rest ≤ end
    → MayBegin (begun ++ rest)
begun_to_end begun target kind from end known is from_is kind_is long end_is rest fits =
    let there : kind_at (target_in begun) ≡ from = ap kind_at (sym is) ∙ sym from_is in
    let reached : kind_at (target_in begun) + 4 ≤ length begun = subst (λ n. n + 4 ≤ length begun) (sym there) long in
    let kind_there : kind_in begun ≡ kind = ap (word_at begun) there ∙ sym kind_is in
    let good : kind ≤ 1 = subst (λ n. n ≤ 1) kind_there (known.kind reached) in
    let at_from : word_at (begun ++ rest) (kind_at target) ≡ kind = ap (word_at (begun ++ rest)) (sym from_is) ∙ (word_at-append begun rest from long ∙ sym kind_is) in
    let eight : 8 ≤ length begun = omega arith in
    let four : 4 ≤ length begun = omega arith in
    let within : length (begun ++ rest) ≤ plan_len target kind = subst (λ n. length (begun ++ rest) ≤ n) end_is (rw length-append fits) in
    may_begin (begun ++ rest) target kind (word-append begun rest four ∙ known.flag four) (word_at-append begun rest 4 eight ∙ sym is) at_from
    (subst (λ n. 0 < n) (sym is) (known.some_target eight)) (subst (λ n. n ≤ PES) (sym is) (known.few_targets eight)) good within

-- too few bytes for a flag, or for a target
pub waits_for_flag : (count : ℕ) (text : List ℕ) → length text < 4 → IsBegun text × (judge (ending count) text ≡ Unfinished)
waits_for_flag count text short = (
  record {
    flag = λ long. absurd (omega arith);
    some_target = λ long. absurd (omega arith);
    few_targets = λ long. absurd (omega arith);
    kind = λ long. absurd (omega arith);
    short = λ long. absurd (omega arith);
  },
  short_flag count text short,
)

pub waits_for_target : (count : ℕ) (text : List ℕ) → 4 ≤ length text → length text < 8 → flag_in text ≡ 1 → IsBegun text × (judge (ending count) text ≡ Unfinished)
waits_for_target count text long short flag = (
  record {
    flag = λ _. flag;
    some_target = λ reached. absurd (omega arith);
    few_targets = λ reached. absurd (omega arith);
    kind = λ reached. absurd (omega arith);
    short = λ reached. absurd (omega arith);
  },
  short_target count text long short flag,
)

-- for the kind of the floor
pub waits_for_kind : (count : ℕ) (text : List ℕ) (target : ℕ) → IsOpened text target → length text < kind_at target + 4 → IsBegun text × (judge (ending count) text ≡ Unfinished)
waits_for_kind count text target known short =
    let there : kind_at (target_in text) ≡ kind_at target = ap kind_at known.target_is in (
      record {
        flag = λ _. known.flag;
        some_target = λ _. subst (λ t. 0 < t) (sym known.target_is) known.some_target;
        few_targets = λ _. subst (λ t. t ≤ PES) (sym known.target_is) known.few_targets;
        kind = λ reached. absurd (omega arith);
        short = λ reached. absurd (omega arith);
      },
      short_lists count text target known short,
    )

-- for the number of moves
pub waits_for_moves : (count : ℕ) (text : List ℕ) (target kind : ℕ) → IsFloored text target kind → length text < plan_len target kind
    → IsBegun text × (judge (ending count) text ≡ Unfinished)
waits_for_moves count text target kind known short =
    let target_is : target_in text ≡ target = known.opened.target_is in
    let kind_is : kind_in text ≡ kind = ap (λ t. word_at text (kind_at t)) target_is ∙ known.kind_is in
    let end : plan_len target kind ≡ plan_len (target_in text) (kind_in text) = ap (λ t. plan_len t kind) (sym target_is) ∙ ap (plan_len (target_in text)) (sym kind_is) in (
      record {
        flag = λ _. known.opened.flag;
        some_target = λ _. subst (λ t. 0 < t) (sym target_is) known.opened.some_target;
        few_targets = λ _. subst (λ t. t ≤ PES) (sym target_is) known.opened.few_targets;
        kind = λ _. subst (λ k. k ≤ 1) (sym kind_is) known.good;
        short = λ _. subst (λ n. length text < n) end short;
      },
      short_plan count text target kind known short,
    )

-- the kind of the floor that a call read
pub floored_by : (text : List ℕ) (target from kind : ℕ) → IsOpened text target → from ≡ kind_at target → from + 4 ≤ length text
    → kind ≡ from_be_bytes w32 (take (length text - from) (drop from text)) → kind ≤ 1 → IsFloored text target kind
floored_by text target from kind known from_is long is good =
    record {
      opened = known;
      long = subst (λ n. n + 4 ≤ length text) from_is long;
      kind_is = ap (word_at text) (sym from_is) ∙ sym (word_read text from kind is);
      good = good;
    }

-- all bytes up to the moves have come, and no more
pub whole_by : (text : List ℕ) (target kind end : ℕ) → MayBegin text → IsFloored text target kind → end ≡ plan_len target kind
    → end ≤ length text → length text ≡ plan_len target kind
whole_by text target kind end begun known end_is long =
    let target_is : target_in text ≡ target = known.opened.target_is in
    let kind_is : kind_in text ≡ kind = ap (λ t. word_at text (kind_at t)) target_is ∙ known.kind_is in
    let there : plan_len (target_in text) (kind_in text) ≡ plan_len target kind = ap (plan_len (target_in text)) kind_is ∙ ap (λ t. plan_len t kind) target_is in
    let from : kind_at (target_in text) ≡ kind_at target = ap kind_at target_is in
    let past : kind_at (target_in text) + 4 < length text = omega arith in
    let within : length text ≤ plan_len target kind = subst (λ n. length text ≤ n) there (begun.within past) in
    omega arith

-- Bytes that are judged to be a decision are the text of one.
use Rattle.std.proofs.Common.{◌≡◌, ℕ, zero, suc, ◌+◌, ◌^◌, ◌<◌, ◌≤◌, List, ◌++◌, length, append_assoc, ℤ, Option, Some, None, refl, ap, sym, ◌∙◌, arith}
use Rattle.std.specs.Prelude.{All, flat_map, nat_le, nat_lt, ◌&&◌, ◌==◌, if◌then◌else◌}
use Rattle.std.specs.Int.{w32, w64}
use Rattle.std.proofs.lemmas.Bool.{and_parts, leb-true, ltb-true}
use Rattle.std.proofs.lemmas.List.Elements.{All-weaker}
use Rattle.chare_index.specs.declared.limits.TheConstants.Limits.{PES}
use Rattle.lb_certificates.specs.declared.division.Floor.{Floor}
use Rattle.lb_certificates.specs.declared.division.Floor.TheVariants.{Zero, Fence}
use Rattle.lb_certificates.specs.Certificate.{MatchFloor}
use Rattle.dump_format.specs.Dumps.{AreFields, AreWords, ArePrices, IsRecorded, MayFit, MayRecord}
use Rattle.dump_format.specs.Fields.{after_floor, any, decision, ending, moves, numbers, unless}
use Rattle.dump_format.specs.Layout.{Layout, End, Field, Whole, judge}
use Rattle.dump_format.specs.Text.{ending_text, floor_text, long, move_text, plan_text, price, word}
use Rattle.dump_format.specs.declared.error.DumpError.TheVariants.{Floor as BadFloor, MoveCount, Target, Flag}
use Rattle.dump_format.specs.declared.recorded.Recorded.{Recorded}
use Rattle.dump_format.proofs.Bytes.{AreBytes, reads_long, reads_word}
use Rattle.dump_format.proofs.Decoding.{IsMove, at_end, front, kept_rule, prices_counted, prices_fit, prices_of, prices_spelled, read_moves, read_numbers}
use Rattle.dump_format.proofs.SameDumps.{plan_is}

-- what follows the bytes moved: the number of moves, and the moves
abbrev moves_layout : ℕ → Layout
moves_layout count = Field w32 (λ n. unless (nat_le n count) MoveCount) (λ n. moves count 0 n)

-- what follows the stops of a floor
abbrev names_layout : ℕ → ℕ → Layout
names_layout count target = numbers w32 target (numbers w64 target (numbers w64 target (any w64 (λ _. moves_layout count))))

-- the names, the prices, the bytes moved and the moves
record Named (count target : ℕ) (text : List ℕ) : Type 0 where
  naming : List ℕ
  u : List ℤ
  v : List ℤ
  moved : ℕ
  moves : List (ℕ × ℕ × ℕ)
  names : length naming ≡ target
  block_prices : length u ≡ target
  pe_prices : length v ≡ target
  few_moves : length moves ≤ count
  kept : All (IsMove count) moves
  names_fit : AreWords naming
  u_fit : ArePrices u
  v_fit : ArePrices v
  moved_fits : moved < 2 ^ 64
  spelled : text ≡ flat_map word naming ++ (flat_map price u ++ (flat_map price v ++ (long moved ++ (word (length moves) ++ flat_map move_text moves))))

read_named : (count target : ℕ) (text : List ℕ) → AreBytes text → judge (names_layout count target) text ≡ Whole → Named count target text
read_named count target text are whole =
    let names = read_numbers w32 reads_word target (numbers w64 target (numbers w64 target (any w64 (λ _. moves_layout count)))) text are whole in
    let us = read_numbers w64 reads_long target (numbers w64 target (any w64 (λ _. moves_layout count))) names.rest names.bytes names.whole in
    let vs = read_numbers w64 reads_long target (any w64 (λ _. moves_layout count)) us.rest us.bytes us.whole in
    let moved = front w64 reads_long (λ _. None) (λ _. moves_layout count) vs.rest vs.bytes vs.whole in
    let n = front w32 reads_word (λ n. unless (nat_le n count) MoveCount) (λ n. moves count 0 n) moved.rest moved.bytes moved.whole in
    let list = read_moves count 0 n.number n.rest n.bytes n.whole in
    let few : n.number ≤ count = leb-true n.number count (kept_rule (nat_le n.number count) MoveCount n.kept) in
    let tail : moved.rest ≡ word (length list.moves) ++ flat_map move_text list.moves =
    n.spelled ∙ ap (λ (rest : List ℕ). word n.number ++ rest) list.spelled ∙ ap (λ (k : ℕ). word k ++ flat_map move_text list.moves) (sym list.counted)
    in
    let behind_v : vs.rest ≡ long moved.number ++ (word (length list.moves) ++ flat_map move_text list.moves) = moved.spelled
    ∙ ap (λ (rest : List ℕ). long moved.number ++ rest) tail in
    let behind_u = vs.spelled ∙ ap (λ (front : List ℕ). front ++ vs.rest) (prices_spelled vs.numbers vs.fit)
    ∙ ap (λ (rest : List ℕ). flat_map price (prices_of vs.numbers) ++ rest) behind_v in
    let behind = us.spelled ∙ ap (λ (front : List ℕ). front ++ us.rest) (prices_spelled us.numbers us.fit)
    ∙ ap (λ (rest : List ℕ). flat_map price (prices_of us.numbers) ++ rest) behind_u in
    record {
      naming = names.numbers;
      u = prices_of us.numbers;
      v = prices_of vs.numbers;
      moved = moved.number;
      moves = list.moves;
      names = names.counted;
      block_prices = prices_counted us.numbers ∙ us.counted;
      pe_prices = prices_counted vs.numbers ∙ vs.counted;
      few_moves = omega (arith, few, list.counted);
      kept = list.kept;
      names_fit = names.fit;
      u_fit = prices_fit us.numbers us.fit;
      v_fit = prices_fit vs.numbers vs.fit;
      moved_fits = moved.fits;
      spelled = names.spelled ∙ ap (λ (rest : List ℕ). flat_map word names.numbers ++ rest) behind;
    }

-- the stops of a floor of this kind, and what follows them
record Floored (A : Type 0) (count target kind : ℕ) (text : List ℕ) : Type 0 where
  floor : Floor A
  rest : List ℕ
  stops : MatchFloor floor (Unit {0}) (λ stops. length stops ≡ target + 1)
  fit : MatchFloor floor (Unit {0}) AreWords
  spelled : word kind ++ text ≡ floor_text floor ++ rest
  named : Named count target rest

read_floor : {A : Type 0} (count target kind : ℕ) (text : List ℕ) → kind ≤ 1 → AreBytes text → judge (after_floor count target kind) text ≡ Whole → Floored A count target kind text
unfolding numbers
read_floor count target zero text few are whole =
    record { floor = Zero; rest = text; stops = tt; fit = tt; spelled = refl; named = read_named count target text are whole }
read_floor count target (suc zero) text few are whole =
    let stops = read_numbers w32 reads_word (target + 1) (names_layout count target) text are whole in
    record {
      floor = Fence stops.numbers;
      rest = stops.rest;
      stops = stops.counted;
      fit = stops.fit;
      spelled = ap (λ (rest : List ℕ). word 1 ++ rest) stops.spelled ∙ sym (append_assoc (word 1) (flat_map word stops.numbers) stops.rest);
      named = read_named count target stops.rest stops.bytes stops.whole;
    }
read_floor count target (suc (suc kind)) text few are whole = absurd (omega (arith, few))

-- a decision
pub record Decided (A : Type 0) (count : ℕ) (text : List ℕ) : Type 0 where
  pub recorded : Recorded A
  pub is : IsRecorded count recorded
  pub fields : AreFields recorded
  pub spelled : text ≡ plan_text recorded ++ flat_map move_text recorded.decision.moves

pub read_decision : {A : Type 0} (count : ℕ) (text : List ℕ) → AreBytes text → judge (decision count) text ≡ Whole → Decided A count text
read_decision {A} count text are whole =
    let target = front w32 reads_word _ _ text are whole in
    let bottleneck = front w64 reads_long _ _ target.rest target.bytes target.whole in
    let cuts = read_numbers w32 reads_word (target.number + 1)
    (Field w32 (λ kind. unless (nat_le kind 1) BadFloor) (λ kind. after_floor count target.number kind)) bottleneck.rest
    bottleneck.bytes bottleneck.whole in
    let kind = front w32 reads_word (λ kind. unless (nat_le kind 1) BadFloor) (λ kind. after_floor count target.number kind) cuts.rest cuts.bytes cuts.whole in
    let small : kind.number ≤ 1 = leb-true kind.number 1 (kept_rule (nat_le kind.number 1) BadFloor kind.kept) in
    let floored : Floored A count target.number kind.number kind.rest = read_floor count target.number kind.number kind.rest small kind.bytes kind.whole in
    let named = floored.named in
    let (some, few) = and_parts (nat_lt 0 target.number) (nat_le target.number PES) (kept_rule (nat_lt 0 target.number && nat_le target.number PES) Target target.kept) in
    let r : Recorded A = record {
      target = target.number;
      decision = record {
        division = record { bottleneck = bottleneck.number; cuts = cuts.numbers; floor = floored.floor };
        naming = named.naming;
        prices = record { u = named.u; v = named.v };
        moved = named.moved;
        moves = named.moves;
      };
    }
    in
    let behind_cuts = kind.spelled ∙ floored.spelled ∙ ap (λ (rest : List ℕ). floor_text floored.floor ++ rest) named.spelled in
    let behind_bottleneck = cuts.spelled ∙ ap (λ (rest : List ℕ). flat_map word cuts.numbers ++ rest) behind_cuts in
    let behind_target = bottleneck.spelled ∙ ap (λ (rest : List ℕ). long bottleneck.number ++ rest) behind_bottleneck in
    record {
      recorded = r;
      is = record {
        some_target = ltb-true 0 target.number some;
        few_targets = leb-true target.number PES few;
        cuts = cuts.counted;
        stops = floored.stops;
        names = named.names;
        block_prices = named.block_prices;
        pe_prices = named.pe_prices;
        few_moves = named.few_moves;
        moved_elements = All-weaker (IsMove count) (λ (m : ℕ × ℕ × ℕ). m.0 < count) (λ m kept. kept.0) named.moves named.kept;
      };
      fields = record {
        bottleneck = bottleneck.fits;
        cuts = cuts.fit;
        stops = floored.fit;
        names = named.names_fit;
        block_prices = named.u_fit;
        pe_prices = named.v_fit;
        moved = named.moved_fits;
        present = All-weaker (IsMove count) (λ (m : ℕ × ℕ × ℕ). m.1 < PES) (λ m kept. kept.1) named.moves named.kept;
        planned = All-weaker (IsMove count) (λ (m : ℕ × ℕ × ℕ). m.2 < PES) (λ m kept. kept.2) named.moves named.kept;
      };
      spelled = target.spelled ∙ ap (λ (rest : List ℕ). word target.number ++ rest) behind_target ∙ sym (plan_is r);
    }

-- what follows the elements
pub record Ended (A : Type 0) (count : ℕ) (text : List ℕ) : Type 0 where
  pub recorded : Option (Recorded A)
  pub is : MayRecord count recorded
  pub fields : MayFit recorded
  pub spelled : text ≡ ending_text recorded

by_flag : {A : Type 0} (count flag : ℕ) (text rest : List ℕ) → flag ≤ 1 → AreBytes rest → text ≡ word flag ++ rest
    → judge (if flag == 0 then End else decision count) rest ≡ Whole → Ended A count text
by_flag count zero text rest few are spelled whole =
    record { recorded = None; is = tt; fields = tt; spelled = spelled ∙ ap (λ (rest : List ℕ). word 0 ++ rest) (at_end rest whole) }
by_flag {A} count (suc zero) text rest few are spelled whole =
    let decided : Decided A count rest = read_decision count rest are whole in
    record { recorded = Some decided.recorded; is = decided.is; fields = decided.fields; spelled = spelled ∙ ap (λ (rest : List ℕ). word 1 ++ rest) decided.spelled }
by_flag count (suc (suc flag)) text rest few are spelled whole = absurd (omega (arith, few))

pub read_ending : {A : Type 0} (count : ℕ) (text : List ℕ) → AreBytes text → judge (ending count) text ≡ Whole → Ended A count text
read_ending count text are whole =
    let flag = front w32 reads_word (λ flag. unless (nat_le flag 1) Flag) (λ flag. if flag == 0 then End else decision count) text are whole in
    by_flag count flag.number text flag.rest (leb-true flag.number 1 (kept_rule (nat_le flag.number 1) Flag flag.kept)) flag.bytes flag.spelled flag.whole

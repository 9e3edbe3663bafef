-- Where the texts of two dumps are equal, so are the dumps.
use Rattle.std.proofs.Common.{◌≡◌, ℕ, ◌+◌, ◌^◌, ◌<◌, ◌≤◌, List, [], ◌++◌, length, ℤ, Option, Some, None, refl, ap, sym, ◌∙◌, arith}
use Rattle.std.specs.Prelude.{All, flat_map}
use Rattle.std.specs.Int.{Width}
use mir.Val.{bits}
use Rattle.std.proofs.lemmas.List.Elements.{All-weaker}
use Rattle.chare_index.specs.declared.limits.TheConstants.Limits.{ELEMENTS, STATE_BYTES}
use Rattle.lb_snapshot.specs.Measured.{Taken}
use Rattle.lb_certificates.specs.declared.division.Floor.{Floor}
use Rattle.lb_certificates.specs.declared.division.Floor.TheVariants.{Zero, Fence}
use Rattle.lb_certificates.specs.Certificate.{MatchFloor}
use Rattle.dump_format.specs.Dumps.{AreFields, AreWords, IsRecorded, IsSnapshot, MayFit, MayRecord}
use Rattle.dump_format.specs.Text.{elements_text, ending_text, floor_text, head_text, long, move_text, plan_text, price, word}
use Rattle.dump_format.specs.declared.recorded.Recorded.{Recorded}
use Rattle.dump_format.proofs.Cancelling.{AreSpelled, FitsMove, Spells, same_elements, same_long, same_moves, same_prices, same_word, same_words}
use Rattle.dump_format.proofs.Spelling.{nine_grouped}

-- the numbers of stops fit their fields, and there is one more than the target
abbrev FitsFloor : {A : Type 0} → ℕ → Floor A → Type 0
FitsFloor target floor = MatchFloor floor (Unit {0}) (λ stops. length stops ≡ target + 1) × MatchFloor floor (Unit {0}) AreWords

same_floor : {A : Type 0} (target : ℕ) (f g : Floor A) (a b : List ℕ) → FitsFloor target f → FitsFloor target g → floor_text f ++ a ≡ floor_text g ++ b → (f ≡ g) × (a ≡ b)
same_floor target Zero Zero a b fits fits' same = (refl, (same_word 0 0 a b (omega arith) (omega arith) same).1)
same_floor target Zero (Fence stops) a b fits fits' same = absurd (let kinds = (same_word 0 1 a (flat_map word stops ++ b) (omega arith) (omega arith) same).0 in omega arith)
same_floor target (Fence stops) Zero a b fits fits' same = absurd (let kinds = (same_word 1 0 (flat_map word stops ++ a) b (omega arith) (omega arith) same).0 in omega arith)
same_floor target (Fence xs) (Fence ys) a b fits fits' same =
    let behind = (same_word 1 1 (flat_map word xs ++ a) (flat_map word ys ++ b) (omega arith) (omega arith) same).1 in
    let (stops, rest) = same_words xs ys a b (fits.0 ∙ sym fits'.0) fits.1 fits'.1 behind in
    (ap Fence stops, rest)

-- the moves of a decision that can be written fit their fields
moves_fit : {A : Type 0} (count : ℕ) (r : Recorded A) → IsRecorded count r → AreFields r → count ≤ ELEMENTS → All FitsMove r.decision.moves
moves_fit count r is fits few k d inside = (omega (arith, is.moved_elements k d inside), omega (arith, fits.present k d inside), omega (arith, fits.planned k d inside))

-- what follows the target, after the cuts, after the names, and after the prices
abbrev pub moved_text : {A : Type 0} → Recorded A → List ℕ
moved_text r = long r.decision.moved ++ (word (length r.decision.moves) ++ flat_map move_text r.decision.moves)

abbrev pub names_text : {A : Type 0} → Recorded A → List ℕ
names_text r = flat_map word r.decision.naming ++ (flat_map price r.decision.prices.u ++ (flat_map price r.decision.prices.v ++ moved_text r))

abbrev pub division_text : {A : Type 0} → Recorded A → List ℕ
division_text r = long r.decision.division.bottleneck ++ (flat_map word r.decision.division.cuts ++ (floor_text r.decision.division.floor ++ names_text r))

pub plan_is : {A : Type 0} (r : Recorded A) → plan_text r ++ flat_map move_text r.decision.moves ≡ word r.target ++ division_text r
unfolding plan_text
plan_is r =
    let d = r.decision in
    nine_grouped (word r.target) (long d.division.bottleneck) (flat_map word d.division.cuts) (floor_text d.division.floor)
    (flat_map word d.naming) (flat_map price d.prices.u) (flat_map price d.prices.v) (long d.moved) (word (length d.moves)) (flat_map move_text d.moves)

-- a record of the same parts is the same
record AreSame {A : Type 0} (r s : Recorded A) : Type 0 where
  target : r.target ≡ s.target
  bottleneck : r.decision.division.bottleneck ≡ s.decision.division.bottleneck
  cuts : r.decision.division.cuts ≡ s.decision.division.cuts
  floor : r.decision.division.floor ≡ s.decision.division.floor
  naming : r.decision.naming ≡ s.decision.naming
  blocks : r.decision.prices.u ≡ s.decision.prices.u
  pes : r.decision.prices.v ≡ s.decision.prices.v
  moved : r.decision.moved ≡ s.decision.moved
  moves : r.decision.moves ≡ s.decision.moves

abbrev made : {A : Type 0} → ℕ → ℕ → List ℕ → Floor A → List ℕ → List ℤ → List ℤ → ℕ → List (ℕ × ℕ × ℕ) → Recorded A
made target bottleneck cuts floor naming u v moved moves =
    record {
      target = target;
      decision = record {
        division = record { bottleneck = bottleneck; cuts = cuts; floor = floor };
        naming = naming;
        prices = record { u = u; v = v };
        moved = moved;
        moves = moves;
      };
    }

same_records : {A : Type 0} (r s : Recorded A) → AreSame r s → r ≡ s
same_records r s same =
    let d = r.decision in
    let d' = s.decision in
    let parts : made r.target d.division.bottleneck d.division.cuts d.division.floor d.naming d.prices.u d.prices.v d.moved d.moves ≡ made
    s.target d'.division.bottleneck d'.division.cuts d'.division.floor d'.naming d'.prices.u d'.prices.v d'.moved d'.moves
    = rw (same.target, same.bottleneck, same.cuts, same.floor, same.naming, same.blocks, same.pes, same.moved, same.moves) refl in
    parts

module _ {A : Type 0} (count : ℕ) (r s : Recorded A) (is : IsRecorded count r) (fits : AreFields r) (is' : IsRecorded count s) (fits' : AreFields s) (few : count ≤ ELEMENTS) where
  same_moved : moved_text r ≡ moved_text s → (r.decision.moved ≡ s.decision.moved) × (r.decision.moves ≡ s.decision.moves)
  same_moved same =
      let xs = r.decision.moves in
      let ys = s.decision.moves in
      let (moved, behind) = same_long r.decision.moved s.decision.moved (word (length xs) ++ flat_map move_text xs)
      (word (length ys) ++ flat_map move_text ys) fits.moved fits'.moved same in
      let (counts, listed) = same_word (length xs) (length ys) (flat_map move_text xs) (flat_map move_text ys) (omega (arith, is.few_moves))
      (omega (arith, is'.few_moves)) behind in
      let (moves, end) = same_moves xs ys [] [] counts (moves_fit count r is fits few) (moves_fit count s is' fits' few) (ap (λ text. text ++ []) listed) in
      (moved, moves)

  same_names : r.target ≡ s.target → names_text r ≡ names_text s
      → (r.decision.naming ≡ s.decision.naming) × (r.decision.prices.u ≡ s.decision.prices.u) × (r.decision.prices.v ≡ s.decision.prices.v) × (moved_text r ≡ moved_text s)
  same_names targets same =
      let d = r.decision in
      let d' = s.decision in
      let v : List ℕ = flat_map price d.prices.v ++ moved_text r in
      let v' : List ℕ = flat_map price d'.prices.v ++ moved_text s in
      let (names, behind) = same_words d.naming d'.naming (flat_map price d.prices.u ++ v) (flat_map price d'.prices.u ++ v')
      (is.names ∙ targets ∙ sym is'.names) fits.names fits'.names same in
      let (blocks, last) = same_prices d.prices.u d'.prices.u v v' (is.block_prices ∙ targets ∙ sym is'.block_prices) fits.block_prices fits'.block_prices behind in
      let (pes, rest) = same_prices d.prices.v d'.prices.v (moved_text r) (moved_text s) (is.pe_prices ∙ targets ∙ sym is'.pe_prices) fits.pe_prices fits'.pe_prices last in
      (names, blocks, pes, rest)

  same_division : r.target ≡ s.target → division_text r ≡ division_text s
      → (r.decision.division.bottleneck ≡ s.decision.division.bottleneck) × (r.decision.division.cuts ≡ s.decision.division.cuts)
      × (r.decision.division.floor ≡ s.decision.division.floor) × (names_text r ≡ names_text s)
  same_division targets same =
      let d = r.decision.division in
      let d' = s.decision.division in
      let floor : List ℕ = floor_text d.floor ++ names_text r in
      let floor' : List ℕ = floor_text d'.floor ++ names_text s in
      let stops = rw (← targets) at is'.stops in
      let (bottleneck, behind) = same_long d.bottleneck d'.bottleneck (flat_map word d.cuts ++ floor) (flat_map word d'.cuts ++ floor') fits.bottleneck fits'.bottleneck same in
      let (cuts, last) = same_words d.cuts d'.cuts floor floor' (is.cuts ∙ ap (λ n. n + 1) targets ∙ sym is'.cuts) fits.cuts fits'.cuts behind in
      let (floors, rest) = same_floor r.target d.floor d'.floor (names_text r) (names_text s) (is.stops, fits.stops) (stops, fits'.stops) last in
      (bottleneck, cuts, floors, rest)

  same_recorded : plan_text r ++ flat_map move_text r.decision.moves ≡ plan_text s ++ flat_map move_text s.decision.moves → r ≡ s
  same_recorded same =
      let plans = sym (plan_is r) ∙ same ∙ plan_is s in
      let (targets, behind) = same_word r.target s.target (division_text r) (division_text s) (omega (arith, is.few_targets)) (omega (arith, is'.few_targets)) plans in
      let (bottleneck, cuts, floors, last) = same_division targets behind in
      let (names, blocks, pes, rest) = same_names targets last in
      let (moved, moves) = same_moved rest in
      same_records r s (record { target = targets; bottleneck = bottleneck; cuts = cuts; floor = floors; naming = names; blocks = blocks; pes = pes; moved = moved; moves = moves })

-- what follows the elements
pub same_ending : {A : Type 0} (count : ℕ) (o p : Option (Recorded A)) → count ≤ ELEMENTS → MayRecord count o → MayFit o → MayRecord count p
    → MayFit p → ending_text o ≡ ending_text p → o ≡ p
same_ending count None None few is fits is' fits' same = refl
same_ending count None (Some s) few is fits is' fits' same = absurd
    (let flags = (same_word 0 1 [] (plan_text s ++ flat_map move_text s.decision.moves) (omega arith) (omega arith) same).0 in omega arith)
same_ending count (Some r) None few is fits is' fits' same = absurd
    (let flags = (same_word 1 0 (plan_text r ++ flat_map move_text r.decision.moves) [] (omega arith) (omega arith) same).0 in omega arith)
same_ending count (Some r) (Some s) few is fits is' fits' same =
    let behind = (same_word 1 1 (plan_text r ++ flat_map move_text r.decision.moves) (plan_text s ++ flat_map move_text s.decision.moves) (omega arith) (omega arith) same).1 in
    ap Some (same_recorded count r s is fits is' fits' few behind)

abbrev taken : ℕ → ℕ → List ℕ → List (ℕ × ℕ) → Taken
taken step procs loads sizes = record { step = step; procs = procs; loads = loads; sizes = sizes }

-- the elements of a snapshot fit their fields
spelled : (w : Width) (s : Taken) → IsSnapshot s → All (λ load. load < 2 ^ bits w) s.loads → AreSpelled w s.loads s.sizes
spelled w s is loads_fit =
    record {
      paired = is.placed.paired;
      loads_fit = loads_fit;
      sizes_fit = All-weaker (λ (size : ℕ × ℕ). size.0 ≤ STATE_BYTES) (λ (size : ℕ × ℕ). size.0 < 2 ^ 32) (λ size small. omega arith) s.sizes is.sizes.small;
      places_fit = All-weaker (λ (size : ℕ × ℕ). size.1 < s.procs) (λ (size : ℕ × ℕ). size.1 < 2 ^ 32) (λ size placed. omega (arith, is.placed.few_pes)) s.sizes is.placed.placed;
    }

-- the head and the elements, and what follows them
pub same_snapshots : (w : Width) (spells : Spells w) (s t : Taken) (a b : List ℕ) → IsSnapshot s → s.step < 2 ^ 32
    → All (λ load. load < 2 ^ bits w) s.loads → IsSnapshot t → t.step < 2 ^ 32 → All (λ load. load < 2 ^ bits w) t.loads
    → head_text s ++ (elements_text w s.loads s.sizes ++ a) ≡ head_text t ++ (elements_text w t.loads t.sizes ++ b) → (s ≡ t) × (a ≡ b)
same_snapshots w spells s t a b is step loads_fit is' step' loads_fit' same =
    let front : List ℕ = elements_text w s.loads s.sizes ++ a in
    let front' : List ℕ = elements_text w t.loads t.sizes ++ b in
    let n = length s.loads in
    let n' = length t.loads in
    let apart : word s.step ++ (word s.procs ++ (word n ++ front)) ≡ word t.step ++ (word t.procs ++ (word n' ++ front')) = same in
    let (steps, behind) = same_word s.step t.step (word s.procs ++ (word n ++ front)) (word t.procs ++ (word n' ++ front')) step step' apart in
    let (pes, last) = same_word s.procs t.procs (word n ++ front) (word n' ++ front') (omega (arith, is.placed.few_pes)) (omega (arith, is'.placed.few_pes)) behind in
    let (counts, fronts) = same_word n n' front front' (omega (arith, is.loads.few)) (omega (arith, is'.loads.few)) last in
    let (loads, sizes, rest) = same_elements w spells s.loads t.loads s.sizes t.sizes a b counts (spelled w s is loads_fit) (spelled w t is' loads_fit') fronts in
    (same_parts s t steps pes loads sizes, rest)
  where
    same_parts : (s t : Taken) → s.step ≡ t.step → s.procs ≡ t.procs → s.loads ≡ t.loads → s.sizes ≡ t.sizes → s ≡ t
    same_parts s t steps pes loads sizes =
        let parts : taken s.step s.procs s.loads s.sizes ≡ taken t.step t.procs t.loads t.sizes = rw (steps, pes, loads, sizes) refl in
        parts

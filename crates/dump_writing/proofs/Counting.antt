-- The number of bytes in the text of a dump.
use Rattle.std.proofs.Common.{◌≡◌, ℕ, ◌+◌, ◌*◌, ◌≤◌, length, length-append, Some, None, sym, ap, subst, arith}
use Rattle.std.specs.Prelude.{flat_map}
use Rattle.std.specs.Int.{w64}
use Rattle.chare_index.specs.declared.limits.TheConstants.Limits.{ELEMENTS}
use Rattle.dump_format.specs.declared.recorded.Recorded.{Recorded}
use Rattle.dump_format.specs.Dumps.{Dumped, IsDump, IsRecorded, MayRecord}
use Rattle.dump_format.specs.Text.{move_text, elements_text, plan_text, ending_text, lbd2_text}
use Rattle.dump_format.proofs.Spelling.{stops_bytes, elements_length_long, moves_length, plan_length}

-- a decision up to its moves, with this number of stops
pub length_plan : {A : Type 0} (elements stops : ℕ) (r : Recorded A) → IsRecorded elements r → stops_bytes r.decision.division.floor r.target ≡ 4 * stops
    → 4 * (1 + (r.target + 1) + (1 + stops) + r.target + 1) + 8 * (1 + 2 * r.target + 1) ≡ length (plan_text r)
length_plan elements stops r kept floor = omega (arith, plan_length elements r kept, floor)

length_dump : {A : Type 0} (d : Dumped A) → IsDump d → length (lbd2_text d) ≡ 16 + 16 * length d.snapshot.loads + length (ending_text d.recorded)
length_dump d is =
    omega (
      arith,
      length-append (elements_text w64 d.snapshot.loads d.snapshot.sizes) (ending_text d.recorded),
      elements_length_long d.snapshot.loads d.snapshot.sizes is.snapshot.placed.paired,
    )

-- a dump without a decision, and one with
pub length_without : {A : Type 0} (d : Dumped A) (n : ℕ) → IsDump d → n ≡ length d.snapshot.loads → None ≡ d.recorded → 16 + 16 * n + 4 ≡ length (lbd2_text d)
length_without d n is counted none =
    let ending : 4 ≡ length (ending_text d.recorded) = ap (λ r. length (ending_text r)) none in
    omega (arith, length_dump d is)

pub length_with : {A : Type 0} (d : Dumped A) (r : Recorded A) (n plan moves : ℕ) → IsDump d → n ≡ length d.snapshot.loads
    → Some r ≡ d.recorded → plan ≡ length (plan_text r) → moves ≡ length r.decision.moves
    → 16 + 16 * n + 4 + plan + 12 * moves ≡ length (lbd2_text d)
length_with d r n plan moves is counted some plan_is moves_are =
    let ending : length (ending_text (Some r)) ≡ length (ending_text d.recorded) = ap (λ o. length (ending_text o)) some in
    omega (arith, length_dump d is, ending, length-append (plan_text r) (flat_map move_text r.decision.moves), moves_length r.decision.moves)

-- the moves are no more than the most elements that there may be
pub few_recorded : {A : Type 0} (d : Dumped A) (r : Recorded A) → IsDump d → Some r ≡ d.recorded → length r.decision.moves ≤ ELEMENTS
few_recorded d r is some =
    let kept : IsRecorded (length d.snapshot.loads) r = subst (MayRecord (length d.snapshot.loads)) (sym some) is.recorded in
    omega (arith, kept.few_moves, is.snapshot.loads.few)

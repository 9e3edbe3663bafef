use Rattle.std.proofs.Common.{◌≡◌, ◌+◌, ◌*◌, ◌≤◌, ◌∙◌, ap, sym, arith}
use Rattle.dump_format.proofs.Spelling.{stops_bytes}
use Rattle.dump_writing.proofs.Counting.{length_plan}
use Rattle.dump_writing.proofs.lengths.plan_len.Goals.{in-Zero, in-Fence}
use Rattle.dump_writing.proofs.lengths.plan_len.Goals as goal

pub returns-clause-value : goal.returns-clause-value
returns-clause-value g c =
    let r = c.args.recorded.now in
    let floor : stops_bytes r.decision.division.floor r.target ≡ 4 * c.match-recorded.stops = elim c.match-recorded.branch [
      | in-Zero w ↦ ap (λ f. stops_bytes f r.target) w.in-Zero.is ∙ ap (λ n. 4 * n) (sym w.stops-is)
      | in-Fence w ↦ ap (λ f. stops_bytes f r.target) w.in-Fence.is ∙ ap (λ n. 4 * n) (sym w.stops-is)
    ] in
    length_plan c.requires.0 c.match-recorded.stops r c.requires.1 floor

pub returns-clause-short : goal.returns-clause-short
returns-clause-short g c =
    let few : c.match-recorded.stops ≤ c.args.recorded.now.target + 1 = elim c.match-recorded.branch [
      | in-Zero w ↦ omega (arith, w.stops-is)
      | in-Fence w ↦ omega (arith, w.stops-is)
    ] in
    omega (arith, c.requires.1.few_targets)

use Rattle.std.proofs.Common.{◌++◌, List, ℕ, length}
use Rattle.workload.specs.Text.{workload_text, WorkloadView}
use Rattle.run_checkpoint.specs.Text.{head_line, places_line, round_lines}
use Rattle.run_checkpoint.specs.declared.checkpoint.DecidedRound.{DecidedRound}
use Rattle.run_checkpoint.proofs.WrittenParts.{after, fails}
use Rattle.run_checkpoint.proofs.writing.write_checkpoint.Goals as goal

-- the text from the places on, and from the rounds
abbrev from_places : List ℕ → WorkloadView → List ℕ
from_places places w = places_line places ++ workload_text w

abbrev from_rounds : List DecidedRound → List ℕ → WorkloadView → List ℕ
from_rounds decided places w = round_lines 1 decided ++ from_places places w

pub returns-in_err-put_head : goal.returns-in_err-put_head
returns-in_err-put_head g c = record {
  written =
      fails _ _ _ (head_line (length c.args.decided.now)) (from_rounds c.args.decided.now c.args.places.now c.args.workload.now) c.in_err-put_head.field-0.0 _ c.in_err-put_head.ensures c.from_residual.ensures.1;
}

pub returns-in_err-put_rounds : goal.returns-in_err-put_rounds
returns-in_err-put_rounds g c = record {
  written =
      after _ _ _ (head_line (length c.args.decided.now)) (from_rounds c.args.decided.now c.args.places.now c.args.workload.now) _ c.in_ok-put_head.ensures
      (fails _ _ _ (round_lines 1 c.args.decided.now) (from_places c.args.places.now c.args.workload.now) c.in_err-put_rounds.field-0.0 _ c.in_err-put_rounds.ensures c.from_residual-in_err-put_rounds.ensures.1);
}

pub returns-in_err-put_places : goal.returns-in_err-put_places
returns-in_err-put_places g c = record {
  written =
      after _ _ _ (head_line (length c.args.decided.now)) (from_rounds c.args.decided.now c.args.places.now c.args.workload.now) _ c.in_ok-put_head.ensures
      (after _ _ _ (round_lines 1 c.args.decided.now) (from_places c.args.places.now c.args.workload.now) _ c.in_ok-put_rounds.ensures
      (fails _ _ _ (places_line c.args.places.now) (workload_text c.args.workload.now) c.in_err-put_places.field-0.0 _ c.in_err-put_places.ensures c.from_residual-in_err-put_places.ensures.1));
}

pub returns : goal.returns
returns g c = record {
  written =
      after _ _ _ (head_line (length c.args.decided.now)) (from_rounds c.args.decided.now c.args.places.now c.args.workload.now) _ c.in_ok-put_head.ensures
      (after _ _ _ (round_lines 1 c.args.decided.now) (from_places c.args.places.now c.args.workload.now) _ c.in_ok-put_rounds.ensures
      (after _ _ _ (places_line c.args.places.now) (workload_text c.args.workload.now) _ c.in_ok-put_places.ensures c.put_workload.ensures));
}

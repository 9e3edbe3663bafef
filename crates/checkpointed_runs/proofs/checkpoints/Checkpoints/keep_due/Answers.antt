use Rattle.std.proofs.Common.{◌≡◌, ℕ, List, length, Bor, refl, subst}
use Rattle.std.specs.Option.{option_map}
use Rattle.checkpointed_runs.specs.Pausing.{IsDue, KeepsNoted, all_decided, last_places}
use Rattle.checkpointed_runs.proofs.Kept.{noted_off}
use Rattle.checkpointed_runs.proofs.checkpoints.Checkpoints.keep_due.Goals as goal
use Rattle.checkpointed_runs.proofs.checkpoints.Checkpoints.keep_due.Goals.{else-is_on-via-then-is_on+else-is_due, else-is_on-via-else-is_on}

pub returns-then-is_due-clause-early : goal.returns-then-is_due-clause-early
returns-then-is_due-clause-early g c =
    let same : length c.rounds-rounds.result.now ≡ length c.args.outcome.now.board.rounds = cc c.rounds-rounds.ensures.value in
    let due : IsDue c.args.self.now.written c.args.least (length c.args.outcome.now.board.rounds) = subst (λ n. IsDue c.args.self.now.written c.args.least n) same (c.if-is_due.ensures.value.0 refl) in
    λ early. absurd (early due)

pub returns-else-is_on-clause-asked : goal.returns-else-is_on-clause-asked
returns-else-is_on-clause-asked g c =
    let at = λ (name : Bor (List ℕ)). name.now in
    let all = all_decided c.args.self.now.before.items c.args.outcome.now.board.rounds in
    let places = last_places c.args.outcome.now.board in
    let asked = g.F.CheckpointFiles.asked c.args.self.now.files in
    let failed = c.args.self.now.failed in
    λ due. elim c.else-is_on.branch [
      | else-is_on-via-then-is_on+else-is_due w ↦
          let same : length c.args.outcome.now.board.rounds ≡ length c.rounds-rounds.result.now = cc c.rounds-rounds.ensures.value in
          absurd {A = KeepsNoted (option_map at c.args.self.now.name) c.args.self.now.workload all places asked asked failed failed}
          (cc (w.if-is_due.ensures.value.1 (subst (λ n. IsDue c.args.self.now.written c.args.least n) same due)))
      | else-is_on-via-else-is_on w ↦
          noted_off (option_map at c.args.self.now.name) c.args.self.now.workload all places at c.args.self.now.name asked failed refl
          w.if-is_on.ensures.value
    ]

pub returns-then-is_due-clause-counted : goal.returns-then-is_due-clause-counted
returns-then-is_due-clause-counted g c = λ on due.
    rw (c.note.ensures.noted, c.keep_after-kept.ensures.same, c.rounds-rounds.ensures.value) refl

pub returns-else-is_on-clause-counted : goal.returns-else-is_on-clause-counted
returns-else-is_on-clause-counted g c = λ on due. elim c.else-is_on.branch [
  | else-is_on-via-then-is_on+else-is_due w ↦
      let same : length c.args.outcome.now.board.rounds ≡ length c.rounds-rounds.result.now = cc c.rounds-rounds.ensures.value in
      absurd (cc (w.if-is_due.ensures.value.1 (subst (λ n. IsDue c.args.self.now.written c.args.least n) same due)))
  | else-is_on-via-else-is_on w ↦ absurd (cc (w.if-is_on.ensures.value.1 on))
]

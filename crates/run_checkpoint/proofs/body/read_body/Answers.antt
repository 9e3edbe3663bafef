use Rattle.std.proofs.lemmas.Result.{err_from_is_err_and}
use Rattle.run_checkpoint.specs.declared.error.CheckpointError.TheVariants.{Limit}
use Rattle.run_checkpoint.proofs.BodyParts.{no_rounds, no_places, no_workload, not_of, body_of}
use Rattle.run_checkpoint.proofs.body.read_body.Goals as goal

pub returns-in_err-behind_rounds : goal.returns-in_err-behind_rounds
returns-in_err-behind_rounds g c =
    let told = err_from_is_err_and c.from_residual.result c.from_residual.ensures.1 in
    rw (told.1, told.2) (no_rounds c.args.rounds c.args.bytes.now c.in_err-behind_rounds.field-0.0 c.in_err-behind_rounds.ensures)

pub returns-in_err-behind_places : goal.returns-in_err-behind_places
returns-in_err-behind_places g c =
    let told = err_from_is_err_and c.from_residual-in_err-behind_places.result c.from_residual-in_err-behind_places.ensures.1 in
    rw (told.1, told.2)
    (no_places c.args.rounds c.args.bytes.now c.read_rounds.new.decided.items c.in_ok-behind_rounds.behind_rounds.now c.in_ok-behind_rounds.ensures
    c.in_err-behind_places.field-0.0 c.in_err-behind_places.ensures)

pub returns-in_err-workload : goal.returns-in_err-workload
returns-in_err-workload g c =
    let told = err_from_is_err_and c.from_residual-in_err-workload.result c.from_residual-in_err-workload.ensures.1 in
    rw (told.1, told.2)
    (no_workload c.args.rounds c.args.bytes.now c.read_rounds.new.decided.items c.in_ok-behind_rounds.behind_rounds.now c.in_ok-behind_rounds.ensures
    c.read_places.new.places.items c.in_ok-behind_places.behind_places.now c.in_ok-behind_places.ensures
    c.in_err-workload.field-0.0 c.in_err-workload.ensures)

pub returns-in-Some : goal.returns-in-Some
returns-in-Some g c =
    let apart = rw (c.deref.ensures.value, c.deref-2.ensures.value) at c.in-Some.ensures in
    not_of c.args.rounds c.args.bytes.now c.read_rounds.new.decided.items c.in_ok-behind_rounds.behind_rounds.now c.in_ok-behind_rounds.ensures
    c.read_places.new.places.items c.in_ok-behind_places.behind_places.now c.in_ok-behind_places.ensures
    _ c.in_ok-workload.ensures (Limit c.in-Some.line) apart

pub returns : goal.returns
returns g c =
    let are = rw (c.deref.ensures.value, c.deref-2.ensures.value) at c.in_default.ensures in
    body_of c.args.rounds c.args.bytes.now c.read_rounds.new.decided.items c.in_ok-behind_rounds.behind_rounds.now c.in_ok-behind_rounds.ensures
    c.read_places.new.places.items c.in_ok-behind_places.behind_places.now c.in_ok-behind_places.ensures
    _ c.in_ok-workload.ensures are.0 are.1

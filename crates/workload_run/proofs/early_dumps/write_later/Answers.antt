use Rattle.std.proofs.Common.{◌-◌, arith, drop, length}
use Rattle.std.proofs.lemmas.List.{length-drop, take_all}
use Rattle.workload_run.proofs.early_dumps.write_later.Goals as goal

pub returns : goal.returns
returns g c =
    let rounds = c.args.rounds.now in
    let all = take_all (length rounds - c.args.from) (drop c.args.from rounds) (omega (arith, length-drop c.args.from rounds)) in
    record { asked = rw all at c.write_dumps.ensures.asked }

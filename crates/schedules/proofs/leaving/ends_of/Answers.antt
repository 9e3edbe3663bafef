use Rattle.run_account.proofs.Passing.{passed, all_passed}
use Rattle.schedules.proofs.leaving.ends_of.Goals as goal

pub loop-pe-preserved : goal.loop-pe-preserved
loop-pe-preserved g c =
    passed c.loop-pe.ends.items c.push.new.self.items c.loop-pe.states.items c.take_next.new.left.items c.args.pes.items c.in-Some.pe c.into_end.result
    c.in-Some.ensures.taken c.in_ok-push.ensures.items c.into_end.ensures.value c.loop-pe.invariant

pub returns : goal.returns
returns g c = record { value = all_passed c.loop-pe.ends.items c.loop-pe.states.items c.args.pes.items c.in_default.ensures.taken.0 c.loop-pe.invariant }

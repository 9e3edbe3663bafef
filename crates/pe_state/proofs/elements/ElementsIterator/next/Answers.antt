use Rattle.std.proofs.Common.{length, ap, sym, ◌∙◌, arith}
use Rattle.pe_state.proofs.InOrder.{gave, passed}
use Rattle.pe_state.proofs.elements.ElementsIterator.next.Goals as goal

pub returns-in-Some-clause-steps : goal.returns-in-Some-clause-steps
returns-in-Some-clause-steps g c =
    sym c.loop-self.invariant.left
    ∙ gave c.loop-self.self-inside.next c.loop-self.self-inside.n c.in_ok-index.index c.loop-self.self-inside.ends.items
    c.take_from.new.ends.items c.in-Some.element c.loop-self-test.true c.in_ok-index.ensures.made.1 c.in-Some.ensures.value c.take_from.ensures.others

pub returns-in-Some-clause-goes : goal.returns-in-Some-clause-goes
returns-in-Some-clause-goes g c =
    let step =
    sym c.loop-self.invariant.left
    ∙ gave c.loop-self.self-inside.next c.loop-self.self-inside.n c.in_ok-index.index c.loop-self.self-inside.ends.items
    c.take_from.new.ends.items c.in-Some.element c.loop-self-test.true c.in_ok-index.ensures.made.1 c.in-Some.ensures.value c.take_from.ensures.others
    in
    let shorter = ap length step in record { on = λ finite. (tt, tt, omega (arith, shorter)); keeps = tt; rests = λ finite. tt }

pub loop-self-preserved : goal.loop-self-preserved
loop-self-preserved g c =
    record {
      few = c.loop-self.invariant.few;
      left = passed c.loop-self.self-inside.next c.loop-self.self-inside.n c.in_ok-index.index c.loop-self.self-inside.ends.items
          c.take_from.new.ends.items c.loop-self-test.true c.in_ok-index.ensures.made.1 (sym c.in_default.is ∙ c.take_from.ensures.value)
          c.take_from.ensures.others ∙ c.loop-self.invariant.left;
    }

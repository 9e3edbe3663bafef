use Rattle.std.proofs.Common.{length, arith}
use Rattle.schedules.proofs.Counts.{few_below}
use Rattle.schedules.proofs.choices.Choices.count.Goals as goal

pub returns-in-Look-clause-few : goal.returns-in-Look-clause-few
returns-in-Look-clause-few g c = omega (arith, few_below c.self.inside.looks (length c.self.inside.looks), c.len.ensures.value, c.self.invariant.few)

pub returns-in-Flush-clause-few : goal.returns-in-Flush-clause-few
returns-in-Flush-clause-few g c = omega (
  arith,
  few_below c.self.inside.flushes (length c.self.inside.flushes),
  c.len-in-Flush.ensures.value,
  c.self.invariant.few,
  c.self.invariant.flushes,
)

pub returns-in-Deliver-clause-few : goal.returns-in-Deliver-clause-few
returns-in-Deliver-clause-few g c = omega (
  arith,
  few_below c.self.inside.delivers (length c.self.inside.delivers),
  c.len-in-Deliver.ensures.value,
  c.self.invariant.few,
  c.self.invariant.delivers,
)

pub returns-in-Act-clause-few : goal.returns-in-Act-clause-few
returns-in-Act-clause-few g c = omega (arith, few_below c.self.inside.acts (length c.self.inside.acts), c.len-in-Act.ensures.value, c.self.invariant.few, c.self.invariant.acts)

pub returns-in-Report-clause-few : goal.returns-in-Report-clause-few
returns-in-Report-clause-few g c = omega (
  arith,
  few_below c.self.inside.reports (length c.self.inside.reports),
  c.len-in-Report.ensures.value,
  c.self.invariant.few,
  c.self.invariant.reports,
)

pub returns-in-Element-clause-few : goal.returns-in-Element-clause-few
returns-in-Element-clause-few g c = omega (
  arith,
  few_below c.self.inside.elements (length c.self.inside.elements),
  c.len-in-Element.ensures.value,
  c.self.invariant.few_elements,
  c.self.invariant.elements,
)

use Rattle.std.proofs.Common.{ap, Ok}
use Rattle.lb_dump.proofs.Steps.{none_held}
use Rattle.lb_dump.proofs.reader.DumpReader.new.Goals as goal

pub invariant_of-result : goal.invariant_of-result
invariant_of-result g c = rw (c.new.ensures.items, c.new-2.ensures.items, c.new-3.ensures.items, c.new-4.ensures.items) (none_held g.row.A.Denot).1

pub returns : goal.returns
returns g c = record { value = ap Ok (rw (c.new.ensures.items, c.new-2.ensures.items, c.new-3.ensures.items, c.new-4.ensures.items) (none_held g.row.A.Denot).0) }

use Rattle.std.proofs.Common.{◌≡◌, drop}
use Rattle.event_lists.specs.Lines.{first_name}
use Rattle.event_lists.proofs.name.first_name.Given as goal

abbrev pub invariant-loop-name : goal.invariant-loop-name
invariant-loop-name l = first_name (drop l.name-index l.names) l.bytes ≡ first_name l.names l.bytes

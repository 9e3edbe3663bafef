-- A past owns nothing, so any thread may share it.
use denote.Param.Send.{IsSync, part_keyless}
use Rattle.chares.specs.contracts.past.Past.{the_row}
use Rattle.chares.proofs.past.Past.TheSendSync.Send.{send}

pub sync : IsSync the_row
sync = record { shared = λ d b o κ q. part_keyless the_row send q d b o }

use Rattle.std.proofs.Common.{rules, ◌≡◌, pos, w32, to_z, of_z}
use Rattle.rank_capi.proofs.Told.{refused_told}
use Rattle.rank_capi.proofs.asking.asked.Goals as goal

pub returns-in-Refused-clause-status : goal.returns-in-Refused-clause-status
returns-in-Refused-clause-status c =
    let was = c.args.handle.now in
    refused_told was.run was.is_open was.pe c.args.request c.in-Refused.error (to_z w32 (of_z w32 c.status_of.result) ≡ pos 0)
    (to_z w32 (of_z w32 c.status_of.result)) c.in-Refused.ensures.served.1 (search rules)

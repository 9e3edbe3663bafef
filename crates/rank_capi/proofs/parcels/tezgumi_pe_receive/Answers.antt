use Rattle.std.proofs.Common.{rules, ◌≡◌, inr, w32, to_z, of_z}
use Rattle.rank_capi.proofs.parcels.tezgumi_pe_receive.Goals as goal

pub returns-clause-kept : goal.returns-clause-kept
returns-clause-kept g c = let same : to_z w32 (of_z w32 c.asked.result) ≡ c.asked.result = search rules in rw same c.asked.ensures.kept

pub returns-clause-status : goal.returns-clause-status
returns-clause-status g c =
    let same : to_z w32 (of_z w32 c.asked.result) ≡ c.asked.result = search rules in rw (same, c.in-Ok.ensures.answer) (inr c.asked.ensures.status)

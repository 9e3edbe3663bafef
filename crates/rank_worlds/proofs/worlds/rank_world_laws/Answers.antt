use Rattle.rank_worlds.proofs.CallEvents.{answered, under_way}
use Rattle.rank_worlds.proofs.Openings.{opens}
use Rattle.rank_worlds.proofs.RankEvents.{by_ranks}
use Rattle.rank_worlds.proofs.worlds.rank_world_laws.Goals as goal

pub returns-clause-called : goal.returns-clause-called
returns-clause-called g c = answered

pub returns-clause-sent : goal.returns-clause-sent
returns-clause-sent g c = under_way

pub returns-clause-opens : goal.returns-clause-opens
returns-clause-opens g c = opens g.row.A.Denot

pub returns-clause-events : goal.returns-clause-events
returns-clause-events g c = by_ranks

use Rattle.std.proofs.Common.{rules}
use Rattle.pe_state.proofs.pe.PeState.act_traced.Goals as goal

pub returns-clause-traces : goal.returns-clause-traces
returns-clause-traces g c = search rules

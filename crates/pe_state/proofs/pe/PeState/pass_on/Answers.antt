use Rattle.std.proofs.Common.{rules}
use Rattle.pe_state.proofs.pe.PeState.pass_on.Goals as goal

pub returns-then-eq-clause-acts : goal.returns-then-eq-clause-acts
returns-then-eq-clause-acts g c = search rules

pub returns-then-eq-clause-traces : goal.returns-then-eq-clause-traces
returns-then-eq-clause-traces g c = search rules

pub returns-in_default-clause-acts : goal.returns-in_default-clause-acts
returns-in_default-clause-acts g c = search rules

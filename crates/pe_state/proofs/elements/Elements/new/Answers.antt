use Rattle.pe_state.proofs.InOrder.{none_passed}
use Rattle.pe_state.proofs.elements.Elements.new.Goals as goal

pub returns : goal.returns
returns g c = record { value = none_passed c.args.n c.args.ends.items }

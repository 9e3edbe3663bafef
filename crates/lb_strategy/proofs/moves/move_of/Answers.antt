use Rattle.std.proofs.Common.{◌≡◌, ℕ, [], ◌∷◌, arith, rules}
use Rattle.std.specs.List.{filter}
use Rattle.lb_strategy.specs.Moves.{is_move}
use Rattle.lb_strategy.proofs.moves.move_of.Goals as goal

-- an element that is where it is to run does not move
stays : (i present planned : ℕ) → present ≡ planned → [] ≡ filter is_move ((i, present, planned) ∷ [])
stays i present planned same = search rules

pub returns-then-get-planned : goal.returns-then-get-planned
returns-then-get-planned c = stays c.args.i c.args.present c.args.planned (omega arith)

use Rattle.std.proofs.Common.{◌≡◌, ℕ, Option, Some, None, refl, rules}
use Rattle.std.specs.Option.{option_and_then}
use Rattle.sync_board.specs.Boards.{BoardState, place_in}
use Rattle.chares.specs.Elements.{ElementView}
use Rattle.pe_state.specs.Pes.{PeView, waits_for, waits_at}
use Rattle.pe_state.specs.Rooms.{found}
use Rattle.rts_core.specs.Events.{due}
use Rattle.rts_core.proofs.handlers.due_at.Goals as goal

-- the place of an element whose round is known
abbrev placed_in : {A : Type 0} → BoardState A → ℕ → ℕ → Option (ℕ × ℕ)
placed_in b e round = option_and_then (λ q. Some (round, q)) (place_in b round e)

due_is : {C A : Type 0} (pe : PeView C) (b : BoardState A) (e : ℕ) → due pe b e ≡ option_and_then (placed_in b e) (waits_at pe e)
due_is {C} {A} pe b e = by (found e pe.room)
  where
    by : (o : Option (ElementView C)) → option_and_then (λ el. option_and_then (placed_in b e) (waits_for el)) o ≡ option_and_then (placed_in b e) (option_and_then waits_for o)
    by None = refl
    by (Some el) = refl

pub returns-clause-value : goal.returns-clause-value
returns-clause-value g c = search (rules, due_is)

pub returns-in_err-round-clause-value : goal.returns-in_err-round-clause-value
returns-in_err-round-clause-value g c = search (rules, due_is)

pub returns-in_err-place-clause-value : goal.returns-in_err-place-clause-value
returns-in_err-place-clause-value g c = search (rules, due_is)

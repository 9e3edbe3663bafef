use Rattle.std.proofs.Common.{◌≡◌, ◌∙◌, List, ap, arith, length, refl, subst, sym}
use Rattle.std.specs.Prelude.{All}
use Rattle.sync_board.specs.Boards.{new_board}
use Rattle.pe_state.specs.Histories.{HasHistories}
use Rattle.pe_state.specs.Pes.{PeView}
use Rattle.placed_runs.proofs.Placing.{placed_counted}
use Rattle.placed_runs.proofs.Stopped.{placed_adds_up, stopped_outcome}
use Rattle.placed_runs.proofs.opening.outcome_as.Goals as goal

pub new-requires-clause-few_pes : goal.new-requires-clause-few_pes
new-requires-clause-few_pes g c =
    let value = rw c.deref.ensures.value at c.in_ok-ends.ensures.value in
    omega (arith, ap length value, placed_counted c.args.pes c.args.places.items c.args.chares.items, c.get.ensures.few_pes)

pub new-requires-clause-counted : goal.new-requires-clause-counted
new-requires-clause-counted g c =
    placed_adds_up c.args.pes c.args.places.items c.args.chares.items c.requires.one_each c.requires.named g.C.Chare.step c.in_ok-ends.ends.items _
    (rw c.deref.ensures.value at c.in_ok-ends.ensures.value) c.in_ok-left.ensures.value

pub returns-clause-outcome : goal.returns-clause-outcome
returns-clause-outcome g c =
    let same : length c.args.chares.items ≡ c.len-n.result = omega arith in
    let board : c.in_ok-board.board ≡ new_board (length c.args.chares.items) c.args.pes c.args.strategy = c.in_ok-board.ensures.made ∙ rw (same, c.get.ensures.value) refl in
    let value = rw c.deref.ensures.value at c.in_ok-ends.ensures.value in
    let ends = c.new.ensures.ends ∙ value in
    let left = c.new.ensures.left ∙ c.in_ok-left.ensures.value in
    stopped_outcome c.args.pes c.args.places.items c.args.chares.items c.requires.one_each c.requires.named g.C.Chare.step g.C.Pup.fits g.C.Pup.pack
    g.C.Chare.refuses c.args.strategy c.new.result c.new.ensures.homes ends left (c.new.ensures.board ∙ board) c.new.ensures.fault c.get.ensures.some_pe c.get.ensures.few_pes
    (subst (λ (v : List (PeView g.row.C.Denot)). All (HasHistories g.C.Chare.step g.C.Pup.fits g.C.Pup.pack c.args.chares.items) v) (sym c.new.ensures.ends)
    c.in_ok-ends.ensures.histories)

pub returns-clause-fault : goal.returns-clause-fault
returns-clause-fault g c = c.new.ensures.fault

pub returns-clause-placed : goal.returns-clause-placed
returns-clause-placed g c = let value = rw c.deref.ensures.value at c.in_ok-ends.ensures.value in c.new.ensures.ends ∙ value

pub returns-clause-left : goal.returns-clause-left
returns-clause-left g c = c.new.ensures.left ∙ c.in_ok-left.ensures.value

pub returns-clause-homes : goal.returns-clause-homes
returns-clause-homes g c = c.new.ensures.homes

pub returns-clause-board : goal.returns-clause-board
returns-clause-board g c =
    let same : length c.args.chares.items ≡ c.len-n.result = omega arith in
    let board : c.in_ok-board.board ≡ new_board (length c.args.chares.items) c.args.pes c.args.strategy = c.in_ok-board.ensures.made ∙ rw (same, c.get.ensures.value) refl in
    c.new.ensures.board ∙ board

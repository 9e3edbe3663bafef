use Rattle.std.proofs.Common.{◌<◌, length, sym, subst, arith}
use Rattle.pe_state.specs.Histories.{HasHistories}
use Rattle.rts_core.proofs.Openings.{KeysBelow, home_below, lacks_at, placed_before, placed_histories}
use Rattle.rts_core.proofs.opening.place_home.Goals as goal

pub place-requires-clause-lacks : goal.place-requires-clause-lacks
place-requires-clause-lacks g c =
    let inside : c.get-q.result < length c.args.pes.now.items = grind (arith, home_below) in
    lacks_at c.args.index c.index_mut.result.now.room (subst (KeysBelow {C = g.row.C.Denot} c.args.index) (sym c.index_mut.ensures.value)
    (c.requires.before c.get-q.result c.index_mut.result.now inside))

pub returns-clause-histories : goal.returns-clause-histories
returns-clause-histories g c =
    let inside : c.get-q.result < length c.args.pes.now.items = grind (arith, home_below) in
    placed_histories g.C.Chare.step g.C.Pup.fits g.C.Pup.pack g.H.Openings.opened c.args.pes.now.items c.get-q.result c.args.index
    c.args.chare c.index_mut.result.now c.place.new.self c.place.result
    (subst (HasHistories g.C.Chare.step g.C.Pup.fits g.C.Pup.pack g.H.Openings.opened) (sym c.index_mut.ensures.value)
    (c.requires.histories c.get-q.result c.index_mut.result.now inside))
    c.requires.opens c.requires.histories c.place.ensures.ok

pub returns-clause-before : goal.returns-clause-before
returns-clause-before g c =
    let inside : c.get-q.result < length c.args.pes.now.items = grind (arith, home_below) in
    placed_before c.args.pes.now.items c.get-q.result c.args.index c.args.chare c.index_mut.result.now c.place.new.self c.place.result
    (subst (KeysBelow {C = g.row.C.Denot} c.args.index) (sym c.index_mut.ensures.value) (c.requires.before c.get-q.result c.index_mut.result.now inside))
    c.requires.before c.place.ensures.ok

use Rattle.std.proofs.Common.{◌<◌, length, sym, subst, arith}
use Rattle.rts_core.proofs.Openings.{KeysBelow, lacks_at, placed_before}
use Rattle.placed_runs.proofs.opening.place_told.Goals as goal

pub place-requires-clause-lacks : goal.place-requires-clause-lacks
place-requires-clause-lacks g c =
    let inside : c.get-q.result < length c.args.pes.now.items = omega arith in
    lacks_at c.args.index c.index_mut.result.now.room (subst (KeysBelow {C = g.row.C.Denot} c.args.index) (sym c.index_mut.ensures.value)
    (c.requires.before c.get-q.result c.index_mut.result.now inside))

pub returns-clause-before : goal.returns-clause-before
returns-clause-before g c =
    let inside : c.get-q.result < length c.args.pes.now.items = omega arith in
    placed_before c.args.pes.now.items c.get-q.result c.args.index c.args.chare c.index_mut.result.now c.place.new.self c.place.result
    (subst (KeysBelow {C = g.row.C.Denot} c.args.index) (sym c.index_mut.ensures.value) (c.requires.before c.get-q.result c.index_mut.result.now inside))
    c.requires.before c.place.ensures.ok

use Rattle.std.proofs.Common.{ap, refl, ◌∙◌}
use Rattle.std.proofs.lemmas.Result.{on_ok_weaker, on_err_weaker}
use Rattle.chares.specs.Elements.{opening_element}
use Rattle.pe_state.specs.Rooms.{found, joined}
use Rattle.pe_state.proofs.Edits.{either_way, found_there, same_row, joined_row}
use Rattle.pe_state.proofs.room.Room.place.Goals as goal

pub place-requires : goal.place-requires
place-requires g c = record {
  lacks = found_there c.open_rows.new.rows.items c.row_number-row.result c.args.index c.index_mut.result.now
      c.in_ok-open_rows.ensures.room c.in_ok-open_rows.ensures.opened (c.row_number-row.ensures.value) c.index_mut.ensures.value
      ∙ ap (found c.args.index) (c.in_ok-open_rows.ensures.same ∙ c.self.view_is) ∙ c.requires.lacks;
}

pub invariant_of-self-2 : goal.invariant_of-self-2
invariant_of-self-2 g c = either_way c.place.result
    (λ k. (joined_row c.open_rows.new.rows.items c.row_number-row.result c.args.index c.index_mut.result.now c.place.new.self
    c.in_ok-open_rows.ensures.room c.in_ok-open_rows.ensures.opened (c.row_number-row.ensures.value) c.index_mut.ensures.value
    (opening_element c.args.index c.args.chare) refl k).1)
    (λ k. (same_row c.open_rows.new.rows.items c.row_number-row.result c.args.index c.index_mut.result.now c.place.new.self
    c.in_ok-open_rows.ensures.room c.in_ok-open_rows.ensures.opened (c.row_number-row.ensures.value) c.index_mut.ensures.value k).1)
    c.place.ensures.ok c.place.ensures.err

pub returns-clause-ok : goal.returns-clause-ok
returns-clause-ok g c = on_ok_weaker c.place.result
    (λ k. (joined_row c.open_rows.new.rows.items c.row_number-row.result c.args.index c.index_mut.result.now c.place.new.self
    c.in_ok-open_rows.ensures.room c.in_ok-open_rows.ensures.opened (c.row_number-row.ensures.value) c.index_mut.ensures.value
    (opening_element c.args.index c.args.chare) refl k).0
    ∙ ap (joined c.args.index (opening_element c.args.index c.args.chare)) (c.in_ok-open_rows.ensures.same ∙ c.self.view_is)) c.place.ensures.ok

pub returns-clause-err : goal.returns-clause-err
returns-clause-err g c = on_err_weaker c.place.result
    (λ k. (same_row c.open_rows.new.rows.items c.row_number-row.result c.args.index c.index_mut.result.now c.place.new.self
    c.in_ok-open_rows.ensures.room c.in_ok-open_rows.ensures.opened (c.row_number-row.ensures.value) c.index_mut.ensures.value k).0
    ∙ c.in_ok-open_rows.ensures.same ∙ c.self.view_is) c.place.ensures.err

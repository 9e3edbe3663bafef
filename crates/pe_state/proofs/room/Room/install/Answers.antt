use Rattle.std.proofs.Common.{ap, refl, ◌∙◌}
use Rattle.std.proofs.lemmas.Result.{on_ok_weaker, on_err_weaker}
use Rattle.chares.specs.Elements.{unpacked}
use Rattle.pe_state.specs.Rooms.{found, joined}
use Rattle.pe_state.specs.Rows.{row_of}
use Rattle.pe_state.proofs.Edits.{either_way, found_there, same_row, joined_row}
use Rattle.pe_state.proofs.room.Room.install.Goals as goal

pub install-requires : goal.install-requires
install-requires g c = record {
  lacks = found_there c.open_rows.new.rows.items c.row_number-row.result c.args.packed.index
      c.index_mut.result.now c.in-Ok.ensures.room c.in-Ok.ensures.opened (c.row_number-row.ensures.value ∙ ap row_of c.index.ensures.value)
      c.index_mut.ensures.value ∙ ap (found c.args.packed.index) (c.in-Ok.ensures.same ∙ c.self.view_is) ∙ c.requires.lacks;
}

pub invariant_of-self-2 : goal.invariant_of-self-2
invariant_of-self-2 g c = either_way c.install.result
    (λ k. (joined_row c.open_rows.new.rows.items c.row_number-row.result c.args.packed.index c.index_mut.result.now c.install.new.self
    c.in-Ok.ensures.room c.in-Ok.ensures.opened (c.row_number-row.ensures.value ∙ ap row_of c.index.ensures.value) c.index_mut.ensures.value
    (unpacked c.args.packed c.args.chare) refl k).1) (λ k. (same_row c.open_rows.new.rows.items c.row_number-row.result c.args.packed.index
    c.index_mut.result.now c.install.new.self c.in-Ok.ensures.room c.in-Ok.ensures.opened
    (c.row_number-row.ensures.value ∙ ap row_of c.index.ensures.value) c.index_mut.ensures.value k).1) c.install.ensures.ok c.install.ensures.err

pub returns-clause-ok : goal.returns-clause-ok
returns-clause-ok g c = on_ok_weaker c.install.result
    (λ k. (joined_row c.open_rows.new.rows.items c.row_number-row.result c.args.packed.index c.index_mut.result.now c.install.new.self
    c.in-Ok.ensures.room c.in-Ok.ensures.opened (c.row_number-row.ensures.value ∙ ap row_of c.index.ensures.value) c.index_mut.ensures.value
    (unpacked c.args.packed c.args.chare) refl k).0 ∙ ap (joined c.args.packed.index (unpacked c.args.packed c.args.chare))
    (c.in-Ok.ensures.same ∙ c.self.view_is)) c.install.ensures.ok

pub returns-clause-err : goal.returns-clause-err
returns-clause-err g c = on_err_weaker c.install.result
    (λ k. (same_row c.open_rows.new.rows.items c.row_number-row.result c.args.packed.index c.index_mut.result.now c.install.new.self
    c.in-Ok.ensures.room c.in-Ok.ensures.opened (c.row_number-row.ensures.value ∙ ap row_of c.index.ensures.value) c.index_mut.ensures.value
    k).0 ∙ c.in-Ok.ensures.same ∙ c.self.view_is) c.install.ensures.err

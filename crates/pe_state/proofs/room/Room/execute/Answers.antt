use Rattle.std.proofs.Common.{◌≡◌, ℕ, ◌<◌, List, Option, ap, sym, subst, ◌∙◌, arith}
use Rattle.std.specs.Prelude.{IfSome, IsSome}
use Rattle.std.proofs.lemmas.Result.{on_ok_weaker, on_err_weaker}
use Rattle.chares.specs.declared.entry.Entry.{Entry}
use Rattle.chares.specs.Elements.{ElementView}
use Rattle.pe_state.specs.Rooms.{found, ran_in}
use Rattle.pe_state.specs.Rows.{row_of, entries_of}
use Rattle.pe_state.proofs.Edits.{either_way, found_there, has_row, same_row, ran_row}
use Rattle.pe_state.proofs.room.Room.execute.Goals as goal

pub index_mut-requires : goal.index_mut-requires
index_mut-requires g c =
    let at : c.row_number-row.result ≡ row_of c.args.letter.to = c.row_number-row.ensures.value ∙ ap row_of c.to.ensures.value in
    let some : IsSome (found c.args.letter.to (entries_of c.self.inside.rows.items)) = subst
    (λ (r : List (ℕ × ElementView g.row.C.Denot)). IsSome (found c.args.letter.to r)) (sym c.self.view_is) c.requires.stands in
    let h = has_row c.self.inside.rows.items c.row_number-row.result c.args.letter.to c.self.invariant at some in
    omega (arith, h)

pub execute-requires-clause-stands : goal.execute-requires-clause-stands
execute-requires-clause-stands g c =
    let at : c.row_number-row.result ≡ row_of c.args.letter.to = c.row_number-row.ensures.value ∙ ap row_of c.to.ensures.value in
    let some : IsSome (found c.args.letter.to (entries_of c.self.inside.rows.items)) = subst
    (λ (r : List (ℕ × ElementView g.row.C.Denot)). IsSome (found c.args.letter.to r)) (sym c.self.view_is) c.requires.stands in
    let h = has_row c.self.inside.rows.items c.row_number-row.result c.args.letter.to c.self.invariant at some in
    let there = found_there c.self.inside.rows.items c.row_number-row.result c.args.letter.to c.index_mut.result.now c.self.invariant h at
    c.index_mut.ensures.value ∙ ap (found c.args.letter.to) c.self.view_is in
    subst (λ (o : Option (ElementView g.row.C.Denot)). IsSome o) (sym there) c.requires.stands

pub execute-requires-clause-member : goal.execute-requires-clause-member
execute-requires-clause-member g c =
    let at : c.row_number-row.result ≡ row_of c.args.letter.to = c.row_number-row.ensures.value ∙ ap row_of c.to.ensures.value in
    let some : IsSome (found c.args.letter.to (entries_of c.self.inside.rows.items)) = subst
    (λ (r : List (ℕ × ElementView g.row.C.Denot)). IsSome (found c.args.letter.to r)) (sym c.self.view_is) c.requires.stands in
    let h = has_row c.self.inside.rows.items c.row_number-row.result c.args.letter.to c.self.invariant at some in
    let there = found_there c.self.inside.rows.items c.row_number-row.result c.args.letter.to c.index_mut.result.now c.self.invariant h at
    c.index_mut.ensures.value ∙ ap (found c.args.letter.to) c.self.view_is in
    subst (λ (o : Option (ElementView g.row.C.Denot)). IfSome o (λ el. el.index < c.args.sends.now.n)) (sym there) c.requires.member

pub invariant_of-self : goal.invariant_of-self
invariant_of-self g c =
    let at : c.row_number-row.result ≡ row_of c.args.letter.to = c.row_number-row.ensures.value ∙ ap row_of c.to.ensures.value in
    let some : IsSome (found c.args.letter.to (entries_of c.self.inside.rows.items)) = subst
    (λ (r : List (ℕ × ElementView g.row.C.Denot)). IsSome (found c.args.letter.to r)) (sym c.self.view_is) c.requires.stands in
    let h = has_row c.self.inside.rows.items c.row_number-row.result c.args.letter.to c.self.invariant at some in
    either_way c.execute.result (λ k. (ran_row c.self.inside.rows.items c.row_number-row.result c.args.letter.to c.index_mut.result.now
    c.execute.new.self c.self.invariant h at c.index_mut.ensures.value g.C.Chare.step g.C.Pup.pack c.args.sends.now.n c.args.pe
    (Entry.Letter c.args.letter) k).1) (λ k. (same_row c.self.inside.rows.items c.row_number-row.result c.args.letter.to
    c.index_mut.result.now c.execute.new.self c.self.invariant h at c.index_mut.ensures.value k).1) c.execute.ensures.room c.execute.ensures.err

pub returns-clause-room : goal.returns-clause-room
returns-clause-room g c =
    let at : c.row_number-row.result ≡ row_of c.args.letter.to = c.row_number-row.ensures.value ∙ ap row_of c.to.ensures.value in
    let some : IsSome (found c.args.letter.to (entries_of c.self.inside.rows.items)) = subst
    (λ (r : List (ℕ × ElementView g.row.C.Denot)). IsSome (found c.args.letter.to r)) (sym c.self.view_is) c.requires.stands in
    let h = has_row c.self.inside.rows.items c.row_number-row.result c.args.letter.to c.self.invariant at some in
    on_ok_weaker c.execute.result (λ k. (ran_row c.self.inside.rows.items c.row_number-row.result c.args.letter.to c.index_mut.result.now
    c.execute.new.self c.self.invariant h at c.index_mut.ensures.value g.C.Chare.step g.C.Pup.pack c.args.sends.now.n c.args.pe
    (Entry.Letter c.args.letter) k).0 ∙ ap (λ (r : List (ℕ × ElementView g.row.C.Denot)). ran_in g.C.Chare.step g.C.Pup.pack r
    c.args.letter.to c.args.sends.now.n c.args.pe (Entry.Letter c.args.letter)) c.self.view_is) c.execute.ensures.room

pub returns-clause-note : goal.returns-clause-note
returns-clause-note g c =
    let at : c.row_number-row.result ≡ row_of c.args.letter.to = c.row_number-row.ensures.value ∙ ap row_of c.to.ensures.value in
    let some : IsSome (found c.args.letter.to (entries_of c.self.inside.rows.items)) = subst
    (λ (r : List (ℕ × ElementView g.row.C.Denot)). IsSome (found c.args.letter.to r)) (sym c.self.view_is) c.requires.stands in
    let h = has_row c.self.inside.rows.items c.row_number-row.result c.args.letter.to c.self.invariant at some in
    let there = found_there c.self.inside.rows.items c.row_number-row.result c.args.letter.to c.index_mut.result.now c.self.invariant h at
    c.index_mut.ensures.value ∙ ap (found c.args.letter.to) c.self.view_is in
    rw (sym there) c.execute.ensures.note

pub returns-clause-sends : goal.returns-clause-sends
returns-clause-sends g c =
    let at : c.row_number-row.result ≡ row_of c.args.letter.to = c.row_number-row.ensures.value ∙ ap row_of c.to.ensures.value in
    let some : IsSome (found c.args.letter.to (entries_of c.self.inside.rows.items)) = subst
    (λ (r : List (ℕ × ElementView g.row.C.Denot)). IsSome (found c.args.letter.to r)) (sym c.self.view_is) c.requires.stands in
    let h = has_row c.self.inside.rows.items c.row_number-row.result c.args.letter.to c.self.invariant at some in
    let there = found_there c.self.inside.rows.items c.row_number-row.result c.args.letter.to c.index_mut.result.now c.self.invariant h at
    c.index_mut.ensures.value ∙ ap (found c.args.letter.to) c.self.view_is in
    rw (sym there) c.execute.ensures.sends

pub returns-clause-err : goal.returns-clause-err
returns-clause-err g c =
    let at : c.row_number-row.result ≡ row_of c.args.letter.to = c.row_number-row.ensures.value ∙ ap row_of c.to.ensures.value in
    let some : IsSome (found c.args.letter.to (entries_of c.self.inside.rows.items)) = subst
    (λ (r : List (ℕ × ElementView g.row.C.Denot)). IsSome (found c.args.letter.to r)) (sym c.self.view_is) c.requires.stands in
    let h = has_row c.self.inside.rows.items c.row_number-row.result c.args.letter.to c.self.invariant at some in
    on_err_weaker c.execute.result (λ k. (same_row c.self.inside.rows.items c.row_number-row.result c.args.letter.to c.index_mut.result.now
    c.execute.new.self c.self.invariant h at c.index_mut.ensures.value k).0 ∙ c.self.view_is) c.execute.ensures.err

pub returns-clause-refused : goal.returns-clause-refused
returns-clause-refused g c =
    let at : c.row_number-row.result ≡ row_of c.args.letter.to = c.row_number-row.ensures.value ∙ ap row_of c.to.ensures.value in
    let some : IsSome (found c.args.letter.to (entries_of c.self.inside.rows.items)) = subst
    (λ (r : List (ℕ × ElementView g.row.C.Denot)). IsSome (found c.args.letter.to r)) (sym c.self.view_is) c.requires.stands in
    let h = has_row c.self.inside.rows.items c.row_number-row.result c.args.letter.to c.self.invariant at some in
    let there = found_there c.self.inside.rows.items c.row_number-row.result c.args.letter.to c.index_mut.result.now c.self.invariant h at
    c.index_mut.ensures.value ∙ ap (found c.args.letter.to) c.self.view_is in
    rw (sym there) c.execute.ensures.refused

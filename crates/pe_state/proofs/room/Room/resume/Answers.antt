use Rattle.std.proofs.Common.{◌≡◌, ℕ, ◌<◌, List, Option, ap, sym, subst, ◌∙◌, arith}
use Rattle.std.specs.Prelude.{IfSome, IsSome}
use Rattle.std.proofs.lemmas.Result.{on_ok_weaker, on_err_weaker}
use Rattle.chares.specs.declared.entry.Entry.{Entry}
use Rattle.chares.specs.Elements.{ElementView}
use Rattle.pe_state.specs.Rooms.{found, ran_in}
use Rattle.pe_state.specs.Rows.{row_of, entries_of}
use Rattle.pe_state.proofs.Edits.{either_way, keyed_found, found_there, has_row, same_row, ran_row}
use Rattle.pe_state.proofs.room.Room.resume.Goals as goal

pub index_mut-requires : goal.index_mut-requires
index_mut-requires g c =
    let at : c.row_number-row.result ≡ row_of c.args.index = c.row_number-row.ensures.value in
    let some : IsSome (found c.args.index (entries_of c.self.inside.rows.items)) = subst
    (λ (r : List (ℕ × ElementView g.row.C.Denot)). IsSome (found c.args.index r)) (sym c.self.view_is) c.requires.stands in
    let h = has_row c.self.inside.rows.items c.row_number-row.result c.args.index c.self.invariant at some in
    omega (arith, h)

pub resume-requires-clause-stands : goal.resume-requires-clause-stands
resume-requires-clause-stands g c =
    let at : c.row_number-row.result ≡ row_of c.args.index = c.row_number-row.ensures.value in
    let some : IsSome (found c.args.index (entries_of c.self.inside.rows.items)) = subst
    (λ (r : List (ℕ × ElementView g.row.C.Denot)). IsSome (found c.args.index r)) (sym c.self.view_is) c.requires.stands in
    let h = has_row c.self.inside.rows.items c.row_number-row.result c.args.index c.self.invariant at some in
    let there = found_there c.self.inside.rows.items c.row_number-row.result c.args.index c.index_mut.result.now c.self.invariant h at
    c.index_mut.ensures.value ∙ ap (found c.args.index) c.self.view_is in
    subst (λ (o : Option (ElementView g.row.C.Denot)). IsSome o) (sym there) c.requires.stands

pub resume-requires-clause-member : goal.resume-requires-clause-member
resume-requires-clause-member g c =
    let at : c.row_number-row.result ≡ row_of c.args.index = c.row_number-row.ensures.value in
    let some : IsSome (found c.args.index (entries_of c.self.inside.rows.items)) = subst
    (λ (r : List (ℕ × ElementView g.row.C.Denot)). IsSome (found c.args.index r)) (sym c.self.view_is) c.requires.stands in
    let h = has_row c.self.inside.rows.items c.row_number-row.result c.args.index c.self.invariant at some in
    let there = found_there c.self.inside.rows.items c.row_number-row.result c.args.index c.index_mut.result.now c.self.invariant h at
    c.index_mut.ensures.value ∙ ap (found c.args.index) c.self.view_is in
    subst (λ (o : Option (ElementView g.row.C.Denot)). IfSome o (λ el. el.index < c.args.sends.now.n)) (sym there) c.requires.member

pub resume-requires-clause-keyed : goal.resume-requires-clause-keyed
resume-requires-clause-keyed g c =
    let at : c.row_number-row.result ≡ row_of c.args.index = c.row_number-row.ensures.value in
    let some : IsSome (found c.args.index (entries_of c.self.inside.rows.items)) = subst
    (λ (r : List (ℕ × ElementView g.row.C.Denot)). IsSome (found c.args.index r)) (sym c.self.view_is) c.requires.stands in
    let h = has_row c.self.inside.rows.items c.row_number-row.result c.args.index c.self.invariant at some in
    let there = found_there c.self.inside.rows.items c.row_number-row.result c.args.index c.index_mut.result.now c.self.invariant h at
    c.index_mut.ensures.value ∙ ap (found c.args.index) c.self.view_is in
    let flat = found_there c.self.inside.rows.items c.row_number-row.result c.args.index c.index_mut.result.now c.self.invariant h at c.index_mut.ensures.value in
    subst (λ (o : Option (ElementView g.row.C.Denot)). IfSome o (λ el. el.index ≡ c.args.index)) (sym flat)
    (keyed_found (entries_of c.self.inside.rows.items) c.self.invariant.keyed c.args.index)

pub invariant_of-self : goal.invariant_of-self
invariant_of-self g c =
    let at : c.row_number-row.result ≡ row_of c.args.index = c.row_number-row.ensures.value in
    let some : IsSome (found c.args.index (entries_of c.self.inside.rows.items)) = subst
    (λ (r : List (ℕ × ElementView g.row.C.Denot)). IsSome (found c.args.index r)) (sym c.self.view_is) c.requires.stands in
    let h = has_row c.self.inside.rows.items c.row_number-row.result c.args.index c.self.invariant at some in
    either_way c.resume.result (λ k. (ran_row c.self.inside.rows.items c.row_number-row.result c.args.index c.index_mut.result.now
    c.resume.new.self c.self.invariant h at c.index_mut.ensures.value g.C.Chare.step g.C.Pup.pack c.args.sends.now.n c.args.pe
    (Entry.Resumption c.args.round) k).1) (λ k. (same_row c.self.inside.rows.items c.row_number-row.result c.args.index
    c.index_mut.result.now c.resume.new.self c.self.invariant h at c.index_mut.ensures.value k).1) c.resume.ensures.room c.resume.ensures.err

pub returns-clause-room : goal.returns-clause-room
returns-clause-room g c =
    let at : c.row_number-row.result ≡ row_of c.args.index = c.row_number-row.ensures.value in
    let some : IsSome (found c.args.index (entries_of c.self.inside.rows.items)) = subst
    (λ (r : List (ℕ × ElementView g.row.C.Denot)). IsSome (found c.args.index r)) (sym c.self.view_is) c.requires.stands in
    let h = has_row c.self.inside.rows.items c.row_number-row.result c.args.index c.self.invariant at some in
    on_ok_weaker c.resume.result (λ k. (ran_row c.self.inside.rows.items c.row_number-row.result c.args.index c.index_mut.result.now
    c.resume.new.self c.self.invariant h at c.index_mut.ensures.value g.C.Chare.step g.C.Pup.pack c.args.sends.now.n c.args.pe
    (Entry.Resumption c.args.round) k).0 ∙ ap (λ (r : List (ℕ × ElementView g.row.C.Denot)). ran_in g.C.Chare.step g.C.Pup.pack r
    c.args.index c.args.sends.now.n c.args.pe (Entry.Resumption c.args.round)) c.self.view_is) c.resume.ensures.room

pub returns-clause-note : goal.returns-clause-note
returns-clause-note g c =
    let at : c.row_number-row.result ≡ row_of c.args.index = c.row_number-row.ensures.value in
    let some : IsSome (found c.args.index (entries_of c.self.inside.rows.items)) = subst
    (λ (r : List (ℕ × ElementView g.row.C.Denot)). IsSome (found c.args.index r)) (sym c.self.view_is) c.requires.stands in
    let h = has_row c.self.inside.rows.items c.row_number-row.result c.args.index c.self.invariant at some in
    let there = found_there c.self.inside.rows.items c.row_number-row.result c.args.index c.index_mut.result.now c.self.invariant h at
    c.index_mut.ensures.value ∙ ap (found c.args.index) c.self.view_is in
    rw (sym there) c.resume.ensures.note

pub returns-clause-sends : goal.returns-clause-sends
returns-clause-sends g c =
    let at : c.row_number-row.result ≡ row_of c.args.index = c.row_number-row.ensures.value in
    let some : IsSome (found c.args.index (entries_of c.self.inside.rows.items)) = subst
    (λ (r : List (ℕ × ElementView g.row.C.Denot)). IsSome (found c.args.index r)) (sym c.self.view_is) c.requires.stands in
    let h = has_row c.self.inside.rows.items c.row_number-row.result c.args.index c.self.invariant at some in
    let there = found_there c.self.inside.rows.items c.row_number-row.result c.args.index c.index_mut.result.now c.self.invariant h at
    c.index_mut.ensures.value ∙ ap (found c.args.index) c.self.view_is in
    rw (sym there) c.resume.ensures.sends

pub returns-clause-err : goal.returns-clause-err
returns-clause-err g c =
    let at : c.row_number-row.result ≡ row_of c.args.index = c.row_number-row.ensures.value in
    let some : IsSome (found c.args.index (entries_of c.self.inside.rows.items)) = subst
    (λ (r : List (ℕ × ElementView g.row.C.Denot)). IsSome (found c.args.index r)) (sym c.self.view_is) c.requires.stands in
    let h = has_row c.self.inside.rows.items c.row_number-row.result c.args.index c.self.invariant at some in
    on_err_weaker c.resume.result (λ k. (same_row c.self.inside.rows.items c.row_number-row.result c.args.index c.index_mut.result.now
    c.resume.new.self c.self.invariant h at c.index_mut.ensures.value k).0 ∙ c.self.view_is) c.resume.ensures.err

pub returns-clause-refused : goal.returns-clause-refused
returns-clause-refused g c =
    let at : c.row_number-row.result ≡ row_of c.args.index = c.row_number-row.ensures.value in
    let some : IsSome (found c.args.index (entries_of c.self.inside.rows.items)) = subst
    (λ (r : List (ℕ × ElementView g.row.C.Denot)). IsSome (found c.args.index r)) (sym c.self.view_is) c.requires.stands in
    let h = has_row c.self.inside.rows.items c.row_number-row.result c.args.index c.self.invariant at some in
    let there = found_there c.self.inside.rows.items c.row_number-row.result c.args.index c.index_mut.result.now c.self.invariant h at
    c.index_mut.ensures.value ∙ ap (found c.args.index) c.self.view_is in
    rw (sym there) c.resume.ensures.refused

use Rattle.std.proofs.Common.{◌≡◌, ℕ, List, Option, ap, sym, subst, ◌∙◌, arith}
use Rattle.std.specs.Prelude.{IsSome}
use Rattle.std.proofs.lemmas.Result.{on_ok_weaker, on_err_weaker}
use Rattle.chares.specs.Elements.{ElementView}
use Rattle.pe_state.specs.Rooms.{found, without}
use Rattle.pe_state.specs.Rows.{row_of, entries_of}
use Rattle.pe_state.proofs.Edits.{either_way, found_there, has_row, same_row, without_row}
use Rattle.pe_state.proofs.room.Room.depart.Goals as goal

pub index_mut-requires : goal.index_mut-requires
index_mut-requires g c =
    let at : c.row_number-row.result ≡ row_of c.args.index = c.row_number-row.ensures.value in
    let some : IsSome (found c.args.index (entries_of c.self.inside.rows.items)) = subst
    (λ (r : List (ℕ × ElementView g.row.C.Denot)). IsSome (found c.args.index r)) (sym c.self.view_is) c.requires.stands in
    let h = has_row c.self.inside.rows.items c.row_number-row.result c.args.index c.self.invariant at some in
    omega (arith, h)

pub depart-requires : goal.depart-requires
depart-requires g c =
    let at : c.row_number-row.result ≡ row_of c.args.index = c.row_number-row.ensures.value in
    let some : IsSome (found c.args.index (entries_of c.self.inside.rows.items)) = subst
    (λ (r : List (ℕ × ElementView g.row.C.Denot)). IsSome (found c.args.index r)) (sym c.self.view_is) c.requires.stands in
    let h = has_row c.self.inside.rows.items c.row_number-row.result c.args.index c.self.invariant at some in
    let there = found_there c.self.inside.rows.items c.row_number-row.result c.args.index c.index_mut.result.now c.self.invariant h at
    c.index_mut.ensures.value ∙ ap (found c.args.index) c.self.view_is in
    record { stands = subst (λ (o : Option (ElementView g.row.C.Denot)). IsSome o) (sym there) c.requires.stands }

pub invariant_of-self : goal.invariant_of-self
invariant_of-self g c =
    let at : c.row_number-row.result ≡ row_of c.args.index = c.row_number-row.ensures.value in
    let some : IsSome (found c.args.index (entries_of c.self.inside.rows.items)) = subst
    (λ (r : List (ℕ × ElementView g.row.C.Denot)). IsSome (found c.args.index r)) (sym c.self.view_is) c.requires.stands in
    let h = has_row c.self.inside.rows.items c.row_number-row.result c.args.index c.self.invariant at some in
    either_way c.depart.result (λ k. (without_row c.self.inside.rows.items c.row_number-row.result c.args.index c.index_mut.result.now
    c.depart.new.self c.self.invariant h at c.index_mut.ensures.value k).1)
    (λ k. (same_row c.self.inside.rows.items c.row_number-row.result c.args.index c.index_mut.result.now c.depart.new.self
    c.self.invariant h at c.index_mut.ensures.value k).1) c.depart.ensures.ok c.depart.ensures.err

pub returns-clause-value : goal.returns-clause-value
returns-clause-value g c =
    let at : c.row_number-row.result ≡ row_of c.args.index = c.row_number-row.ensures.value in
    let some : IsSome (found c.args.index (entries_of c.self.inside.rows.items)) = subst
    (λ (r : List (ℕ × ElementView g.row.C.Denot)). IsSome (found c.args.index r)) (sym c.self.view_is) c.requires.stands in
    let h = has_row c.self.inside.rows.items c.row_number-row.result c.args.index c.self.invariant at some in
    let there = found_there c.self.inside.rows.items c.row_number-row.result c.args.index c.index_mut.result.now c.self.invariant h at
    c.index_mut.ensures.value ∙ ap (found c.args.index) c.self.view_is in
    rw (sym there) c.depart.ensures.value

pub returns-clause-fits : goal.returns-clause-fits
returns-clause-fits g c =
    let at : c.row_number-row.result ≡ row_of c.args.index = c.row_number-row.ensures.value in
    let some : IsSome (found c.args.index (entries_of c.self.inside.rows.items)) = subst
    (λ (r : List (ℕ × ElementView g.row.C.Denot)). IsSome (found c.args.index r)) (sym c.self.view_is) c.requires.stands in
    let h = has_row c.self.inside.rows.items c.row_number-row.result c.args.index c.self.invariant at some in
    let there = found_there c.self.inside.rows.items c.row_number-row.result c.args.index c.index_mut.result.now c.self.invariant h at
    c.index_mut.ensures.value ∙ ap (found c.args.index) c.self.view_is in
    rw (sym there) c.depart.ensures.fits

pub returns-clause-ok : goal.returns-clause-ok
returns-clause-ok g c =
    let at : c.row_number-row.result ≡ row_of c.args.index = c.row_number-row.ensures.value in
    let some : IsSome (found c.args.index (entries_of c.self.inside.rows.items)) = subst
    (λ (r : List (ℕ × ElementView g.row.C.Denot)). IsSome (found c.args.index r)) (sym c.self.view_is) c.requires.stands in
    let h = has_row c.self.inside.rows.items c.row_number-row.result c.args.index c.self.invariant at some in
    on_ok_weaker c.depart.result (λ k. (without_row c.self.inside.rows.items c.row_number-row.result c.args.index c.index_mut.result.now
    c.depart.new.self c.self.invariant h at c.index_mut.ensures.value k).0
    ∙ ap (λ (r : List (ℕ × ElementView g.row.C.Denot)). without c.args.index r) c.self.view_is) c.depart.ensures.ok

pub returns-clause-err : goal.returns-clause-err
returns-clause-err g c =
    let at : c.row_number-row.result ≡ row_of c.args.index = c.row_number-row.ensures.value in
    let some : IsSome (found c.args.index (entries_of c.self.inside.rows.items)) = subst
    (λ (r : List (ℕ × ElementView g.row.C.Denot)). IsSome (found c.args.index r)) (sym c.self.view_is) c.requires.stands in
    let h = has_row c.self.inside.rows.items c.row_number-row.result c.args.index c.self.invariant at some in
    on_err_weaker c.depart.result (λ k. (same_row c.self.inside.rows.items c.row_number-row.result c.args.index c.index_mut.result.now
    c.depart.new.self c.self.invariant h at c.index_mut.ensures.value k).0 ∙ c.self.view_is) c.depart.ensures.err

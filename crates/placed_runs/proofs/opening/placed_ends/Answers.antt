use Rattle.std.proofs.Common.{◌≡◌, ◌∙◌, ◌<◌, ℕ, List, ap, arith, length, refl, subst, sym}
use Rattle.std.specs.Prelude.{All}
use Rattle.std.proofs.lemmas.List.FromFn.{length-map-range_with_len}
use Rattle.pe_state.specs.Histories.{HasHistories}
use Rattle.pe_state.specs.Pes.{PeView, new_pe}
use Rattle.rts_core.proofs.Openings.{KeysBelow, opening_keys}
use Rattle.placed_runs.proofs.opening.placed_ends.Goals as goal

pub bare_pes-requires-clause-array : goal.bare_pes-requires-clause-array
bare_pes-requires-clause-array g c = omega (arith, ap length c.requires.opened)

pub place_all-requires-clause-few : goal.place_all-requires-clause-few
place_all-requires-clause-few g c = omega (arith, ap length c.requires.opened, c.requires.few)

pub place_all-requires-clause-named : goal.place_all-requires-clause-named
place_all-requires-clause-named g c =
    let n : length c.in_ok-made.made.items ≡ c.args.pes = ap length c.in_ok-made.ensures.value
    ∙ length-map-range_with_len (λ (q : ℕ). new_pe {C = g.row.C.Denot} q c.len-n.result) 0 c.args.pes in
    subst (λ (v : ℕ). All (λ q. q < v) c.args.places.now) (sym n) c.requires.named

pub place_all-requires-clause-empty : goal.place_all-requires-clause-empty
place_all-requires-clause-empty g c =
    subst (λ (xs : List (PeView g.row.C.Denot)). All (KeysBelow {C = g.row.C.Denot} 0) xs) (sym c.in_ok-made.ensures.value)
    (opening_keys g.row.C.Denot c.len-n.result c.args.pes)

pub returns-clause-value : goal.returns-clause-value
returns-clause-value g c =
    let same : length c.args.chares.items ≡ c.len-n.result = omega arith in
    c.in_ok-ends.ensures.value ∙ rw (c.in_ok-place_all.ensures.placed, c.in_ok-made.ensures.value, same) refl

pub returns-clause-histories : goal.returns-clause-histories
returns-clause-histories g c =
    subst (λ v. All (HasHistories g.C.Chare.step g.C.Pup.fits g.C.Pup.pack v) c.in_ok-ends.ends.items) (sym c.requires.opened) c.in_ok-ends.ensures.histories

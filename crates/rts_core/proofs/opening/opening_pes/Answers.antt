use Rattle.std.proofs.Common.{◌≡◌, ℕ, List, length, sym, subst, ap, ◌∙◌, refl, arith}
use Rattle.std.specs.Prelude.{All}
use Rattle.std.proofs.lemmas.List.FromFn.{length-map-range_with_len}
use Rattle.pe_state.specs.Pes.{PeView, new_pe}
use Rattle.pe_state.specs.Histories.{HasHistories}
use Rattle.rts_core.proofs.Openings.{KeysBelow, opening_histories, opening_keys}
use Rattle.rts_core.proofs.opening.opening_pes.Goals as goal

pub place_all-requires-clause-array : goal.place_all-requires-clause-array
place_all-requires-clause-array g c = omega (arith, ap length c.requires.opened)

pub place_all-requires-clause-histories : goal.place_all-requires-clause-histories
place_all-requires-clause-histories g c =
    let same : c.len-n.result ≡ length g.H.Openings.opened = omega (arith, ap length c.requires.opened) in
    subst (λ (xs : List (PeView g.row.C.Denot)). All (HasHistories g.C.Chare.step g.C.Pup.fits g.C.Pup.pack g.H.Openings.opened) xs) (sym c.in_ok-made.ensures.value)
    (opening_histories g.C.Chare.step g.C.Pup.fits g.C.Pup.pack g.H.Openings.opened c.len-n.result c.args.pes same)

pub place_all-requires-clause-empty : goal.place_all-requires-clause-empty
place_all-requires-clause-empty g c =
    subst (λ (xs : List (PeView g.row.C.Denot)). All (KeysBelow {C = g.row.C.Denot} 0) xs) (sym c.in_ok-made.ensures.value)
    (opening_keys g.row.C.Denot c.len-n.result c.args.pes)

pub returns-clause-value : goal.returns-clause-value
returns-clause-value g c =
    let same : length c.args.chares.items ≡ c.len-n.result = omega arith in
    rw (c.in_ok-place_all.ensures.all_placed, c.in_ok-made.ensures.value, same) refl

pub returns-clause-counted : goal.returns-clause-counted
returns-clause-counted g c =
    c.in_ok-place_all.ensures.counted ∙ (ap length c.in_ok-made.ensures.value ∙ length-map-range_with_len (λ (q : ℕ). new_pe {C = g.row.C.Denot} q c.len-n.result) 0 c.args.pes)

pub returns-clause-histories : goal.returns-clause-histories
returns-clause-histories g c = c.in_ok-place_all.ensures.histories

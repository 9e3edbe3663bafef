-- Where a PE looks for each element: on itself, or at a place after the round that it knows.
use Rattle.std.proofs.Common.{◌≡◌, ℕ, List, map, Option, Some, None, arith, sym, ◌∙◌, ap}
use Rattle.std.specs.Prelude.{is_some, if◌then◌else◌, unwrap_or, slice_get}
use Rattle.std.specs.List.{range_with_len}
use Rattle.std.proofs.lemmas.List.FromFn.{length-map-range_with_len}
use Rattle.std.proofs.lemmas.Option.{slice_get_within, same_Some}
use Rattle.sync_board.specs.Boards.{BoardState}
use Rattle.chares.specs.Elements.{ElementView}
use Rattle.pe_state.specs.Pes.{PeView}
use Rattle.pe_state.specs.Rooms.{found}
use Rattle.rts_core.specs.declared.event.Event.{Event}
use Rattle.rts_core.specs.Events.{pe_of}
use Rattle.event_laws.proofs.OpeningSites.{word_at}
use Rattle.overtaking_laws.specs.StampedRuns.{StampedView, maker, place_after, seen_by, seen_words, stands_on}

module _ {C A : Type 0} (n pes : ℕ) (b : BoardState A) (p known : ℕ) (pe : PeView C) where
  -- where PE p, which is this and knows this round, looks for an element
  abbrev pub place_seen : ℕ → ℕ
  place_seen e = if is_some (found e pe.room) then p else place_after n pes b e known

  abbrev pub places_seen : List ℕ
  places_seen = map place_seen (range_with_len 0 n)

  pub word_seen : (e word : ℕ) → slice_get places_seen e ≡ Some word → word ≡ place_seen e
  word_seen e word h =
      let inside = slice_get_within places_seen e word h in
      let len = length-map-range_with_len place_seen 0 n in
      let there : slice_get places_seen e ≡ Some (place_seen e) = word_at place_seen n e (omega (arith, inside, len)) in
      same_Some word (place_seen e) (sym h ∙ there)

  -- an element that stands in the room, and one that does not
  pub seen_here : (e : ℕ) (el : ElementView C) → found e pe.room ≡ Some el → place_seen e ≡ p
  seen_here e el at = ap (λ (o : Option (ElementView C)). if is_some o then p else place_after n pes b e known) at

  pub seen_there : (e : ℕ) → found e pe.room ≡ None → place_seen e ≡ place_after n pes b e known
  seen_there e none = ap (λ (o : Option (ElementView C)). if is_some o then p else place_after n pes b e known) none

-- the location words in an event of a PE
pub words_of : {C A : Type 0} (n pes : ℕ) (s : StampedView C A) (event : Event) (p : ℕ) (pe : PeView C) → pe_of event ≡ Some p → slice_get s.pes p ≡ Some pe
    → (seen_by n pes s (maker event)).words ≡ places_seen n pes s.board p (s.known p) pe
words_of {C} n pes s event p pe of at =
    ap (λ (o : Option ℕ). seen_words n pes s (unwrap_or o 0)) of
    ∙ ap (λ (o : Option (PeView C)). map (λ e. if stands_on o e then p else place_after n pes s.board e (s.known p)) (range_with_len 0 n)) at

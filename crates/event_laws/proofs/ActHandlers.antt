-- Which handler each case of Act runs, if any.
use Rattle.std.proofs.Common.{◌≡◌, ℕ, ◌+◌, List, [], ◌∷◌, ◌++◌, map, Some, None, sum_by, arith, refl}
use Rattle.std.specs.Prelude.{not}
use Rattle.std.specs.List.{filter}
use Rattle.std.proofs.lemmas.List.Elements.{All-nil, All-cons}
use Rattle.std.proofs.lemmas.List.Filters.{sum_by-filter_both}
use Rattle.std.proofs.lemmas.List.Sums.{sum_by-cons, sum_by-append, sum_by_push}
use Rattle.chares.specs.declared.carried.Carried.TheVariants.{Letter, Element}
use Rattle.chares.specs.declared.entry.Entry.TheVariants.{Letter as OfLetter}
use Rattle.chares.specs.declared.trace_entry.TraceEntry.TheVariants.{Executed, Installed}
use Rattle.chares.specs.Elements.{ElementView, PackedView, unpacked}
use Rattle.chares.specs.Letters.{LetterView, hopped}
use Rattle.chares.specs.Steps.{Step}
use Rattle.pe_state.specs.Pes.{PeView, Item, letter_at, is_for, executed, shelving, forwarding, installed}
use Rattle.pe_state.specs.Rooms.{found, joined}
use Rattle.rts_core.proofs.Acts.{hand_holds}
use Rattle.rts_core.proofs.HandlerSteps.{handled_moved}
use Rattle.rts_core.proofs.Moves.{Moved, quiet}
use Rattle.rts_core.proofs.Weights.{weigh, of_item, of_hand, of_element, of_room, sum_by-map, sum_joined}

module _ {C : Type 0} (step : Step C) (pack : C → List ℕ) (pe : PeView C) (x : Item) where
  pub shelves_still : (l : LetterView) → pe.hand ≡ Some x → x.parcel ≡ Letter l → Moved step pe (shelving pe l).pe (shelving pe l).trace None [] []
  shelves_still l hand is =
      quiet step pe (shelving pe l).pe (shelving pe l).trace [] []
      (λ g k.
      let a : of_hand g k pe.hand ≡ weigh g l = hand_holds g k pe.hand x (Letter l) hand is in
      let b : sum_by (weigh g) (pe.shelf ++ l ∷ []) ≡ sum_by (weigh g) pe.shelf + weigh g l = sum_by_push (weigh g) pe.shelf l in
      omega (arith, a, b))
      refl refl refl refl refl

  pub forwards_still : (l : LetterView) (q : ℕ) → pe.hand ≡ Some x → x.parcel ≡ Letter l → Moved step pe (forwarding pe l q).pe (forwarding pe l q).trace None [] []
  forwards_still l q hand is =
      quiet step pe (forwarding pe l q).pe (forwarding pe l q).trace [] []
      (λ g k.
      let a : of_hand g k pe.hand ≡ weigh g l = hand_holds g k pe.hand x (Letter l) hand is in
      let b : sum_by (of_item g k) (pe.outbox ++ letter_at q (hopped l) ∷ []) ≡ sum_by (of_item g k) pe.outbox + weigh g l = sum_by_push
      (of_item g k) pe.outbox (letter_at q (hopped l)) in
      omega (arith, a, b))
      refl refl refl refl refl

  pub executes_letter : (l : LetterView) (el : ElementView C) → pe.hand ≡ Some x → x.parcel ≡ Letter l → found l.to pe.room ≡ Some el
      → Moved step pe (executed step pack pe l).pe (executed step pack pe l).trace (Some (el, OfLetter l)) [] []
  executes_letter l el hand is at =
      handled_moved step pack pe l.to (OfLetter l) None el (Executed l.id l.to) at
      (λ g k.
      let a : of_hand g k pe.hand ≡ weigh g l = hand_holds g k pe.hand x (Letter l) hand is in
      let b : sum_by (weigh g) (l ∷ []) ≡ weigh g l + 0 = sum_by-cons (weigh g) l [] in
      omega (arith, a, b))
      refl refl
      (All-cons (λ (m : LetterView). m.to ≡ l.to) l [] refl (All-nil (λ (m : LetterView). m.to ≡ l.to)))

  pub installs_still : (p : PackedView) (chare : C) → pe.hand ≡ Some x → x.parcel ≡ Element p → found p.index pe.room ≡ None
      → Moved step pe (installed pe p chare) (Installed p.index ∷ []) None [] []
  installs_still p chare hand is at =
      quiet step pe (installed pe p chare) (Installed p.index ∷ []) [] []
      (λ g k.
      let mine : List LetterView = filter (is_for p.index) pe.shelf in
      let others : List LetterView = filter (λ l. not (is_for p.index l)) pe.shelf in
      let a : of_hand g k pe.hand ≡ k (p.index, p.journal) = hand_holds g k pe.hand x (Element p) hand is in
      let b : sum_by (weigh g) mine + sum_by (weigh g) others ≡ sum_by (weigh g) pe.shelf = sum_by-filter_both (is_for p.index)
      (λ l. not (is_for p.index l)) (λ l. refl) (weigh g) pe.shelf in
      let c : sum_by (of_item g k) (pe.outbox ++ map (letter_at pe.me) mine) ≡ sum_by (of_item g k) pe.outbox + sum_by (of_item g k)
      (map (letter_at pe.me) mine) = sum_by-append (of_item g k) pe.outbox (map (letter_at pe.me) mine) in
      let d : sum_by (of_item g k) (map (letter_at pe.me) mine) ≡ sum_by (weigh g) mine = sum_by-map (of_item g k) (letter_at pe.me) mine in
      let r : of_room g k (joined p.index (unpacked p chare) pe.room) ≡ of_room g k pe.room + k (p.index, p.journal) = sum_joined
      (of_element g k) pe.room p.index (unpacked p chare) at in
      omega (arith, a, b, c, d, r))
      refl refl refl refl refl

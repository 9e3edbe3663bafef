-- A PE after an arrival, put together from its parts.
use Rattle.std.proofs.Common.{◌≡◌, ℕ, ◌++◌, List, [], None, map, not, filter, ap, ◌∙◌}
use Rattle.chares.specs.Elements.{ElementView, PackedView, unpacked}
use Rattle.chares.specs.Letters.{LetterView}
use Rattle.pe_state.specs.Pes.{PeView, Item, installed, is_for, letter_at}
use Rattle.pe_state.specs.Rooms.{joined}

-- rest0 is the new shelf and outbox0 the outbox before the old shelf is emptied into them
pub installed_is : {C : Type 0} (pe v : PeView C) (p : PackedView) (chare : C) (i : ℕ) (room : List (ℕ × ElementView C)) (rest0 rest : List LetterView) (outbox0 outbox : List Item)
    → v ≡ pe
    → v.hand ≡ None
    → i ≡ p.index
    → room ≡ joined p.index (unpacked p chare) v.room
    → rest0 ≡ []
    → rest ≡ rest0 ++ filter (λ l. not (is_for i l)) v.shelf
    → outbox0 ≡ v.outbox
    → outbox ≡ outbox0 ++ map (letter_at v.me) (filter (is_for i) v.shelf)
    → record { me = v.me; n = v.n; room = room; hand = v.hand; shelf = rest; outbox = outbox; notes = v.notes; count = v.count; longest = v.longest; kept = None } ≡ installed pe p chare
installed_is pe v p chare i room rest0 rest outbox0 outbox view same index join fresh kept o moved =
    ap (λ h. record v { room = room; hand = h; shelf = rest; outbox = outbox; kept = None }) same
    ∙ ap (λ r. record v { room = r; hand = None; shelf = rest; outbox = outbox; kept = None }) join
    ∙ ap (λ s. record v { room = joined p.index (unpacked p chare) v.room; hand = None; shelf = s; outbox = outbox; kept = None })
    (kept ∙ ap (λ s. s ++ filter (λ l. not (is_for i l)) v.shelf) fresh ∙ ap (λ k. filter (λ l. not (is_for k l)) v.shelf) index)
    ∙ ap (λ out. record v { room = joined p.index (unpacked p chare) v.room; hand = None; shelf = filter (λ l. not (is_for p.index l)) v.shelf; outbox = out; kept = None })
    (moved ∙ ap (λ out. out ++ map (letter_at v.me) (filter (is_for i) v.shelf)) o ∙ ap (λ k. v.outbox ++ map (letter_at v.me) (filter (is_for k) v.shelf)) index)
    ∙ ap (λ w. installed w p chare) view

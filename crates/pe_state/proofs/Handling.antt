-- A PE after a handler, put together from what is left of the parts that were lent.
use Rattle.std.proofs.Common.{◌≡◌, ℕ, ◌+◌, ◌++◌, List, Option, None, length, option_to_list, ap, ◌∙◌}
use Rattle.chares.specs.declared.note.Note.{Note}
use Rattle.chares.specs.Elements.{ElementView}
use Rattle.chares.specs.Letters.{Done}
use Rattle.chares.specs.Posting.{letters_of}
use Rattle.chares.specs.Steps.{Step}
use Rattle.pe_state.specs.Pes.{PeView, Item, handled}
use Rattle.pe_state.specs.Rooms.{ran_in, sends_in, note_in}

module _ {C : Type 0} (step : Step C) (pack : C → List ℕ) (pe v : PeView C) (e : ℕ) (done : Done) where
  -- outbox0 and notes0 are those of v, and the others what came back
  pub handled_is : (hand : Option Item) (room : List (ℕ × ElementView C)) (outbox0 outbox : List Item) (notes0 notes : List Note) (note : Option Note) (count : ℕ)
      → v ≡ pe
      → v.hand ≡ hand
      → room ≡ ran_in step pack v.room e v.n v.me done
      → outbox0 ≡ v.outbox
      → outbox ≡ outbox0 ++ letters_of v.me v.count (sends_in step pack v.room e v.n done)
      → notes0 ≡ v.notes
      → note ≡ note_in step pack v.room e v.n v.me done
      → notes ≡ notes0 ++ option_to_list note
      → count ≡ v.count + length (sends_in step pack v.room e v.n done)
      → record { me = v.me; n = v.n; room = room; hand = v.hand; shelf = v.shelf; outbox = outbox; notes = notes; count = count; longest = v.longest; kept = None } ≡ handled step pack pe e done hand
  handled_is hand room outbox0 outbox notes0 notes note count view same ran o posted m told owed more =
      let sends = sends_in step pack v.room e v.n done in
      ap (λ h. record v { room = room; hand = h; outbox = outbox; notes = notes; count = count; kept = None }) same
      ∙ ap (λ r. record v { room = r; hand = hand; outbox = outbox; notes = notes; count = count; kept = None }) ran
      ∙ ap (λ out. record v {
        room = ran_in step pack v.room e v.n v.me done;
        hand = hand;
        outbox = out;
        notes = notes;
        count = count;
        kept = None;
      }) (posted ∙ ap (λ out. out ++ letters_of v.me v.count sends) o)
      ∙ ap (λ ns. record v {
        room = ran_in step pack v.room e v.n v.me done;
        hand = hand;
        outbox = v.outbox ++ letters_of v.me v.count sends;
        notes = ns;
        count = count;
        kept = None;
      })
      (owed ∙ ap (λ ns. ns ++ option_to_list note) m ∙ ap (λ n. v.notes ++ option_to_list n) told)
      ∙ ap (λ k. record v {
        room = ran_in step pack v.room e v.n v.me done;
        hand = hand;
        outbox = v.outbox ++ letters_of v.me v.count sends;
        notes = v.notes ++ option_to_list (note_in step pack v.room e v.n v.me done);
        count = k;
        kept = None;
      }) more
      ∙ ap (λ p. handled step pack p e done hand) view

-- What weighs the same at every site weighs what it does without its site.
use Rattle.std.proofs.Common.{◌≡◌, ℕ, List, Option, Some, None, sum_by, arith, refl}
use Rattle.chares.specs.declared.carried.Carried.TheVariants.{Letter, Element}
use Rattle.chares.specs.Elements.{ElementView}
use Rattle.pe_state.specs.Pes.{PeView, Parcel, Item}
use Rattle.rts_core.specs.Worlds.{WorldView}
use Rattle.rts_core.proofs.RunLaws.{by_said, by_index}
use Rattle.rts_core.proofs.Weights.{weigh, of_parcel, of_item, of_hand, of_room, of_pe, of_queue, of_world, of_element, sum_by-map, sum_by-same}
use Rattle.event_laws.proofs.Sites.{Site, parcel_at, item_out, held_at, hand_at, letter_in, entry_at, pe_at, queue_at, world_at, sum_from-same, address_site}
use Rattle.event_laws.proofs.Sites.Site.{Bound, Waiting}

module _ (r : (ℕ × ℕ) × ℕ → ℕ) (i : ℕ → ℕ) where
  -- the weights, at whatever site
  abbrev pub at_any : Site → ℕ × ℕ → ℕ → ℕ
  at_any s id to = r (id, to)

  abbrev pub at_any_index : Site → ℕ → ℕ
  at_any_index s e = i e

  parcel_plain : (s : Site) (x : Parcel) → parcel_at at_any at_any_index s x ≡ of_parcel (by_said r) (by_index i) x
  parcel_plain s (Letter l) = refl
  parcel_plain s (Element p) = refl

  held_plain : (p : ℕ) (x : Parcel) (look : Option ℕ) → held_at at_any at_any_index p x look ≡ of_parcel (by_said r) (by_index i) x
  held_plain p (Letter l) look = refl
  held_plain p (Element x) look = refl

  hand_plain : (p : ℕ) (hand : Option Item) → hand_at at_any at_any_index p hand ≡ of_hand (by_said r) (by_index i) hand
  hand_plain p None = refl
  hand_plain p (Some x) = held_plain p x.parcel x.address

  pe_plain : {C : Type 0} (p : ℕ) (pe : PeView C) → pe_at at_any at_any_index p pe ≡ of_pe (by_said r) (by_index i) pe
  pe_plain {C} p pe =
      let a = hand_plain p pe.hand in
      let b : sum_by (item_out at_any at_any_index) pe.outbox ≡ sum_by (of_item (by_said r) (by_index i)) pe.outbox = sum_by-same
      (item_out at_any at_any_index) (of_item (by_said r) (by_index i)) (λ x. parcel_plain (address_site x.address) x.parcel) pe.outbox in
      let c : sum_by (letter_in at_any at_any_index (Waiting p)) pe.shelf ≡ sum_by (weigh (by_said r)) pe.shelf = refl in
      let d : of_room (by_said r) (by_index i) pe.room ≡ sum_by (λ (x : ℕ × ElementView C). entry_at at_any at_any_index p x)
      pe.room = sum_by-map (of_element (by_said r) (by_index i)) (λ (x : ℕ × ElementView C). x.1) pe.room in
      omega (arith, a, b, c, d)

  queue_plain : (q : ℕ) (queue : List Parcel) → queue_at at_any at_any_index q queue ≡ of_queue (by_said r) (by_index i) queue
  queue_plain q queue = sum_by-same (parcel_at at_any at_any_index (Bound q)) (of_parcel (by_said r) (by_index i)) (parcel_plain (Bound q)) queue

  pub world_plain : {C A : Type 0} (w : WorldView C A) → world_at at_any at_any_index w ≡ of_world (by_said r) (by_index i) w
  world_plain {C} w =
      let a = sum_from-same (λ p (pe : PeView C). pe_at at_any at_any_index p pe) (λ pe. of_pe (by_said r) (by_index i) pe) w.pes pe_plain in
      let b = sum_from-same (queue_at at_any at_any_index) (of_queue (by_said r) (by_index i)) w.queues queue_plain in
      omega (arith, a, b)

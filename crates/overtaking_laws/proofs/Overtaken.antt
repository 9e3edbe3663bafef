-- Where a parcel overtakes others, all that a world holds weighs the same, and what holds of each parcel still does.
use Rattle.std.proofs.Common.{◌≡◌, ℕ, ◌+◌, List, [], ◌∷◌, ◌++◌, Some, sum_by, arith}
use Rattle.std.specs.Prelude.{All, slice_get}
use Rattle.std.proofs.lemmas.List.Elements.{All-nil, All-cons, All-append, All-head, All-tail, All-set}
use Rattle.std.proofs.lemmas.List.Sums.{sum_by-cons, sum_by-append}
use Rattle.pe_state.specs.Pes.{Parcel}
use Rattle.rts_core.specs.Places.{Life}
use Rattle.rts_core.specs.Worlds.{WorldView}
use Rattle.rts_core.proofs.EachElement.{ParcelKept, WorldKept}
use Rattle.rts_core.proofs.Rooms.{at_place}
use Rattle.rts_core.proofs.Weights.{Weight, of_parcel, of_queue, of_world}
use Rattle.rts_core.proofs.WorldSteps.{sum_at}
use Rattle.chares.specs.Elements.{ElementView, PackedView}
use Rattle.event_laws.proofs.Sites.{LetterWeight, ElementWeight, parcel_at, queue_at, world_at, sum_from-set}
use Rattle.event_laws.proofs.Sites.Site.{Bound}
use Rattle.overtaking_laws.specs.Overtaking.{overtaken}

-- ---- lists

module _ {X : Type 0} where
  -- a list weighs the same wherever in it a member is
  pub weighs_moved : (f : X → ℕ) (before : List X) (x : X) (after : List X) → sum_by f (x ∷ before ++ after) ≡ sum_by f (before ++ x ∷ after)
  weighs_moved f before x after =
      let a : sum_by f (x ∷ before ++ after) ≡ f x + sum_by f (before ++ after) = sum_by-cons f x (before ++ after) in
      let b = sum_by-append f before after in
      let c = sum_by-append f before (x ∷ after) in
      let d = sum_by-cons f x after in
      omega (arith, a, b, c, d)

  all_left : (P : X → Type 0) (xs ys : List X) → All P (xs ++ ys) → All P xs
  all_left P [] ys h = All-nil P
  all_left P (x ∷ xs) ys h = All-cons P x xs (All-head P x (xs ++ ys) h) (all_left P xs ys (All-tail P x (xs ++ ys) h))

  all_right : (P : X → Type 0) (xs ys : List X) → All P (xs ++ ys) → All P ys
  all_right P [] ys h = h
  all_right P (x ∷ xs) ys h = all_right P xs ys (All-tail P x (xs ++ ys) h)

  -- and what holds of each member does
  pub all_moved : (P : X → Type 0) (before : List X) (x : X) (after : List X) → All P (before ++ x ∷ after) → All P (x ∷ before ++ after)
  all_moved P before x after h =
      let later : All P (x ∷ after) = all_right P before (x ∷ after) h in
      All-cons P x (before ++ after) (All-head P x after later)
      (All-append P before after (all_left P before (x ∷ after) h) (All-tail P x after later))

-- ---- worlds

module _ {C A : Type 0} (w : WorldView C A) (q : ℕ) (before : List Parcel) (parcel : Parcel) (after : List Parcel)
    (queued : slice_get w.queues q ≡ Some (before ++ parcel ∷ after)) where
  pub same_weight : (g : Weight) (k : Life → ℕ) → of_world g k (overtaken w q before parcel after) ≡ of_world g k w
  same_weight g k =
      let a = sum_at (of_queue g k) w.queues q (before ++ parcel ∷ after) (parcel ∷ before ++ after) queued in
      let b : of_queue g k (parcel ∷ before ++ after) ≡ of_queue g k (before ++ parcel ∷ after) = weighs_moved (of_parcel g k) before parcel after in
      omega (arith, a, b)

  pub same_sites : (g : LetterWeight) (k : ElementWeight) → world_at g k (overtaken w q before parcel after) ≡ world_at g k w
  same_sites g k =
      let a = sum_from-set (queue_at g k) w.queues q (before ++ parcel ∷ after) (parcel ∷ before ++ after) queued in
      let b : queue_at g k q (parcel ∷ before ++ after) ≡ queue_at g k q (before ++ parcel ∷ after) = weighs_moved (parcel_at g k (Bound q)) before parcel after in
      omega (arith, a, b)

  pub each_queued : (P : Parcel → Type 0) → All (All P) w.queues → All (All P) (overtaken w q before parcel after).queues
  each_queued P all =
      All-set (All P) w.queues q (parcel ∷ before ++ after)
      (all_moved P before parcel after (at_place (All P) w.queues q (before ++ parcel ∷ after) all queued)) all

  -- what is kept of each element
  pub world_kept : (F : ℕ → ElementView C → Type 0) (K : PackedView → Type 0) → WorldKept F K w → WorldKept F K (overtaken w q before parcel after)
  world_kept F K h = record { pes = h.pes; queues = each_queued (ParcelKept K) h.queues }

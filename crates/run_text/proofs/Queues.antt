-- A queue of a run, and a part of an outbox.
use Rattle.std.proofs.Common.{◌≡◌, ℕ, ◌<◌, ◌≤◌, List, All, length, map, get_or, take, sym, ◌∙◌, ap, subst}
use Rattle.std.specs.Prelude.{Vec}
use Rattle.std.proofs.lemmas.List.{get_or-map, length-map, take_all}

module _ {X A : Type 0} (queues : List (Vec X A)) (i : ℕ) where
  -- a queue among the lists of its parcels
  pub queue_inside : i < length queues → i < length (map (λ queue. queue.items) queues)
  queue_inside inside = subst (λ n. i < n) (sym (length-map queues (λ (queue : Vec X A). queue.items))) inside

  pub queue_here : (queue : Vec X A) → i < length queues → queue ≡ get_or queues i queue → queue.items ≡ get_or (map (λ queue. queue.items) queues) i queue.items
  queue_here queue inside is =
      ap (λ (q : Vec X A). q.items) is ∙ sym (get_or-map (λ (q : Vec X A). q.items) queues i queue queue.items inside)

  -- what holds of all parcels holds of those of a queue
  pub all_queued : (P : X → Type 0) (queue : Vec X A) → All (All P) (map (λ queue. queue.items) queues) → i < length queues → queue ≡ get_or queues i queue → All P queue.items
  all_queued P queue all inside is =
      subst (All P) (sym (queue_here queue inside is)) (all i queue.items (queue_inside inside))

  -- all are taken
  pub all_taken : length queues ≤ i → take i (map (λ queue. queue.items) queues) ≡ map (λ queue. queue.items) queues
  all_taken past =
      take_all i (map (λ queue. queue.items) queues) (subst (λ n. n ≤ i) (sym (length-map queues (λ (queue : Vec X A). queue.items))) past)

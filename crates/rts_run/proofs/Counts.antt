-- How many letters queues hold, counted queue by queue: at one place of the list, and after it.
use Rattle.std.proofs.Common.{◌≡◌, ℕ, ◌+◌, ◌<◌, ◌≤◌, List, length, map, drop, get_or, ap, ◌∙◌}
use Rattle.std.specs.Prelude.{Vec}
use Rattle.std.specs.List.{flat_map}
use Rattle.std.proofs.lemmas.List.{at_drop_all, length-append}
use Rattle.pe_state.specs.Pes.{Parcel}
use Rattle.rts_core.specs.Places.{letters_in}
use Rattle.rts_core.proofs.Counts.{rest_at}

module _ {A : Type 0} (queues : List (Vec Parcel A)) (i : ℕ) where
  -- the letters of these queues
  abbrev pub queued : List (Vec Parcel A) → ℕ
  queued qs = length (flat_map (flat_map letters_in) (map (λ q. q.items) qs))

  pub queued_rest : (queue : Vec Parcel A) → i < length queues → queue ≡ get_or queues i queue
      → queued (drop i queues) ≡ length (flat_map letters_in queue.items) + queued (drop (i + 1) queues)
  queued_rest queue inside is = ap queued (rest_at queues i queue inside is)
      ∙ length-append (flat_map letters_in queue.items) (flat_map (flat_map letters_in) (map (λ (q : Vec Parcel A). q.items) (drop (i + 1) queues)))

  pub queued_end : length queues ≤ i → queued (drop i queues) ≡ 0
  queued_end past = at_drop_all queued queues i past

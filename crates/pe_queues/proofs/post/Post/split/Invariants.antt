use Rattle.std.proofs.Common.{◌≡◌, ◌-◌, ◌<◌, ◌≤◌, ℕ, length, map, get_or, take, vec_capacity}
use Rattle.pe_queues.specs.Conservation.{of_one}
use Rattle.pe_queues.specs.Seats.{ticket}
use Rattle.pe_queues.proofs.post.Post.split.Given as goal

abbrev pub invariant-loop-k : goal.invariant-loop-k
invariant-loop-k g l = record {
  queues : map (λ t. t.queue) l.tickets.items ≡ map (λ t. t.queue) l.initial.tickets.items;
  puts : map (λ t. t.traffic.puts) l.tickets.items ≡ map (λ t. t.traffic.puts) l.initial.tickets.items;
  takes : map (λ t. t.traffic.takes) l.tickets.items ≡ map (λ t. t.traffic.takes) l.initial.tickets.items;
  rooms : map (λ t. t.traffic.rooms) l.tickets.items ≡ map (λ t. t.traffic.rooms) l.initial.tickets.items;
  done : (j : ℕ) (d : _) → j < l.k → (get_or l.tickets.items j d).traffic.seats ≡ l.seats - 1;
  still : (j : ℕ) (d : _) → l.k ≤ j → j < length l.tickets.items → (get_or l.tickets.items j d).traffic.seats ≡ l.seats;
  ones : l.ones.items ≡ map (λ id. ticket id of_one) (take l.k l.self.queues);
  wide : length l.self.queues ≤ vec_capacity l.ones;
}

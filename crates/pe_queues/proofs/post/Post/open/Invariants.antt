use Rattle.std.proofs.Common.{◌≡◌, ◌≤◌, [], All, length, map, vec_capacity}
use Rattle.pe_queues.specs.Conservation.{all_traffic}
use Rattle.pe_queues.specs.Seats.{ticket}
use Rattle.pe_queues.proofs.post.Post.open.Given as goal

abbrev pub invariant-loop-i : goal.invariant-loop-i
invariant-loop-i g l = record {
  queues : length l.queues.items ≡ l._i;
  rooms : length l.rooms.items ≡ l._i;
  tickets : l.tickets.items ≡ map (λ q. ticket q.id all_traffic) l.queues.items;
  wide_queues : l.count ≤ vec_capacity l.queues;
  wide_tickets : l.count ≤ vec_capacity l.tickets;
  wide_rooms : l.count ≤ vec_capacity l.rooms;
  alike : All (λ q. q.capacity ≡ l.capacity) l.queues.items;
  empty : All (λ r. (r.items ≡ []) × (l.capacity ≤ vec_capacity r)) l.rooms.items;
}

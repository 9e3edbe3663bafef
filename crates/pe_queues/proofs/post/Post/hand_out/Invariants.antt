use Rattle.std.proofs.Common.{◌≡◌, ◌+◌, ◌≤◌, All, length, sum_by, vec_capacity}
use Rattle.chare_index.specs.declared.limits.TheConstants.Limits.{SEATS}
use Rattle.pe_queues.specs.Seats.{new_seat}
use Rattle.pe_queues.proofs.post.Post.hand_out.Given as goal

abbrev pub invariant-loop-n : goal.invariant-loop-n
invariant-loop-n g l = record {
  rest : l.rest ≡ new_seat l.self l.rest.seats;
  seats : l.rest.seats + l._n ≡ SEATS + 1;
  count : length l.given.items + 1 ≡ l._n;
  wide : l.seats ≤ vec_capacity l.given;
  fresh : All (λ s. s ≡ new_seat l.self s.seats) l.given.items;
  shared : sum_by (λ s. s.seats) l.given.items + 1 ≡ l._n;
}

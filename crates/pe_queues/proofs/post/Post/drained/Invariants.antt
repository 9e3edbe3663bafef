use Rattle.std.proofs.Common.{◌≡◌, ◌<◌, ◌≤◌, ℕ, length, get_or}
use Rattle.pe_queues.specs.Conservation.{Balances}
use Rattle.pe_queues.proofs.post.Post.drained.Given as goal

abbrev pub invariant-loop-k : goal.invariant-loop-k
invariant-loop-k g l = record {
  tickets : length l.tickets.items ≡ length l.initial.tickets.items;
  rooms : length l.left.items ≡ length l.initial.left.items;
  done : (j : ℕ) (d : _) → j < l.k → (e : _)
      → Balances (get_or l.initial.tickets.items j e).traffic.puts (get_or l.initial.tickets.items j e).traffic.takes (get_or l.left.items j d).items;
  few : (j : ℕ) (d : _) → j < l.k → length (get_or l.left.items j d).items ≤ l.fn.self.capacity;
  still : (j : ℕ) (d : _) → l.k ≤ j → get_or l.tickets.items j d ≡ get_or l.initial.tickets.items j d;
  empty : (j : ℕ) (d : _) → l.k ≤ j → get_or l.left.items j d ≡ get_or l.initial.left.items j d;
}

use Rattle.std.proofs.Common.{◌≡◌, ◌<◌, ◌≤◌, ℕ, length, get_or}
use Rattle.pe_queues.specs.Conservation.{IsShare}
use Rattle.pe_queues.proofs.Tickets.{both}
use Rattle.pe_queues.proofs.post.Post.joined.Given as goal

-- the tickets that are not popped yet are as they were, and so are those that they will be joined to
abbrev pub invariant-loop-other : goal.invariant-loop-other
invariant-loop-other g l = record {
  count : length l.tickets.items ≡ length l.initial.tickets.items;
  short : length l.others.items ≤ length l.initial.others.items;
  others : (j : ℕ) (d : _) → j < length l.others.items → get_or l.others.items j d ≡ get_or l.initial.others.items j d;
  still : (j : ℕ) (d : _) → j < length l.others.items → get_or l.tickets.items j d ≡ get_or l.initial.tickets.items j d;
  done : (j : ℕ) (d : _) → length l.others.items ≤ j → j < length l.initial.others.items → (e : _)
      → get_or l.tickets.items j d ≡ both (get_or l.initial.tickets.items j e) (get_or l.initial.others.items j e);
  share : (j : ℕ) (d : _) → length l.others.items ≤ j → j < length l.initial.others.items → IsShare (get_or l.tickets.items j d).traffic;
}

abbrev pub decreases-loop-other : goal.decreases-loop-other
decreases-loop-other g l = length l.others.items

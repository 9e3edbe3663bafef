use Rattle.std.proofs.Common.{◌≡◌, ◌+◌, ◌++◌, ◌≤◌, map}
use Rattle.std.specs.VecDeque.{deque_capacity, deque_len}
use Rattle.pe_state.specs.Reopening.{parcel_at}
use Rattle.pe_state.proofs.pe.reopening.put_left.Given as goal

abbrev pub invariant-loop-parcel : goal.invariant-loop-parcel
invariant-loop-parcel g l =
    (l.outbox.items ++ map (parcel_at l.me) l.left.items ≡ l.initial.outbox.items ++ map (parcel_at l.me) l.initial.left.items)
    × (deque_len l.outbox + deque_len l.left ≤ deque_capacity l.outbox)

abbrev pub decreases-loop-parcel : goal.decreases-loop-parcel
decreases-loop-parcel g l = deque_len l.left

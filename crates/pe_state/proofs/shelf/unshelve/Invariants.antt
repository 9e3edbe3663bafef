use Rattle.std.proofs.Common.{◌≡◌, ◌+◌, ◌++◌, ◌≤◌, map, not}
use Rattle.std.specs.List.{filter}
use Rattle.std.specs.VecDeque.{deque_len, deque_capacity}
use Rattle.pe_state.specs.Pes.{is_for, letter_at}
use Rattle.pe_state.proofs.shelf.unshelve.Given as goal

abbrev pub invariant-loop-letter : goal.invariant-loop-letter
invariant-loop-letter g l =
    (l.rest.items ++ filter (λ x. not (is_for l.index x)) l.shelf.items ≡ l.initial.rest.items ++ filter (λ x. not (is_for l.index x)) l.initial.shelf.items)
    × (l.outbox.items ++ map (letter_at l.me) (filter (is_for l.index) l.shelf.items) ≡ l.initial.outbox.items
    ++ map (letter_at l.me) (filter (is_for l.index) l.initial.shelf.items))
    × (deque_len l.rest + deque_len l.shelf ≤ deque_capacity l.rest)
    × (deque_len l.outbox + deque_len l.shelf ≤ deque_capacity l.outbox)

abbrev pub decreases-loop-letter : goal.decreases-loop-letter
decreases-loop-letter g l = deque_len l.shelf

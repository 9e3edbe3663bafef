use Rattle.std.proofs.Common.{◌≡◌, ◌≤◌, ◌++◌, ◌∷◌, ◌∙◌, [], length, map, vec_capacity, ap, sym, refl, arith, rules}
use Rattle.std.proofs.lemmas.List.{map-append, length-map}
use Rattle.std.proofs.lemmas.List.Elements.{All-push, All-map}
use Rattle.pe_queues.specs.Conservation.{all_traffic}
use Rattle.pe_queues.specs.Seats.{ticket}
use Rattle.pe_queues.proofs.Tickets.{seat_fresh}
use Rattle.pe_queues.proofs.post.Post.open.Goals as goal

pub loop-i-preserved : goal.loop-i-preserved
loop-i-preserved g c =
    let i = c.loop-i.invariant in
    record {
      queues = search rules;
      rooms = search rules;
      tickets = c.push_reserved-in-loop-i.ensures.items ∙ (λ j. i.tickets j ++ c.in_ok-queue.ensures.ticket j ∷ [])
          ∙ sym (map-append (λ q. ticket q.id all_traffic) c.loop-i.queues.items (c.in_ok-queue.queue ∷ []))
          ∙ ap (map (λ q. ticket q.id all_traffic)) (sym c.push_reserved.ensures.items);
      wide_queues = search rules;
      wide_tickets = search rules;
      wide_rooms = search rules;
      alike = rw c.push_reserved.ensures.items (All-push (λ q. q.capacity ≡ c.args.capacity) c.loop-i.queues.items c.in_ok-queue.queue i.alike c.in_ok-queue.ensures.capacity);
      empty = rw c.push_reserved-in-loop-i-2.ensures.items
          (All-push (λ r. (r.items ≡ []) × (c.args.capacity ≤ vec_capacity r)) c.loop-i.rooms.items c.in_ok-room.room i.empty
          (c.in_ok-room.ensures.items, c.in_ok-room.ensures.capacity));
    }

pub invariant_of-seat : goal.invariant_of-seat
invariant_of-seat g c =
    let i = c.loop-i.invariant in
    let n = ap length i.tickets ∙ length-map c.loop-i.queues.items (λ q. ticket q.id all_traffic) in
    let rooms = i.rooms in
    let queues = i.queues in
    record {
      some = omega arith;
      few = omega arith;
      each = rw i.tickets (All-map (λ t. t.traffic.seats ≡ 256) (λ q. ticket q.id all_traffic) c.loop-i.queues.items (λ j d lt. refl));
      wide = record { one_each = omega arith; each = i.empty };
    }

pub invariant_of-result : goal.invariant_of-result
invariant_of-result g c =
    let i = c.loop-i.invariant in
    let all : c.loop-i._i ≡ c.args.count = search rules in
    let queues = i.queues in
    let some = c.requires.some in
    let few = c.requires.few in
    record { some = omega arith; few = omega arith; wide = c.requires.wide; alike = i.alike }

pub returns-clause-all : goal.returns-clause-all
returns-clause-all g c = rw c.loop-i.invariant.tickets (seat_fresh (λ q. q.id) c.args.capacity 256 all_traffic c.loop-i.queues.items refl refl)

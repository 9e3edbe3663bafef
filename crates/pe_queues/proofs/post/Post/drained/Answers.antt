use Rattle.std.proofs.Common.{◌≡◌, ◌<◌, ◌≤◌, ◌∙◌, ap, sym, length, get_or, arith, rules}
use Rattle.std.proofs.lemmas.List.{length-set, get_or-set_other}
use Rattle.chare_index.specs.declared.limits.TheConstants.Limits.{SEATS}
use Rattle.pe_queues.specs.Conservation.{Balances}
use Rattle.pe_queues.specs.Seats.{TicketView}
use Rattle.pe_queues.proofs.Lists.{below_more}
use Rattle.pe_queues.proofs.Tickets.{same_count, own_queue, rooms_there, balance_here, balance_there, tickets_of_post}
use Rattle.pe_queues.proofs.post.Post.drained.Goals as goal

pub drain-requires-clause-own : goal.drain-requires-clause-own
drain-requires-clause-own g c =
    let i = c.loop-k.invariant in
    let same = ap (λ s. s.post.queues) c.seat.view_is ∙ ap (λ p. p.queues) c.requires.own ∙ sym (ap (λ p. p.queues) c.self.view_is) in
    let at = c.index_mut.ensures.value ∙ i.still c.loop-k.k _ (omega arith) in
    own_queue c.seat.inside.tickets.items c.self.inside.queues.items c.loop-k.k _ _ same (search rules) at c.index.ensures

pub drain-requires-clause-all : goal.drain-requires-clause-all
drain-requires-clause-all g c =
    let i = c.loop-k.invariant in
    let same = ap (λ s. s.post.queues) c.seat.view_is ∙ ap (λ p. p.queues) c.requires.own ∙ sym (ap (λ p. p.queues) c.self.view_is) in
    let n = same_count c.seat.inside.tickets.items c.self.inside.queues.items same in
    let lt : c.loop-k.k < length c.self.inside.queues.items = search rules in
    let at = c.index_mut.ensures.value ∙ i.still c.loop-k.k _ (omega arith) in
    let all : c.seat.inside.seats ≡ SEATS = search rules in
    ap (λ t. t.traffic.seats) at ∙ c.seat.invariant.each c.loop-k.k c.index_mut.result.now (omega arith) ∙ all

pub drain-requires-clause-empty : goal.drain-requires-clause-empty
drain-requires-clause-empty g c =
    let i = c.loop-k.invariant in
    let same = ap (λ s. s.post.queues) c.seat.view_is ∙ ap (λ p. p.queues) c.requires.own ∙ sym (ap (λ p. p.queues) c.self.view_is) in
    let n = same_count c.seat.inside.tickets.items c.self.inside.queues.items same in
    let lt : c.loop-k.k < length c.self.inside.queues.items = search rules in
    let rooms = rooms_there c.seat.inside.capacity c.seat.inside.seats c.seat.inside.tickets.items c.seat.inside.rooms c.in-Some.left c.in-Some.is c.seat.invariant in
    let m = rooms.one_each in
    let at = c.index_mut-in-loop-k.ensures.value ∙ i.empty c.loop-k.k _ (omega arith) in
    ap (λ r. r.items) at ∙ (rooms.each c.loop-k.k c.index_mut-in-loop-k.result.now (omega arith)).0

pub drain-requires-clause-wide : goal.drain-requires-clause-wide
drain-requires-clause-wide g c =
    let i = c.loop-k.invariant in
    let same = ap (λ s. s.post.queues) c.seat.view_is ∙ ap (λ p. p.queues) c.requires.own ∙ sym (ap (λ p. p.queues) c.self.view_is) in
    let n = same_count c.seat.inside.tickets.items c.self.inside.queues.items same in
    let lt : c.loop-k.k < length c.self.inside.queues.items = search rules in
    let rooms = rooms_there c.seat.inside.capacity c.seat.inside.seats c.seat.inside.tickets.items c.seat.inside.rooms c.in-Some.left c.in-Some.is c.seat.invariant in
    let m = rooms.one_each in
    let at = c.index_mut-in-loop-k.ensures.value ∙ i.empty c.loop-k.k _ (omega arith) in
    let capacity = ap (λ q. q.capacity) c.index.ensures ∙ c.self.invariant.alike c.loop-k.k c.index.result.now lt in
    let room = ap (λ s. s.post.capacity) c.seat.view_is ∙ ap (λ p. p.capacity) c.requires.own ∙ sym (ap (λ p. p.capacity) c.self.view_is) in
    let wide = (rooms.each c.loop-k.k c.index_mut-in-loop-k.result.now (omega arith)).1 in
    rw at (omega arith)

pub loop-k-preserved : goal.loop-k-preserved
loop-k-preserved g c =
    let i = c.loop-k.invariant in
    let k = c.loop-k.k in
    let ts = c.seat.inside.tickets.items in
    let same = ap (λ s. s.post.queues) c.seat.view_is ∙ ap (λ p. p.queues) c.requires.own ∙ sym (ap (λ p. p.queues) c.self.view_is) in
    let n = same_count ts c.self.inside.queues.items same in
    let lt : k < length c.self.inside.queues.items = search rules in
    let rooms = rooms_there c.seat.inside.capacity c.seat.inside.seats ts c.seat.inside.rooms c.in-Some.left c.in-Some.is c.seat.invariant in
    let m = rooms.one_each in
    let l = i.rooms in
    let at = c.index_mut.ensures.value ∙ i.still k _ (omega arith) in
    let capacity = ap (λ q. q.capacity) c.index.ensures ∙ c.self.invariant.alike k c.index.result.now lt in
    record {
      tickets = length-set c.loop-k.tickets.items k c.drain.new.mine ∙ i.tickets;
      rooms = length-set c.loop-k.left.items k c.drain.new.room ∙ i.rooms;
      done = below_more (λ j r. (e : TicketView _) → Balances (get_or ts j e).traffic.puts (get_or ts j e).traffic.takes r.items)
          c.loop-k.left.items k c.drain.new.room (omega arith) i.done
          (balance_here ts k c.index_mut.result.now c.drain.new.room.items (omega arith) at c.drain.ensures.balanced);
      few = below_more (λ j r. length r.items ≤ c.args.self.capacity) c.loop-k.left.items k c.drain.new.room (omega arith) i.few
          (let f = c.drain.ensures.few in let s = ap (λ p. p.capacity) c.self.view_is in omega arith);
      still = λ j d from. get_or-set_other c.loop-k.tickets.items k j c.drain.new.mine d (λ e. absurd (omega arith)) ∙ i.still j d (omega arith);
      empty = λ j d from. get_or-set_other c.loop-k.left.items k j c.drain.new.room d (λ e. absurd (omega arith)) ∙ i.empty j d (omega arith);
    }

pub returns : goal.returns
returns g c =
    let i = c.loop-k.invariant in
    let ts = c.seat.inside.tickets.items in
    let ids = ap (λ p. p.queues) c.self.view_is in
    let own = ap (λ s. s.post.queues) c.seat.view_is in
    let same = own ∙ ap (λ p. p.queues) c.requires.own ∙ sym ids in
    let n = same_count ts c.self.inside.queues.items same in
    let rooms = rooms_there c.seat.inside.capacity c.seat.inside.seats ts c.seat.inside.rooms c.in-Some.left c.in-Some.is c.seat.invariant in
    let m = rooms.one_each in
    let l = i.rooms in
    let over : length c.self.inside.queues.items ≤ c.loop-k.k = search rules in
    let pes = tickets_of_post ts c.args.seat.post.queues own in
    record {
      left = record {
        one_each = omega arith;
        balance = λ pe d lt. rw (← c.seat.view_is) (balance_there c.seat.inside.capacity c.seat.inside.seats ts pe
            (get_or c.loop-k.left.items pe d).items (omega arith) (i.done pe d (omega arith)));
      };
      few = λ pe d lt. i.few pe d (omega arith);
    }

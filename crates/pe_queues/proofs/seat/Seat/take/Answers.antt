use Rattle.std.proofs.Common.{◌∙◌, ap, arith}
use Rattle.pe_queues.proofs.Tickets.{inside_tickets, ticket_queue, pop_told, if_some, if_none, on_none, all_held, pop_kept}
use Rattle.pe_queues.proofs.seat.Seat.take.Goals as goal

pub pop-requires-clause-own : goal.pop-requires-clause-own
pop-requires-clause-own g c =
    let here = inside_tickets c.self.inside.tickets.items c.args.self.now.post.queues c.get-k.result
    (ap (λ s. s.post.queues) c.self.view_is) (rw c.get-k.ensures.value c.requires.known) in
    ticket_queue c.self.inside.tickets.items c.args.self.now.post.queues c.get-k.result c.args.pe c.index_mut.result.now c.args.queue.now.id
    (ap (λ s. s.post.queues) c.self.view_is) c.get-k.ensures.value here c.index_mut.ensures.value c.requires.own

pub returns-clause-some : goal.returns-clause-some
returns-clause-some g c =
    let here = inside_tickets c.self.inside.tickets.items c.args.self.now.post.queues c.get-k.result
    (ap (λ s. s.post.queues) c.self.view_is) (rw c.get-k.ensures.value c.requires.known) in
    let seats = ap (λ t. t.traffic.seats) c.index_mut.ensures.value ∙ c.self.invariant.each c.get-k.result c.index_mut.result.now here in
    if_some _ _ c.pop.result (pop_told c.pop.result c.args.self.now c.self.inside.capacity c.self.inside.seats c.self.inside.tickets.items
    c.get-k.result c.args.pe _ _ c.self.view_is c.get-k.ensures.value here c.index_mut.ensures.value seats c.pop.ensures.answer)

pub returns-clause-empty : goal.returns-clause-empty
returns-clause-empty g c =
    let here = inside_tickets c.self.inside.tickets.items c.args.self.now.post.queues c.get-k.result
    (ap (λ s. s.post.queues) c.self.view_is) (rw c.get-k.ensures.value c.requires.known) in
    let seats = ap (λ t. t.traffic.seats) c.index_mut.ensures.value ∙ c.self.invariant.each c.get-k.result c.index_mut.result.now here in
    if_none _ _ c.pop.result (pop_told c.pop.result c.args.self.now c.self.inside.capacity c.self.inside.seats c.self.inside.tickets.items
    c.get-k.result c.args.pe _ _ c.self.view_is c.get-k.ensures.value here c.index_mut.ensures.value seats c.pop.ensures.answer) (λ held. held)

pub returns-clause-all_empty : goal.returns-clause-all_empty
returns-clause-all_empty g c =
    on_none _ c.pop.result (returns-clause-empty g c) (λ held all. let n = all_held c.args.self.now c.args.pe 0 held all in omega arith)

pub returns-clause-kept : goal.returns-clause-kept
returns-clause-kept g c = pop_kept c.pop.result c.args.self.now c.self.inside.capacity c.self.inside.seats c.self.inside.tickets.items
    c.get-k.result c.index_mut.result.now c.pop.new.mine c.self.view_is c.index_mut.ensures.value c.pop.ensures.answer

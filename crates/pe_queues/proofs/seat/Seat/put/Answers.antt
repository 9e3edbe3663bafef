use Rattle.std.proofs.Common.{◌∙◌, ap, refl}
use Rattle.pe_queues.proofs.Tickets.{inside_tickets, ticket_queue, push_told, if_ok, if_err, on_err, all_held, push_kept}
use Rattle.pe_queues.proofs.seat.Seat.put.Goals as goal

pub push-requires-clause-own : goal.push-requires-clause-own
push-requires-clause-own g c =
    let here = inside_tickets c.self.inside.tickets.items c.args.self.now.post.queues c.get-k.result
    (ap (λ s. s.post.queues) c.self.view_is) (rw c.get-k.ensures.value c.requires.known) in
    ticket_queue c.self.inside.tickets.items c.args.self.now.post.queues c.get-k.result c.args.pe c.index_mut.result.now c.args.queue.now.id
    (ap (λ s. s.post.queues) c.self.view_is) c.get-k.ensures.value here c.index_mut.ensures.value c.requires.own

pub returns-clause-ok : goal.returns-clause-ok
returns-clause-ok g c =
    let here = inside_tickets c.self.inside.tickets.items c.args.self.now.post.queues c.get-k.result
    (ap (λ s. s.post.queues) c.self.view_is) (rw c.get-k.ensures.value c.requires.known) in
    let seats = ap (λ t. t.traffic.seats) c.index_mut.ensures.value ∙ c.self.invariant.each c.get-k.result c.index_mut.result.now here in
    if_ok _ _ c.push.result (push_told c.push.result c.args.self.now c.self.inside.capacity c.self.inside.seats c.self.inside.tickets.items
    c.get-k.result c.args.pe _ _ c.args.value _ _ c.self.view_is c.get-k.ensures.value here c.index_mut.ensures.value seats refl c.push.ensures.answer)

pub returns-clause-full : goal.returns-clause-full
returns-clause-full g c =
    let here = inside_tickets c.self.inside.tickets.items c.args.self.now.post.queues c.get-k.result
    (ap (λ s. s.post.queues) c.self.view_is) (rw c.get-k.ensures.value c.requires.known) in
    let seats = ap (λ t. t.traffic.seats) c.index_mut.ensures.value ∙ c.self.invariant.each c.get-k.result c.index_mut.result.now here in
    if_err _ _ c.push.result (push_told c.push.result c.args.self.now c.self.inside.capacity c.self.inside.seats c.self.inside.tickets.items
    c.get-k.result c.args.pe _ _ c.args.value _ _ c.self.view_is c.get-k.ensures.value here c.index_mut.ensures.value seats refl
    c.push.ensures.answer) (λ _ held. held)

pub returns-clause-all_full : goal.returns-clause-all_full
returns-clause-all_full g c =
    on_err _ c.push.result (returns-clause-full g c) (all_held c.args.self.now c.args.pe c.args.queue.now.capacity)

pub returns-clause-kept : goal.returns-clause-kept
returns-clause-kept g c = push_kept c.push.result c.args.self.now c.self.inside.capacity c.self.inside.seats c.self.inside.tickets.items
    c.get-k.result c.index_mut.result.now c.push.new.mine c.args.value _ c.self.view_is c.index_mut.ensures.value c.push.ensures.answer

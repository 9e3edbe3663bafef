use Rattle.std.proofs.Common.{◌≡◌, ◌<◌, ◌≤◌, ◌-◌, ◌∙◌, ap, sym, refl, length, map, get_or, take, arith, rules, map-id}
use Rattle.std.proofs.lemmas.List.{length-set, length-map, get_or-set_other, get_or-map, take_all}
use Rattle.std.proofs.lemmas.List.Elements.{All-map}
use Rattle.std.proofs.Math.Seq.{map-set_same}
use Rattle.pe_queues.specs.Conservation.{of_one}
use Rattle.pe_queues.specs.Seats.{ticket, seat_of, new_seat}
use Rattle.pe_queues.proofs.Lists.{below_more}
use Rattle.pe_queues.proofs.Tickets.{same_count, same_counts, own_queue, ticket_more, seat_fresh, rooms_kept}
use Rattle.pe_queues.proofs.post.Post.split.Goals as goal

pub split-requires-clause-own : goal.split-requires-clause-own
split-requires-clause-own g c =
    let i = c.loop-k.invariant in
    let ids = sym (ap (λ p. p.queues) c.self.view_is) in
    let same = i.queues ∙ ap (λ s. s.post.queues) c.seat.view_is ∙ ap (λ p. p.queues) c.requires.own ∙ ids in
    own_queue c.loop-k.tickets.items c.self.inside.queues.items c.loop-k.k _ _ same (search rules) c.index_mut.ensures.value c.index.ensures

pub split-requires-clause-seated : goal.split-requires-clause-seated
split-requires-clause-seated g c =
    let i = c.loop-k.invariant in
    let ids = sym (ap (λ p. p.queues) c.self.view_is) in
    let n = same_count c.loop-k.tickets.items c.self.inside.queues.items (i.queues ∙ ap (λ s. s.post.queues) c.seat.view_is ∙ ap (λ p. p.queues) c.requires.own ∙ ids) in
    let lt : c.loop-k.k < length c.self.inside.queues.items = search rules in
    let seats = ap (λ t. t.traffic.seats) c.index_mut.ensures.value ∙ i.still c.loop-k.k c.index_mut.result.now (omega arith) (omega arith) in
    let all = ap (λ s. s.seats) c.seat.view_is in
    let more = c.requires.more in
    omega arith

pub loop-k-preserved : goal.loop-k-preserved
loop-k-preserved g c =
    let i = c.loop-k.invariant in
    let k = c.loop-k.k in
    let ts = c.loop-k.tickets.items in
    let qs = c.self.inside.queues.items in
    let old = c.index_mut.result.now in
    let new = c.split.new.mine in
    let at = c.index_mut.ensures.value in
    let left = c.split.ensures.left in
    let ids = ap (λ p. p.queues) c.self.view_is in
    let n = same_count ts qs (i.queues ∙ ap (λ s. s.post.queues) c.seat.view_is ∙ ap (λ p. p.queues) c.requires.own ∙ sym ids) in
    let lt : k < length qs = search rules in
    let here : k < length ts = omega arith in
    let long = length-set ts k new in
    let m : length c.args.self.now.queues ≡ length qs = ap length (sym ids) ∙ length-map qs (λ q. q.id) in
    let id = ap (λ q. q.id) c.index.ensures ∙ sym (get_or-map (λ q. q.id) qs k c.index.result.now c.index.result.now.id lt) ∙ ap (λ l. get_or l k c.index.result.now.id) ids in
    record {
      queues = map-set_same (λ t. t.queue) ts k new old (ap (λ t. t.queue) left ∙ ap (λ t. t.queue) at) ∙ i.queues;
      puts = map-set_same (λ t. t.traffic.puts) ts k new old (ap (λ t. t.traffic.puts) left ∙ ap (λ t. t.traffic.puts) at) ∙ i.puts;
      takes = map-set_same (λ t. t.traffic.takes) ts k new old (ap (λ t. t.traffic.takes) left ∙ ap (λ t. t.traffic.takes) at) ∙ i.takes;
      rooms = map-set_same (λ t. t.traffic.rooms) ts k new old (ap (λ t. t.traffic.rooms) left ∙ ap (λ t. t.traffic.rooms) at) ∙ i.rooms;
      done = below_more (λ j t. t.traffic.seats ≡ c.seat.inside.seats - 1) ts k new here i.done
          (ap (λ t. t.traffic.seats) left ∙ ap (λ s. s - 1) (ap (λ t. t.traffic.seats) at ∙ i.still k old (omega arith) here));
      still = λ j d from below. ap (λ t. t.traffic.seats) (get_or-set_other ts k j new d (λ e. absurd (omega arith))) ∙ i.still j d (omega arith) (omega arith);
      ones = c.push_reserved.ensures.items ∙ ticket_more c.args.self.now.queues k c.index.result.now.id c.loop-k.ones.items c.split.result
          of_one (omega arith) id i.ones c.split.ensures.right;
      wide = search rules;
    }

pub invariant_of-left : goal.invariant_of-left
invariant_of-left g c =
    let i = c.loop-k.invariant in
    let ts = c.loop-k.tickets.items in
    let qs = c.self.inside.queues.items in
    let n = same_count ts qs (i.queues ∙ ap (λ s. s.post.queues) c.seat.view_is ∙ ap (λ p. p.queues) c.requires.own ∙ sym (ap (λ p. p.queues) c.self.view_is)) in
    let over : length qs ≤ c.loop-k.k = search rules in
    let all = ap (λ s. s.seats) c.seat.view_is in
    let more = c.requires.more in
    let few = c.seat.invariant.few in
    record {
      some = omega arith;
      few = omega arith;
      each = λ j d lt. i.done j d (omega arith);
      wide = rooms_kept c.seat.inside.capacity c.seat.inside.seats (c.seat.inside.seats - 1) c.seat.inside.tickets.items ts
          c.seat.inside.rooms i.rooms (same_counts ts c.seat.inside.tickets.items i.queues) (λ e. absurd (omega arith)) c.seat.invariant.wide;
    }

pub invariant_of-one : goal.invariant_of-one
invariant_of-one g c =
    let i = c.loop-k.invariant in
    let ids = take c.loop-k.k c.args.self.now.queues in
    record {
      some = omega arith;
      few = omega arith;
      each = rw i.ones (All-map (λ t. t.traffic.seats ≡ 1) (λ id. ticket id of_one) ids (λ j d lt. refl));
      wide = ((λ e. absurd (omega arith)), rw i.ones (All-map (λ t. t.traffic.rooms ≡ 0) (λ id. ticket id of_one) ids (λ j d lt. refl)));
    }

pub returns-clause-one : goal.returns-clause-one
returns-clause-one g c =
    let i = c.loop-k.invariant in
    let ids = c.args.self.now.queues in
    let capacity = c.seat.inside.capacity in
    let qs = c.self.inside.queues.items in
    let over : length qs ≤ c.loop-k.k = search rules in
    let m : length ids ≡ length qs = ap length (sym (ap (λ p. p.queues) c.self.view_is)) ∙ length-map qs (λ q. q.id) in
    let room = ap (λ s. s.post.capacity) c.seat.view_is ∙ ap (λ p. p.capacity) c.requires.own in
    let same = map-id ids in
    rw i.ones (ap (λ l. seat_of capacity 1 (map (λ id. ticket id of_one) l)) (take_all c.loop-k.k ids (omega arith))
    ∙ seat_fresh (λ id. id) capacity 1 of_one ids refl refl ∙ (λ j. new_seat (record { queues = same j; capacity = room j }) 1))

use Rattle.std.proofs.Common.{◌≡◌, ◌<◌, ◌∙◌, ap, sym, length, get_or, arith, rules}
use Rattle.std.proofs.lemmas.List.{length-set, get_or-set_other}
use Rattle.pe_queues.specs.Conservation.{IsShare}
use Rattle.pe_queues.specs.Seats.{TicketView, joined}
use Rattle.pe_queues.proofs.Lists.{popped, above_more}
use Rattle.pe_queues.proofs.Tickets.{both, same_count, own_queue, joined_here, seats_joined, seat_joined}
use Rattle.pe_queues.proofs.post.Post.joined.Goals as goal

pub join-requires-clause-own : goal.join-requires-clause-own
join-requires-clause-own g c =
    let i = c.loop-other.invariant in
    let p = popped c.second.inside.tickets.items c.loop-other.others.items c.pop.new.self.items c.in-Some.other c.len-k.result i.others c.in-Some.ensures.items (search rules) in
    let ids = sym (ap (λ p. p.queues) c.self.view_is) in
    let first = ap (λ s. s.post.queues) c.first.view_is ∙ ap (λ p. p.queues) c.requires.own ∙ ids in
    let n = same_count c.first.inside.tickets.items c.self.inside.queues.items first in
    let m = same_count c.second.inside.tickets.items c.self.inside.queues.items (ap (λ s. s.post.queues) c.second.view_is ∙ ap (λ p. p.queues) c.requires.others ∙ ids) in
    let long = p.long in
    let short = i.short in
    own_queue c.first.inside.tickets.items c.self.inside.queues.items c.len-k.result c.index_mut.result.now c.index.result.now first
    (omega arith) (c.index_mut.ensures.value ∙ i.still c.len-k.result _ (omega arith)) c.index.ensures

pub join-requires-clause-others : goal.join-requires-clause-others
join-requires-clause-others g c =
    let i = c.loop-other.invariant in
    let p = popped c.second.inside.tickets.items c.loop-other.others.items c.pop.new.self.items c.in-Some.other c.len-k.result i.others c.in-Some.ensures.items (search rules) in
    let second = ap (λ s. s.post.queues) c.second.view_is ∙ ap (λ p. p.queues) c.requires.others ∙ sym (ap (λ p. p.queues) c.self.view_is) in
    let m = same_count c.second.inside.tickets.items c.self.inside.queues.items second in
    let long = p.long in
    let short = i.short in
    own_queue c.second.inside.tickets.items c.self.inside.queues.items c.len-k.result c.in-Some.other c.index.result.now second (omega arith) (p.at _) c.index.ensures

pub join-requires-clause-seated : goal.join-requires-clause-seated
join-requires-clause-seated g c =
    let i = c.loop-other.invariant in
    let p = popped c.second.inside.tickets.items c.loop-other.others.items c.pop.new.self.items c.in-Some.other c.len-k.result i.others c.in-Some.ensures.items (search rules) in
    let ids = sym (ap (λ p. p.queues) c.self.view_is) in
    let n = same_count c.first.inside.tickets.items c.self.inside.queues.items (ap (λ s. s.post.queues) c.first.view_is ∙ ap (λ p. p.queues) c.requires.own ∙ ids) in
    let m = same_count c.second.inside.tickets.items c.self.inside.queues.items (ap (λ s. s.post.queues) c.second.view_is ∙ ap (λ p. p.queues) c.requires.others ∙ ids) in
    let long = p.long in
    let short = i.short in
    let at = c.index_mut.ensures.value ∙ i.still c.len-k.result _ (omega arith) in
    let seats = ap (λ t. t.traffic.seats) at ∙ c.first.invariant.each c.len-k.result c.index_mut.result.now (omega arith) in
    rw seats c.first.invariant.some

pub loop-other-preserved : goal.loop-other-preserved
loop-other-preserved g c =
    let i = c.loop-other.invariant in
    let k = c.len-k.result in
    let as' = c.first.inside.tickets.items in
    let bs = c.second.inside.tickets.items in
    let ek : k ≡ length c.pop.new.self.items = search rules in
    let p = popped bs c.loop-other.others.items c.pop.new.self.items c.in-Some.other k i.others c.in-Some.ensures.items ek in
    let ids = sym (ap (λ p. p.queues) c.self.view_is) in
    let n = same_count as' c.self.inside.queues.items (ap (λ s. s.post.queues) c.first.view_is ∙ ap (λ p. p.queues) c.requires.own ∙ ids) in
    let m = same_count bs c.self.inside.queues.items (ap (λ s. s.post.queues) c.second.view_is ∙ ap (λ p. p.queues) c.requires.others ∙ ids) in
    let long = p.long in
    let short = i.short in
    let count = i.count in
    let at = c.index_mut.ensures.value ∙ i.still k _ (omega arith) in
    let here : k < length c.loop-other.tickets.items = omega arith in
    let new = joined_here as' bs k c.index_mut.result.now c.in-Some.other c.join.new.mine (omega arith) (omega arith) at (p.at _) c.join.ensures.both in
    record {
      count = length-set c.loop-other.tickets.items k c.join.new.mine ∙ i.count;
      short = omega arith;
      others = p.left;
      still = λ j d lt. get_or-set_other c.loop-other.tickets.items k j c.join.new.mine d (λ e. absurd (omega arith)) ∙ i.still j d (omega arith);
      done = λ j d from below.
          above_more (λ j t. (e : TicketView _) → t ≡ both (get_or as' j e) (get_or bs j e)) c.loop-other.tickets.items k (length bs)
          c.join.new.mine here (λ j d from below. i.done j d (omega arith) below) new j d (omega arith) below;
      share = λ j d from below.
          above_more (λ j t. IsShare t.traffic) c.loop-other.tickets.items k (length bs) c.join.new.mine here
          (λ j d from below. i.share j d (omega arith) below) c.join.ensures.share j d (omega arith) below;
    }

pub invariant_of-result : goal.invariant_of-result
invariant_of-result g c =
    let i = c.loop-other.invariant in
    let as' = c.first.inside.tickets.items in
    let bs = c.second.inside.tickets.items in
    let ids = sym (ap (λ p. p.queues) c.self.view_is) in
    let n = same_count as' c.self.inside.queues.items (ap (λ s. s.post.queues) c.first.view_is ∙ ap (λ p. p.queues) c.requires.own ∙ ids) in
    let m = same_count bs c.self.inside.queues.items (ap (λ s. s.post.queues) c.second.view_is ∙ ap (λ p. p.queues) c.requires.others ∙ ids) in
    let some = c.self.invariant.some in
    let count = i.count in
    let over : length c.loop-other.others.items ≡ 0 = search rules in
    let room = ap (λ s. s.post.capacity) c.second.view_is ∙ ap (λ p. p.capacity) c.requires.others
    ∙ sym (ap (λ p. p.capacity) c.requires.own) ∙ sym (ap (λ s. s.post.capacity) c.first.view_is) in
    rw c.or.ensures (seat_joined _ _ _ _ c.loop-other.tickets.items as' bs c.first.inside.rooms c.second.inside.rooms (omega arith) count
    (omega arith) room (λ j d e lt. i.done j d (omega arith) (omega arith) e) (λ j d lt. i.share j d (omega arith) (omega arith))
    c.first.invariant c.second.invariant)

pub returns : goal.returns
returns g c =
    let i = c.loop-other.invariant in
    let as' = c.first.inside.tickets.items in
    let bs = c.second.inside.tickets.items in
    let ids = sym (ap (λ p. p.queues) c.self.view_is) in
    let n = same_count as' c.self.inside.queues.items (ap (λ s. s.post.queues) c.first.view_is ∙ ap (λ p. p.queues) c.requires.own ∙ ids) in
    let m = same_count bs c.self.inside.queues.items (ap (λ s. s.post.queues) c.second.view_is ∙ ap (λ p. p.queues) c.requires.others ∙ ids) in
    let over : length c.loop-other.others.items ≡ 0 = search rules in
    let a = c.first.view_is in
    let b = c.second.view_is in
    record {
      both = seats_joined c.first.inside.capacity c.second.inside.capacity c.first.inside.seats c.second.inside.seats
          c.loop-other.tickets.items as' bs i.count (omega arith) (λ j d e lt. i.done j d (omega arith) (omega arith) e) ∙ (λ i. joined (a i) (b i));
    }

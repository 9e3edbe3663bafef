use Rattle.std.proofs.Common.{◌≡◌, ◌∙◌, ◌<◌, [], arith, ap, length, map, rules, subst, sym}
use Rattle.std.specs.Prelude.{All}
use Rattle.std.proofs.lemmas.List.Elements.{All-head, All-tail}
use Rattle.pe_state.specs.Histories.{HasHistories, IsParcelHistory}
use Rattle.carried_runs.proofs.Again.{reopens_all, reopens_more, reopens_none}
use Rattle.carried_runs.proofs.reopening.reopen_all.Goals as goal

pub loop-end-init : goal.loop-end-init
loop-end-init g c =
    let none : c.in_ok-states.states.items ≡ [] = search rules in
    let ends : c.from_vec-ends.result.items ≡ c.args.ends.items = search rules in
    let left : c.from_vec-left.result.items ≡ c.args.left.items = search rules in
    record {
      made = reopens_none c.args.pes c.in_ok-states.states.items c.from_vec-ends.result.items c.args.ends.items
          (map (λ q. q.items) c.from_vec-left.result.items) (map (λ q. q.items) c.args.left.items) none ends (ap (map (λ q. q.items)) left);
      members = subst (All (λ pe. pe.me < c.args.pes)) (sym ends) c.requires.members;
      histories = subst (All (HasHistories g.C.Chare.step g.C.Pup.fits g.C.Pup.pack g.H.Openings.opened)) (sym ends) c.requires.histories;
      queues = subst (All (λ queue. All (IsParcelHistory g.C.Chare.step g.C.Pup.fits g.C.Pup.pack g.H.Openings.opened) queue.items)) (sym left) c.requires.queues;
      one_each = ap length ends ∙ (c.requires.one_each ∙ ap length (sym left));
    }

pub reopen-requires-clause-member : goal.reopen-requires-clause-member
reopen-requires-clause-member g c =
    All-head (λ pe. pe.me < c.args.pes) c.in-Some.end c.take_next.new.left.items (subst (All (λ pe. pe.me < c.args.pes)) c.in-Some.ensures.taken c.loop-end.invariant.members)

pub reopen-requires-clause-few : goal.reopen-requires-clause-few
reopen-requires-clause-few g c =
    let h = All-head (HasHistories g.C.Chare.step g.C.Pup.fits g.C.Pup.pack g.H.Openings.opened) c.in-Some.end c.take_next.new.left.items
    (subst (All (HasHistories g.C.Chare.step g.C.Pup.fits g.C.Pup.pack g.H.Openings.opened)) c.in-Some.ensures.taken c.loop-end.invariant.histories) in
    omega (arith, h.same_array, c.requires.few)

pub reopen-requires-clause-histories : goal.reopen-requires-clause-histories
reopen-requires-clause-histories g c =
    All-head (HasHistories g.C.Chare.step g.C.Pup.fits g.C.Pup.pack g.H.Openings.opened) c.in-Some.end c.take_next.new.left.items
    (subst (All (HasHistories g.C.Chare.step g.C.Pup.fits g.C.Pup.pack g.H.Openings.opened)) c.in-Some.ensures.taken c.loop-end.invariant.histories)

pub reopen-requires-clause-left : goal.reopen-requires-clause-left
reopen-requires-clause-left g c =
    All-head (λ queue. All (IsParcelHistory g.C.Chare.step g.C.Pup.fits g.C.Pup.pack g.H.Openings.opened) queue.items)
    c.in-Some-take_next.queue c.take_next-in-Some.new.left.items
    (subst (All (λ queue. All (IsParcelHistory g.C.Chare.step g.C.Pup.fits g.C.Pup.pack g.H.Openings.opened) queue.items))
    c.in-Some-take_next.ensures.taken c.loop-end.invariant.queues)

pub loop-end-preserved : goal.loop-end-preserved
loop-end-preserved g c =
    let i = c.loop-end.invariant in
    let ends = c.in-Some.ensures.taken in
    let left = c.in-Some-take_next.ensures.taken in
    record {
      made = reopens_more c.args.pes c.loop-end.states.items c.push.new.self.items c.loop-end.ends.items c.take_next.new.left.items _
          (map (λ q. q.items) c.loop-end.left.items) (map (λ q. q.items) c.take_next-in-Some.new.left.items) c.in-Some.end
          c.in_ok-reopen.field-0 c.in-Some-take_next.queue.items c.in_ok-push.ensures.items c.in_ok-reopen.ensures.value ends
          (ap (map (λ q. q.items)) left) i.made;
      members = All-tail (λ pe. pe.me < c.args.pes) c.in-Some.end c.take_next.new.left.items (subst (All (λ pe. pe.me < c.args.pes)) ends i.members);
      histories = All-tail (HasHistories g.C.Chare.step g.C.Pup.fits g.C.Pup.pack g.H.Openings.opened) c.in-Some.end
          c.take_next.new.left.items (subst (All (HasHistories g.C.Chare.step g.C.Pup.fits g.C.Pup.pack g.H.Openings.opened)) ends i.histories);
      queues = All-tail (λ queue. All (IsParcelHistory g.C.Chare.step g.C.Pup.fits g.C.Pup.pack g.H.Openings.opened) queue.items)
          c.in-Some-take_next.queue c.take_next-in-Some.new.left.items
          (subst (All (λ queue. All (IsParcelHistory g.C.Chare.step g.C.Pup.fits g.C.Pup.pack g.H.Openings.opened) queue.items)) left i.queues);
      one_each = omega (arith, ap length ends, ap length left, i.one_each);
    }

pub returns : goal.returns
returns g c = record {
  value = reopens_all c.args.pes c.loop-end.states.items c.loop-end.ends.items _
      (map (λ q. q.items) c.loop-end.left.items) c.in_default.ensures.taken.0 c.loop-end.invariant.made;
}

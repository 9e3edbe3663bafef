use Rattle.std.proofs.Common.{◌≡◌, ◌∙◌, ℕ, arith, ap, sym, refl, subst, length, map}
use Rattle.std.specs.Prelude.{slice_get}
use Rattle.std.specs.List.{range_with_len}
use Rattle.pe_queues.specs.Seats.{new_seat}
use Rattle.rts_core.proofs.Openings.{drop_next}
use Rattle.run_account.proofs.Passing.{next_is, rest_is, more_in_order, all_next, drop_head, counted_more}
use Rattle.rts_run.proofs.workers.open_workers.Goals as goal

pub loop-pe-init : goal.loop-pe-init
loop-pe-init g c =
    let e = c.in_ok-workers.ensures.items in
    let z : length c.in_ok-workers.workers.items ≡ 0 = ap length e in
    record {
      workers = rw e refl;
      counted = omega (arith, z);
      as_many = c.requires.as_many;
      wide = omega (arith, c.in_ok-workers.ensures.capacity, c.len.ensures);
      starts = rw e c.requires.starts;
      shares = rw e c.requires.shares;
      in_order = rw e c.requires.in_order;
      new = c.requires.new;
    }

pub seated-seated-requires-clause-start : goal.seated-seated-requires-clause-start
seated-seated-requires-clause-start g c =
    let i = c.loop-pe.invariant in
    let is = c.in-Some.ensures.taken in
    ap (slice_get g.J.RunBeginning.beginning.starts) (next_is (λ pe. pe.me) (length c.loop-pe.workers.items) c.in-Some.pe
    c.take_next.new.left.items c.loop-pe.states.items is i.in_order)
    ∙ (drop_next g.J.RunBeginning.beginning.starts (length c.loop-pe.workers.items) c.in-Some.pe c.take_next.new.left.items (sym is ∙ i.starts)).1

pub seated-seated-requires-clause-share : goal.seated-seated-requires-clause-share
seated-seated-requires-clause-share g c =
    let i = c.loop-pe.invariant in
    rw (next_is (λ pe. pe.me) (length c.loop-pe.workers.items) c.in-Some.pe c.take_next.new.left.items c.loop-pe.states.items c.in-Some.ensures.taken i.in_order)
    (drop_head (λ s. s.seats) g.J.RunBeginning.beginning.shares (length c.loop-pe.workers.items) c.in-Some-take_next.seat
    c.take_next-in-Some.new.left.items c.loop-pe.seats.items c.in-Some-take_next.ensures.taken i.shares).1

pub seated-seated-requires-clause-seat : goal.seated-seated-requires-clause-seat
seated-seated-requires-clause-seat g c =
    (all_next (λ s. s ≡ new_seat g.J.RunBeginning.beginning.post s.seats) c.in-Some-take_next.seat c.take_next-in-Some.new.left.items
    c.loop-pe.seats.items c.in-Some-take_next.ensures.taken c.loop-pe.invariant.new).0

pub loop-pe-preserved : goal.loop-pe-preserved
loop-pe-preserved g c =
    let i = c.loop-pe.invariant in
    let is = c.in-Some.ensures.taken in
    let at = c.in-Some-take_next.ensures.taken in
    let made = c.loop-pe.workers.items in
    let me = next_is (λ pe. pe.me) (length made) c.in-Some.pe c.take_next.new.left.items c.loop-pe.states.items is i.in_order in
    let n = counted_more made c.push_back_reserved.new.self.items c.new-in-Some.result c.push_back_reserved.ensures.items in
    record {
      workers = more_in_order (λ w. w.seated.pe.me) c.new-in-Some.result made c.push_back_reserved.new.self.items
          c.push_back_reserved.ensures.items (ap (λ w. w.seated.pe.me) c.new-in-Some.ensures.made
          ∙ (ap (λ s. s.pe.me) c.seated-seated.ensures.made ∙ me)) i.workers;
      counted = omega (arith, i.counted, n, ap length is);
      as_many = omega (arith, i.as_many, ap length is, ap length at);
      wide = omega (arith, i.wide, c.push_back_reserved.ensures.capacity);
      starts = rw n (drop_next g.J.RunBeginning.beginning.starts (length made) c.in-Some.pe c.take_next.new.left.items (sym is ∙ i.starts)).0;
      shares = rw n (drop_head (λ s. s.seats) g.J.RunBeginning.beginning.shares (length made) c.in-Some-take_next.seat
          c.take_next-in-Some.new.left.items c.loop-pe.seats.items at i.shares).0;
      in_order = rw n (rest_is (λ pe. pe.me) (length made) c.in-Some.pe c.take_next.new.left.items c.loop-pe.states.items is i.in_order);
      new = (all_next (λ s. s ≡ new_seat g.J.RunBeginning.beginning.post s.seats) c.in-Some-take_next.seat c.take_next-in-Some.new.left.items c.loop-pe.seats.items at i.new).1;
    }

pub returns-clause-in_order : goal.returns-clause-in_order
returns-clause-in_order g c =
    let i = c.loop-pe.invariant in
    let e : length c.loop-pe.workers.items ≡ length c.args.states.items = omega (arith, i.counted, ap length c.in_default.ensures.taken.0) in
    subst (λ (v : ℕ). map (λ w. w.seated.pe.me) c.loop-pe.workers.items ≡ range_with_len 0 v) e i.workers

use Rattle.std.proofs.Common.{◌≡◌, ◌∙◌, ℕ, arith, ap, sym, subst, length, map}
use Rattle.std.specs.List.{range_with_len}
use Rattle.std.proofs.lemmas.List.{length-map}
use Rattle.pe_queues.specs.Seats.{pes}
use Rattle.rts_core.proofs.Orders.{histories_in_order}
use Rattle.run_account.proofs.Passing.{next_is, rest_is, counted_by}
use Rattle.rts_run.proofs.Rounds.{decided_on}
use Rattle.rts_run.proofs.running.run_named.Goals as goal

pub work_all-done-requires-clause-places : goal.work_all-done-requires-clause-places
work_all-done-requires-clause-places g c κs within = omega (arith, c.in_ok-field.ensures.counted, c.in_ok-crew.ensures.made, c.requires.run)

pub unreachable-requires : goal.unreachable-requires
unreachable-requires g c =
    let n = counted_by (λ w. w.seated.pe.me) 0 g.H.Openings.pes c.work_all-done.result.items (c.work_all-done.ensures.in_order ∙ c.in_ok-field.ensures.in_order) in
    omega (arith, n, ap length c.in_default.ensures.taken.0, c.requires.run, c.requires.within.some_pe)

pub gather-gathered-requires-clause-first : goal.gather-gathered-requires-clause-first
gather-gathered-requires-clause-first g c =
    let s = c.work_all-done.ensures.in_order ∙ c.in_ok-field.ensures.in_order in
    let n = counted_by (λ w. w.seated.pe.me) 0 g.H.Openings.pes c.work_all-done.result.items s in
    let done = c.work_all-done.result.items in
    let t = subst (λ (v : ℕ). map (λ w. w.seated.pe.me) done ≡ range_with_len 0 v) (sym n) s in
    next_is (λ w. w.seated.pe.me) 0 c.in-Some.first c.take_next.new.left.items done c.in-Some.ensures.taken t

pub gather-gathered-requires-clause-in_order : goal.gather-gathered-requires-clause-in_order
gather-gathered-requires-clause-in_order g c =
    let s = c.work_all-done.ensures.in_order ∙ c.in_ok-field.ensures.in_order in
    let n = counted_by (λ w. w.seated.pe.me) 0 g.H.Openings.pes c.work_all-done.result.items s in
    let done = c.work_all-done.result.items in
    let t = subst (λ (v : ℕ). map (λ w. w.seated.pe.me) done ≡ range_with_len 0 v) (sym n) s in
    rest_is (λ w. w.seated.pe.me) 0 c.in-Some.first c.take_next.new.left.items done c.in-Some.ensures.taken t

pub gather-gathered-requires-clause-wide : goal.gather-gathered-requires-clause-wide
gather-gathered-requires-clause-wide g c =
    let n = counted_by (λ w. w.seated.pe.me) 0 g.H.Openings.pes c.work_all-done.result.items (c.work_all-done.ensures.in_order ∙ c.in_ok-field.ensures.in_order) in
    omega (arith, n, ap length c.in-Some.ensures.taken, c.requires.run, c.in_ok-room.ensures.capacity)

pub gather-gathered-requires-clause-empty : goal.gather-gathered-requires-clause-empty
gather-gathered-requires-clause-empty g c = c.in_ok-room.ensures.items

pub settled-ends-requires-clause-all_seats : goal.settled-ends-requires-clause-all_seats
settled-ends-requires-clause-all_seats g c = c.in_ok-field.ensures.beginning.all_seats

pub settled-ends-requires-clause-shared : goal.settled-ends-requires-clause-shared
settled-ends-requires-clause-shared g c =
    let n = counted_by (λ w. w.seated.pe.me) 0 g.H.Openings.pes c.work_all-done.result.items (c.work_all-done.ensures.in_order ∙ c.in_ok-field.ensures.in_order) in
    omega (arith, n, ap length c.in-Some.ensures.taken, c.gather-gathered.ensures.all, c.in_ok-field.ensures.beginning.shared)

pub settled-ends-requires-clause-whole : goal.settled-ends-requires-clause-whole
settled-ends-requires-clause-whole g c =
    let n = counted_by (λ w. w.seated.pe.me) 0 g.H.Openings.pes c.work_all-done.result.items (c.work_all-done.ensures.in_order ∙ c.in_ok-field.ensures.in_order) in
    omega (arith, n, ap length c.in-Some.ensures.taken, c.gather-gathered.ensures.all, c.in_ok-field.ensures.beginning.counted)

pub settled-ends-requires-clause-in_order : goal.settled-ends-requires-clause-in_order
settled-ends-requires-clause-in_order g c = c.in_ok-field.ensures.beginning.in_order

pub settled-ends-requires-clause-beginning : goal.settled-ends-requires-clause-beginning
settled-ends-requires-clause-beginning g c = c.in_ok-field.ensures.beginning.account

pub settled-ends-requires-clause-served : goal.settled-ends-requires-clause-served
settled-ends-requires-clause-served g c =
    let n = counted_by (λ w. w.seated.pe.me) 0 g.H.Openings.pes c.work_all-done.result.items (c.work_all-done.ensures.in_order ∙ c.in_ok-field.ensures.in_order) in
    omega (arith, n, ap length c.in-Some.ensures.taken, c.gather-gathered.ensures.all, ap pes c.into_parts-post.ensures.own, c.in_ok-field.ensures.beginning.served)

pub settled-ends-requires-clause-one_each : goal.settled-ends-requires-clause-one_each
settled-ends-requires-clause-one_each g c =
    let n = counted_by (λ w. w.seated.pe.me) 0 g.H.Openings.pes c.work_all-done.result.items (c.work_all-done.ensures.in_order ∙ c.in_ok-field.ensures.in_order) in
    omega (arith, n, ap length c.in-Some.ensures.taken, c.gather-gathered.ensures.all, c.in_ok-left.ensures.queues, c.requires.run)

pub settled-ends-requires-clause-wide : goal.settled-ends-requires-clause-wide
settled-ends-requires-clause-wide g c =
    omega (arith, ap (λ p. p.capacity) c.into_parts-post.ensures.own, ap (λ b. b.post.capacity) c.requires.beginning, c.in_ok-left.ensures.capacity, c.requires.capacity)

pub ended-requires-clause-few_pes : goal.ended-requires-clause-few_pes
ended-requires-clause-few_pes g c =
    let n = counted_by (λ w. w.seated.pe.me) 0 g.H.Openings.pes c.work_all-done.result.items (c.work_all-done.ensures.in_order ∙ c.in_ok-field.ensures.in_order) in
    omega (arith, n, ap length c.in-Some.ensures.taken, c.gather-gathered.ensures.all, ap length c.settled-ends.ensures.ends, c.requires.run, c.requires.within.few_pes)

pub ended-requires-clause-histories : goal.ended-requires-clause-histories
ended-requires-clause-histories g c = c.settled-ends.ensures.histories

pub ended-requires-clause-elements : goal.ended-requires-clause-elements
ended-requires-clause-elements g c = c.into_parts-post.ensures.counted

pub returns : goal.returns
returns g c =
    let n = counted_by (λ w. w.seated.pe.me) 0 g.H.Openings.pes c.work_all-done.result.items (c.work_all-done.ensures.in_order ∙ c.in_ok-field.ensures.in_order) in
    let e = c.ended.ensures.ends ∙ c.settled-ends.ensures.ends in
    let m : length c.gather-gathered.result.0.ends ≡ g.H.Openings.pes = omega (arith, n, ap length c.in-Some.ensures.taken, c.gather-gathered.ensures.all) in
    record {
      outcome = record {
        ends = rw e (subst (λ (v : ℕ). map (λ pe. pe.me) c.gather-gathered.result.0.ends ≡ range_with_len 0 v) m c.gather-gathered.ensures.in_order);
        queues = omega (arith, m, ap length c.ended.ensures.left, length-map c.settled-ends.result.1.items (λ q. q.items), c.settled-ends.ensures.counted);
        account = rw c.ended.ensures.ends (rw c.ended.ensures.left c.settled-ends.ensures.account);
        histories = rw c.ended.ensures.ends (rw c.ended.ensures.left c.settled-ends.ensures.histories);
        in_order = rw c.ended.ensures.ends (rw c.ended.ensures.left
            (histories_in_order g.C.Chare.step g.C.Pup.fits g.C.Pup.pack g.H.Openings.opened _ c.settled-ends.ensures.histories));
        board = rw c.ended.ensures.board c.into_parts-post.ensures.board;
        elements = rw c.ended.ensures.board c.into_parts-post.ensures.counted;
        on_pes = rw c.ended.ensures.board c.into_parts-post.ensures.on_pes;
        by_strategy = rw c.ended.ensures.board c.into_parts-post.ensures.by_strategy;
        rounds = rw c.ended.ensures.board (decided_on c.into_parts-post.result.1 (length g.H.Openings.opened) g.H.Openings.pes
            g.H.BoardStart.strategy c.into_parts-post.ensures.counted c.into_parts-post.ensures.on_pes
            c.into_parts-post.ensures.by_strategy c.into_parts-post.ensures.board);
        marks = c.ended.ensures.marks;
        mismatch = c.ended.ensures.mismatch;
        unpacks = c.ended.ensures.unpacks;
        cause = c.ended.ensures.cause;
        finished = c.ended.ensures.finished;
        all_finished = c.ended.ensures.all_finished;
        quiet = c.ended.ensures.quiet;
        unfinished = c.ended.ensures.unfinished;
      };
      counts = rw (ap (λ b. b.starts) c.requires.beginning) (rw c.ended.ensures.ends c.settled-ends.ensures.counts);
      earlier = rw c.ended.ensures.board c.into_parts-post.ensures.earlier;
      idle = c.ended.ensures.idle;
      stopped = c.ended.ensures.stopped;
      homes = c.ended.ensures.homes;
    }

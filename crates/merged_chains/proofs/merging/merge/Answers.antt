use Rattle.std.proofs.Common.{◌≡◌, ℕ, ◌+◌, ◌++◌, length, arith, ap, length-append, refl, sym, ◌∙◌}
use Rattle.std.proofs.lemmas.List.{length_push}
use Rattle.merged_chains.specs.Windows.{AreEnds, IsNextEnd}
use Rattle.merged_chains.proofs.RunsByParts.{ends_more, ends_none, part_more, runs_begin, runs_end, same_ends, starts_kept}
use Rattle.merged_chains.proofs.merging.merge.Goals as goal

pub loop-begin-init : goal.loop-begin-init
loop-begin-init g c =
    record {
      from = omega arith;
      to = omega arith;
      inside = omega arith;
      paired = rw (c.new-loads.ensures.items, c.new-ends.ensures.items) refl;
      before = λ k inside. absurd (omega (arith, inside));
      runs = λ before runs starts counted are. rw (c.new-loads.ensures.items, c.new-ends.ensures.items) (runs_begin before c.args.part.now runs starts c.args.first counted are);
      ends = rw c.new-ends.ensures.items (ends_none c.lower-lower.result.now c.upper-upper.result.now c.args.first (c.args.first + c.len.result));
    }

pub loop-begin-preserved : goal.loop-begin-preserved
loop-begin-preserved g c =
    let old = c.loop-begin.invariant in
    let end : ℕ = c.end_of_run-end.result in
    let next : IsNextEnd c.lower-lower.result.now c.upper-upper.result.now c.loop-begin.begin (c.args.first + c.len.result) end = c.end_of_run-end.ensures.next in
    record {
      from = omega (arith, old.from, next.ends.0);
      to = next.ends.1;
      inside = c.first_behind-window.ensures.first.inside;
      paired = rw (c.in_ok-push.ensures.items, c.in_ok-push-2.ensures.items)
          (length_push c.loop-begin.loads.items c.load-load.result ∙ ap (λ n. n + 1) old.paired ∙ sym (length_push c.loop-begin.ends.items end));
      before = λ k earlier. omega (arith, c.first_behind-window.ensures.first.before k earlier, next.ends.0);
      runs = λ before runs starts counted are. rw (c.in_ok-push.ensures.items, c.in_ok-push-2.ensures.items)
          (part_more before c.args.part.now runs starts c.loop-begin.loads.items c.loop-begin.ends.items c.args.first c.loop-begin.begin end
          c.load-load.result counted (old.runs before runs starts counted are) old.from next.ends.0 c.load-load.ensures.value);
      ends = rw c.in_ok-push-2.ensures.items (ends_more c.lower-lower.result.now c.upper-upper.result.now c.loop-begin.ends.items
          c.args.first (c.args.first + c.len.result) c.loop-begin.begin end old.ends old.from next);
    }

pub returns-clause-runs : goal.returns-clause-runs
returns-clause-runs g c =
    λ before runs starts counted are. runs_end (before ++ c.args.part.now) (runs ++ c.loop-begin.loads.items)
    (starts ++ c.loop-begin.ends.items) c.loop-begin.begin (c.loop-begin.invariant.runs before runs starts counted are)
    (omega (arith, counted, length-append before c.args.part.now, c.loop-begin.invariant.to, c.loop-begin-test.false, c.len.ensures.value))

pub returns-clause-kept : goal.returns-clause-kept
returns-clause-kept g c =
    let all : c.loop-begin.begin ≡ c.args.first + length c.args.part.now = omega (arith, c.loop-begin.invariant.to, c.loop-begin-test.false, c.len.ensures.value) in
    let last : c.args.first + c.len.result ≡ c.args.first + length c.args.part.now = omega (arith, c.len.ensures.value) in
    let ends : AreEnds c.args.windows.now.lower c.args.windows.now.upper c.args.first (c.args.first + length c.args.part.now)
    (c.args.first + length c.args.part.now) c.loop-begin.ends.items = same_ends c.lower-lower.result.now c.upper-upper.result.now
    c.args.windows.now.lower c.args.windows.now.upper c.loop-begin.ends.items c.args.first (c.args.first + c.len.result)
    c.loop-begin.begin (c.args.first + length c.args.part.now) c.lower-lower.ensures.value c.upper-upper.ensures.value last all
    c.loop-begin.invariant.ends in
    λ starts kept. starts_kept c.args.windows.now.lower c.args.windows.now.upper starts c.loop-begin.ends.items c.args.first (c.args.first + length c.args.part.now) ends kept

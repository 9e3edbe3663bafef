use Rattle.std.proofs.Common.{◌≡◌, ◌∙◌, ◌+◌, ◌-◌, ◌<◌, Bool, List, get_or, length, true, false, arith, sym, ap}
use Rattle.schedules.specs.NumberSets.{below, has}
use Rattle.schedules.proofs.Counts.{count_grows, nth_past, one_more, reached}
use Rattle.schedules.proofs.number_set.NumberSet.nth_from.Goals as goal
use Rattle.schedules.proofs.number_set.NumberSet.nth_from.Goals.{then-index+else-left-eq0, else-index}

pub returns-then-left-eq0 : goal.returns-then-left-eq0
returns-then-left-eq0 g c =
    let view : c.self.inside.flags.items ≡ c.args.self.now = c.self.view_is in
    let is = c.index.ensures ∙ ap (λ (xs : List Bool). get_or xs c.loop-at.at c.index.result.now) view in
    let within : c.loop-at.at < length c.args.self.now = omega (arith, c.loop-at-test.true, c.len-at-end.ensures, ap length view) in
    record {
      value = reached c.args.self.now c.loop-at.at (below c.args.self.now c.args.first + c.args.place) c.index.result.now
          c.if-index.true is within (omega (arith, c.loop-at.invariant, c.if-left-eq0.true));
    }

pub loop-at-preserved : goal.loop-at-preserved
loop-at-preserved g c =
    let view : c.self.inside.flags.items ≡ c.args.self.now = c.self.view_is in
    let is = c.index.ensures ∙ ap (λ (xs : List Bool). get_or xs c.loop-at.at c.index.result.now) view in
    let within : c.loop-at.at < length c.args.self.now = omega (arith, c.loop-at-test.true, c.len-at-end.ensures, ap length view) in
    elim c.if-index.branch [
      | then-index+else-left-eq0 w ↦
          omega (arith, w.left-is, c.loop-at.invariant, w.if-left-eq0.false, one_more c.args.self.now c.loop-at.at c.index.result.now true w.if-index.true is within)
      | else-index w ↦
          omega (arith, w.left-is, c.loop-at.invariant, one_more c.args.self.now c.loop-at.at c.index.result.now false w.if-index.false is within)
    ]

pub returns : goal.returns
returns g c =
    let view : c.self.inside.flags.items ≡ c.args.self.now = c.self.view_is in
    let flags = c.args.self.now in
    let at = c.loop-at.at in
    let grows = count_grows (has flags) (length flags) (at - length flags) at (omega (arith, c.loop-at-test.false, c.len-at-end.ensures, ap length view)) in
    record { value = sym (nth_past (has flags) (length flags) (below flags c.args.first + c.args.place) (omega (arith, c.loop-at.invariant, grows.0))) }

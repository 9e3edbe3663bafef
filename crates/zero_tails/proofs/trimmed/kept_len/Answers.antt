use Rattle.std.proofs.Common.{sym, ◌∙◌, arith}
use Rattle.zero_tails.proofs.Kept.{kept_at, kept_down}
use Rattle.zero_tails.proofs.trimmed.kept_len.Goals as goal

pub returns-then-bytes-kept-ne0-clause-value : goal.returns-then-bytes-kept-ne0-clause-value
returns-then-bytes-kept-ne0-clause-value c =
    sym (kept_at c.args.bytes.now c.loop-kept.kept c.loop-kept-test.true c.loop-kept.invariant.within c.if-bytes-kept-ne0.true) ∙ c.loop-kept.invariant.left

pub loop-kept-preserved : goal.loop-kept-preserved
loop-kept-preserved c =
    record {
      within = omega (arith, c.loop-kept.invariant.within);
      left = kept_down c.args.bytes.now c.loop-kept.kept c.loop-kept-test.true c.loop-kept.invariant.within c.if-bytes-kept-ne0.false ∙ c.loop-kept.invariant.left;
    }

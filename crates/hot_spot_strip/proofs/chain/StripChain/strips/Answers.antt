use Rattle.std.proofs.Common.{◌≡◌, ◌+◌, ◌∙◌, ◌^◌, ◌<◌, get_or, true, arith, sym}
use Rattle.std.proofs.lemmas.Grind.{common_steps}
use Rattle.std.proofs.lemmas.List.Elements.{All-push}
use Rattle.hot_spot_strip.specs.Strips.{is_strip}
use Rattle.hot_spot_strip.proofs.OpeningStrips.{all_made, cells_left, not_chain, of_error, opened_next}
use Rattle.hot_spot_strip.proofs.chain.StripChain.strips.Goals as goal

pub loop-count-preserved : goal.loop-count-preserved
loop-count-preserved g c =
    let chain = c.args.self.now in
    let at = c.loop-count in
    let many : c.in-Some.end ≡ at.first + get_or chain.cells.now at.count-index 0 = grind (arith, common_steps, c.in-Some.ensures) in
    record {
      opened = opened_next chain.mode chain.rounds chain.work at.first c.in-Some.end chain.cells.now at.count-index
          at.strips.items c.push.new.self.items c.in_ok-strip.strip (omega arith) many c.in_ok-strip.ensures.opened
          c.in_ok-push.ensures.items ∙ at.invariant.opened;
      each = rw c.in_ok-push.ensures.items (All-push (λ s. is_strip s ≡ true) at.strips.items c.in_ok-strip.strip at.invariant.each c.in_ok-strip.ensures.within);
      fits = grind (arith, common_steps, c.in-Some.ensures);
      many = omega (arith, many, cells_left chain.cells.now at.count-index (omega arith), at.invariant.many);
    }

pub returns-in_err-strip-clause-refused : goal.returns-in_err-strip-clause-refused
returns-in_err-strip-clause-refused g c =
    let chain = c.args.self.now in
    let at = c.loop-count in
    let many : c.in-Some.end ≡ at.first + get_or chain.cells.now at.count-index 0 = grind (arith, common_steps, c.in-Some.ensures) in
    of_error _ _ c.from_residual.result c.from_residual.ensures.1
    (λ error same limit. not_chain chain.mode chain.rounds chain.work at.first c.in-Some.end chain.cells.now at.count-index at.strips.items
    (omega arith) many at.invariant.opened (c.in_err-strip.ensures.refused (sym same ∙ limit)))

pub returns-in_err-push-clause-refused : goal.returns-in_err-push-clause-refused
returns-in_err-push-clause-refused g c = of_error _ _ c.from_residual-in_err-push.result c.from_residual-in_err-push.ensures.1 (λ error memory limit. absurd (cc))

pub returns-clause-within : goal.returns-clause-within
returns-clause-within g c =
    let chain = c.args.self.now in
    let at = c.loop-count in
    all_made chain.mode chain.rounds chain.work at.first chain.cells.now at.count-index at.strips.items (omega (arith, c.loop-count-test.false)) at.invariant.fits
    at.invariant.opened at.invariant.each at.invariant.many

use Rattle.std.proofs.Common.{◌≡◌, ◌≤◌}
use Rattle.any_order.specs.Internal.{high_at, low_at}
use Rattle.any_order.proofs.Walks.{here_steep, pair_of}
use Rattle.any_order.proofs.steep.first_end.Goals as goal

pub returns-then-not-is_risen_here-clause-first : goal.returns-then-not-is_risen_here-clause-first
returns-then-not-is_risen_here-clause-first c =
    let claim = c.args.claim.now in
    let low = c.pair_at-low.result in
    let high = c.pair_at.result in
    let low_is : low ≡ low_at claim c.args.y = pair_of claim.any claim.free c.args.y c.args.lows.0 low c.requires.here c.pair_at-low.ensures in
    let high_is : high ≡ high_at claim c.args.y = pair_of claim.next_any claim.next_free c.args.y c.args.high high c.requires.high c.pair_at.ensures in
    let rises : ¬ ((high.any ≤ low.any) × (high.any ≤ low.free) × (high.free ≤ low.free)) = λ all.
    let yes = c.is_risen_here.ensures.1 all in
    absurd cc
    in
    here_steep claim c.args.y low high c.requires.inside low_is high_is rises

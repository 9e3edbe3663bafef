use Rattle.std.proofs.Common.{◌≡◌, ◌+◌, ◌^◌, ◌<◌, ◌++◌, All, drop, true}
use Rattle.std.specs.Prelude.{sum_by}
use Rattle.hot_spot_strip.specs.Openings.{opening_strips}
use Rattle.hot_spot_strip.specs.Strips.{is_strip}
use Rattle.hot_spot_strip.proofs.chain.StripChain.strips.Given as goal

-- the strips that were made, and what the others will be, are all
abbrev pub invariant-loop-count : goal.invariant-loop-count
invariant-loop-count g l = record {
  opened : l.strips.items ++ opening_strips l.self.mode l.self.rounds l.self.work l.first (drop l.count-index l.self.cells.now) ≡ opening_strips
      l.self.mode l.self.rounds l.self.work 0 l.self.cells.now;
  each : All (λ s. is_strip s ≡ true) l.strips.items;
  fits : l.first < 2 ^ 64;
  many : l.first + sum_by (λ n. n) (drop l.count-index l.self.cells.now) ≡ sum_by (λ n. n) l.self.cells.now;
}

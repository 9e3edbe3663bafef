use Rattle.std.proofs.Common.{◌-◌, ℕ, ◌<◌, ◌≤◌, length}
use Rattle.std.specs.Prelude.{slice_index_or}
use Rattle.chares.specs.Elements.{ElementView}
use Rattle.pe_state.proofs.row.Row.search.Given as goal

abbrev pub invariant-loop-low : goal.invariant-loop-low
invariant-loop-low g l = record {
  in_order : l.low ≤ l.high;
  inside : l.high ≤ length l.self;
  below : (k : ℕ) (d : ℕ × ElementView g.row.C.Denot) → k < l.low → (slice_index_or l.self k d).0 < l.index;
  above : (k : ℕ) (d : ℕ × ElementView g.row.C.Denot) → l.high ≤ k → k < length l.self → l.index < (slice_index_or l.self k d).0;
}

abbrev pub decreases-loop-low : goal.decreases-loop-low
decreases-loop-low g l = l.high - l.low

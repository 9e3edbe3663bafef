use Rattle.std.specs.Prelude.{FitsSigned}
use Rattle.std.specs.Int.{w64}
use Rattle.std.specs.List.{AllWithin}
use Rattle.dump_format.proofs.fields.prices_fit.Given as goal

-- the prices so far
abbrev pub invariant-loop-price : goal.invariant-loop-price
invariant-loop-price l = AllWithin (λ price. FitsSigned w64 price) l.prices 0 l.price-index

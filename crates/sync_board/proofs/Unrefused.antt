-- Calls of a board's database that are never refused.
use Rattle.std.proofs.Common.{ℕ, ◌<◌, Result, Ok, Err, IsOk, MatchResult, refl, arith}
use Rattle.lb_database.specs.Measuring.{Measured, elements}
use Rattle.lb_database.specs.Refusals.{RefusesCharge, HasNextRound, RefusesNextRound}
use Rattle.lb_database.specs.declared.error.DbError.{DbError}
use Rattle.lb_database.specs.declared.error.DbError.TheVariants.{Stranger, WrongRound, Twice, TooLarge, Incomplete, OutOfMemory, Worn}

-- an element can be charged
pub charged : {X : Type 0} (m : Measured) (i : ℕ) (result : Result X DbError) → MatchResult result (λ _. i < elements m) (RefusesCharge m i) → i < elements m → IsOk result
charged m i (Ok x) told known = refl
charged m i (Err Stranger) told known = absurd (omega arith)
charged m i (Err WrongRound) told known = absurd told
charged m i (Err Twice) told known = absurd told
charged m i (Err TooLarge) told known = absurd told
charged m i (Err Incomplete) told known = absurd told
charged m i (Err OutOfMemory) told known = absurd told
charged m i (Err Worn) told known = absurd told

-- a complete round before the last is followed by the next
pub begun : {X : Type 0} (m : Measured) (result : Result X DbError) → MatchResult result (λ _. HasNextRound m) (RefusesNextRound m) → HasNextRound m → IsOk result
begun m (Ok x) told next = refl
begun m (Err Stranger) told next = absurd told
begun m (Err WrongRound) told next = absurd told
begun m (Err Twice) told next = absurd told
begun m (Err TooLarge) told next = absurd told
begun m (Err Incomplete) told next = absurd (told next.0)
begun m (Err OutOfMemory) told next = absurd told
begun m (Err Worn) told next = let last = told.1 in let before = next.1 in absurd (omega arith)

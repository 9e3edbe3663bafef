-- What a chare's step gives.
use Rattle.std.specs.Prelude.{ℕ, List}
use Rattle.chares.specs.declared.chare.Effect.{Effect}
use Rattle.chares.specs.declared.entry.Entry.{Entry}

-- the state after a handler, the effect that it returns, and what it sends: to which element, and what body
pub record Outcome (S : Type 0) : Type 0 where
  pub state : S
  pub effect : Effect
  pub sends : List (ℕ × List ℕ)

-- a step, from a state, the index of the element, the number of elements, and what the handler is given
abbrev pub Step : Type 0 → Type 0
Step S = S → ℕ → ℕ → Entry (List ℕ) → Outcome S

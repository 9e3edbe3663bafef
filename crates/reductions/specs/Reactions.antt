-- What a chare that contributes makes of what it is given.
use Rattle.std.specs.Prelude.{ℕ, List, Option}
use Rattle.chares.specs.declared.chare.Effect.{Effect}
use Rattle.chares.specs.declared.sends.SendError.{SendError}
use Rattle.reductions.specs.declared.contributes.Input.{Input}

-- room for what is packed beside the state of a chare
abbrev pub NODE_BYTES : ℕ
NODE_BYTES = 1024

-- the state S after it, its effect, the messages that it sends, each to an element, and what it contributes, if it does
pub record Reaction (S M V : Type 0) : Type 0 where
  pub state : S
  pub effect : Effect
  pub sends : List (ℕ × M)
  pub contribution : Option V

-- a step, from a state, the index of the element, the number of elements, and what it is given
abbrev pub ReactionStep : Type 0 → Type 0 → Type 0 → Type 0
ReactionStep S M V = S → ℕ → ℕ → Input M V → Reaction S M V

-- where the chare may return an error: from the state, the index of the element, the number of elements, how many letters the PE has
-- posted, and what it is given
abbrev pub ReactionRefuses : Type 0 → Type 0 → Type 0 → Type 1
ReactionRefuses S M V = S → ℕ → ℕ → ℕ → Input M V → SendError → Type 0

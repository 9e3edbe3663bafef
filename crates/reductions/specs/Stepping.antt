-- The step of an element that takes part in reductions: that of its chare, and beside it what goes through the tree.
use Rattle.std.specs.Prelude.{◌≡◌, ◌⊎◌, ℕ, Bool, ◌+◌, ◌<◌, ◌==◌, ◌∷◌, ◌++◌, [], List, length, map, Option, None, Some, false, if◌then◌else◌}
use Rattle.chare_index.specs.declared.limits.TheConstants.Limits.{LETTERS}
use Rattle.chares.specs.declared.chare.Effect.{Effect}
use Rattle.chares.specs.declared.entry.Entry.{Entry}
use Rattle.chares.specs.declared.entry.Entry.TheVariants.{Letter, Resumption}
use Rattle.chares.specs.declared.sends.SendError.{SendError}
use Rattle.chares.specs.declared.sends.SendError.TheVariants.{Worn}
use Rattle.messages.specs.Messages.{MessageOutcome, MessageRefuses, MessageStep, to_all}
use Rattle.reductions.specs.declared.contributes.Input.{Input}
use Rattle.reductions.specs.declared.contributes.Input.TheVariants.{Resumed, Message, Reduced}
use Rattle.reductions.specs.declared.tree_message.TreeMessage.{TreeMessage}
use Rattle.reductions.specs.declared.tree_message.TreeMessage.TheVariants.{User, Part, Whole}
use Rattle.reductions.specs.Nodes.{NodeView, contributed, got_part, with_waits}
use Rattle.reductions.specs.Reactions.{Reaction, ReactionRefuses, ReactionStep}
use Rattle.reductions.specs.Trees.{parent, slot}

-- an element: its chare, and its node in the tree
pub record ReducingView (S V : Type 0) : Type 0 where
  pub chare : S
  pub node : NodeView V

-- an element that waits for a result, or does not
abbrev pub waiting : {S V : Type 0} → ReducingView S V → Bool → ReducingView S V
waiting r waits = record { chare = r.chare; node = with_waits r.node waits }

-- how a whole value goes on from an element: from element 0 to all as the result, and from any other to its parent as a part
abbrev pub passed_on : {M V : Type 0} → ℕ → ℕ → Option V → List (ℕ × TreeMessage M V)
passed_on n i None = []
passed_on n i (Some value) = if i == 0 then to_all n (Whole value) else (parent i, Part (slot i) value) ∷ []

-- the chare's messages, as the user's
abbrev pub as_user : {M V : Type 0} → List (ℕ × M) → List (ℕ × TreeMessage M V)
as_user sends = map (λ x. (x.0, User x.1)) sends

-- a part takes no work
abbrev pub no_work : Effect
no_work = record { units = 0; at_sync = false; finished = false }

module _ {S M V : Type 0} (step : ReactionStep S M V) (combined : V → V → V) where
  -- the chare's reaction, and what becomes of its contribution
  abbrev pub reacted : ReducingView S V → ℕ → ℕ → Reaction S M V → MessageOutcome (ReducingView S V) (TreeMessage M V)
  reacted r me n reaction =
      record {
        state = record { chare = reaction.state; node = (contributed combined n me r.node reaction.contribution).node };
        effect = reaction.effect;
        sends = as_user reaction.sends ++ passed_on n me (contributed combined n me r.node reaction.contribution).goes_on;
      }

  -- the chare reacts to what it is given
  abbrev pub reacts : ReducingView S V → ℕ → ℕ → Input M V → MessageOutcome (ReducingView S V) (TreeMessage M V)
  reacts r me n input = reacted r me n (step r.chare me n input)

  -- a part changes the node alone
  abbrev pub gets_part : ReducingView S V → ℕ → ℕ → ℕ × V → MessageOutcome (ReducingView S V) (TreeMessage M V)
  gets_part r me n part =
      record {
        state = record { chare = r.chare; node = (got_part combined n me r.node part).node };
        effect = no_work;
        sends = passed_on n me (got_part combined n me r.node part).goes_on;
      }

  -- with the result the element waits no longer, so its chare may contribute again in reaction to it
  abbrev pub reducing_step : MessageStep (ReducingView S V) (TreeMessage M V)
  reducing_step r me n (Letter (User message)) = reacts r me n (Message message)
  reducing_step r me n (Letter (Part slot value)) = gets_part r me n (slot, value)
  reducing_step r me n (Letter (Whole value)) = reacts (waiting r false) me n (Reduced value)
  reducing_step r me n (Resumption round) = reacts r me n (Resumed round)

  module _ (refuses : ReactionRefuses S M V) where
    -- what the chare refuses
    abbrev pub ChareRefuses : ReducingView S V → ℕ → ℕ → ℕ → Entry (TreeMessage M V) → SendError → Type 0
    ChareRefuses r me n count (Letter (User message)) error = refuses r.chare me n count (Message message) error
    ChareRefuses r me n count (Letter (Part slot value)) error = ⊥
    ChareRefuses r me n count (Letter (Whole value)) error = refuses r.chare me n count (Reduced value) error
    ChareRefuses r me n count (Resumption round) error = refuses r.chare me n count (Resumed round) error

    -- the element returns an error where its chare does, or where there are not letter numbers for all that it has to send
    abbrev pub ReducingRefuses : MessageRefuses (ReducingView S V) (TreeMessage M V)
    ReducingRefuses r me n count input error =
        ChareRefuses r me n count input error
        ⊎ ((error ≡ Worn) × (LETTERS < count + length (reducing_step r me n input).sends))

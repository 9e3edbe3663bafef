-- What a call that acts on the parcel in the hand returns, what it leaves of the PE, and what it appends to a trace.
use Rattle.std.specs.Prelude.{◌≡◌, List, Option, Bool, Result, IfOk, OnOk, OnErr, IsSome}
use Rattle.chares.specs.Posting.{traced}
use Rattle.chares.specs.declared.trace_entry.TraceEntry.{TraceEntry}
use Rattle.pe_state.specs.declared.acted.Acted.{Acted}
use Rattle.pe_state.specs.declared.error.StepError.{StepError}
use Rattle.pe_state.specs.Pes.{PeView, Acting, acted_of, pe_after}

-- The answer says which case of Act it was, and the PE is the one after it. An error leaves the PE as it was, and comes only
-- where Act is enabled.
pub record Acts {C : Type 0} (result : Result (Option Acted) StepError) (acting : Option (Acting C)) (before after : PeView C) : Type 0 where
  pub answer : IfOk result (λ acted. acted ≡ acted_of acting)
  pub ok : OnOk result (after ≡ pe_after before acting)
  pub err : OnErr result (after ≡ before)
  pub enabled : OnErr result (IsSome acting)

-- These entries are appended to the trace, if one is kept. An error appends nothing.
pub record Traces {T E : Type 0} (result : Result T E) (tracing : Bool) (entries before after : List TraceEntry) : Type 0 where
  pub ok : OnOk result (after ≡ traced tracing before entries)
  pub err : OnErr result (after ≡ before)

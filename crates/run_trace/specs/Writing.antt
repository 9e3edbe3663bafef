-- What is written of a trace.
use Rattle.std.specs.Prelude.{ℕ, List, Option}
use Rattle.std.specs.Io.KnownBytes.{Appends}
use Rattle.run_trace.specs.declared.event.TraceEvent.{TraceEvent}
use Rattle.run_trace.specs.declared.text.TheConstants.{START, END}
use Rattle.run_trace.specs.Lines.{IsTrace}

-- the text of a trace of these events was written
pub record WritesTrace (old new : Option (List ℕ)) (events : List TraceEvent) : Type 0 where
  pub text : List ℕ
  pub trace : IsTrace START.now END.now events text
  pub written : Appends old new text

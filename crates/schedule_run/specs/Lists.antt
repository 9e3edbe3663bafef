-- The lists of events that are read and written: the lines of their faults, and what the files hold in the end.
use Rattle.std.specs.Prelude.{◌≡◌, ◌≢◌, ◌⊎◌, ℕ, List, ◌++◌, codes, Option}
use Rattle.std.specs.Fmt.{decimal}
use Rattle.std.specs.Io.KnownBytes.{Appends, Consumes, IsAtEnd}
use Rattle.event_lists.specs.Faults.{IsFault}
use Rattle.event_lists.specs.Text.{IsText}
use Rattle.event_lists.specs.declared.error.EventListError.TheVariants as Why
use Rattle.rts_core.specs.declared.event.Event.{Event}
use Rattle.streams.specs.Logs.{HasFailed}
use Rattle.streams.specs.Writing.{WritesPrefix}
use Rattle.streams.specs.declared.log.CallLog.{CallLog}
use Rattle.schedule_run.specs.declared.lists.TheConstants.{CALLS}
use Rattle.schedule_run.specs.declared.list_fault.ListFault.{ListFault}
use Rattle.schedule_run.specs.declared.list_fault.ListFault.TheVariants.{Unread, Faulty, NotEnabled}
use Rattle.workload_run.specs.Lines.{memory_line, newline}

-- the line of a fault of a list of events
abbrev pub list_line : ListFault → List ℕ
list_line Unread = codes "events: read failed" ++ newline
list_line (Faulty (Why.Form k)) = codes "events: line " ++ decimal k ++ newline
list_line (Faulty (Why.Limit k)) = codes "events: limit in line " ++ decimal k ++ newline
list_line (Faulty Why.TooLong) = codes "events: too long" ++ newline
list_line (Faulty Why.OutOfMemory) = memory_line
list_line (NotEnabled n) = codes "events: not enabled in line " ++ decimal n ++ newline

-- the line of the fault was written, and the status is 3; or it is 5, and a prefix of that line was, or the line for
-- refused memory
abbrev pub TellsList : ListFault → Option (List ℕ) → Option (List ℕ) → ℕ → Type 0
TellsList fault old new status =
    ((fault ≢ Faulty Why.OutOfMemory) × (status ≡ 3) × Appends old new (list_line fault))
    ⊎ ((status ≡ 5) × (WritesPrefix old new (list_line fault) ⊎ WritesPrefix old new memory_line))

-- what a fault says of the bytes of a reader that was read to its end
abbrev pub IsListFault : List ℕ → ListFault → Type 0
IsListFault bytes Unread = ⊥
IsListFault bytes (Faulty Why.OutOfMemory) = Unit {0}
IsListFault bytes (Faulty e) = IsFault bytes e
IsListFault bytes (NotEnabled n) = ⊥

-- these events were read from a reader to its end
abbrev pub ReadsList : Option (List ℕ) → Option (List ℕ) → List Event → Type 0
ReadsList bytes rest events = (text : List ℕ) × Consumes bytes rest text × IsAtEnd rest × IsText events text

-- the reader failed or memory was refused, or what was read to its end has this fault
abbrev pub RefusesList : Option (List ℕ) → Option (List ℕ) → ListFault → Type 0
RefusesList bytes rest fault =
    ((fault ≡ Unread) ⊎ (fault ≡ Faulty Why.OutOfMemory))
    ⊎ ((text : List ℕ) × Consumes bytes rest text × IsAtEnd rest × IsListFault text fault)

-- why the bytes of a reader were not read: by the log of its calls it failed, or was called as often as it may be
abbrev pub ReaderHasFailed : CallLog → Type 0
ReaderHasFailed log = HasFailed CALLS log

-- What the calls that read a dump return.
use Rattle.std.specs.Prelude.{◌≡◌, ℕ, ◌++◌, ◌⊎◌, List, length, take, Option, Some, None, Result, Ok, Err, ⊤}
use Rattle.dump_format.specs.Dumps.{Dumped}
use Rattle.dump_format.specs.Text.{IsText}
use Rattle.dump_format.specs.Faults.{IsBroken, IsFault, IsGood, IsWhole}
use Rattle.dump_format.specs.Fields.{dump}
use Rattle.dump_format.specs.Layout.{Unfinished, judge}
use Rattle.dump_format.specs.declared.error.DumpError.{DumpError}
use Rattle.dump_format.specs.declared.error.DumpError.TheVariants.{OutOfMemory, Short}
use Rattle.lb_dump.specs.declared.decoding.TheConstants.{CALLS}
use Rattle.streams.specs.Logs.{HasFailed}
use Rattle.streams.specs.declared.log.CallLog.{CallLog}

-- how far a reader is: the text so far, or the error that it returns from now on
abbrev pub Progress : Type 0
Progress = Result (List ℕ) DumpError

abbrev pub progress_of : List ℕ → Option DumpError → Progress
progress_of text None = Ok text
progress_of text (Some e) = Err e

-- the result for a whole text: the dump that it is the text of, or its first fault, or out of memory
abbrev pub IsAnswer : {A : Type 0} → List ℕ → Result (Dumped A) DumpError → Type 0
IsAnswer text (Ok d) = IsText d text
IsAnswer text (Err e) = (e ≡ OutOfMemory) ⊎ IsFault text e

-- the result at the end of a text that is good so far: its dump, or that it is short
abbrev pub EndsText : {A : Type 0} → List ℕ → Result (Dumped A) DumpError → Type 0
EndsText text (Ok d) = IsText d text
EndsText text (Err e) = (e ≡ Short (length text)) × (judge dump text ≡ Unfinished)

-- the result at the end of all pieces: that of the text, or the error that a piece led to
abbrev pub EndsReading : {A : Type 0} → Progress → Result (Dumped A) DumpError → Type 0
EndsReading (Ok text) answer = EndsText text answer
EndsReading (Err e) answer = answer ≡ Err e

-- the result for a piece: the text so far is good, or the result is its first fault or out of memory, and so is every later one
abbrev pub Feeds : Progress → List ℕ → Result ⊤ DumpError → Progress → Type 0
Feeds (Ok text) piece (Ok _) new = IsGood (text ++ piece) × (new ≡ Ok (text ++ piece))
Feeds (Ok text) piece (Err e) new = ((e ≡ OutOfMemory) ⊎ IsBroken (text ++ piece) e) × (new ≡ Err e)
Feeds (Err e) piece answer new = (answer ≡ Err e) × (new ≡ Err e)

-- a piece for which the text need not grow: it is empty, or nothing may follow the text
abbrev pub NeedsNone : List ℕ → List ℕ → Type 0
NeedsNone text piece = (length piece ≡ 0) ⊎ IsWhole text

-- nothing is wrong with the head of this text, its first 16 bytes, or with as many of them as there are
abbrev pub HasGoodHead : List ℕ → Type 0
HasGoodHead text = IsGood (take 16 text)

-- why the bytes of a reader were not read: by the log of its calls it failed, or was called as often as it may be
abbrev pub ReaderHasFailed : CallLog → Type 0
ReaderHasFailed log = HasFailed CALLS log

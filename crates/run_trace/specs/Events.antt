-- The JSON value of each event of a trace. The members of an object are in the order of their keys.
use Rattle.std.specs.Prelude.{ℕ, ◌+◌, ◌*◌, List, ◌∷◌, ◌++◌, codes}
use Rattle.std.specs.Fmt.{decimal}
use Rattle.chare_index.specs.declared.limits.TheConstants.Limits.{PES}
use Rattle.serde_json.specs.Data.{Data, number, unsigned, string, object, member, no_members}
use Rattle.run_trace.specs.Times.{time_data}
use Rattle.run_trace.specs.declared.event.TraceEvent.{TraceEvent}
use Rattle.run_trace.specs.declared.event.TraceEvent.TheVariants.{Row, Slice, Instant, Decision, Load, Leaves, Comes}
use Rattle.run_trace.specs.declared.event.Work.{Work}
use Rattle.run_trace.specs.declared.event.Work.TheVariants.{Start, Letter, Resume, Depart, Arrive}
use Rattle.run_trace.specs.declared.event.Sign.{Sign}
use Rattle.run_trace.specs.declared.event.Sign.TheVariants as sign
use Rattle.run_trace.specs.declared.event.Flow.{Flow}
use Rattle.run_trace.specs.declared.event.Flow.TheVariants as flow

-- a number, and a text
abbrev pub count : ℕ → Data
count n = number (unsigned n)

-- the name of a PE
abbrev pub pe_name : ℕ → List ℕ
pe_name pe = codes "PE " ++ decimal pe

-- the name of the counter of a PE
abbrev pub load_name : ℕ → List ℕ
load_name pe = codes "load of PE " ++ decimal pe

-- a letter: the PE that posted it, and its number there
abbrev pub letter_name : ℕ → ℕ → List ℕ
letter_name pe n = decimal pe ++ (46 ∷ decimal n)

-- what a slice is called
abbrev pub work_name : Work → List ℕ
work_name Start = codes "start"
work_name (Letter pe n) = codes "letter"
work_name (Resume r) = codes "resume"
work_name Depart = codes "depart"
work_name Arrive = codes "arrive"

-- a handler, or a part of a move
abbrev pub work_kind : Work → List ℕ
work_kind Start = codes "handler"
work_kind (Letter pe n) = codes "handler"
work_kind (Resume r) = codes "handler"
work_kind Depart = codes "move"
work_kind Arrive = codes "move"

-- the data of the work, with its element
abbrev pub work_data : Work → ℕ → Data
work_data Start e = object (member (codes "element") (count e) no_members)
work_data (Letter pe n) e = object (member (codes "element") (count e) (member (codes "letter") (string (letter_name pe n)) no_members))
work_data (Resume r) e = object (member (codes "element") (count e) (member (codes "round") (count r) no_members))
work_data Depart e = object (member (codes "element") (count e) no_members)
work_data Arrive e = object (member (codes "element") (count e) no_members)

-- what an instant is called
abbrev pub sign_name : Sign → List ℕ
sign_name sign.Report = codes "report"
sign_name sign.Resumption = codes "resumption"
sign_name sign.Shelve = codes "shelve"
sign_name sign.Forward = codes "forward"

-- what an arrow is called, and its category
abbrev pub flow_name : Flow → List ℕ
flow_name (flow.Letter pe n) = codes "letter"
flow_name (flow.Element e) = codes "element"

-- the number of an arrow among those of its name
abbrev pub flow_number : Flow → ℕ
flow_number (flow.Letter pe n) = n * PES + pe
flow_number (flow.Element e) = e

-- the value of an event
abbrev pub event_data : TraceEvent → Data
event_data (Row pe) = object (member (codes "args") (object (member (codes "name") (string (pe_name pe)) no_members))
    (member (codes "name") (string (codes "thread_name"))
    (member (codes "ph") (string (codes "M"))
    (member (codes "pid") (count 1)
    (member (codes "tid") (count pe) no_members)))))
event_data (Slice pe at duration work e) = object (member (codes "args") (work_data work e)
    (member (codes "cat") (string (work_kind work))
    (member (codes "dur") (time_data duration)
    (member (codes "name") (string (work_name work))
    (member (codes "ph") (string (codes "X"))
    (member (codes "pid") (count 1)
    (member (codes "tid") (count pe)
    (member (codes "ts") (time_data at) no_members))))))))
event_data (Instant pe at sign) = object (member (codes "name") (string (sign_name sign))
    (member (codes "ph") (string (codes "i"))
    (member (codes "pid") (count 1)
    (member (codes "s") (string (codes "t"))
    (member (codes "tid") (count pe)
    (member (codes "ts") (time_data at) no_members))))))
event_data (Decision at r) = object (member (codes "args") (object (member (codes "round") (count r) no_members))
    (member (codes "name") (string (codes "decision"))
    (member (codes "ph") (string (codes "i"))
    (member (codes "pid") (count 1)
    (member (codes "s") (string (codes "g"))
    (member (codes "tid") (count 0)
    (member (codes "ts") (time_data at) no_members)))))))
event_data (Load pe at load) = object (member (codes "args") (object (member (codes "load") (count load) no_members))
    (member (codes "name") (string (load_name pe))
    (member (codes "ph") (string (codes "C"))
    (member (codes "pid") (count 1)
    (member (codes "ts") (time_data at) no_members)))))
event_data (Leaves pe at flow) = object (member (codes "cat") (string (flow_name flow))
    (member (codes "id") (count (flow_number flow))
    (member (codes "name") (string (flow_name flow))
    (member (codes "ph") (string (codes "s"))
    (member (codes "pid") (count 1)
    (member (codes "tid") (count pe)
    (member (codes "ts") (time_data at) no_members)))))))
event_data (Comes pe at flow) = object (member (codes "bp") (string (codes "e"))
    (member (codes "cat") (string (flow_name flow))
    (member (codes "id") (count (flow_number flow))
    (member (codes "name") (string (flow_name flow))
    (member (codes "ph") (string (codes "f"))
    (member (codes "pid") (count 1)
    (member (codes "tid") (count pe)
    (member (codes "ts") (time_data at) no_members))))))))

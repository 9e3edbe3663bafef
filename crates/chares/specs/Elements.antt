-- An element of the chare array: a chare with what it has done.
use Rattle.std.specs.Prelude.{◌≡◌, ◌≢◌, ℕ, List, [], ◌∷◌, ◌++◌, length, map, Option, Some, false, slice_get}
use Rattle.chares.specs.declared.entry.Entry.{Entry}
use Rattle.chares.specs.declared.note.Mark.{Mark}
use Rattle.chares.specs.declared.note.Note.{Note}
use Rattle.chares.specs.declared.progress.Ending.{Ending}
use Rattle.chares.specs.declared.progress.Progress.{Progress}
use Rattle.chares.specs.declared.sends.SendError.{SendError}
use Rattle.chares.specs.declared.sends.SendError.TheVariants.{OutOfMemory}
use Rattle.chares.specs.Letters.{Done, input_of}
use Rattle.chares.specs.Orders.{IsInOrder}
use Rattle.chares.specs.Progressing.{entered, charged, ending, ended, note_at, resumed_mark, synced_mark}
use Rattle.chares.specs.Steps.{Outcome, Step}

-- an element on a PE: its chare, the journal of the letters and resumptions that it has handled, in order, how far it
-- has come, and its marks of the rounds that it has seen
pub record ElementView (C : Type 0) : Type 0 where
  pub index : ℕ
  pub chare : C
  pub journal : List Done
  pub progress : Progress
  pub marks : List Mark

-- the rounds of an element come in order
abbrev pub IsElementInOrder : {C : Type 0} → ElementView C → Type 0
IsElementInOrder el = IsInOrder el.journal el.progress el.marks

-- as it opens
abbrev pub opening_element : {C : Type 0} → ℕ → C → ElementView C
opening_element index chare =
    record {
      index = index;
      chare = chare;
      journal = [];
      progress = record { round = 0; started = false; synced = false; finished = false; load = 0 };
      marks = [];
    }

module _ {C : Type 0} (step : Step C) (pack : C → List ℕ) where
  -- what the chare's step gives for one more entry, among n elements
  abbrev pub outcome_of : ElementView C → ℕ → Done → Outcome C
  outcome_of el n done = step el.chare el.index n (input_of done)

  -- how far the element has come with the units of that entry
  abbrev pub worked : ElementView C → ℕ → Done → Progress
  worked el n done = charged (entered el.progress done) (outcome_of el n done).effect.units

  -- what the effect of its handler means
  abbrev pub ending_of : ElementView C → ℕ → Done → Ending
  ending_of el n done = ending (worked el n done) (outcome_of el n done).effect

  -- what its handler sends
  abbrev pub sent_by : ElementView C → ℕ → Done → List (ℕ × List ℕ)
  sent_by el n done = (outcome_of el n done).sends

  -- the note that becomes owed: the load with this entry, and the packed length after it
  abbrev pub note_of : ElementView C → ℕ → ℕ → Done → Option Note
  note_of el n pe done = note_at (worked el n done) el.index (length (pack (outcome_of el n done).state)) pe (ending_of el n done)

  -- the element after one more entry, on this PE
  abbrev pub ran : ElementView C → ℕ → ℕ → Done → ElementView C
  ran el n pe done =
      record {
        index = el.index;
        chare = (outcome_of el n done).state;
        journal = el.journal ++ done ∷ [];
        progress = ended (worked el n done) (ending_of el n done);
        marks = el.marks ++ (resumed_mark pe done ++ synced_mark (note_of el n pe done));
      }

  -- the element after these entries, each on its PE
  abbrev pub lived : ElementView C → ℕ → List (Done × ℕ) → ElementView C
  lived el n [] = el
  lived el n (x ∷ xs) = lived (ran el n x.1 x.0) n xs

  -- the element is the chare that its array opened with, after the entries of its journal, each on some PE: its chare is
  -- the step folded over the journal, and everything else follows from the same journal, except the PEs in its marks. Its
  -- rounds come in order: it started before its first letter, and then waited and was resumed for each round in turn.
  pub record IsHistory (opened : List C) (el : ElementView C) : Type 0 where
    pub opening : C
    pub opens : slice_get opened el.index ≡ Some opening
    pub entries : List (Done × ℕ)
    pub is_lived : lived (opening_element el.index opening) (length opened) entries ≡ el
    pub is_journal : map (λ x. x.0) entries ≡ el.journal
    pub in_order : IsElementInOrder el

-- When the handler of a chare may return an error: from the state, the index of the element, the number of elements, how
-- many letters the PE has posted, and what the handler is given.
abbrev pub Refuses : Type 0 → Type 1
Refuses C = C → ℕ → ℕ → ℕ → Entry (List ℕ) → SendError → Type 0

-- an error of an element's handler is out of memory, or one that its chare may return
abbrev pub MayReturn : {C : Type 0} → Refuses C → ElementView C → ℕ → ℕ → Entry (List ℕ) → SendError → Type 0
MayReturn refuses el n count input error = error ≢ OutOfMemory → refuses el.chare el.index n count input error

-- an element on its way: its state is packed
pub record PackedView : Type 0 where
  pub index : ℕ
  pub bytes : List ℕ
  pub journal : List Done
  pub progress : Progress
  pub marks : List Mark

-- the element, packed
abbrev pub packed : {C : Type 0} → (C → List ℕ) → ElementView C → PackedView
packed pack el = record { index = el.index; bytes = pack el.chare; journal = el.journal; progress = el.progress; marks = el.marks }

-- the element of this pack, with this chare
abbrev pub unpacked : {C : Type 0} → PackedView → C → ElementView C
unpacked p chare = record { index = p.index; chare = chare; journal = p.journal; progress = p.progress; marks = p.marks }

-- what is packed is an element that is what its journal says, with a chare that fits its type
pub record IsPackedHistory {C : Type 0} (step : Step C) (fits : C → Type 0) (pack : C → List ℕ) (opened : List C) (p : PackedView) : Type 0 where
  pub chare : C
  pub is_value : fits chare
  pub is_pack : pack chare ≡ p.bytes
  pub is_history : IsHistory step pack opened (unpacked p chare)

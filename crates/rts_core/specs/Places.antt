-- Where the letters and the elements of a world are. The places of a letter are the queues, and the hands, shelves and
-- outboxes of the PEs; an element is in a room, or is a parcel in a queue, a hand or an outbox. A letter in the
-- journal of an element was executed, and is in no place. Source: the Charm++ manual, where a message waits in the
-- queue of a PE until its handler runs, and an object that migrates is packed into a message.
use Rattle.std.specs.Prelude.{ℕ, List, [], ◌∷◌, ◌++◌, length, map, slice_get}
use Rattle.std.specs.List.{flat_map}
use Rattle.std.specs.Map.{values_of}
use Rattle.std.specs.Option.{option_map_or, option_to_list}
use Rattle.chares.specs.declared.carried.Carried.TheVariants.{Letter, Element}
use Rattle.chares.specs.declared.entry.Entry.TheVariants.{Letter as OfLetter, Resumption}
use Rattle.chares.specs.Elements.{ElementView}
use Rattle.chares.specs.Letters.{LetterView, Done, input_of}
use Rattle.chares.specs.Steps.{Step}
use Rattle.pe_state.specs.Pes.{PeView, Parcel, Item}
use Rattle.rts_core.specs.Worlds.{WorldView}

-- an element, wherever it is, as its index and its journal
abbrev pub Life : Type 0
Life = ℕ × List Done

-- a parcel is a letter, or an element
abbrev pub letters_in : Parcel → List LetterView
letters_in (Letter l) = l ∷ []
letters_in (Element p) = []

abbrev pub lives_in : Parcel → List Life
lives_in (Letter l) = []
lives_in (Element p) = (p.index, p.journal) ∷ []

abbrev pub life_of : {C : Type 0} → ElementView C → Life
life_of el = (el.index, el.journal)

-- what a PE has in its hand and in its outbox
abbrev pub items_at : {C : Type 0} → PeView C → List Item
items_at pe = option_to_list pe.hand ++ pe.outbox

-- the letters in the places of a PE, and the elements that it has
abbrev pub letters_at : {C : Type 0} → PeView C → List LetterView
letters_at pe = flat_map (λ x. letters_in x.parcel) (items_at pe) ++ pe.shelf

abbrev pub lives_at : {C : Type 0} → PeView C → List Life
lives_at pe = flat_map (λ x. lives_in x.parcel) (items_at pe) ++ map life_of (values_of pe.room)

-- the letters in places, and the elements, of a world
abbrev pub letters : {C A : Type 0} → WorldView C A → List LetterView
letters w = flat_map letters_at w.pes ++ flat_map (flat_map letters_in) w.queues

abbrev pub lives : {C A : Type 0} → WorldView C A → List Life
lives w = flat_map lives_at w.pes ++ flat_map (flat_map lives_in) w.queues

-- the letter of an entry of a journal, if it is one, and the letters of a journal
abbrev pub letters_of_entry : Done → List LetterView
letters_of_entry (OfLetter l) = l ∷ []
letters_of_entry (Resumption round) = []

abbrev pub letters_of_life : Life → List LetterView
letters_of_life life = flat_map letters_of_entry life.1

-- the letters in journals
abbrev pub journaled : {C A : Type 0} → WorldView C A → List LetterView
journaled w = flat_map letters_of_life (lives w)

module _ {C : Type 0} (step : Step C) where
  -- all that element e of n sends in these entries, from this chare on
  abbrev pub sent_over : ℕ → ℕ → C → List Done → List (ℕ × List ℕ)
  sent_over e n chare [] = []
  sent_over e n chare (done ∷ journal) =
      (step chare e n (input_of done)).sends ++ sent_over e n (step chare e n (input_of done)).state journal

  -- what an element has sent: what its chare sends over its journal, from its opening state on
  abbrev pub sends_of : List C → Life → List (ℕ × List ℕ)
  sends_of opened life = option_map_or (λ chare. sent_over life.0 (length opened) chare life.1) (slice_get opened life.0) []

  -- what all elements of a world have sent
  abbrev pub sends : {A : Type 0} → List C → WorldView C A → List (ℕ × List ℕ)
  sends opened w = flat_map (sends_of opened) (lives w)

-- A world after the step of one of its PEs.
use Rattle.std.proofs.Common.{◌≡◌, ℕ, ◌<◌, List, [], ◌++◌, length, take, drop, Option, Some, None, Result, Ok, Err, refl, sym, ap, ◌∙◌, length-set}
use Rattle.std.specs.Prelude.{IfOk, OnErr, slice_get, slice_set}
use Rattle.std.specs.Option.{option_and_then, option_copied}
use denote.Ref.{Bor}
use Rattle.std.specs.Slice.{IsItemAt}
use Rattle.std.proofs.lemmas.Option.{slice_get_past, slice_get_read}
use Rattle.std.proofs.Math.Seq.{take-append_seam}
use Rattle.std.proofs.lemmas.List.Elements.{All-set}
use Rattle.pup_pack.specs.declared.error.PupError.{PupError}
use Rattle.sync_board.specs.Boards.{BoardState}
use Rattle.lb_database.specs.Measuring.{elements}
use Rattle.chares.specs.declared.trace_entry.TraceEntry.{TraceEntry}
use Rattle.chares.specs.Steps.{Step}
use Rattle.pe_state.specs.Pes.{PeView, Parcel}
use Rattle.rts_core.specs.declared.event.Event.{Event}
use Rattle.rts_core.specs.Events.{LocalView, After, local_step, local_view, with_local, or_nothing, enabled, MayDecide}
use Rattle.pe_state.specs.Histories.{HasHistories}
use Rattle.rts_core.specs.Histories.{AreHistories, IsLocalView}
use Rattle.rts_core.specs.Parts.{or_same}
use Rattle.rts_core.specs.Worlds.{WorldView, IsWorld}

-- the step of a PE is the step of the world
pub enabled_at : {C A : Type 0} (step : Step C) (pack : C → List ℕ) (unpack : List ℕ → Result (C × ℕ) PupError) (w : WorldView C A)
    (event : Event) (p : ℕ) (pe : PeView C) (d : LocalView C A) (reports : List TraceEntry)
    → slice_get w.pes p ≡ Some pe → slice_set w.pes p pe ≡ w.pes
    → (d, reports) ≡ or_same (local_view w pe, []) (local_step step pack unpack event (local_view w pe))
    → (with_local w p d, reports) ≡ or_nothing w (enabled step pack unpack w event p)
enabled_at {C} {A} step pack unpack w event p pe d reports at same e =
    rw at (by (local_step step pack unpack event (local_view w pe)) e)
  where
    by : (o : Option (LocalView C A × List TraceEntry)) → (d, reports) ≡ or_same (local_view w pe, []) o
        → ◌≡◌ {A = After C A} (with_local w p d, reports) (or_nothing w (option_and_then (λ (after : LocalView C A × List TraceEntry). Some (with_local w p after.0, after.1)) o))
    by None k =
        ap (λ (x : LocalView C A × List TraceEntry). (with_local w p x.0, x.1)) k
        ∙ ap (λ (pes : List (PeView C)). (record { pes = pes; queues = w.queues; words = w.words; board = w.board }, [])) same
    by (Some after) k = ap (λ (x : LocalView C A × List TraceEntry). (with_local w p x.0, x.1)) k

pub enabled_ok : {C A E : Type 0} (step : Step C) (pack : C → List ℕ) (unpack : List ℕ → Result (C × ℕ) PupError) (w : WorldView C A)
    (event : Event) (p : ℕ) (pe : PeView C) (d : LocalView C A) (r : Result (List TraceEntry) E)
    → slice_get w.pes p ≡ Some pe → slice_set w.pes p pe ≡ w.pes
    → IfOk r (λ reports. (d, reports) ≡ or_same (local_view w pe, []) (local_step step pack unpack event (local_view w pe)))
    → IfOk r (λ reports. (with_local w p d, reports) ≡ or_nothing w (enabled step pack unpack w event p))
enabled_ok step pack unpack w event p pe d (Ok reports) at same ok = enabled_at step pack unpack w event p pe d reports at same ok
enabled_ok step pack unpack w event p pe d (Err e) at same ok = tt

-- a refused step leaves its PE unchanged in the list
pub same_at : {C V E : Type 0} (pes : List (PeView C)) (p : ℕ) (pe pe' : PeView C) (r : Result V E) → slice_set pes p pe ≡ pes → OnErr r (pe' ≡ pe)
    → OnErr r (slice_set pes p pe' ≡ pes)
same_at pes p pe pe' (Ok v) same err = tt
same_at pes p pe pe' (Err e) same err = ap (slice_set pes p) err ∙ same

-- it is still a world of the same run
pub world_local : {C A : Type 0} (step : Step C) (fits : C → Type 0) (pack : C → List ℕ) (opened : List C) (pes : ℕ) (w : WorldView C A) (p : ℕ) (d : LocalView C A)
    → IsWorld (length opened) pes w → IsLocalView step fits pack opened pes d → length d.queues ≡ length w.queues
    → length d.words ≡ length w.words → IsWorld (length opened) pes (with_local w p d)
world_local {C} step fits pack opened pes w p d h k queues words =
    record {
      some_pe = h.some_pe;
      few_pes = h.few_pes;
      few = h.few;
      pes_counted = length-set {A = PeView C} w.pes p d.pe ∙ h.pes_counted;
      queues_counted = queues ∙ h.queues_counted;
      words_counted = words ∙ h.words_counted;
      words_name = k.words_name;
      board_counted = k.board_counted;
      board_pes = k.board_pes;
    }

pub histories_local : {C A : Type 0} (step : Step C) (fits : C → Type 0) (pack : C → List ℕ) (opened : List C) (pes : ℕ) (w : WorldView C A) (p : ℕ) (d : LocalView C A)
    → AreHistories step fits pack opened w → IsLocalView step fits pack opened pes d → AreHistories step fits pack opened (with_local w p d)
histories_local step fits pack opened pes w p d h k =
    record { pes = All-set (HasHistories step fits pack opened) w.pes p d.pe k.histories h.pes; queues = k.parcels }

-- it is still a world of that run after the board has changed
pub world_board : {C A : Type 0} (n pes : ℕ) (w : WorldView C A) (b : BoardState A) → IsWorld n pes w
    → elements b.database ≡ elements w.board.database → b.pes ≡ w.board.pes
    → IsWorld n pes (record { pes = w.pes; queues = w.queues; words = w.words; board = b })
world_board n pes w b h counted same =
    record {
      some_pe = h.some_pe;
      few_pes = h.few_pes;
      few = h.few;
      pes_counted = h.pes_counted;
      queues_counted = h.queues_counted;
      words_counted = h.words_counted;
      words_name = h.words_name;
      board_counted = counted ∙ h.board_counted;
      board_pes = same ∙ h.board_pes;
    }

pub histories_board : {C A : Type 0} (step : Step C) (fits : C → Type 0) (pack : C → List ℕ) (opened : List C) (w : WorldView C A) (b : BoardState A)
    → AreHistories step fits pack opened w
    → AreHistories step fits pack opened (record { pes = w.pes; queues = w.queues; words = w.words; board = b })
histories_board step fits pack opened w b h = record { pes = h.pes; queues = h.queues }

-- the items of a list of which all was lent and given back
pub came_back : {X : Type 0} (n : ℕ) (xs items : List X) → n ≡ length xs → take n (xs ++ drop (length xs) items) ≡ xs
came_back n xs items same = rw same (take-append_seam xs (drop (length xs) items))

-- a world in which nothing has changed
pub nothing_changed : {C A V E : Type 0} (r : Result V E) (w w' : WorldView C A) → OnErr r (w'.pes ≡ w.pes) → OnErr r (w'.queues ≡ w.queues)
    → OnErr r (w'.words ≡ w.words) → OnErr r (w'.board ≡ w.board) → OnErr r (w' ≡ w)
nothing_changed (Ok v) w w' pes queues words board = tt
nothing_changed {C} {A} (Err e) w w' pes queues words board =
    ap (λ (x : List (PeView C)). record { pes = x; queues = w'.queues; words = w'.words; board = w'.board }) pes
    ∙ (ap (λ (x : List (List Parcel)). record { pes = w.pes; queues = x; words = w'.words; board = w'.board }) queues
    ∙ (ap (λ (x : List ℕ). record { pes = w.pes; queues = w.queues; words = x; board = w'.board }) words
    ∙ ap (λ (x : BoardState A). record { pes = w.pes; queues = w.queues; words = w.words; board = x }) board))

-- a decision changes the board alone
pub decided_alone : {C A E : Type 0} (r : Result (List TraceEntry) E) (w : WorldView C A) (b : BoardState A)
    → IfOk r (λ reports. MayDecide w.board b reports)
    → IfOk r (λ reports. MayDecide w.board b reports × (◌≡◌ {A = WorldView C A}
    (record { pes = w.pes; queues = w.queues; words = w.words; board = b }) (record { pes = w.pes; queues = w.queues; words = w.words; board = b })))
decided_alone (Ok reports) w b ok = (ok, refl)
decided_alone (Err e) w b ok = tt

pub board_same : {C A V E : Type 0} (r : Result V E) (w : WorldView C A) (b : BoardState A) → OnErr r (b ≡ w.board)
    → OnErr r (◌≡◌ {A = WorldView C A} (record { pes = w.pes; queues = w.queues; words = w.words; board = b }) w)
board_same (Ok v) w b err = tt
board_same {C} {A} (Err e) w b err = ap (λ (x : BoardState A). record { pes = w.pes; queues = w.queues; words = w.words; board = x }) err

-- what `get` lends is the item at that index, if there is one
pub lent_at : {X : Type 0} (items : List X) (i : ℕ) (lent : Option (Bor X)) → IsItemAt items i lent → option_copied lent ≡ slice_get items i
lent_at items i None found = sym (slice_get_past items i found.3)
lent_at items i (Some item) found =
    let inside : i < length items = found.3.0 in
    sym (slice_get_read items (length items) i item.now refl inside found.1)

-- An event that is enabled, other than a look, a flush, a delivery and a report, has a trace entry.
use Rattle.std.proofs.Common.{◌≡◌, ◌≢◌, ℕ, List, [], ◌∷◌, Option, Some, None, Bool, true, false}
use Rattle.std.specs.Prelude.{Result, Ok, Err, IfSome, slice_get, if◌then◌else◌, not, ◌==◌}
use Rattle.std.specs.Option.{option_and_then, option_map}
use Rattle.chares.specs.declared.carried.Carried.TheVariants.{Letter, Element}
use Rattle.chares.specs.declared.trace_entry.TraceEntry.{TraceEntry}
use Rattle.chares.specs.Elements.{ElementView, PackedView}
use Rattle.chares.specs.Letters.{LetterView}
use Rattle.chares.specs.Steps.{Step}
use Rattle.pe_state.specs.Pes.{Acting, Item, PeView, acting, acting_on, on_letter, on_element, passing, installing, forwarding, shelving}
use Rattle.pe_state.specs.Rooms.{found}
use Rattle.pup_pack.specs.declared.error.PupError.{PupError}
use Rattle.rts_core.specs.declared.event.Event.{Event}
use Rattle.rts_core.specs.declared.event.Event.TheVariants as Happening
use Rattle.rts_core.specs.Events.{LocalView, enabled, local_step, local_view, start_event, act_event, depart_event, resume_event, due, where_true, with_local}
use Rattle.rts_core.specs.Worlds.{WorldView}
use Rattle.courses.specs.Courses.{is_silent}

pub not_empty : {X : Type 0} (x : X) (xs : List X) → x ∷ xs ≢ []
not_empty x xs e = cc

-- where there is something, it has a trace entry
abbrev pub Shows : {Y : Type 0} → Option (Y × List TraceEntry) → Type 0
Shows {Y} o = IfSome o (λ y. y.1 ≢ [])

pub bind_shows : {X Y : Type 0} (f : X → Option (Y × List TraceEntry)) → ((x : X) → Shows (f x)) → (o : Option X) → Shows (option_and_then f o)
bind_shows f h None = tt
bind_shows f h (Some x) = h x

pub bind_if : {X Y : Type 0} (P : Y → Type 0) (f : X → Option Y) → ((x : X) → IfSome (f x) P) → (o : Option X) → IfSome (option_and_then f o) P
bind_if P f h None = tt
bind_if P f h (Some x) = h x

pub true_if : {Y : Type 0} (P : Y → Type 0) (y : Y) → P y → (test : Bool) → IfSome (where_true test (Some y)) P
true_if P y h true = h
true_if P y h false = tt

pub true_shows : {Y : Type 0} (y : Y) (entry : TraceEntry) (entries : List TraceEntry) (test : Bool) → Shows (where_true test (Some (y, entry ∷ entries)))
true_shows y entry entries true = not_empty entry entries
true_shows y entry entries false = tt

-- what is made of a step, and keeps its trace entries
pub then_shows : {X Y : Type 0} (f : X → Y) (o : Option (X × List TraceEntry)) → Shows o → Shows (option_and_then (λ (after : X × List TraceEntry). Some (f after.0, after.1)) o)
then_shows f None h = tt
then_shows f (Some x) h = h

pub both_show : {X Y Z : Type 0} (f : X → Y → Z) (o : Option (X × Y × List TraceEntry)) → IfSome o (λ (a : X × Y × List TraceEntry). a.2 ≢ [])
    → Shows (option_and_then (λ (after : X × Y × List TraceEntry). Some (f after.0 after.1, after.2)) o)
both_show f None h = tt
both_show f (Some x) h = h

module _ {C : Type 0} (step : Step C) (pack : C → List ℕ) (unpack : List ℕ → Result (C × ℕ) PupError) where
  abbrev ShowsActing : Option (Acting C) → Type 0
  ShowsActing o = IfSome o (λ a. a.trace ≢ [])

  passing_shows : (pe : PeView C) (l : LetterView) (look : Option ℕ) → ShowsActing (passing pe l look)
  passing_shows pe l None = tt
  passing_shows pe l (Some q) = by (q == pe.me)
    where
      by : (b : Bool) → ◌≢◌ {A = List TraceEntry} (if b then shelving pe l else forwarding pe l q).trace []
      by true = λ e. cc
      by false = λ e. cc

  letter_shows : (pe : PeView C) (l : LetterView) (look : Option ℕ) (o : Option (ElementView C)) → ShowsActing (on_letter step pack pe l look o)
  letter_shows pe l look None = passing_shows pe l look
  letter_shows pe l look (Some el) = by el.progress.started
    where
      by : (b : Bool) → ShowsActing (if b then Some (Rattle.pe_state.specs.Pes.executed step pack pe l) else None)
      by true = λ e. cc
      by false = tt

  element_shows : (pe : PeView C) (p : PackedView) (o : Option (ElementView C)) → ShowsActing (on_element step pack unpack pe p o)
  element_shows pe p (Some el) = tt
  element_shows pe p None = by (unpack p.bytes)
    where
      by : (r : Result (C × ℕ) PupError) → ShowsActing (installing step pack unpack pe p r)
      by (Ok x) = λ e. cc
      by (Err e) = tt

  item_shows : (pe : PeView C) (o : Option Item) → ShowsActing (acting_on step pack unpack pe o)
  item_shows pe None = tt
  item_shows pe (Some x) = by x.parcel
    where
      by : (y : Rattle.pe_state.specs.Pes.Parcel) → ShowsActing (Rattle.pe_state.specs.Pes.on_parcel step pack unpack pe y x.address)
      by (Letter l) = letter_shows pe l x.address (found l.to pe.room)
      by (Element p) = element_shows pe p (found p.index pe.room)

  act_shows : (pe : PeView C) → Shows (act_event step pack unpack pe)
  act_shows pe = by (acting step pack unpack pe) (item_shows pe pe.hand)
    where
      by : (o : Option (Acting C)) → ShowsActing o → Shows (option_map (λ (a : Acting C). (a.pe, a.trace)) o)
      by None h = tt
      by (Some a) h = h

module _ {C A : Type 0} (step : Step C) (pack : C → List ℕ) (unpack : List ℕ → Result (C × ℕ) PupError) where
  local_shows : (event : Event) (d : LocalView C A) → is_silent event ≡ false → Shows (local_step step pack unpack event d)
  local_shows (Happening.Start p e) d loud =
      then_shows (λ (pe : PeView C). record d { pe = pe }) (start_event step pack d.pe e)
      (bind_shows _ (λ (el : ElementView C). true_shows _ _ _ (not el.progress.started)) (found e d.pe.room))
  local_shows (Happening.Act p) d loud =
      then_shows (λ (pe : PeView C). record d { pe = pe }) (act_event step pack unpack d.pe) (act_shows step pack unpack d.pe)
  local_shows (Happening.Depart p e) d loud =
      both_show (λ (pe : PeView C) (words : List ℕ). record d { pe = pe; words = words }) (depart_event step pack p d.pe d.words d.board e)
      (bind_if _ _ (λ (at : ℕ × ℕ). true_if _ _ (not_empty _ _) (not (at.1 == p))) (due d.pe d.board e))
  local_shows (Happening.Resume p e) d loud =
      then_shows (λ (pe : PeView C). record d { pe = pe }) (resume_event step pack p d.pe d.board e)
      (bind_shows _ (λ (at : ℕ × ℕ). true_shows _ _ _ (at.1 == p)) (due d.pe d.board e))
  local_shows Happening.Decide d loud = tt
  local_shows (Happening.Look p) d loud = cc
  local_shows (Happening.Flush p) d loud = cc
  local_shows (Happening.Deliver p) d loud = cc
  local_shows (Happening.Report p) d loud = cc

  -- so has the step of the world, where there is such a PE
  pub enabled_shows : (w : WorldView C A) (event : Event) (p : ℕ) → is_silent event ≡ false → Shows (enabled step pack unpack w event p)
  enabled_shows w event p loud =
      bind_shows _ (λ (pe : PeView C). then_shows (with_local w p) (local_step step pack unpack event (local_view w pe))
      (local_shows event (local_view w pe) loud)) (slice_get w.pes p)

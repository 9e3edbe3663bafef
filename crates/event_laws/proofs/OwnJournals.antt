-- After every list of events, every letter in a journal is to the element whose journal it is.
use Rattle.std.proofs.Common.{◌≡◌, ℕ, List, [], Option, Some, None, refl, sym, subst}
use Rattle.std.specs.Prelude.{Result, All, IfSome}
use Rattle.std.specs.List.{flat_map}
use Rattle.std.specs.Map.{values_of}
use Rattle.std.specs.Option.{option_to_list}
use Rattle.std.proofs.lemmas.List.Elements.{All-nil, All-cons, All-append, All-map, All-weaker}
use Rattle.pup_pack.specs.declared.error.PupError.{PupError}
use Rattle.chares.specs.declared.carried.Carried.TheVariants.{Letter, Element}
use Rattle.chares.specs.declared.entry.Entry.TheVariants.{Letter as OfLetter, Resumption}
use Rattle.chares.specs.Elements.{ElementView, PackedView}
use Rattle.chares.specs.Letters.{LetterView}
use Rattle.chares.specs.Steps.{Step}
use Rattle.pe_state.specs.Pes.{PeView, Parcel, Item}
use Rattle.rts_core.specs.declared.event.Event.{Event}
use Rattle.rts_core.specs.Events.{After}
use Rattle.rts_core.specs.Own.{IsOwn, AreOwn}
use Rattle.rts_core.specs.Places.{life_of, lives_in, items_at, lives_at}
use Rattle.rts_core.specs.Runs.{Reaches}
use Rattle.rts_core.specs.Worlds.{WorldView, opening_world}
use Rattle.rts_core.proofs.EachElement.{IsKept, ParcelKept, ItemKept, PeKept, WorldKept, run_kept, opening_kept}
use Rattle.rts_core.proofs.Rooms.{each_value}
use Rattle.event_laws.proofs.OwnEntries.{all_flat, IsOwnEntry, own_more}
use Rattle.sync_board.specs.declared.strategy.Strategy.{Strategy}

-- an element is beside its index, and every letter in its journal is to this index; and so for one that is packed
abbrev pub FitsOwn : {C : Type 0} → ℕ → ElementView C → Type 0
FitsOwn e el = (el.index ≡ e) × IsOwn (e, el.journal)

abbrev pub PackedOwn : PackedView → Type 0
PackedOwn p = IsOwn (p.index, p.journal)

own_of : {C : Type 0} (e : ℕ) (el : ElementView C) → FitsOwn e el → IsOwn (life_of el)
own_of e el k = subst (λ (i : ℕ). IsOwn (i, el.journal)) (sym k.0) k.1

resumption_is_own : (e round : ℕ) → IsOwnEntry e (Resumption round)
resumption_is_own e round = All-nil (λ (l : LetterView). l.to ≡ e)

letter_is_own : (l : LetterView) → IsOwnEntry l.to (OfLetter l)
letter_is_own l = All-cons (λ (x : LetterView). x.to ≡ l.to) l [] refl (All-nil (λ (x : LetterView). x.to ≡ l.to))

pub own_kept : {C : Type 0} (step : Step C) (pack : C → List ℕ) → IsKept step pack FitsOwn PackedOwn
own_kept step pack =
    record {
      opens = λ e chare. (refl, All-nil (λ (l : LetterView). l.to ≡ e));
      starts = λ e n me el k fresh. (k.0, own_more e el.journal (Resumption 0) (resumption_is_own e 0) k.1);
      goes_on = λ e n me round el k waits. (k.0, own_more e el.journal (Resumption round) (resumption_is_own e round) k.1);
      executes = λ n me l el k started. (k.0, own_more l.to el.journal (OfLetter l) (letter_is_own l) k.1);
      packs = own_of;
      unpacks = λ p chare k. (refl, k);
    }

-- so for the journals of a parcel, of what a PE has, and of a world
parcel_owned : (parcel : Parcel) → ParcelKept PackedOwn parcel → All IsOwn (lives_in parcel)
parcel_owned (Letter l) k = All-nil IsOwn
parcel_owned (Element p) k = All-cons IsOwn (p.index, p.journal) [] k (All-nil IsOwn)

abbrev ItemOwned : Item → Type 0
ItemOwned x = All IsOwn (lives_in x.parcel)

pe_owned : {C : Type 0} (pe : PeView C) → PeKept (FitsOwn {C = C}) PackedOwn pe → All IsOwn (lives_at pe)
pe_owned {C} pe h =
    let outbox : All ItemOwned pe.outbox = All-weaker (ItemKept PackedOwn) ItemOwned (λ x k. parcel_owned x.parcel k) pe.outbox h.outbox in
    let items : All ItemOwned (items_at pe) = All-append ItemOwned (option_to_list pe.hand) pe.outbox (listed pe.hand h.hand) outbox in
    let room : All (λ (el : ElementView C). IsOwn (life_of el)) (values_of pe.room) = each_value FitsOwn (λ (el : ElementView C). IsOwn (life_of el)) own_of pe.room h.room in
    All-append IsOwn _ _ (all_flat IsOwn (λ (x : Item). lives_in x.parcel) (items_at pe) items) (All-map IsOwn life_of (values_of pe.room) room)
  where
    listed : (o : Option Item) → IfSome o (ItemKept PackedOwn) → All ItemOwned (option_to_list o)
    listed None k = All-nil ItemOwned
    listed (Some x) k = All-cons ItemOwned x [] (parcel_owned x.parcel k) (All-nil ItemOwned)

pub world_owned : {C A : Type 0} (w : WorldView C A) → WorldKept (FitsOwn {C = C}) PackedOwn w → AreOwn w
world_owned {C} w h =
    let pes : All (λ (pe : PeView C). All IsOwn (lives_at pe)) w.pes = All-weaker (PeKept FitsOwn PackedOwn) (λ (pe : PeView C). All IsOwn (lives_at pe)) pe_owned w.pes h.pes in
    let queues : All (λ (queue : List Parcel). All IsOwn (flat_map lives_in queue)) w.queues =
    All-weaker (All (ParcelKept PackedOwn)) (λ (queue : List Parcel). All IsOwn (flat_map lives_in queue))
    (λ queue k. all_flat IsOwn lives_in queue (All-weaker (ParcelKept PackedOwn) (λ (x : Parcel). All IsOwn (lives_in x)) parcel_owned queue k)) w.queues h.queues in
    All-append IsOwn (flat_map lives_at w.pes) (flat_map (flat_map lives_in) w.queues) (all_flat IsOwn lives_at w.pes pes) (all_flat IsOwn (flat_map lives_in) w.queues queues)

pub own : {C A : Type 0} (step : Step C) (pack : C → List ℕ) (unpack : List ℕ → Result (C × ℕ) PupError) (pes : ℕ) (chares : List C)
    (strategy : Strategy) (events : List Event) (last : After C A)
    → Reaches step pack unpack (opening_world pes chares strategy) events last → AreOwn last.0
own {C} {A} step pack unpack pes chares strategy events last run =
    world_owned last.0 (run_kept step pack FitsOwn PackedOwn (own_kept step pack) unpack (opening_world pes chares strategy) events last
    (opening_kept step pack FitsOwn PackedOwn (own_kept step pack) A pes chares strategy) run)

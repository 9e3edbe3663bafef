-- What holds of every element of every world that a list of events reaches, in a room or packed: it holds as an element
-- opens, each handler keeps it, and packing and unpacking an element keep it.
use Rattle.std.proofs.Common.{◌≡◌, ℕ, ◌+◌, List, [], ◌∷◌, ◌++◌, length, map, Option, Some, None, true, false, Result, refl, sym, subst}
use Rattle.std.specs.Prelude.{All, IfSome, slice_get}
use Rattle.std.specs.List.{filter, range_with_len}
use Rattle.std.specs.Option.{option_map, option_to_list}
use Rattle.std.proofs.lemmas.List.Elements.{All-nil, All-cons, All-append, All-push, All-drop, All-head, All-tail, All-set, All-map, All-replicate}
use Rattle.pup_pack.specs.declared.error.PupError.{PupError}
use Rattle.chares.specs.declared.carried.Carried.TheVariants.{Letter, Element}
use Rattle.chares.specs.declared.entry.Entry.TheVariants.{Letter as OfLetter, Resumption}
use Rattle.chares.specs.declared.trace_entry.TraceEntry.{TraceEntry}
use Rattle.chares.specs.Elements.{ElementView, PackedView, opening_element, packed, unpacked, ran}
use Rattle.chares.specs.Letters.{LetterView, Done}
use Rattle.chares.specs.Posting.{letters_of, letter_to}
use Rattle.chares.specs.Steps.{Step}
use Rattle.pe_state.specs.Pes.{PeView, Parcel, Item, new_pe, placed, at_pe, letter_at, element_at, front_at, front_parcel, is_for, hand_wants, looked_in, handled, installed, departed, waits_for}
use Rattle.pe_state.specs.Rooms.{found, changed, ran_in}
use Rattle.rts_core.specs.declared.event.Event.{Event}
use Rattle.rts_core.specs.Events.{After, LocalView, local_view, with_local, Happens}
use Rattle.rts_core.specs.Runs.{Reaches}
use Rattle.rts_core.specs.Worlds.{WorldView, home, placed_on, all_placed, opening_world}
use Rattle.rts_core.proofs.Rooms.{EachAt, each_found, each_changed, each_joined, each_without, at_place}
use Rattle.rts_core.proofs.Turns.{EachTurn, each_map, happens_so}
use Rattle.sync_board.specs.declared.strategy.Strategy.{Strategy}

-- what is to be kept: of the element with an index, and of one that is packed
module _ {C : Type 0} (step : Step C) (pack : C → List ℕ) (F : ℕ → ElementView C → Type 0) (K : PackedView → Type 0) where
  pub record IsKept : Type 0 where
    pub opens : (e : ℕ) (chare : C) → F e (opening_element e chare)
    pub starts : (e n me : ℕ) (el : ElementView C) → F e el → el.progress.started ≡ false → F e (ran step pack el n me (Resumption 0))
    pub goes_on : (e n me round : ℕ) (el : ElementView C) → F e el → waits_for el ≡ Some round → F e (ran step pack el n me (Resumption round))
    pub executes : (n me : ℕ) (l : LetterView) (el : ElementView C) → F l.to el → el.progress.started ≡ true → F l.to (ran step pack el n me (OfLetter l))
    pub packs : (e : ℕ) (el : ElementView C) → F e el → K (packed pack el)
    pub unpacks : (p : PackedView) (chare : C) → K p → F p.index (unpacked p chare)

-- what is to be kept of a parcel, of all that a PE has, and of all that a world has
abbrev pub ParcelKept : (PackedView → Type 0) → Parcel → Type 0
ParcelKept K (Letter l) = Unit {0}
ParcelKept K (Element p) = K p

abbrev pub ItemKept : (PackedView → Type 0) → Item → Type 0
ItemKept K x = ParcelKept K x.parcel

pub record PeKept {C : Type 0} (F : ℕ → ElementView C → Type 0) (K : PackedView → Type 0) (pe : PeView C) : Type 0 where
  pub room : EachAt F pe.room
  pub hand : IfSome pe.hand (ItemKept K)
  pub outbox : All (ItemKept K) pe.outbox

abbrev pub QueuesKept : (PackedView → Type 0) → List (List Parcel) → Type 0
QueuesKept K queues = All (All (ParcelKept K)) queues

pub record WorldKept {C A : Type 0} (F : ℕ → ElementView C → Type 0) (K : PackedView → Type 0) (w : WorldView C A) : Type 0 where
  pub pes : All (PeKept F K) w.pes
  pub queues : QueuesKept K w.queues

module _ {C : Type 0} (step : Step C) (pack : C → List ℕ) (F : ℕ → ElementView C → Type 0) (K : PackedView → Type 0) (kept : IsKept step pack F K) where
  letters_kept : (me k : ℕ) (sends : List (ℕ × List ℕ)) → All (ItemKept K) (letters_of {P = PackedView} me k sends)
  letters_kept me k [] = All-nil (ItemKept K)
  letters_kept me k (send ∷ sends) = All-cons (ItemKept K) (record { parcel = Letter (letter_to me k send.0 send.1); address = None })
      (letters_of {P = PackedView} me (k + 1) sends) tt (letters_kept me (k + 1) sends)

  unshelved_kept : (q : ℕ) (letters : List LetterView) → All (ItemKept K) (map (letter_at q) letters)
  unshelved_kept q [] = All-nil (ItemKept K)
  unshelved_kept q (l ∷ letters) = All-cons (ItemKept K) (letter_at q l) (map (letter_at q) letters) tt (unshelved_kept q letters)

  front_kept : (outbox : List Item) (parcel : Parcel) → All (ItemKept K) outbox → front_parcel outbox ≡ Some parcel → ParcelKept K parcel
  front_kept [] parcel all is = cc
  front_kept (x ∷ xs) parcel all is = let same : x.parcel ≡ parcel = cc in subst (λ (v : Parcel). ParcelKept K v) same (All-head (ItemKept K) x xs all)

  -- ---- what a PE does to it

  module _ (pe : PeView C) (h : PeKept F K pe) where
    handled_kept : (e : ℕ) (done : Done) (hand : Option Item) (el : ElementView C) → found e pe.room ≡ Some el
        → F e (ran step pack el pe.n pe.me done) → IfSome hand (ItemKept K) → PeKept F K (handled step pack pe e done hand)
    handled_kept e done hand el at is held =
        let room : EachAt F (changed e (ran step pack el pe.n pe.me done) pe.room) = each_changed F e (ran step pack el pe.n pe.me done) pe.room is h.room in
        let there : ran_in step pack pe.room e pe.n pe.me done ≡ changed e (ran step pack el pe.n pe.me done) pe.room = rw at refl in
        record {
          room = subst (λ (v : List (ℕ × ElementView C)). EachAt F v) (sym there) room;
          hand = held;
          outbox = All-append (ItemKept K) pe.outbox _ h.outbox (letters_kept pe.me pe.count _);
        }

    looked_in_kept : (q : ℕ) (o : Option ℕ) → PeKept F K (looked_in pe q o)
    looked_in_kept q (Some e) = record { room = h.room; hand = at_hand pe.hand h.hand; outbox = h.outbox }
      where
        at_hand : (o : Option Item) → IfSome o (ItemKept K) → IfSome (option_map (at_pe q) o) (ItemKept K)
        at_hand None k = tt
        at_hand (Some x) k = k
    looked_in_kept q None = record { room = h.room; hand = h.hand; outbox = at_front pe.outbox h.outbox }
      where
        at_front : (xs : List Item) → All (ItemKept K) xs → All (ItemKept K) (front_at q xs)
        at_front [] k = k
        at_front (x ∷ xs) k = All-cons (ItemKept K) (at_pe q x) xs (All-head (ItemKept K) x xs k) (All-tail (ItemKept K) x xs k)

    leaving_kept : (q : ℕ) (o : Option (ElementView C)) → IfSome o (λ el. K (packed pack el))
        → All (ItemKept K) (option_to_list (option_map (element_at q) (option_map (packed pack) o)))
    leaving_kept q None k = All-nil (ItemKept K)
    leaving_kept q (Some el) k = All-cons (ItemKept K) (element_at q (packed pack el)) [] k (All-nil (ItemKept K))

    departed_kept : (e q : ℕ) (el : ElementView C) → found e pe.room ≡ Some el → PeKept F K (departed pack pe e q)
    departed_kept e q el at =
        let was : K (packed pack el) = kept.packs e el (each_found F e pe.room el h.room at) in
        let goes : IfSome (found e pe.room) (λ el. K (packed pack el)) = subst (λ (v : Option (ElementView C)). IfSome v (λ el. K (packed pack el))) (sym at) was in
        record {
          room = each_without F e pe.room h.room;
          hand = h.hand;
          outbox = All-append (ItemKept K) pe.outbox _ h.outbox (leaving_kept q (found e pe.room) goes);
        }

    held_kept : (x : Item) (parcel : Parcel) → pe.hand ≡ Some x → x.parcel ≡ parcel → ParcelKept K parcel
    held_kept x parcel hand is =
        let k : ItemKept K x = subst (λ (v : Option Item). IfSome v (ItemKept K)) hand h.hand in
        subst (λ (v : Parcel). ParcelKept K v) is k

    installed_kept : (p : PackedView) (chare : C) → K p → PeKept F K (installed pe p chare)
    installed_kept p chare k =
        record {
          room = each_joined F p.index (unpacked p chare) pe.room (kept.unpacks p chare k) h.room;
          hand = tt;
          outbox = All-append (ItemKept K) pe.outbox _ h.outbox (unshelved_kept pe.me (filter (is_for p.index) pe.shelf));
        }

  module _ {A : Type 0} (p : ℕ) (d : LocalView C A) (h : PeKept F K d.pe) (k : QueuesKept K d.queues) where
    abbrev pub LocalKept : LocalView C A × List TraceEntry → Type 0
    LocalKept a = PeKept F K a.0.pe × QueuesKept K a.0.queues

    at : (e : ℕ) (el : ElementView C) → found e d.pe.room ≡ Some el → F e el
    at e el is = each_found F e d.pe.room el h.room is

    pub each_kept : EachTurn step pack p d LocalKept
    each_kept =
        record {
          starts = λ e el is fresh. (handled_kept d.pe h e (Resumption 0) d.pe.hand el is (kept.starts e d.pe.n d.pe.me el (at e el is) fresh) h.hand, k);
          goes_on = λ e round el is waits place. (handled_kept d.pe h e (Resumption round) d.pe.hand el is (kept.goes_on e d.pe.n d.pe.me round el (at e el is) waits) h.hand, k);
          looks = λ word. (looked_in_kept d.pe h word (hand_wants d.pe), k);
          flushes = λ q parcel queue front there. (
            record { room = h.room; hand = h.hand; outbox = All-drop (ItemKept K) 1 d.pe.outbox h.outbox },
            All-set (All (ParcelKept K)) d.queues q (queue ++ parcel ∷ [])
                (All-push (ParcelKept K) queue parcel (at_place (All (ParcelKept K)) d.queues q queue k there)
                (front_kept d.pe.outbox parcel h.outbox front)) k,
          );
          delivers = λ queue rest parcel there hand is.
              let all : All (ParcelKept K) (parcel ∷ rest) = subst (λ (v : List Parcel). All (ParcelKept K) v) is (at_place (All (ParcelKept K)) d.queues p queue k there) in (
                record { room = h.room; hand = All-head (ParcelKept K) parcel rest all; outbox = h.outbox },
                All-set (All (ParcelKept K)) d.queues p rest (All-tail (ParcelKept K) parcel rest all) k,
              );
          executes = λ x l el hand is there started. (handled_kept d.pe h l.to (OfLetter l) None el there (kept.executes d.pe.n d.pe.me l el (at l.to el there) started) tt, k);
          shelves = λ x l hand is. (record { room = h.room; hand = tt; outbox = h.outbox }, k);
          forwards = λ x l q hand is. (record { room = h.room; hand = tt; outbox = All-push (ItemKept K) d.pe.outbox _ h.outbox tt }, k);
          installs = λ x pk chare hand is none. (installed_kept d.pe h pk chare (held_kept d.pe h x (Element pk) hand is), k);
          reports = λ note board owed taken. (record { room = h.room; hand = h.hand; outbox = h.outbox }, k);
          departs = λ e q el is. (departed_kept d.pe h e q el is, k);
        }

  -- ---- what an event does to it, and a list of events

  module _ {A : Type 0} (unpack : List ℕ → Result (C × ℕ) PupError) where
    pub event_kept : (w : WorldView C A) (event : Event) (next : After C A) → WorldKept F K w → Happens step pack unpack w event next → WorldKept F K next.0
    event_kept w event next h happens =
        happens_so step pack unpack w (λ (v : After C A). WorldKept F K v.0)
        (record {
          same = h;
          turn = λ p pe there. each_map step pack p (local_view w pe)
              (LocalKept p (local_view w pe) (at_place (PeKept F K) w.pes p pe h.pes there) h.queues) (λ a. WorldKept F K (with_local w p a.0))
              (λ a k. record { pes = All-set (PeKept F K) w.pes p a.0.pe k.0 h.pes; queues = k.1 })
              (each_kept p (local_view w pe) (at_place (PeKept F K) w.pes p pe h.pes there) h.queues);
          decides = λ board d. record { pes = h.pes; queues = h.queues };
        })
        event next happens

    pub run_kept : (w : WorldView C A) (events : List Event) (last : After C A) → WorldKept F K w → Reaches step pack unpack w events last → WorldKept F K last.0
    run_kept w [] last h run = subst (λ (v : After C A). WorldKept F K v.0) (sym run) h
    run_kept w (event ∷ events) last h (first, rest, happens, reaches, is) =
        let a : WorldKept F K rest.0 = run_kept first.0 events rest (event_kept w event first h happens) reaches in
        subst (λ (v : After C A). WorldKept F K v.0) (sym is) a

  -- ---- as a world opens

  placed_kept : (pe : PeView C) (e : ℕ) (chare : C) → PeKept F K pe → PeKept F K (placed pe e chare)
  placed_kept pe e chare h = record { room = each_joined F e (opening_element e chare) pe.room (kept.opens e chare) h.room; hand = h.hand; outbox = h.outbox }

  one_placed : (pes : List (PeView C)) (q e : ℕ) (chare : C) (o : Option (PeView C)) → slice_get pes q ≡ o → All (PeKept F K) pes → All (PeKept F K) (placed_on pes q e chare o)
  one_placed pes q e chare None there h = h
  one_placed pes q e chare (Some pe) there h =
      All-set (PeKept F K) pes q (placed pe e chare) (placed_kept pe e chare (at_place (PeKept F K) pes q pe h there)) h

  all_placed_kept : (n : ℕ) (pes : List (PeView C)) (e : ℕ) (chares : List C) → All (PeKept F K) pes → All (PeKept F K) (all_placed n pes e chares)
  all_placed_kept n pes e [] h = h
  all_placed_kept n pes e (chare ∷ chares) h =
      let q : ℕ = home e n (length pes) in
      let next : List (PeView C) = placed_on pes q e chare (slice_get pes q) in
      all_placed_kept n next (e + 1) chares (one_placed pes q e chare (slice_get pes q) refl h)

  pub opening_kept : (A : Type 0) (pes : ℕ) (chares : List C) (strategy : Strategy) → WorldKept F K (opening_world {A = A} pes chares strategy)
  opening_kept A pes chares strategy =
      record {
        pes = all_placed_kept (length chares) (map (λ q. new_pe q (length chares)) (range_with_len 0 pes)) 0 chares
            (All-map (PeKept F K) (λ (q : ℕ). new_pe {C = C} q (length chares)) (range_with_len 0 pes)
            (λ k d inside. record { room = tt; hand = tt; outbox = All-nil (ItemKept K) }));
        queues = All-replicate (All (ParcelKept K)) pes [] (All-nil (ParcelKept K));
      }

-- What a decision changes: all elements have reported, and then each waits for its place.
use Rattle.std.proofs.Common.{◌≡◌, ℕ, zero, suc, ◌+◌, ◌<◌, List, [], ◌∷◌, length, replicate, get_or, Option, Some, None, arith, refl, sym, ◌∙◌, ap, subst, inl, inr, length-append}
use Rattle.std.specs.Prelude.{All, IfSome, IsSome}
use Rattle.std.specs.Map.{values_of}
use Rattle.std.proofs.lemmas.List.{length-replicate, get_or-replicate}
use Rattle.std.proofs.lemmas.List.Elements.{All-weaker}
use Rattle.std.proofs.lemmas.Option.{slice_get-get_or}
use Rattle.lb_refinement.specs.declared.nearness.Nearness.{Nearness}
use Rattle.sync_board.specs.Boards.{BoardState, Kept, after_decision}
use Rattle.lb_database.specs.Measuring.{Measured, IsComplete, elements, opening, report_of}
use Rattle.chares.specs.declared.carried.Carried.TheVariants.{Letter, Element}
use Rattle.chares.specs.declared.note.Note.{Note}
use Rattle.chares.specs.declared.trace_entry.TraceEntry.{TraceEntry}
use Rattle.chares.specs.Elements.{ElementView}
use Rattle.pe_state.specs.Pes.{PeView, Parcel, Item}
use Rattle.rts_core.specs.Events.{MayDecide}
use Rattle.rts_core.specs.Worlds.{WorldView}
use Rattle.event_laws.specs.Agreement.{HasReported, IsInSomeState, AgreesWith, AgreesOn, index_of, IsOwed, AgreesAt, IsOpenFor, Agrees}
use Rattle.event_laws.proofs.Rooms.{of_found}
use Rattle.event_laws.proofs.AgreeingHandlers.{ItemAgrees}

-- no element has reported in a round that opens
pub nobody : (n i : ℕ) → get_or {A = Option (ℕ × ℕ)} (replicate n None) i None ≡ None
nobody zero i = refl
nobody (suc n) zero = refl
nobody (suc n) (suc i) = nobody n i

pub opens_for : (n r : ℕ) → IsOpenFor n (opening r n)
opens_for n r =
    record {
      counted = length-replicate n 0;
      paired = length-replicate {A = Option (ℕ × ℕ)} n None;
      uncharged = λ e lt none. slice_get-get_or (replicate n 0) e 0
          (let c : length (replicate {A = ℕ} n 0) ≡ n = length-replicate {A = ℕ} n 0 in omega (arith, lt, c)) ∙ ap Some (get_or-replicate n e 0 0 lt);
    }

none_is_some : IsSome {T = ℕ × ℕ} None → ⊥
none_is_some h = cc

-- where every element has reported there is none that has not
pub all_reported : (m : Measured) (e : ℕ) → IsComplete m → e < length m.reports → report_of m e ≡ None → ⊥
all_reported m e all lt none = none_is_some (subst (λ (o : Option (ℕ × ℕ)). IsSome o) none (all e None lt))

module _ (m : Measured) (n : ℕ) (open_for : IsOpenFor n m) (complete : IsComplete m) where
  abbrev pub following : Measured
  following = opening (m.round + 1) (elements m)

  pub not_silent : (e : ℕ) → e < elements m → report_of m e ≡ None → ⊥
  not_silent e lt none =
      let c : elements m ≡ n = open_for.counted in
      let p : length m.reports ≡ n = open_for.paired in
      all_reported m e complete (omega (arith, lt, c, p)) none

  -- each element on a PE has reported
  pub each_reported : {C : Type 0} (me : ℕ) (notes : List Note) (el : ElementView C) → AgreesWith m me notes el → HasReported m me el
  each_reported {C} me notes el h = by h.state
    where
      by : IsInSomeState m me notes el → HasReported m me el
      by (inl w) = absurd (not_silent el.index h.known w.silent)
      by (inr (inl o)) = absurd (not_silent el.index h.known o.owes.silent)
      by (inr (inr (inl k))) = k
      by (inr (inr (inr k))) = absurd (not_silent el.index h.known k.silent)

  -- and then waits for its place
  pub then_waits : {C : Type 0} (me : ℕ) (notes : List Note) (el : ElementView C) → AgreesWith m me notes el → AgreesWith following me notes el
  then_waits me notes el h =
      let k = each_reported me notes el h in
      let r : m.round ≡ el.progress.round + 1 = k.at_round in
      record {
        known = let c : elements following ≡ elements m = length-replicate (elements m) 0 in let lt : el.index < elements m = h.known in omega (arith, lt, c);
        fresh = h.fresh;
        state = inr (inr (inr (record { waits = k.waits; at_round = omega (arith, r); silent = nobody (elements m) el.index })));
      }

  pub no_parcel : (parcel : Parcel) → AgreesOn m parcel → AgreesOn following parcel
  no_parcel (Letter l) h = tt
  no_parcel (Element p) h = absurd (not_silent p.index h.0 h.2.silent)

  no_hand : (o : Option Item) → IfSome o (ItemAgrees m) → IfSome o (ItemAgrees following)
  no_hand None h = tt
  no_hand (Some x) h = no_parcel x.parcel h

  pub decided_pe : {C : Type 0} (pe : PeView C) → AgreesAt m pe → AgreesAt following pe
  decided_pe {C} pe h =
      record {
        keyed = h.keyed;
        room = All-weaker (AgreesWith m pe.me pe.notes) (AgreesWith following pe.me pe.notes) (then_waits pe.me pe.notes) (values_of pe.room) h.room;
        notes = All-weaker (IsOwed m pe.me pe.room) (IsOwed following pe.me pe.room) owed pe.notes h.notes;
        once = h.once;
        hand = no_hand pe.hand h.hand;
        outbox = All-weaker (ItemAgrees m) (ItemAgrees following) (λ x k. no_parcel x.parcel k) pe.outbox h.outbox;
      }
    where
      owed : (y : Note) → IsOwed m pe.me pe.room y → IsOwed following pe.me pe.room y
      owed y k = (
        let lt : index_of y < elements m = k.0 in let c : elements following ≡ elements m = length-replicate (elements m) 0 in omega (arith, lt, c),
        λ f.
            let o = k.1 f in
            let now : AgreesWith m pe.me pe.notes o.0 = of_found (AgreesWith m pe.me pe.notes) o.0.index o.0 pe.room h.room o.1 in
            absurd (not_silent o.0.index now.known o.2.silent),
      )

module _ {C A : Type 0} (n : ℕ) (w : WorldView C A) (h : Agrees n w) where
  decided_agrees : (kept : Kept A) (near : Nearness A) → IsComplete w.board.database → Agrees n (record { pes = w.pes; queues = w.queues; words = w.words; board = after_decision w.board kept near })
  decided_agrees kept near complete =
      let m : Measured = w.board.database in
      let c : elements m ≡ n = h.measured.counted in
      let r : m.round ≡ length w.board.rounds + 1 = h.numbered in
      record {
        measured = subst (λ (v : ℕ). IsOpenFor v (opening (m.round + 1) (elements m))) c (opens_for (elements m) (m.round + 1));
        numbered = omega (arith, r, length-append w.board.rounds (kept ∷ []));
        counted = h.counted;
        places = h.places;
        pes = All-weaker (AgreesAt m) (AgreesAt (opening (m.round + 1) (elements m))) (decided_pe m n h.measured complete) w.pes h.pes;
        queues = All-weaker (All (AgreesOn m)) (All (AgreesOn (opening (m.round + 1) (elements m))))
            (λ queue. All-weaker (AgreesOn m) (AgreesOn (opening (m.round + 1) (elements m))) (no_parcel m n h.measured complete) queue) w.queues h.queues;
      }

  -- Decide
  pub may_decide_agrees : (b : BoardState A) (reports : List TraceEntry) → MayDecide w.board b reports
      → Agrees n (record { pes = w.pes; queues = w.queues; words = w.words; board = b })
  may_decide_agrees b reports (inl d) =
      subst (λ (v : BoardState A). Agrees n (record { pes = w.pes; queues = w.queues; words = w.words; board = v })) (sym d.decides.next)
      (decided_agrees d.decides.kept d.decides.near d.decides.complete)
  may_decide_agrees b reports (inr t) =
      subst (λ (v : BoardState A). Agrees n (record { pes = w.pes; queues = w.queues; words = w.words; board = v })) (sym t.same) h

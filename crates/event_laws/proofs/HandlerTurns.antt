-- What a handler does to the agreement of its element.
use Rattle.std.proofs.Common.{◌≡◌, ◌≢◌, ℕ, ◌+◌, ◌<◌, ◌≤◌, List, [], ◌∷◌, ◌++◌, Option, Some, None, Bool, true, false, arith, refl, sym, ◌∙◌, ap, subst, inl, inr}
use Rattle.std.specs.Prelude.{All, nat_eq, ◌&&◌, not, if◌then◌else◌}
use Rattle.std.specs.Map.{values_of}
use Rattle.std.specs.Option.{option_to_list}
use Rattle.std.specs.Ordering.{nat_cmp}
use Rattle.std.specs.BTreeMap.{is_at}
use Rattle.std.proofs.lemmas.Bool.Decides.{nat_tests}
use Rattle.std.proofs.lemmas.List.Elements.{All-nil, All-cons, All-head, All-tail, All-append, All-weaker, Contains-append_left, Contains-append_right, Contains-push}
use Rattle.std.proofs.lemmas.List.Sums.{sum_by-cons, sum_by-append}
use Rattle.std.proofs.lemmas.Map.Views.{All-values-set_value}
use Rattle.std.proofs.lemmas.Option.{same_Some}
use Rattle.chare_index.specs.declared.limits.TheConstants.Limits.{LOAD}
use Rattle.lb_database.specs.Measuring.{Measured, elements}
use Rattle.chares.specs.declared.chare.Effect.{Effect}
use Rattle.chares.specs.declared.note.Mark.{Mark}
use Rattle.chares.specs.declared.note.Mark.TheVariants.{Synced}
use Rattle.chares.specs.declared.note.Note.{Note}
use Rattle.chares.specs.declared.note.Note.TheVariants.{Sync, Finish}
use Rattle.chares.specs.declared.progress.Ending.{Ending}
use Rattle.chares.specs.declared.progress.Ending.TheVariants.{Runs, Syncs, Finishes}
use Rattle.chares.specs.declared.progress.Progress.{Progress}
use Rattle.chares.specs.Elements.{ElementView}
use Rattle.chares.specs.Letters.{Done}
use Rattle.chares.specs.Progressing.{ending, ended, note_at, synced_mark, is_finish}
use Rattle.pe_state.specs.Rooms.{found, changed}
use Rattle.rts_core.specs.Accounts.{times}
use Rattle.event_laws.specs.Agreement.{IsFresh, IsAtWork, Owes, IsInSomeState, AgreesWith, index_of, IsOwed, is_wait_of}
use Rattle.event_laws.proofs.Rooms.{found_changed, changed_other, places_changed, AreKeyed, Key, found_index}

-- ---- notes

pub wait_is : (e : ℕ) (note : Note) (i r u b q : ℕ) → note ≡ Sync i r u b q → is_wait_of e note ≡ true → i ≡ e
wait_is e note i r u b q s t =
    let k : is_wait_of e (Sync i r u b q) ≡ true = subst (λ (v : Note). is_wait_of e v ≡ true) s t in
    grind (arith, nat_tests)

pub wait_of : (e : ℕ) (note : Note) (i r u b q : ℕ) → note ≡ Sync i r u b q → i ≡ e → is_wait_of e note ≡ true
wait_of e note i r u b q s t =
    let k : is_wait_of e (Sync i r u b q) ≡ true = grind (arith, nat_tests) in
    subst (λ (v : Note). is_wait_of e v ≡ true) (sym s) k

pub wait_not_finish : (e : ℕ) (note : Note) → is_wait_of e note ≡ true → is_finish note ≡ false
wait_not_finish e (Sync i r u b q) t = refl
wait_not_finish e (Finish i) t = cc

abbrev pub one_if : Bool → ℕ
one_if b = if b then 1 else 0

module _ {C : Type 0} (m : Measured) (me : ℕ) where
  -- an element that owes nothing has no note in the list
  pub none_owed : (room : List (ℕ × ElementView C)) (notes : List Note) (e : ℕ) (el : ElementView C) → found e room ≡ Some el
      → ((y : Note) → Owes m me el y → ⊥) → All (IsOwed m me room) notes → times (is_wait_of e) notes ≡ 0
  none_owed room [] e el at none all = refl
  none_owed room (y ∷ notes) e el at none all =
      by (is_wait_of e y) refl (none_owed room notes e el at none (All-tail (IsOwed m me room) y notes all))
    where
      by : (b : Bool) → is_wait_of e y ≡ b → times (is_wait_of e) notes ≡ 0 → times (is_wait_of e) (y ∷ notes) ≡ 0
      by true t rest =
          let h = (All-head (IsOwed m me room) y notes all).1 (wait_not_finish e y t) in
          let i : h.0.index ≡ e = wait_is e y h.0.index m.round h.2.units h.2.bytes me h.2.says t in
          let s : Some el ≡ Some h.0 = sym at ∙ subst (λ (v : ℕ). found v room ≡ Some h.0) i h.1 in
          absurd (none y (subst (λ (v : ElementView C). Owes m me v y) (sym (same_Some el h.0 s)) h.2))
      by false t rest =
          let c : times (is_wait_of e) (y ∷ notes) ≡ one_if (is_wait_of e y) + times (is_wait_of e) notes = sum_by-cons (λ (x : Note). one_if (is_wait_of e x)) y notes in
          let z : one_if (is_wait_of e y) ≡ 0 = ap one_if t in
          omega (arith, c, z, rest)

  pub more_notes : (notes more : List Note) (el : ElementView C) → AgreesWith m me notes el → AgreesWith m me (notes ++ more) el
  more_notes notes more el h = record { known = h.known; fresh = h.fresh; state = by h.state }
    where
      by : IsInSomeState m me notes el → IsInSomeState m me (notes ++ more) el
      by (inl w) = inl w
      by (inr (inl o)) = inr (inl (record { note = o.note; owes = o.owes; listed = Contains-append_left notes more o.note o.listed }))
      by (inr (inr (inl k))) = inr (inr (inl k))
      by (inr (inr (inr k))) = inr (inr (inr k))

  -- an element before and after its handler, with the note that becomes owed
  pub record Turn (notes : List Note) (el x : ElementView C) (note : Option Note) : Type 0 where
    pub same : x.index ≡ el.index
    pub agrees : AgreesWith m me (notes ++ option_to_list note) x
    pub keeps : (y : Note) → Owes m me el y → Owes m me x y
    pub own : (y : Note) → note ≡ Some y → index_of y ≡ x.index
    pub new : (y : Note) → note ≡ Some y → is_finish y ≡ false → Owes m me x y × ((z : Note) → Owes m me el z → ⊥)

  -- a room and its notes agree
  pub record RoomAgrees (room : List (ℕ × ElementView C)) (notes : List Note) : Type 0 where
    pub keyed : AreKeyed room
    pub each : All (AgreesWith m me notes) (values_of room)
    pub owing : All (IsOwed m me room) notes
    pub once : (e : ℕ) → times (is_wait_of e) notes ≤ 1

  module _ (room : List (ℕ × ElementView C)) (notes : List Note) (e : ℕ) (el x : ElementView C) (note : Option Note)
      (h : RoomAgrees room notes) (at : found e room ≡ Some el) (turn : Turn notes el x note) where
    here : x.index ≡ e
    here = turn.same ∙ found_index e el room h.keyed at

    there : found x.index (changed e x room) ≡ Some x
    there = subst (λ (v : ℕ). found v (changed e x room) ≡ Some x) (sym here) (found_changed e x el room at)

    still_owed : (y : Note) → IsOwed m me room y → IsOwed m me (changed e x room) y
    still_owed y k = (k.0, λ f. by (k.1 f).0 (k.1 f).1 (k.1 f).2 (nat_eq (k.1 f).0.index e) refl)
      where
        by : (o : ElementView C) → found o.index room ≡ Some o → Owes m me o y → (b : Bool) → nat_eq o.index e ≡ b
            → (z : ElementView C) × (found z.index (changed e x room) ≡ Some z) × Owes m me z y
        by o is owes true t =
            let i : o.index ≡ e = grind (arith, nat_tests) in
            let s : Some el ≡ Some o = sym at ∙ subst (λ (v : ℕ). found v room ≡ Some o) i is in
            (x, there, turn.keeps y (subst (λ (v : ElementView C). Owes m me v y) (sym (same_Some el o s)) owes))
        by o is owes false t =
            let i : o.index ≢ e = grind (arith, nat_tests) in
            (o, changed_other o.index e x room i ∙ is, owes)

    new_owed : (o : Option Note) → ((y : Note) → o ≡ Some y → index_of y ≡ x.index)
        → ((y : Note) → o ≡ Some y → is_finish y ≡ false → Owes m me x y × ((z : Note) → Owes m me el z → ⊥))
        → All (IsOwed m me (changed e x room)) (option_to_list o)
    new_owed None own k = All-nil (IsOwed m me (changed e x room))
    new_owed (Some y) own k =
        let i : index_of y ≡ x.index = own y refl in
        let lt : x.index < elements m = turn.agrees.known in
        All-cons (IsOwed m me (changed e x room)) y [] (omega (arith, i, lt), λ f. (x, there, (k y refl f).0)) (All-nil (IsOwed m me (changed e x room)))

    still_once : (i : ℕ) (o : Option Note) → ((y : Note) → o ≡ Some y → is_finish y ≡ false → Owes m me x y × ((z : Note) → Owes m me el z → ⊥))
        → times (is_wait_of i) (notes ++ option_to_list o) ≤ 1
    still_once i None k =
        let c : times (is_wait_of i) (notes ++ []) ≡ times (is_wait_of i) notes + 0 = sum_by-append (λ (v : Note). one_if (is_wait_of i v)) notes [] in
        omega (arith, c, h.once i)
    still_once i (Some y) k = by (is_wait_of i y) refl
      where
        by : (b : Bool) → is_wait_of i y ≡ b → times (is_wait_of i) (notes ++ y ∷ []) ≤ 1
        by true t =
            let both = k y refl (wait_not_finish i y t) in
            let s : x.index ≡ i = wait_is i y x.index m.round both.0.units both.0.bytes me both.0.says t in
            let same : e ≡ i = sym here ∙ s in
            let z : times (is_wait_of i) notes ≡ 0 = subst (λ (v : ℕ). times (is_wait_of v) notes ≡ 0) same (none_owed room notes e el at both.1 h.owing) in
            let c : times (is_wait_of i) (notes ++ y ∷ []) ≡ times (is_wait_of i) notes + times (is_wait_of i) (y ∷ []) = sum_by-append
            (λ (v : Note). one_if (is_wait_of i v)) notes (y ∷ []) in
            let d : times (is_wait_of i) (y ∷ []) ≡ one_if (is_wait_of i y) + 0 = sum_by-cons (λ (v : Note). one_if (is_wait_of i v)) y [] in
            let f : one_if (is_wait_of i y) ≡ 1 = ap one_if t in
            omega (arith, z, c, d, f)
        by false t =
            let c : times (is_wait_of i) (notes ++ y ∷ []) ≡ times (is_wait_of i) notes + times (is_wait_of i) (y ∷ []) = sum_by-append
            (λ (v : Note). one_if (is_wait_of i v)) notes (y ∷ []) in
            let d : times (is_wait_of i) (y ∷ []) ≡ one_if (is_wait_of i y) + 0 = sum_by-cons (λ (v : Note). one_if (is_wait_of i v)) y [] in
            let f : one_if (is_wait_of i y) ≡ 0 = ap one_if t in
            omega (arith, c, d, f, h.once i)

    -- the room after the turn
    pub turned : RoomAgrees (changed e x room) (notes ++ option_to_list note)
    turned =
        record {
          keyed = places_changed Key e x room h.keyed (λ k s. here ∙ s);
          each = All-values-set_value (is_at (nat_cmp e)) (AgreesWith m me (notes ++ option_to_list note)) room x
              (All-weaker (AgreesWith m me notes) (AgreesWith m me (notes ++ option_to_list note)) (more_notes notes (option_to_list note)) (values_of room) h.each)
              turn.agrees;
          owing = All-append (IsOwed m me (changed e x room)) notes (option_to_list note)
              (All-weaker (IsOwed m me room) (IsOwed m me (changed e x room)) still_owed notes h.owing)
              (new_owed note turn.own turn.new);
          once = λ i. still_once i note turn.new;
        }

-- ---- the turn of an element

pub ended_round : (p : Progress) (E : Ending) → (ended p E).round ≡ p.round
ended_round p Runs = refl
ended_round p Syncs = refl
ended_round p Finishes = refl

pub ended_started : (p : Progress) (E : Ending) → (ended p E).started ≡ p.started
ended_started p Runs = refl
ended_started p Syncs = refl
ended_started p Finishes = refl

pub ended_synced : (p : Progress) (E : Ending) → (E ≡ Syncs → ⊥) → (ended p E).synced ≡ p.synced
ended_synced p Runs ne = refl
ended_synced p Syncs ne = absurd (ne refl)
ended_synced p Finishes ne = refl

-- an element that waits does not begin to wait
pub no_sync : (p : Progress) (f : Effect) → p.synced ≡ true → ending p f ≡ Syncs → ⊥
no_sync p f s h = by f.finished p.finished f.at_sync p.synced s h
  where
    by : (a b c d : Bool) → d ≡ true → (if a then (if b then Runs else Finishes) else (if c && not d && not b then Syncs else Runs)) ≡ Syncs → ⊥
    by a b c false t k = cc
    by true true c true t k = cc
    by true false c true t k = cc
    by false b true true t k = cc
    by false b false true t k = cc

pub true_not_false : (b : Bool) → b ≡ true → b ≡ false → ⊥
true_not_false b t f = cc

module _ {C : Type 0} (m : Measured) (me : ℕ) (notes : List Note) (el : ElementView C) (chare : C) (journal : List Done) (p : Progress) (bytes : ℕ) (more : List Mark) where
  abbrev pub after : Ending → ElementView C
  after E =
      record {
        index = el.index;
        chare = chare;
        journal = journal;
        progress = ended p E;
        marks = el.marks ++ (more ++ synced_mark (note_at p el.index bytes me E));
      }

  abbrev pub owed : Ending → Option Note
  owed E = note_at p el.index bytes me E

  owed_own : (E : Ending) (y : Note) → owed E ≡ Some y → index_of y ≡ el.index
  owed_own Runs y k = cc
  owed_own Finishes y k = ap index_of (sym (same_Some (Finish el.index) y k))
  owed_own Syncs y k = ap index_of (sym (same_Some (Sync el.index (p.round + 1) p.load bytes me) y k))

  begun_fresh : (E : Ending) → p.started ≡ true → IsFresh (ended p E)
  begun_fresh E s f = absurd (true_not_false p.started s (sym (ended_started p E) ∙ f))

  -- of an element that is at work
  module _ (w : IsAtWork m el.index p) (small : p.load ≤ LOAD) (s : p.started ≡ true) (known : el.index < elements m) (none : (z : Note) → Owes m me el z → ⊥) where
    owes_new : Owes m me (after Syncs) (Sync el.index (p.round + 1) p.load bytes me)
    owes_new =
        record {
          units = p.load;
          bytes = bytes;
          says = ap (λ (v : ℕ). Sync el.index v p.load bytes me) (sym w.at_round);
          small = small;
          waits = refl;
          at_round = w.at_round;
          silent = w.silent;
          marked = Contains-append_right el.marks (more ++ Synced (Sync el.index (p.round + 1) p.load bytes me) ∷ [])
              (Synced (Sync el.index (p.round + 1) p.load bytes me)) (Contains-push more (Synced (Sync el.index (p.round + 1) p.load bytes me)));
        }

    state_at_work : (E : Ending) → IsInSomeState m me (notes ++ option_to_list (owed E)) (after E)
    state_at_work Runs = inl w
    state_at_work Finishes = inl (record { awake = w.awake; at_round = w.at_round; silent = w.silent })
    state_at_work Syncs =
        inr (inl (record { note = Sync el.index (p.round + 1) p.load bytes me; owes = owes_new; listed = Contains-push notes (Sync el.index (p.round + 1) p.load bytes me) }))

    new_at_work : (E : Ending) (y : Note) → owed E ≡ Some y → is_finish y ≡ false → Owes m me (after E) y
    new_at_work Runs y k f = cc
    new_at_work Finishes y k f = absurd (true_not_false (is_finish y) (ap is_finish (sym (same_Some (Finish el.index) y k))) f)
    new_at_work Syncs y k f = subst (λ (v : Note). Owes m me (after Syncs) v) (same_Some (Sync el.index (p.round + 1) p.load bytes me) y k) owes_new

    pub turn_at_work : (E : Ending) → Turn m me notes el (after E) (owed E)
    turn_at_work E =
        record {
          same = refl;
          agrees = record { known = known; fresh = begun_fresh E s; state = state_at_work E };
          keeps = λ y o. absurd (none y o);
          own = owed_own E;
          new = λ y k f. (new_at_work E y k f, none);
        }

  -- of an element that waits
  module _ (h : AgreesWith m me notes el) (round : p.round ≡ el.progress.round) (synced : p.synced ≡ true) (s : p.started ≡ true) (waits : el.progress.synced ≡ true) where
    keeps_owing : (E : Ending) → (E ≡ Syncs → ⊥) → (y : Note) → Owes m me el y → Owes m me (after E) y
    keeps_owing E ne y o =
        record {
          units = o.units;
          bytes = o.bytes;
          says = o.says;
          small = o.small;
          waits = ended_synced p E ne ∙ synced;
          at_round = o.at_round ∙ ap (λ (v : ℕ). v + 1) (sym (ended_round p E ∙ round));
          silent = o.silent;
          marked = Contains-append_left el.marks (more ++ synced_mark (owed E)) (Synced y) o.marked;
        }

    state_waiting : (E : Ending) → (E ≡ Syncs → ⊥) → IsInSomeState m me notes el → IsInSomeState m me (notes ++ option_to_list (owed E)) (after E)
    state_waiting E ne (inl w) = absurd (true_not_false el.progress.synced waits w.awake)
    state_waiting E ne (inr (inl o)) =
        inr (inl (record { note = o.note; owes = keeps_owing E ne o.note o.owes; listed = Contains-append_left notes (option_to_list (owed E)) o.note o.listed }))
    state_waiting E ne (inr (inr (inl k))) =
        inr (inr (inl (record {
          units = k.units;
          bytes = k.bytes;
          waits = ended_synced p E ne ∙ synced;
          at_round = k.at_round ∙ ap (λ (v : ℕ). v + 1) (sym (ended_round p E ∙ round));
          reported = k.reported;
          charged = k.charged;
          marked = Contains-append_left el.marks (more ++ synced_mark (owed E)) (Synced (Sync el.index m.round k.units k.bytes me)) k.marked;
        })))
    state_waiting E ne (inr (inr (inr k))) =
        inr (inr (inr (record {
          waits = ended_synced p E ne ∙ synced;
          at_round = k.at_round ∙ ap (λ (v : ℕ). v + 2) (sym (ended_round p E ∙ round));
          silent = k.silent;
        })))

    no_new : (E : Ending) → (E ≡ Syncs → ⊥) → (y : Note) → owed E ≡ Some y → is_finish y ≡ false → ⊥
    no_new Runs ne y k f = cc
    no_new Finishes ne y k f = true_not_false (is_finish y) (ap is_finish (sym (same_Some (Finish el.index) y k))) f
    no_new Syncs ne y k f = ne refl

    pub turn_waiting : (E : Ending) → (E ≡ Syncs → ⊥) → Turn m me notes el (after E) (owed E)
    turn_waiting E ne =
        record {
          same = refl;
          agrees = record { known = h.known; fresh = begun_fresh E s; state = state_waiting E ne h.state };
          keeps = keeps_owing E ne;
          own = owed_own E;
          new = λ y k f. absurd (no_new E ne y k f);
        }

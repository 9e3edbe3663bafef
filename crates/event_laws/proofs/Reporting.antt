-- What one report changes: its element has reported, and all others are unchanged.
use Rattle.std.proofs.Common.{◌≡◌, ◌≢◌, ℕ, zero, suc, ◌+◌, ◌<◌, ◌≤◌, List, [], ◌∷◌, length, Option, Some, None, Bool, true, false, sum_by, arith, refl, sym, ◌∙◌, ap, subst, inl, inr, nat_eq, length-set, get_or}
use Rattle.std.specs.Prelude.{All, Contains, IfSome, slice_get, slice_index_or, cond}
use Rattle.std.specs.Map.{values_of}
use Rattle.std.specs.Ordering.{nat_cmp, is_eq}
use Rattle.std.proofs.lemmas.Bool.Decides.{nat_tests}
use Rattle.std.proofs.lemmas.List.{get_or-set_same, get_or-set_other}
use Rattle.std.proofs.lemmas.List.Elements.{All-cons, All-head, All-tail, All-weaker}
use Rattle.std.proofs.lemmas.List.Sums.{sum_by-cons}
use Rattle.std.proofs.lemmas.Option.{get_or_from_slice_get}
use Rattle.chare_index.specs.declared.limits.TheConstants.Limits.{LOAD}
use Rattle.lb_database.specs.Measuring.{Measured, elements, report_of, with_charge, with_report}
use Rattle.chares.specs.declared.carried.Carried.TheVariants.{Letter, Element}
use Rattle.chares.specs.declared.note.Mark.TheVariants.{Synced}
use Rattle.chares.specs.declared.note.Note.{Note}
use Rattle.chares.specs.declared.note.Note.TheVariants.{Sync, Finish}
use Rattle.chares.specs.Elements.{ElementView}
use Rattle.pe_state.specs.Pes.{PeView, Parcel, Item}
use Rattle.pe_state.specs.Rooms.{found}
use Rattle.rts_core.specs.Accounts.{times}
use Rattle.rts_core.proofs.Listings.{no_letter}
use Rattle.rts_core.proofs.OpeningWeights.{one_at, one_there}
use Rattle.rts_core.proofs.RunLaws.{by_index}
use Rattle.rts_core.proofs.Weights.{of_parcel, of_item, of_hand, of_element, of_room, of_pe, weigh}
use Rattle.rts_core.proofs.WorldSteps.{get_set_same, get_set_other}
use Rattle.event_laws.proofs.Alone.{each_zero}
use Rattle.event_laws.specs.Agreement.{Owes, WaitsForPlace, IsInSomeState, AgreesWith, AgreesOn, index_of, IsOwed, AgreesAt, IsOpenFor, is_wait_of}
use Rattle.event_laws.proofs.Rooms.{is_same, of_found, AreKeyed, Key}
use Rattle.event_laws.proofs.HandlerTurns.{wait_is, wait_of, one_if, RoomAgrees}
use Rattle.event_laws.proofs.AgreeingHandlers.{ItemAgrees}

-- what follows of each member from two properties that hold of each
pub all_two : {X : Type 0} (P Q R : X → Type 0) → ((x : X) → P x → Q x → R x) → (xs : List X) → All P xs → All Q xs → All R xs
all_two P Q R f xs a b = λ k d lt. f (slice_index_or xs k d) (a k d lt) (b k d lt)

-- a member that is not the first is in the rest
pub later : {X : Type 0} (x : X) (xs : List X) (y : X) → (x ≡ y → ⊥) → Contains (x ∷ xs) y → Contains xs y
later x xs y ne (zero, lt, is) = absurd (ne is)
later x xs y ne (suc k, lt, is) = (k, omega (arith, lt), is)

pub not_at : (e i : ℕ) → one_at e i ≡ 0 → i ≢ e
not_at e i z s =
    let k : one_at e e ≡ 0 = subst (λ (v : ℕ). one_at e v ≡ 0) s z in
    omega (arith, k, one_there e)

pub at_one : (e i : ℕ) → i ≡ e → one_at e i ≡ 1
at_one e i s = subst (λ (v : ℕ). one_at e v ≡ 1) (sym s) (one_there e)

module _ {C : Type 0} where
  -- how often an index is in a room
  abbrev pub count_in : ℕ → List (ℕ × ElementView C) → ℕ
  count_in e room = of_room no_letter (by_index (one_at e)) room

  pub found_counts : (e : ℕ) (el : ElementView C) (room : List (ℕ × ElementView C)) → found e room ≡ Some el → el.index ≡ e → 1 ≤ count_in e room
  found_counts e el [] at s = cc
  found_counts e el (p ∷ room) at s = by (is_eq (nat_cmp e p.0)) refl (λ k. found_counts e el room k s) at
    where
      by : (b : Bool) → is_eq (nat_cmp e p.0) ≡ b → (found e room ≡ Some el → 1 ≤ count_in e room) → cond b (Some p.1) (found e room) ≡ Some el → 1 ≤ count_in e (p ∷ room)
      by true t rest k =
          let i : p.1 ≡ el = cc in
          let o : one_at e p.1.index ≡ 1 = at_one e p.1.index (ap (λ (v : ElementView C). v.index) i ∙ s) in
          let c : count_in e (p ∷ room) ≡ one_at e p.1.index + count_in e room = sum_by-cons (of_element no_letter (by_index (one_at e))) p.1 (values_of room) in
          omega (arith, c, o)
      by false t rest k =
          let r = rest k in
          let c : count_in e (p ∷ room) ≡ one_at e p.1.index + count_in e room = sum_by-cons (of_element no_letter (by_index (one_at e))) p.1 (values_of room) in
          omega (arith, c, r)

  -- each value of a room but one, where that is the only one with its index
  pub values_but : (P Q : ElementView C → Type 0) (e : ℕ) (el : ElementView C) (room : List (ℕ × ElementView C)) → AreKeyed room → count_in e room ≤ 1
      → el.index ≡ e → found e room ≡ Some el → All P (values_of room) → ((x : ElementView C) → P x → x.index ≢ e → Q x) → Q el
      → All Q (values_of room)
  values_but P Q e el [] keyed one s at all others own = cc
  values_but P Q e el (p ∷ room) keyed one s at all others own =
      by (is_eq (nat_cmp e p.0)) refl (λ le k. values_but P Q e el room (All-tail Key p room keyed) le s k (All-tail P p.1 (values_of room) all) others own) at
    where
      c : count_in e (p ∷ room) ≡ one_at e p.1.index + count_in e room
      c = sum_by-cons (of_element no_letter (by_index (one_at e))) p.1 (values_of room)

      by : (b : Bool) → is_eq (nat_cmp e p.0) ≡ b → (count_in e room ≤ 1 → found e room ≡ Some el → All Q (values_of room))
          → cond b (Some p.1) (found e room) ≡ Some el → All Q (values_of (p ∷ room))
      by true t rest k =
          let i : p.1 ≡ el = cc in
          let o : one_at e p.1.index ≡ 1 = at_one e p.1.index (ap (λ (v : ElementView C). v.index) i ∙ s) in
          let z : count_in e room ≡ 0 = omega (arith, c, o, one) in
          All-cons Q p.1 (values_of room) (subst Q (sym i) own)
          (all_two P (λ (x : ElementView C). one_at e x.index ≡ 0) Q (λ x px zx. others x px (not_at e x.index zx)) (values_of room)
          (All-tail P p.1 (values_of room) all) (each_zero (of_element no_letter (by_index (one_at e))) (values_of room) z))
      by false t rest k =
          let i : p.1.index ≡ p.0 = All-head Key p room keyed in
          let ne : p.1.index ≢ e = λ q. no_same (sym (sym i ∙ q)) t in
          All-cons Q p.1 (values_of room) (others p.1 (All-head P p.1 (values_of room) all) ne) (rest (omega (arith, c, one)) k)
        where
          no_same : e ≡ p.0 → is_eq (nat_cmp e p.0) ≡ false → ⊥
          no_same q f =
              let r : is_eq (nat_cmp e p.0) ≡ true = subst (λ (v : ℕ). is_eq (nat_cmp e v) ≡ true) q (is_same e) in
              cc

-- what is measured after a report
abbrev pub told : Measured → ℕ → ℕ → ℕ → ℕ → Measured
told m i units bytes q = with_charge (with_report m i bytes q) i units

module _ (m : Measured) (i units bytes q : ℕ) where
  abbrev pub next : Measured
  next = told m i units bytes q

  pub told_counts : elements next ≡ elements m
  told_counts = length-set {A = ℕ} m.loads i _

  pub told_paired : length next.reports ≡ length m.reports
  told_paired = length-set {A = Option (ℕ × ℕ)} m.reports i (Some (bytes, q))

  pub told_own : i < length m.reports → report_of next i ≡ Some (bytes, q)
  told_own lt = get_or-set_same m.reports i (Some (bytes, q)) None lt

  pub told_others : (j : ℕ) → j ≢ i → report_of next j ≡ report_of m j
  told_others j ne = get_or-set_other m.reports i j (Some (bytes, q)) None ne

  pub told_charged : units ≤ LOAD → slice_get m.loads i ≡ Some 0 → slice_get next.loads i ≡ Some units
  told_charged small none =
      let z : get_or m.loads i 0 ≡ 0 = get_or_from_slice_get m.loads i 0 0 none in
      get_set_same m.loads i 0 _ none ∙ ap Some (omega (arith, z, small))

  pub told_charges : (j : ℕ) → j ≢ i → slice_get next.loads j ≡ slice_get m.loads j
  told_charges j ne = get_set_other m.loads i j _ ne

  pub told_open : (n : ℕ) → i < n → IsOpenFor n m → IsOpenFor n next
  told_open n lt h =
      record {
        counted = told_counts ∙ h.counted;
        paired = told_paired ∙ h.paired;
        uncharged = λ e below none. by e below none (nat_eq e i) refl;
      }
    where
      by : (e : ℕ) → e < n → report_of next e ≡ None → (b : Bool) → nat_eq e i ≡ b → slice_get next.loads e ≡ Some 0
      by e below none true t =
          let s : e ≡ i = grind (arith, nat_tests) in
          let o : report_of next e ≡ Some (bytes, q) = subst (λ (v : ℕ). report_of next v ≡ Some (bytes, q)) (sym s) (told_own (let p = h.paired in omega (arith, lt, p))) in
          absurd (cc)
      by e below none false t =
          let ne : e ≢ i = grind (arith, nat_tests) in
          told_charges e ne ∙ h.uncharged e below (sym (told_others e ne) ∙ none)

  -- an element with another index
  pub else_owes : {C : Type 0} (me : ℕ) (el : ElementView C) (y : Note) → el.index ≢ i → Owes m me el y → Owes next me el y
  else_owes me el y ne o =
      record {
        units = o.units;
        bytes = o.bytes;
        says = o.says;
        small = o.small;
        waits = o.waits;
        at_round = o.at_round;
        silent = told_others el.index ne ∙ o.silent;
        marked = o.marked;
      }

  pub else_waits : (e : ℕ) (p : _) → e ≢ i → WaitsForPlace m e p → WaitsForPlace next e p
  else_waits e p ne w = record { waits = w.waits; at_round = w.at_round; silent = told_others e ne ∙ w.silent }

  pub else_agrees : {C : Type 0} (me : ℕ) (notes rest : List Note) (el : ElementView C) → el.index ≢ i
      → ((y : Note) → Owes m me el y → Contains notes y → Contains rest y) → AgreesWith m me notes el → AgreesWith next me rest el
  else_agrees {C} me notes rest el ne passes h =
      record { known = let k = h.known in let c = told_counts in omega (arith, k, c); fresh = h.fresh; state = by h.state }
    where
      by : IsInSomeState m me notes el → IsInSomeState next me rest el
      by (inl w) = inl (record { awake = w.awake; at_round = w.at_round; silent = told_others el.index ne ∙ w.silent })
      by (inr (inl o)) = inr (inl (record { note = o.note; owes = else_owes me el o.note ne o.owes; listed = passes o.note o.owes o.listed }))
      by (inr (inr (inl k))) =
          inr (inr (inl (record {
            units = k.units;
            bytes = k.bytes;
            waits = k.waits;
            at_round = k.at_round;
            reported = told_others el.index ne ∙ k.reported;
            charged = told_charges el.index ne ∙ k.charged;
            marked = k.marked;
          })))
      by (inr (inr (inr k))) = inr (inr (inr (else_waits el.index el.progress ne k)))

  pub else_parcel : (parcel : Parcel) → AgreesOn m parcel → of_parcel no_letter (by_index (one_at i)) parcel ≡ 0 → AgreesOn next parcel
  else_parcel (Letter l) h z = tt
  else_parcel (Element p) h z = (let k = h.0 in let c = told_counts in omega (arith, k, c), h.1, else_waits p.index p.progress (not_at i p.index z) h.2)

  pub else_hand : (o : Option Item) → IfSome o (ItemAgrees m) → of_hand no_letter (by_index (one_at i)) o ≡ 0 → IfSome o (ItemAgrees next)
  else_hand None h z = tt
  else_hand (Some x) h z = else_parcel x.parcel h z

  else_owed : {C : Type 0} (me : ℕ) (room : List (ℕ × ElementView C)) → All (λ (el : ElementView C). one_at i el.index ≡ 0) (values_of room)
      → (y : Note) → IsOwed m me room y → IsOwed next me room y
  else_owed {C} me room zero_each y k = (
    let lt : index_of y < elements m = k.0 in let c = told_counts in omega (arith, lt, c),
    λ f.
        let o = k.1 f in
        let ne : o.0.index ≢ i = not_at i o.0.index (of_found (λ (el : ElementView C). one_at i el.index ≡ 0) o.0.index o.0 room zero_each o.1) in
        (o.0, o.1, else_owes me o.0 y ne o.2),
  )

  -- a PE where the element is not
  pub else_pe : {C : Type 0} (pe : PeView C) → AgreesAt m pe → of_pe no_letter (by_index (one_at i)) pe ≡ 0 → AgreesAt next pe
  else_pe {C} pe h z =
      let parts : of_hand no_letter (by_index (one_at i))
      pe.hand + (sum_by (of_item no_letter (by_index (one_at i))) pe.outbox + (sum_by (weigh no_letter) pe.shelf + count_in i pe.room)) ≡ 0 = z in
      let in_room : All (λ (el : ElementView C). one_at i el.index ≡ 0) (values_of pe.room) = each_zero
      (of_element no_letter (by_index (one_at i))) (values_of pe.room) (omega (arith, parts)) in
      record {
        keyed = h.keyed;
        room = all_two (AgreesWith m pe.me pe.notes) (λ (el : ElementView C). one_at i el.index ≡ 0) (AgreesWith next pe.me pe.notes)
            (λ x px zx. else_agrees pe.me pe.notes pe.notes x (not_at i x.index zx) (λ y o c. c) px) (values_of pe.room) h.room in_room;
        notes = All-weaker (IsOwed m pe.me pe.room) (IsOwed next pe.me pe.room) (else_owed pe.me pe.room in_room) pe.notes h.notes;
        once = h.once;
        hand = else_hand pe.hand h.hand (omega (arith, parts));
        outbox = all_two (ItemAgrees m) (λ x. of_item no_letter (by_index (one_at i)) x ≡ 0) (ItemAgrees next)
            (λ x px zx. else_parcel x.parcel px zx) pe.outbox h.outbox (each_zero (of_item no_letter (by_index (one_at i))) pe.outbox (omega (arith, parts)));
      }

-- the room of the PE that reports
module _ {C : Type 0} (m : Measured) (me : ℕ) (room : List (ℕ × ElementView C)) (first : Note) (rest : List Note) (h : RoomAgrees m me room (first ∷ rest)) where
  -- that an element has finished
  pub rest_agrees : (j : ℕ) → first ≡ Finish j → RoomAgrees m me room rest
  rest_agrees j s =
      record {
        keyed = h.keyed;
        each = All-weaker (AgreesWith m me (first ∷ rest)) (AgreesWith m me rest) passes (values_of room) h.each;
        owing = All-tail (IsOwed m me room) first rest h.owing;
        once = λ e.
            let c : times (is_wait_of e) (first ∷ rest) ≡ one_if (is_wait_of e first) + times (is_wait_of e) rest = sum_by-cons
            (λ (v : Note). one_if (is_wait_of e v)) first rest in
            omega (arith, c, h.once e);
      }
    where
      no_wait : (y : Note) (i r u b q : ℕ) → y ≡ Sync i r u b q → first ≡ y → ⊥
      no_wait y i r u b q t k =
          let a : is_wait_of i y ≡ true = wait_of i y i r u b q t refl in
          let c : is_wait_of i (Finish j) ≡ true = subst (λ (v : Note). is_wait_of i v ≡ true) (sym k ∙ s) a in
          cc

      passes : (el : ElementView C) → AgreesWith m me (first ∷ rest) el → AgreesWith m me rest el
      passes el k = record { known = k.known; fresh = k.fresh; state = by k.state }
        where
          by : IsInSomeState m me (first ∷ rest) el → IsInSomeState m me rest el
          by (inl w) = inl w
          by (inr (inl o)) = inr (inl (record {
            note = o.note;
            owes = o.owes;
            listed = later first rest o.note (no_wait o.note el.index m.round o.owes.units o.owes.bytes me o.owes.says) o.listed;
          }))
          by (inr (inr (inl x))) = inr (inr (inl x))
          by (inr (inr (inr x))) = inr (inr (inr x))

  -- that an element waits
  module _ (n : ℕ) (open_for : IsOpenFor n m) (el : ElementView C) (at : found el.index room ≡ Some el) (owes : Owes m me el first) (one : count_in el.index room ≤ 1) where
    abbrev pub then_told : Measured
    then_told = told m el.index owes.units owes.bytes me

    first_waits : is_wait_of el.index first ≡ true
    first_waits = wait_of el.index first el.index m.round owes.units owes.bytes me owes.says refl

    split : (e : ℕ) → times (is_wait_of e) (first ∷ rest) ≡ one_if (is_wait_of e first) + times (is_wait_of e) rest
    split e = sum_by-cons (λ (v : Note). one_if (is_wait_of e v)) first rest

    none_left : All (λ (y : Note). one_if (is_wait_of el.index y) ≡ 0) rest
    none_left =
        let c = split el.index in
        let o : one_if (is_wait_of el.index first) ≡ 1 = ap one_if first_waits in
        let s = h.once el.index in
        each_zero (λ (y : Note). one_if (is_wait_of el.index y)) rest (omega (arith, c, o, s))

    others_listed : (x : ElementView C) → x.index ≢ el.index → (y : Note) → Owes m me x y → Contains (first ∷ rest) y → Contains rest y
    others_listed x ne y o =
        later first rest y
        (λ s. ne (wait_is el.index y x.index m.round o.units o.bytes me o.says (subst (λ (v : Note). is_wait_of el.index v ≡ true) s first_waits)))

    others_owed : (y : Note) → IsOwed m me room y → one_if (is_wait_of el.index y) ≡ 0 → IsOwed then_told me room y
    others_owed y k z = (
      let lt : index_of y < elements m = k.0 in let c = told_counts m el.index owes.units owes.bytes me in omega (arith, lt, c),
      λ f.
          let o = k.1 f in
          let ne : o.0.index ≢ el.index = λ s. waits_none (wait_of el.index y o.0.index m.round o.2.units o.2.bytes me o.2.says s) in
          (o.0, o.1, else_owes m el.index owes.units owes.bytes me me o.0 y ne o.2),
    )
      where
        waits_none : is_wait_of el.index y ≡ true → ⊥
        waits_none t = let o : one_if (is_wait_of el.index y) ≡ 1 = ap one_if t in omega (arith, o, z)

    now : AgreesWith m me (first ∷ rest) el
    now = of_found (AgreesWith m me (first ∷ rest)) el.index el room h.each at

    has_reported : AgreesWith then_told me rest el
    has_reported =
        let k : el.index < elements m = now.known in
        let c : elements m ≡ n = open_for.counted in
        let p : length m.reports ≡ n = open_for.paired in
        let below : el.index < n = omega (arith, k, c) in
        record {
          known = let d = told_counts m el.index owes.units owes.bytes me in omega (arith, k, d);
          fresh = now.fresh;
          state = inr (inr (inl (record {
            units = owes.units;
            bytes = owes.bytes;
            waits = owes.waits;
            at_round = owes.at_round;
            reported = told_own m el.index owes.units owes.bytes me (omega (arith, below, p));
            charged = told_charged m el.index owes.units owes.bytes me owes.small (open_for.uncharged el.index below owes.silent);
            marked = subst (λ (v : Note). Contains el.marks (Synced v)) owes.says owes.marked;
          })));
        }

    pub reported_agrees : RoomAgrees then_told me room rest
    reported_agrees =
        record {
          keyed = h.keyed;
          each = values_but (AgreesWith m me (first ∷ rest)) (AgreesWith then_told me rest) el.index el room h.keyed one refl at h.each
              (λ x px ne. else_agrees m el.index owes.units owes.bytes me me (first ∷ rest) rest x ne (others_listed x ne) px) has_reported;
          owing = all_two (IsOwed m me room) (λ (y : Note). one_if (is_wait_of el.index y) ≡ 0) (IsOwed then_told me room) others_owed rest
              (All-tail (IsOwed m me room) first rest h.owing) none_left;
          once = λ e. let c = split e in let s = h.once e in omega (arith, c, s);
        }

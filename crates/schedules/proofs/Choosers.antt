-- The sets after a flag of theirs was put.
use Rattle.std.proofs.Common.{◌≡◌, ◌≢◌, ◌∙◌, ◌⊎◌, inl, inr, ℕ, ◌<◌, ◌≤◌, Bool, true, false, eqb, zero, suc, List, [], ◌∷◌, ◌++◌, ◌+◌, length, take, drop, get_or, Option, Some, None, refl, sym, ap, subst, arith}
use Rattle.std.specs.Prelude.{All, IfSome, IsSome, IsTrue, ◌↔◌, is_some, slice_get, slice_set}
use Rattle.std.specs.Option.{option_and_then, option_map_or}
use Rattle.std.proofs.lemmas.Bool.{cases_lt}
use Rattle.std.proofs.lemmas.Bool.Decides.{eqb_tells}
use Rattle.std.proofs.lemmas.List.{take_more, get_or-set_other, get_or-set_same, length-set}
use Rattle.std.proofs.lemmas.Option.{get_or_from_slice_get, slice_get_past, slice_get_within}
use Rattle.chares.specs.declared.trace_entry.TraceEntry.{TraceEntry}
use Rattle.chares.specs.declared.trace_entry.TraceEntry.TheVariants as Trace
use Rattle.rts_core.specs.Worlds.{WorldView}
use Rattle.schedules.specs.Choices.{AreFlags, AreSilent, ChoicesView, Knows, KnowsBut, KnowsElement, moves_in, named}
use Rattle.schedules.specs.Draws.{element_event, moves_at, moves_of, no_moves, settled}
use Rattle.schedules.specs.NumberSets.{has}
use Rattle.schedules.specs.declared.moves.Moves.{Moves}
use Rattle.schedules.proofs.Frames.{other_place}
use Rattle.schedules.proofs.Rooms.{same_number}
use Rattle.schedules.proofs.Sets.{all_reported}

-- moves that agree in each of the five
pub five : (a b : Moves) → a.look ≡ b.look → a.flush ≡ b.flush → a.deliver ≡ b.deliver → a.act ≡ b.act → a.report ≡ b.report → a ≡ b
five a b look flush deliver act report =
    ap (λ (x : Bool). record { look = x; flush = a.flush; deliver = a.deliver; act = a.act; report = a.report }) look
    ∙ (ap (λ (x : Bool). record { look = b.look; flush = x; deliver = a.deliver; act = a.act; report = a.report }) flush
    ∙ (ap (λ (x : Bool). record { look = b.look; flush = b.flush; deliver = x; act = a.act; report = a.report }) deliver
    ∙ (ap (λ (x : Bool). record { look = b.look; flush = b.flush; deliver = b.deliver; act = x; report = a.report }) act
    ∙ ap (λ (x : Bool). record { look = b.look; flush = b.flush; deliver = b.deliver; act = b.act; report = x }) report)))

-- a flag beyond the last
pub past : (flags : List Bool) (p : ℕ) → length flags ≤ p → has flags p ≡ false
past [] p beyond = refl
past (x ∷ xs) zero beyond = absurd (omega (arith, beyond))
past (x ∷ xs) (suc p) beyond = past xs p (omega (arith, beyond))

-- with these moves at PE p
abbrev pub with_moves : ChoicesView → ℕ → Moves → ChoicesView
with_moves c p m =
    record c {
      looks = slice_set c.looks p m.look;
      flushes = slice_set c.flushes p m.flush;
      delivers = slice_set c.delivers p m.deliver;
      acts = slice_set c.acts p m.act;
      reports = slice_set c.reports p m.report;
    }

module _ (c : ChoicesView) (p : ℕ) (m : Moves) (flags : AreFlags c) where
  pub moves_here : p < length c.looks → moves_in (with_moves c p m) p ≡ m
  moves_here within =
      five (moves_in (with_moves c p m) p) m
      (get_or-set_same c.looks p m.look false within)
      (get_or-set_same c.flushes p m.flush false (omega (arith, within, flags.flushes)))
      (get_or-set_same c.delivers p m.deliver false (omega (arith, within, flags.delivers)))
      (get_or-set_same c.acts p m.act false (omega (arith, within, flags.acts)))
      (get_or-set_same c.reports p m.report false (omega (arith, within, flags.reports)))

  pub moves_elsewhere : (k : ℕ) → k ≢ p → moves_in (with_moves c p m) k ≡ moves_in c k
  moves_elsewhere k ne =
      five (moves_in (with_moves c p m) k) (moves_in c k)
      (get_or-set_other c.looks p k m.look false ne)
      (get_or-set_other c.flushes p k m.flush false ne)
      (get_or-set_other c.delivers p k m.deliver false ne)
      (get_or-set_other c.acts p k m.act false ne)
      (get_or-set_other c.reports p k m.report false ne)

  pub flags_kept : AreFlags (with_moves c p m)
  flags_kept =
      record {
        flushes = length-set c.flushes p m.flush ∙ (flags.flushes ∙ sym (length-set c.looks p m.look));
        delivers = length-set c.delivers p m.deliver ∙ (flags.delivers ∙ sym (length-set c.looks p m.look));
        acts = length-set c.acts p m.act ∙ (flags.acts ∙ sym (length-set c.looks p m.look));
        reports = length-set c.reports p m.report ∙ (flags.reports ∙ sym (length-set c.looks p m.look));
        elements = flags.elements;
        few = omega (arith, length-set c.looks p m.look, flags.few);
        few_elements = flags.few_elements;
      }

-- a PE that there is none of makes no move
pub moves_past : (c : ChoicesView) (p : ℕ) → AreFlags c → length c.looks ≤ p → moves_in c p ≡ no_moves
moves_past c p flags beyond =
    five (moves_in c p) no_moves (past c.looks p beyond) (past c.flushes p (omega (arith, beyond, flags.flushes))) (past c.delivers p (omega (arith, beyond, flags.delivers)))
    (past c.acts p (omega (arith, beyond, flags.acts))) (past c.reports p (omega (arith, beyond, flags.reports)))

module _ {C A : Type 0} (w : WorldView C A) where
  pub none_past : (p : ℕ) → length w.pes ≤ p → moves_at w p ≡ no_moves
  none_past p beyond = ap (λ o. option_map_or (moves_of (slice_get w.queues p)) o no_moves) (slice_get_past w.pes p beyond)

  -- what is known of a PE after its moves were put
  pub seen : (old new : ChoicesView) (p : ℕ) (m : Moves) → AreFlags new → length old.looks ≡ length w.pes → length new.looks ≡ length old.looks → m ≡ moves_at w p
      → (p < length old.looks → moves_in new p ≡ m) → moves_in new p ≡ moves_at w p
  seen old new p m flags counted kept is here = by (cases_lt p (length old.looks))
    where
      by : (p < length old.looks) ⊎ (length old.looks ≤ p) → moves_in new p ≡ moves_at w p
      by (inl within) = here within ∙ is
      by (inr beyond) = moves_past new p flags (omega (arith, beyond, kept)) ∙ sym (none_past p (omega (arith, beyond, counted)))

  -- an element that there is none of has no event
  pub unknown_past : (c : ChoicesView) (e : ℕ) → AreFlags c → length c.places ≤ e → KnowsElement w c e
  unknown_past c e flags beyond =
      past c.elements e (omega (arith, beyond, flags.elements)) ∙ sym (ap (λ o. is_some (option_and_then (element_event w e) o)) (slice_get_past c.places e beyond))

-- where elements were last, entry by entry
pub settled_append : (p : ℕ) (places : List ℕ) (xs ys : List TraceEntry) → settled p places (xs ++ ys) ≡ settled p (settled p places xs) ys
settled_append p places [] ys = refl
settled_append p places (Trace.Installed e ∷ xs) ys = settled_append p (slice_set places e p) xs ys
settled_append p places (x ∷ xs) ys = settled_append p places xs ys

pub settled_more : (p : ℕ) (places : List ℕ) (entries : List TraceEntry) (i : ℕ) (entry : TraceEntry) → i < length entries → entry ≡ get_or entries i entry
    → settled p places (take (i + 1) entries) ≡ settled p (settled p places (take i entries)) (entry ∷ [])
settled_more p places entries i entry within is =
    ap (settled p places) (take_more entries i entry within ∙ ap (λ (x : TraceEntry). take i entries ++ x ∷ []) (sym is))
    ∙ settled_append p places (take i entries) (entry ∷ [])

settled_other : (p : ℕ) (places : List ℕ) (entry : TraceEntry) (e : ℕ) → named entry ≢ Some e → slice_get (settled p places (entry ∷ [])) e ≡ slice_get places e
settled_other p places (Trace.Installed x) e ne = other_place places x e p (λ same. ne (ap Some (sym same)))
settled_other p places entry e ne = refl

no_number : (e : ℕ) → None ≢ Some e
no_number e same = cc

module _ {C A : Type 0} (w : WorldView C A) (old mid new : ChoicesView) (p : ℕ) (entry : TraceEntry) (rest : List TraceEntry)
    (placed : mid ≡ record old { places = settled p old.places (entry ∷ []) }) (only : new ≡ record mid { elements = new.elements })
    (here : IfSome (named entry) (KnowsElement w new)) (others : (e : ℕ) → named entry ≢ Some e → has new.elements e ≡ has mid.elements e)
    (silent : (e : ℕ) → AreSilent e (entry ∷ rest) → KnowsElement w old e) where
  kept_element : (e : ℕ) → AreSilent e rest → named entry ≢ Some e → KnowsElement w new e
  kept_element e quiet ne =
      others e ne
      ∙ ap (λ (c : ChoicesView). has c.elements e) placed
      ∙ silent e (ne, quiet)
      ∙ sym (ap (λ o. is_some (option_and_then (element_event w e) o))
      (ap (λ (c : ChoicesView). slice_get c.places e) (only ∙ ap (λ (c : ChoicesView). record c { elements = new.elements }) placed) ∙ settled_other p old.places entry e ne))

  by_name : (e : ℕ) → AreSilent e rest → (x : ℕ) → named entry ≡ Some x → KnowsElement w new x → ((eqb x e ≡ true) × (x ≡ e)) ⊎ ((eqb x e ≡ false) × (x ≢ e)) → KnowsElement w new e
  by_name e quiet x is h (inl (t, same)) = subst (KnowsElement w new) same h
  by_name e quiet x is h (inr (t, ne)) = kept_element e quiet (λ so. ne (same_number x e (sym is ∙ so)))

  pub step_silent : (e : ℕ) → AreSilent e rest → KnowsElement w new e
  step_silent e quiet = by (named entry) refl here
    where
      by : (o : Option ℕ) → named entry ≡ o → IfSome o (KnowsElement w new) → KnowsElement w new e
      by None is h = kept_element e quiet (λ same. no_number e (sym is ∙ same))
      by (Some x) is h = by_name e quiet x is h (eqb_tells x e)

-- and nothing but elements and places changes
pub only_more : (initial self mid new : ChoicesView) (p i : ℕ) (entries : List TraceEntry) (entry : TraceEntry) → i < length entries → entry ≡ get_or entries i entry
    → self ≡ record initial { elements = self.elements; places = settled p initial.places (take i entries) }
    → mid ≡ record self { places = settled p self.places (entry ∷ []) } → new ≡ record mid { elements = new.elements }
    → new ≡ record initial { elements = new.elements; places = settled p initial.places (take (i + 1) entries) }
only_more initial self mid new p i entries entry within is before placed only =
    only
    ∙ ap (λ (c : ChoicesView). record c { elements = new.elements }) placed
    ∙ ap (λ (c : ChoicesView). record c { elements = new.elements; places = settled p c.places (entry ∷ []) }) before
    ∙ ap (λ (q : List ℕ). record initial { elements = new.elements; places = q }) (sym (settled_more p initial.places entries i entry within is))

pub settle_more : (initial self new : ChoicesView) (p i : ℕ) (entries : List TraceEntry) (entry : TraceEntry) → i < length entries → entry ≡ get_or entries i entry
    → self ≡ record initial { places = settled p initial.places (take i entries) } → new ≡ record self { places = settled p self.places (entry ∷ []) }
    → new ≡ record initial { places = settled p initial.places (take (i + 1) entries) }
settle_more initial self new p i entries entry within is before placed =
    placed
    ∙ ap (λ (c : ChoicesView). record c { places = settled p c.places (entry ∷ []) }) before
    ∙ ap (λ (q : List ℕ). record initial { places = q }) (sym (settled_more p initial.places entries i entry within is))

-- a list from one of its members on
drop_at : {X : Type 0} (xs : List X) (i : ℕ) (x : X) → i < length xs → x ≡ get_or xs i x → drop i xs ≡ x ∷ drop (suc i) xs
drop_at [] i x within is = absurd (omega (arith, within))
drop_at {X} (y ∷ ys) zero x within is = ap (λ (z : X). z ∷ ys) (sym is)
drop_at (y ∷ ys) (suc i) x within is = drop_at ys i x (omega (arith, within)) is

pub drop_here : {X : Type 0} (xs : List X) (i : ℕ) (x : X) → i < length xs → x ≡ get_or xs i x → drop i xs ≡ x ∷ drop (i + 1) xs
drop_here {X} xs i x within is =
    let more : suc i ≡ i + 1 = omega arith in
    drop_at xs i x within is ∙ ap (λ (k : ℕ). x ∷ drop k xs) more

-- one member more of a list
pub taken_next : {X : Type 0} (xs : List X) (i : ℕ) (x : X) → slice_get xs i ≡ Some x → (take (i + 1) xs ≡ take i xs ++ x ∷ []) × (i + 1 ≤ length xs)
taken_next {X} xs i x e =
    (take_more xs i x (slice_get_within xs i x e) ∙ ap (λ (y : X). take i xs ++ y ∷ []) (get_or_from_slice_get xs i x x e), omega (arith, slice_get_within xs i x e))

none_within : {X : Type 0} (xs : List X) (i : ℕ) → slice_get xs i ≡ None → length xs ≤ i
none_within [] i e = omega arith
none_within (x ∷ xs) zero e = cc
none_within (x ∷ xs) (suc i) e = omega (arith, none_within xs i e)

module _ {C A : Type 0} (w : WorldView C A) where
  pub next_moves : (old new : ChoicesView) (n p : ℕ) → p ≡ n → moves_in new p ≡ moves_at w p → ((k : ℕ) → k ≢ p → moves_in new k ≡ moves_in old k)
      → ((k : ℕ) → k < n → moves_in old k ≡ moves_at w k) → (k : ℕ) → k < n + 1 → moves_in new k ≡ moves_at w k
  next_moves old new n p same here others before k within = by (eqb_tells k p)
    where
      by : ((eqb k p ≡ true) × (k ≡ p)) ⊎ ((eqb k p ≡ false) × (k ≢ p)) → moves_in new k ≡ moves_at w k
      by (inl (t, e)) = ap (moves_in new) e ∙ here ∙ sym (ap (moves_at w) e)
      by (inr (t, ne)) = others k ne ∙ before k (omega (arith, within, ne, same))

  pub all_moves : (c : ChoicesView) (n : ℕ) → AreFlags c → length c.looks ≡ length w.pes → length w.pes ≤ n
      → ((k : ℕ) → k < n → moves_in c k ≡ moves_at w k) → (k : ℕ) → moves_in c k ≡ moves_at w k
  all_moves c n flags counted enough each k = by (cases_lt k n)
    where
      by : (k < n) ⊎ (n ≤ k) → moves_in c k ≡ moves_at w k
      by (inl within) = each k within
      by (inr beyond) = moves_past c k flags (omega (arith, beyond, counted, enough)) ∙ sym (none_past w k (omega (arith, beyond, enough)))

  pub all_elements : (c : ChoicesView) (n : ℕ) → AreFlags c → length c.places ≤ n → ((k : ℕ) → k < n → KnowsElement w c k) → (e : ℕ) → KnowsElement w c e
  all_elements c n flags enough each e = by (cases_lt e n)
    where
      by : (e < n) ⊎ (n ≤ e) → KnowsElement w c e
      by (inl within) = each e within
      by (inr beyond) = unknown_past w c e flags (omega (arith, beyond, enough))

  pub none_known : (c : ChoicesView) (e : ℕ) → AreFlags c → slice_get c.places e ≡ None → KnowsElement w c e
  none_known c e flags none = unknown_past w c e flags (none_within c.places e none)

  pub put_known : (c : ChoicesView) (e place : ℕ) (may : Bool) → AreFlags c → slice_get c.places e ≡ Some place → may ≡ is_some (element_event w e place)
      → KnowsElement w (record c { elements = slice_set c.elements e may }) e
  put_known c e place may flags at is =
      get_or-set_same c.elements e may false (omega (arith, slice_get_within c.places e place at, flags.elements))
      ∙ is ∙ sym (ap (λ o. is_some (option_and_then (element_event w e) o)) at)

  pub put_element : (c : ChoicesView) (e number place : ℕ) (may : Bool) (flags' : List Bool) → AreFlags c
      → flags' ≡ slice_set c.elements number may → number ≡ e → slice_get c.places e ≡ Some place
      → may ≡ is_some (element_event w e place) → KnowsElement w (record c { elements = flags' }) e
  put_element c e number place may flags' flags put same at is =
      ap (λ (xs : List Bool). has xs e) (put ∙ ap (λ (k : ℕ). slice_set c.elements k may) same) ∙ put_known c e place may flags at is

  -- everything was looked at
  pub all_known : (c d : ChoicesView) (b : Bool) → length c.looks ≡ length w.pes → ((k : ℕ) → moves_in c k ≡ moves_at w k) → d ≡ record c { elements = d.elements }
      → ((e : ℕ) → KnowsElement w d e) → IsTrue b ↔ All IsSome w.board.database.reports → Knows w (record d { decides = b })
  all_known c d b counted moves only elements iff =
      record {
        counted = ap (λ (x : ChoicesView). length x.looks) only ∙ counted;
        pes = λ k. ap (λ (x : ChoicesView). moves_in x k) only ∙ moves k;
        elements = elements;
        decides = all_reported b w.board.database.reports iff;
      }

  pub with_decides : (s d : ChoicesView) (b : Bool) → s ≡ d → length d.looks ≡ length w.pes → ((k : ℕ) → moves_in d k ≡ moves_at w k) → ((e : ℕ) → KnowsElement w d e)
      → IsTrue b ↔ All IsSome w.board.database.reports → Knows w (record s { decides = b })
  with_decides s d b same counted moves elements iff =
      subst (λ (x : ChoicesView). Knows w (record x { decides = b })) (sym same)
      (record { counted = counted; pes = moves; elements = elements; decides = all_reported b w.board.database.reports iff })

  -- what an event may have changed was looked at
  module _ (a b c d : ChoicesView) (p : ℕ) (q : Option ℕ) (entries : List TraceEntry) (before : KnowsBut w a p q entries)
      (here : moves_in b p ≡ moves_at w p) (others : (k : ℕ) → k ≢ p → moves_in b k ≡ moves_in a k)
      (to : IfSome q (λ r. moves_in c r ≡ moves_at w r)) (rest : (k : ℕ) → Some k ≢ q → moves_in c k ≡ moves_in b k) where
    by_pe : (k : ℕ) → Some k ≢ q → ((eqb k p ≡ true) × (k ≡ p)) ⊎ ((eqb k p ≡ false) × (k ≢ p)) → moves_in c k ≡ moves_at w k
    by_pe k other (inl (t, e)) = rest k other ∙ (ap (moves_in b) e ∙ here ∙ sym (ap (moves_at w) e))
    by_pe k other (inr (t, ne)) = rest k other ∙ (others k ne ∙ before.pes k ne other)

    by_to : (k r : ℕ) → q ≡ Some r → moves_in c r ≡ moves_at w r → ((eqb k r ≡ true) × (k ≡ r)) ⊎ ((eqb k r ≡ false) × (k ≢ r)) → moves_in c k ≡ moves_at w k
    by_to k r is h (inl (t, e)) = ap (moves_in c) e ∙ h ∙ sym (ap (moves_at w) e)
    by_to k r is h (inr (t, ne)) = by_pe k (λ same. ne (same_number k r (same ∙ is))) (eqb_tells k p)

    pub moves_known : (k : ℕ) → moves_in c k ≡ moves_at w k
    moves_known k = by q refl to
      where
        by : (o : Option ℕ) → q ≡ o → IfSome o (λ r. moves_in c r ≡ moves_at w r) → moves_in c k ≡ moves_at w k
        by None is h = by_pe k (λ same. no_number k (sym (same ∙ is))) (eqb_tells k p)
        by (Some r) is h = by_to k r is h (eqb_tells k r)

-- The sets from which an event is drawn, beside the events that they stand for.
use Rattle.std.proofs.Common.{◌≡◌, ◌∙◌, ℕ, zero, suc, ◌+◌, ◌<◌, Bool, true, false, cond, List, [], ◌∷◌, length, map, Option, Some, None, refl, ap, sym, arith}
use Rattle.std.specs.Prelude.{All, IsSome, IsTrue, ◌↔◌, is_some, slice_get, if◌then◌else◌}
use Rattle.std.specs.List.{filter, filter_map, list_all, range_with_len}
use Rattle.std.specs.Option.{option_and_then, option_map}
use Rattle.std.proofs.lemmas.List.{length-map}
use Rattle.std.proofs.lemmas.Option.{slice_get-map}
use Rattle.rts_core.specs.Worlds.{WorldView}
use Rattle.rts_core.specs.declared.event.Event.{Event}
use Rattle.rts_core.specs.declared.event.Event.TheVariants as Happening
use Rattle.schedules.specs.Choices.{AreFlags, ChoicesView, Knows, moves_in, numbers_in}
use Rattle.schedules.specs.Draws.{are_reported, event_of, events_of, moves_at}
use Rattle.schedules.specs.NumberSets.{has, members, those}
use Rattle.schedules.specs.declared.bias.Kind.{Kind}
use Rattle.schedules.specs.declared.bias.Kind.TheVariants.{Look, Flush, Deliver, Act, Report, Element, Decide}
use Rattle.schedules.specs.declared.moves.Moves.{Moves}
use Rattle.schedules.proofs.Rooms.{same_number}
use Rattle.std.proofs.lemmas.List.Elements.{All-cons, All-head, All-nil, All-tail}

filter_same : (f g : ℕ → Bool) → ((k : ℕ) → f k ≡ g k) → (xs : List ℕ) → filter f xs ≡ filter g xs
filter_same f g same [] = refl
filter_same f g same (x ∷ xs) =
    ap (λ (b : Bool). cond b (x ∷ filter f xs) (filter f xs)) (same x) ∙ ap (λ (ys : List ℕ). cond (g x) (x ∷ ys) ys) (filter_same f g same xs)

-- the members of a set that is known
pub members_are : (test : ℕ → Bool) (flags : List Bool) (n : ℕ) → ((k : ℕ) → has flags k ≡ test k) → length flags ≡ n → members flags ≡ those test n
members_are test flags n same counted =
    filter_same (has flags) test same (range_with_len 0 (length flags)) ∙ ap (those test) counted

-- what a function gives of those at which it gives something
given_by : {X : Type 0} (f : ℕ → Option X) (x : ℕ) (o : Option X) (ys : List X) (zs : List ℕ) → f x ≡ o → length ys ≡ length zs
    → length (Rattle.std.specs.List.cons_option o ys) ≡ length (cond (is_some o) (x ∷ zs) zs)
given_by f x None ys zs e same = same
given_by f x (Some y) ys zs e same = ap suc same

pub given_count : {X : Type 0} (f : ℕ → Option X) (xs : List ℕ) → length (filter_map f xs) ≡ length (filter (λ x. is_some (f x)) xs)
given_count f [] = refl
given_count f (x ∷ xs) = given_by f x (f x) (filter_map f xs) (filter (λ y. is_some (f y)) xs) refl (given_count f xs)

given_at_by : {X : Type 0} (f : ℕ → Option X) (x : ℕ) (o : Option X) (ys : List X) (zs : List ℕ) → f x ≡ o
    → ((k : ℕ) → slice_get ys k ≡ option_and_then f (slice_get zs k)) → (k : ℕ)
    → slice_get (Rattle.std.specs.List.cons_option o ys) k ≡ option_and_then f (slice_get (cond (is_some o) (x ∷ zs) zs) k)
given_at_by f x None ys zs e same k = same k
given_at_by f x (Some y) ys zs e same zero = sym e
given_at_by f x (Some y) ys zs e same (suc k) = same k

pub given_at : {X : Type 0} (f : ℕ → Option X) (xs : List ℕ) (k : ℕ) → slice_get (filter_map f xs) k ≡ option_and_then f (slice_get (filter (λ x. is_some (f x)) xs) k)
given_at f [] k = refl
given_at f (x ∷ xs) k = given_at_by f x (f x) (filter_map f xs) (filter (λ y. is_some (f y)) xs) refl (given_at f xs) k

by_first : (test : ℕ → Bool) (a n x : ℕ) (b : Bool) → ((j : ℕ) → slice_get (filter test (range_with_len (a + 1) n)) j ≡ Some x → x < a + 1 + n) → (k : ℕ)
    → slice_get (cond b (a ∷ filter test (range_with_len (a + 1) n)) (filter test (range_with_len (a + 1) n))) k ≡ Some x → x < a + suc n
by_first test a n x false later k e = omega (arith, later k e)
by_first test a n x true later zero e = omega (arith, same_number a x e)
by_first test a n x true later (suc k) e = omega (arith, later k e)

-- a member is below the bound
in_range : (test : ℕ → Bool) (a n k x : ℕ) → slice_get (filter test (range_with_len a n)) k ≡ Some x → x < a + n
in_range test a zero k x e = cc
in_range test a (suc n) k x e = by_first test a n x (test a) (λ j f. in_range test (a + 1) n j x f) k e

pub member_below : (flags : List Bool) (k x : ℕ) → slice_get (members flags) k ≡ Some x → x < length flags
member_below flags k x e = omega (arith, in_range (has flags) 0 (length flags) k x e)

module _ {C A : Type 0} (w : WorldView C A) (c : ChoicesView) (knows : Knows w c) where
  by_pes_are : (may : Moves → Bool) (flags : List Bool) → ((k : ℕ) → has flags k ≡ may (moves_in c k)) → length flags ≡ length c.looks
      → members flags ≡ those (λ p. may (moves_at w p)) (length w.pes)
  by_pes_are may flags same counted =
      members_are (λ p. may (moves_at w p)) flags (length w.pes) (λ k. same k ∙ ap may (knows.pes k)) (counted ∙ knows.counted)

  module _ (flags : AreFlags c) where
    elements_are : members c.elements ≡ those (λ e. is_some (event_of w c.places e)) (length c.places)
    elements_are = members_are (λ e. is_some (event_of w c.places e)) c.elements (length c.places) knows.elements flags.elements

    pes_count : (may : Moves → Bool) (event : ℕ → Event) (set : List Bool) → ((k : ℕ) → has set k ≡ may (moves_in c k)) → length set ≡ length c.looks
        → length (members set) ≡ length (map event (those (λ p. may (moves_at w p)) (length w.pes)))
    pes_count may event set same counted =
        ap length (by_pes_are may set same counted) ∙ sym (length-map (those (λ p. may (moves_at w p)) (length w.pes)) event)

    decides_count : (a b : Bool) → a ≡ b → length {A = ℕ} (if a then 0 ∷ [] else []) ≡ length (if b then Happening.Decide ∷ [] else [])
    decides_count true true e = refl
    decides_count false false e = refl
    decides_count true false e = cc
    decides_count false true e = cc

    -- there are as many members as events
    pub count_is : (kind : Kind) → length (numbers_in c kind) ≡ length (events_of w c.places kind)
    count_is Look = pes_count (λ m. m.look) Happening.Look c.looks (λ k. refl) refl
    count_is Flush = pes_count (λ m. m.flush) Happening.Flush c.flushes (λ k. refl) flags.flushes
    count_is Deliver = pes_count (λ m. m.deliver) Happening.Deliver c.delivers (λ k. refl) flags.delivers
    count_is Act = pes_count (λ m. m.act) Happening.Act c.acts (λ k. refl) flags.acts
    count_is Report = pes_count (λ m. m.report) Happening.Report c.reports (λ k. refl) flags.reports
    count_is Element = ap length elements_are ∙ sym (given_count (event_of w c.places) (range_with_len 0 (length c.places)))
    count_is Decide = decides_count c.decides (are_reported w.board) knows.decides

    -- the event of a member
    pes_event : (may : Moves → Bool) (event : ℕ → Event) (set : List Bool) → ((k : ℕ) → has set k ≡ may (moves_in c k)) → length set ≡ length c.looks
        → (k : ℕ) → slice_get (map event (those (λ p. may (moves_at w p)) (length w.pes))) k ≡ option_map event (slice_get (members set) k)
    pes_event may event set same counted k =
        slice_get-map event (those (λ p. may (moves_at w p)) (length w.pes)) k ∙ ap (λ (xs : List ℕ). option_map event (slice_get xs k)) (sym (by_pes_are may set same counted))

    pub look_is : (k : ℕ) → slice_get (events_of w c.places Look) k ≡ option_map Happening.Look (slice_get (members c.looks) k)
    look_is = pes_event (λ m. m.look) Happening.Look c.looks (λ k. refl) refl

    pub flush_is : (k : ℕ) → slice_get (events_of w c.places Flush) k ≡ option_map Happening.Flush (slice_get (members c.flushes) k)
    flush_is = pes_event (λ m. m.flush) Happening.Flush c.flushes (λ k. refl) flags.flushes

    pub deliver_is : (k : ℕ) → slice_get (events_of w c.places Deliver) k ≡ option_map Happening.Deliver (slice_get (members c.delivers) k)
    deliver_is = pes_event (λ m. m.deliver) Happening.Deliver c.delivers (λ k. refl) flags.delivers

    pub act_is : (k : ℕ) → slice_get (events_of w c.places Act) k ≡ option_map Happening.Act (slice_get (members c.acts) k)
    act_is = pes_event (λ m. m.act) Happening.Act c.acts (λ k. refl) flags.acts

    pub report_is : (k : ℕ) → slice_get (events_of w c.places Report) k ≡ option_map Happening.Report (slice_get (members c.reports) k)
    report_is = pes_event (λ m. m.report) Happening.Report c.reports (λ k. refl) flags.reports

    pub element_is : (k : ℕ) → slice_get (events_of w c.places Element) k ≡ option_and_then (event_of w c.places) (slice_get (members c.elements) k)
    element_is k =
        given_at (event_of w c.places) (range_with_len 0 (length c.places)) k ∙ ap (λ (xs : List ℕ). option_and_then (event_of w c.places) (slice_get xs k)) (sym elements_are)

    -- so where the kind is one of PEs
    pub none_is : (kind kind' : Kind) (event : ℕ → Event) (set : List Bool) (k : ℕ)
        → ((j : ℕ) → slice_get (events_of w c.places kind') j ≡ option_map event (slice_get (members set) j))
        → kind ≡ kind' → None ≡ slice_get (members set) k → (r : Option Event) → r ≡ None → r ≡ slice_get (events_of w c.places kind) k
    none_is kind kind' event set k is same none r e =
        e ∙ (ap (option_map event) none ∙ (sym (is k) ∙ ap (λ x. slice_get (events_of w c.places x) k) (sym same)))

    pub some_is : (kind kind' : Kind) (event : ℕ → Event) (set : List Bool) (k p : ℕ)
        → ((j : ℕ) → slice_get (events_of w c.places kind') j ≡ option_map event (slice_get (members set) j))
        → kind ≡ kind' → Some p ≡ slice_get (members set) k → Some (event p) ≡ slice_get (events_of w c.places kind) k
    some_is kind kind' event set k p is same some =
        ap (option_map event) some ∙ (sym (is k) ∙ ap (λ x. slice_get (events_of w c.places x) k) (sym same))

    -- and where it is that of elements
    pub no_element_is : (k : ℕ) (r : Option Event) → None ≡ slice_get (members c.elements) k → r ≡ None → r ≡ slice_get (events_of w c.places Element) k
    no_element_is k r none e = e ∙ (ap (option_and_then (event_of w c.places)) none ∙ sym (element_is k))

    pub some_element_is : (k e : ℕ) (r : Option Event) → Some e ≡ slice_get (members c.elements) k → r ≡ event_of w c.places e → r ≡ slice_get (events_of w c.places Element) k
    some_element_is k e r some is = is ∙ (ap (option_and_then (event_of w c.places)) some ∙ sym (element_is k))

-- whether every element has reported
module _ {X : Type 0} where
  all_is : (rs : List (Option X)) → All IsSome rs → list_all is_some rs ≡ true
  all_is [] h = refl
  all_is (None ∷ rs) h = none_first rs (All-head IsSome None rs h)
    where
      none_first : (rs : List (Option X)) → IsSome {T = X} None → list_all is_some (None ∷ rs) ≡ true
      none_first rs h = cc
  all_is (Some r ∷ rs) h = all_is rs (All-tail IsSome (Some r) rs h)

  all_from : (rs : List (Option X)) → list_all is_some rs ≡ true → All IsSome rs
  all_from [] e = All-nil IsSome
  all_from (None ∷ rs) e = cc
  all_from (Some r ∷ rs) e = All-cons IsSome (Some r) rs refl (all_from rs e)

  pub all_reported : (b : Bool) (rs : List (Option X)) → IsTrue b ↔ All IsSome rs → b ≡ list_all is_some rs
  all_reported b rs iff = by b (list_all is_some rs) (λ t. all_is rs (iff.0 t)) (λ t. iff.1 (all_from rs t))
    where
      by : (a c : Bool) → (a ≡ true → c ≡ true) → (c ≡ true → a ≡ true) → a ≡ c
      by true c f g = sym (f refl)
      by false true f g = g refl
      by false false f g = refl

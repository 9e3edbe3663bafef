-- Where the elements are in a world that a list of events leads to.
use Rattle.std.proofs.Common.{◌≡◌, ℕ, ◌+◌, ◌<◌, ◌≤◌, List, [], ◌∷◌, length, Option, Some, None, Bool, true, false, sum_by, arith, refl, sym, ◌∙◌, ap, subst}
use Rattle.std.specs.Prelude.{Result, slice_get, nat_eq, if◌then◌else◌}
use Rattle.std.proofs.lemmas.Bool.Decides.{nat_tests}
use Rattle.std.proofs.lemmas.List.FromFn.{length-map-range_with_len}
use Rattle.std.proofs.lemmas.List.Sums.{sum_by-cons}
use Rattle.std.proofs.lemmas.Option.{slice_get_within}
use Rattle.chares.specs.declared.trace_entry.TraceEntry.{TraceEntry}
use Rattle.chares.specs.Steps.{Step}
use Rattle.pup_pack.specs.declared.error.PupError.{PupError}
use Rattle.rts_core.specs.declared.event.Event.{Event}
use Rattle.rts_core.specs.Events.{After, Happens}
use Rattle.rts_core.specs.Places.{Life}
use Rattle.rts_core.specs.Runs.{Reaches}
use Rattle.rts_core.specs.Worlds.{WorldView, home, opening_world}
use Rattle.rts_core.proofs.EventSteps.{happens_good}
use Rattle.rts_core.proofs.OpeningWeights.{one_at, opened_lives, opened_once, opening_of, opening_numbered}
use Rattle.rts_core.proofs.WorldSteps.{AreOf, Numbered, Stepped}
use Rattle.event_laws.proofs.EventMoves.{happens_moves}
use Rattle.event_laws.proofs.Moves.{Change, words_after}
use Rattle.event_laws.proofs.LocationWords.{misnamed, at_index, named_after, index_kept, words_kept, room_by_word, room_named, bound_named}
use Rattle.event_laws.proofs.OpeningSites.{opened_sites, opening_sites, word_at}
use Rattle.event_laws.proofs.Sites.{Site, ElementWeight, no_letters, no_elements, world_at, world_zeros}
use Rattle.event_laws.proofs.Sites.Site.{Fresh, Bound, Chasing, Waiting, Room}
use Rattle.sync_board.specs.declared.strategy.Strategy.{Strategy}

-- What holds of the elements of each world of a run: each location word is right, there is one for each of n elements,
-- and each element is there once; PEs have the numbers of their indices.
pub record IsPlaced {C A : Type 0} (n : ℕ) (w : WorldView C A) : Type 0 where
  pub named : world_at no_letters (misnamed w.words) w ≡ 0
  pub counted : length w.words ≡ n
  pub once : (i : ℕ) → i < n → world_at no_letters (at_index i) w ≡ 1
  pub numbered : Numbered w
  pub of : AreOf n w

-- an element without a location word is not there
pub unnamed : {C A : Type 0} (w : WorldView C A) (i : ℕ) → world_at no_letters (misnamed w.words) w ≡ 0 → slice_get w.words i ≡ None → world_at no_letters (at_index i) w ≡ 0
unnamed {C} {A} w i named none =
    world_zeros no_letters (misnamed w.words) no_letters no_elements no_letters (at_index i) (λ s id to a b. refl) (λ s j a b. absent s j a (nat_eq j i) refl) w named nothing
  where
    wrong : (s : Site) (j : ℕ) → misnamed w.words s j ≡ 0 → slice_get w.words j ≡ None → ⊥
    wrong Fresh j a h = omega (arith, a)
    wrong (Bound p) j a h = let b = bound_named w.words p j a in cc
    wrong (Chasing p) j a h = omega (arith, a)
    wrong (Waiting p) j a h = omega (arith, a)
    wrong (Room p key) j a h = let b = (room_named w.words p key j a).1 in cc

    absent : (s : Site) (j : ℕ) → misnamed w.words s j ≡ 0 → (b : Bool) → nat_eq j i ≡ b → at_index i s j ≡ 0
    absent s j a true t =
        let same : i ≡ j = grind (arith, nat_tests) in
        absurd (wrong s j a (subst (λ (v : ℕ). slice_get w.words v ≡ None) same none))
    absent s j a false t = ap (λ (v : Bool). if v then 1 else 0) t

    nothing : world_at no_letters no_elements w ≡ 0
    nothing = world_zeros no_letters (misnamed w.words) no_letters (misnamed w.words) no_letters no_elements (λ s id to a b. refl) (λ s j a b. refl) w named named

-- an element is nowhere twice
pub at_most_once : {C A : Type 0} (n : ℕ) (w : WorldView C A) → IsPlaced n w → (i : ℕ) → world_at no_letters (at_index i) w ≤ 1
at_most_once n w h i = by (slice_get w.words i) refl
  where
    by : (o : Option ℕ) → slice_get w.words i ≡ o → world_at no_letters (at_index i) w ≤ 1
    by None is = let a = unnamed w i h.named is in omega (arith, a)
    by (Some q) is =
        let lt : i < length w.words = slice_get_within w.words i q is in
        let a = h.once i (subst (λ (v : ℕ). i < v) h.counted lt) in
        omega (arith, a)

pub placed_next : {C A : Type 0} (n : ℕ) (w w' : WorldView C A) (rs : List TraceEntry) → IsPlaced n w → Change w w' rs → (Numbered w → Numbered w') → AreOf n w' → IsPlaced n w'
placed_next n w w' rs h c numbers of =
    let k : world_at no_letters (misnamed (words_after c.move w.words)) w' ≡ 0 = named_after w w' c.stays c.move (c.takes no_letters)
    (c.puts no_letters) h.named (at_most_once n w h) in
    record {
      named = subst (λ (v : List ℕ). world_at no_letters (misnamed v) w' ≡ 0) (sym c.words) k;
      counted = ap (λ (v : List ℕ). length v) c.words ∙ (words_kept c.move w.words ∙ h.counted);
      once = λ i lt. omega (arith, h.once i lt, c.takes no_letters (at_index i), c.puts no_letters (at_index i), index_kept i c.move);
      numbered = numbers h.numbered;
      of = of;
    }

-- ---- the opening

module _ {C : Type 0} where
  opened_zero : (k : ElementWeight) (n m e : ℕ) (chares : List C) → ((i : ℕ) → i < n → k (Room (home i n m) i) i ≡ 0) → e + length chares ≤ n → opened_sites k n m e chares ≡ 0
  opened_zero k n m e [] none le = refl
  opened_zero k n m e (chare ∷ chares) none le =
      let a : k (Room (home e n m) e) e ≡ 0 = none e (omega (arith, le)) in
      let b = opened_zero k n m (e + 1) chares none (omega (arith, le)) in
      let c : opened_sites k n m e (chare ∷ chares) ≡ k (Room (home e n m) e) e + opened_sites k n m (e + 1) chares = refl in
      omega (arith, a, b, c)

  opened_index : (i n m e : ℕ) (chares : List C) → opened_sites (at_index i) n m e chares ≡ sum_by (λ x. one_at i x.0) (opened_lives e chares)
  opened_index i n m e [] = refl
  opened_index i n m e (chare ∷ chares) =
      let a : opened_sites (at_index i) n m e (chare ∷ chares) ≡ one_at i e + opened_sites (at_index i) n m (e + 1) chares = refl in
      let b : sum_by (λ (x : Life). one_at i x.0) ((e, []) ∷ opened_lives (e + 1) chares) ≡ one_at i e + sum_by (λ (x : Life). one_at i x.0)
      (opened_lives (e + 1) chares) = sum_by-cons (λ (x : Life). one_at i x.0) (e, []) (opened_lives (e + 1) chares) in
      let c = opened_index i n m (e + 1) chares in
      omega (arith, a, b, c)

  pub opening_placed : (A : Type 0) (pes : ℕ) (chares : List C) (strategy : Strategy) → 1 ≤ pes → IsPlaced (length chares) (opening_world {A = A} pes chares strategy)
  opening_placed A pes chares strategy some =
      let n : ℕ = length chares in
      let w : WorldView C A = opening_world pes chares strategy in
      record {
        named =
            let a = opening_sites no_letters (misnamed w.words) A pes chares strategy some in
            let b = opened_zero (misnamed w.words) n pes 0 chares (λ i lt. room_by_word w.words (home i n pes) i (word_at (λ e. home e n pes) n i lt)) (omega arith) in
            omega (arith, a, b);
        counted = length-map-range_with_len (λ e. home e n pes) 0 n;
        once = λ i lt.
            let a = opening_sites no_letters (at_index i) A pes chares strategy some in
            let b = opened_index i n pes 0 chares in
            let c : sum_by (λ (x : Life). one_at i x.0) (opened_lives 0 chares) ≡ 1 = opened_once i 0 chares (omega arith) (omega (arith, lt)) in
            omega (arith, a, b, c);
        numbered = opening_numbered A pes chares strategy some;
        of = opening_of A pes chares strategy some;
      }

-- ---- runs

module _ {C A : Type 0} (step : Step C) (pack : C → List ℕ) (unpack : List ℕ → Result (C × ℕ) PupError) (n : ℕ) where
  pub placed_step : (w : WorldView C A) (event : Event) (next : After C A) → IsPlaced n w → Happens step pack unpack w event next → IsPlaced n next.0
  placed_step w event next h happens =
      let s : Stepped step n w next.0 next.1 = happens_good step pack unpack n w h.of event next happens in
      placed_next n w next.0 next.1 h (happens_moves step pack unpack w h.numbered event next happens) s.same_numbers s.same_array

  pub run_placed : (w : WorldView C A) (events : List Event) (last : After C A) → IsPlaced n w → Reaches step pack unpack w events last → IsPlaced n last.0
  run_placed w [] last h run = subst (λ (v : After C A). IsPlaced n v.0) (sym run) h
  run_placed w (event ∷ events) last h (first, rest, happens, leads, is) =
      let a : IsPlaced n first.0 = placed_step w event first h happens in
      subst (λ (v : After C A). IsPlaced n v.0) (sym is) (run_placed first.0 events rest a leads)

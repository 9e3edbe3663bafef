-- An event keeps how far each letter lags behind its element.
use Rattle.std.proofs.Common.{◌≡◌, ◌≢◌, ℕ, ◌+◌, ◌≤◌, List, [], ◌∷◌, ◌++◌, map, Some, Bool, true, false, sum_by, arith, refl, sym, ◌∙◌, ap, subst, inl, inr}
use Rattle.std.specs.Prelude.{◌⊎◌, slice_get, slice_set, nat_eq, ◌==◌, ◌||◌, if◌then◌else◌}
use Rattle.std.proofs.lemmas.Bool.Decides.{nat_tests}
use Rattle.std.proofs.lemmas.List.Sums.{sum_by-cons}
use Rattle.chares.specs.declared.trace_entry.TraceEntry.{TraceEntry}
use Rattle.chares.specs.declared.trace_entry.TraceEntry.TheVariants as Trace
use Rattle.chares.specs.Letters.{LetterView}
use Rattle.rts_core.specs.Accounts.{times, is_number, says_number, posts}
use Rattle.rts_core.specs.Worlds.{WorldView}
use Rattle.rts_core.proofs.WorldSteps.{get_set_other}
use Rattle.rts_core.proofs.RunLaws.{posts_join}
use Rattle.event_laws.proofs.Moves.{waits_at, in_room, post_of}
use Rattle.event_laws.proofs.Sites.{Site, LetterWeight, no_letters, no_elements, world_at, world_zeros, letter_in, look_site}
use Rattle.event_laws.proofs.Sites.Site.{Fresh, Bound, Chasing, Waiting}
use Rattle.event_laws.proofs.Lags.{strays, Right, IsClose, right_is, right_of, stays_right, leaves_right, since_more, posted_more, hops_same}
use Rattle.event_laws.proofs.LetterTraces.{forwards, departures, was_posted, departed_since, forwards_join, posted_join, number_posted, posted_here, posted_later, forwarded_alone}

-- What holds of the letters of each world of a run, with its trace: each lags as it should; while one waits on a PE, its
-- element is not in the room there; and of all letters, also those that were executed, none was forwarded more often
-- than its element has departed since its post, nor was any forwarded that was not posted.
pub record AreChasing {C A : Type 0} (w : WorldView C A) (trace : List TraceEntry) : Type 0 where
  pub lag : world_at (strays w.words trace) no_elements w ≡ 0
  pub away : (p e : ℕ) → 1 ≤ world_at (waits_at p e) no_elements w → world_at no_letters (in_room p e) w ≡ 0
  pub hops : (id : ℕ × ℕ) (e : ℕ) → was_posted id e trace ≡ true → forwards id trace ≤ departed_since id e trace
  pub unposted : (id : ℕ × ℕ) → times (says_number id) (posts trace) ≡ 0 → forwards id trace ≡ 0

-- 1 at the letters with a number
abbrev pub of_number : ℕ × ℕ → LetterWeight
of_number id s x to = if is_number id x then 1 else 0

-- ---- the letters that stay

module _ {C A : Type 0} (stays : WorldView C A) (words words' : List ℕ) (trace rs : List TraceEntry) where
  -- none is forwarded
  pub stay_calm : ((id : ℕ × ℕ) → forwards id rs ≡ 0) → words' ≡ words → world_at (strays words trace) no_elements stays ≡ 0
      → world_at (strays words' (trace ++ rs)) no_elements stays ≡ 0
  stay_calm none same h =
      world_zeros (strays words trace) no_elements (strays words trace) no_elements (strays words' (trace ++ rs)) no_elements
      (λ s id to a b. stays_right words words' trace rs s id to (none id) (ap (λ (v : List ℕ). slice_get v to) same) a) (λ s e a b. refl) stays h h

  -- another is forwarded
  pub stay_forwarded : (id : ℕ × ℕ) → rs ≡ Trace.Forwarded id ∷ [] → words' ≡ words → world_at (of_number id) no_elements stays ≡ 0
      → world_at (strays words trace) no_elements stays ≡ 0 → world_at (strays words' (trace ++ rs)) no_elements stays ≡ 0
  stay_forwarded id is same other h =
      world_zeros (strays words trace) no_elements (of_number id) no_elements (strays words' (trace ++ rs)) no_elements
      (λ s x to a b. stays_right words words' trace rs s x to (ap (forwards x) is ∙ not_this x b) (ap (λ (v : List ℕ). slice_get v to) same) a) (λ s e a b. refl) stays h other
    where
      differs : (x : ℕ × ℕ) → of_number id Fresh x 0 ≡ 0 → ◌≡◌ {A = ℕ} (if is_number x id then 1 else 0) 0
      differs x b = grind (arith, nat_tests)

      not_this : (x : ℕ × ℕ) → of_number id Fresh x 0 ≡ 0 → forwards x (Trace.Forwarded id ∷ []) ≡ 0
      not_this x b =
          let c = forwarded_alone x id in
          let d = differs x b in
          omega (arith, c, d)

departs_none : (id : ℕ × ℕ) (e : ℕ) → forwards id (Trace.Departed e ∷ []) ≡ 0
departs_none id e = refl

departs_once : (e : ℕ) → departures e (Trace.Departed e ∷ []) ≡ 1
departs_once e = grind (arith, nat_tests)

module _ {C A : Type 0} (stays : WorldView C A) (words : List ℕ) (trace : List TraceEntry) (p e q : ℕ) (word : slice_get words e ≡ Some p) where
  -- element e departs from PE p to PE q
  pub stay_left : world_at (waits_at p e) no_elements stays ≡ 0 → world_at (strays words trace) no_elements stays ≡ 0
      → world_at (strays (slice_set words e q) (trace ++ Trace.Departed e ∷ [])) no_elements stays ≡ 0
  stay_left none h =
      world_zeros (strays words trace) no_elements (waits_at p e) no_elements (strays (slice_set words e q) (trace ++ Trace.Departed e ∷ [])) no_elements
      (λ s id to a b. by s id to (nat_eq to e) refl a b) (λ s i a b. refl) stays h none
    where
      by : (s : Site) (id : ℕ × ℕ) (to : ℕ) (b : Bool) → nat_eq to e ≡ b → strays words trace s id to ≡ 0 → waits_at p e s id to ≡ 0
          → strays (slice_set words e q) (trace ++ Trace.Departed e ∷ []) s id to ≡ 0
      by s id to true t a b =
          let same : e ≡ to = grind (arith, nat_tests) in
          leaves_right words (slice_set words e q) trace (Trace.Departed e ∷ []) s id to p (departs_none id e)
          (subst (λ (v : ℕ). departures v (Trace.Departed e ∷ []) ≡ 1) same (departs_once e))
          (subst (λ (v : ℕ). slice_get words v ≡ Some p) same word)
          (subst (λ (v : ℕ). waits_at p v s id to ≡ 0) same b) a
      by s id to false t a b =
          let ne : to ≢ e = grind (arith, nat_tests) in
          stays_right words (slice_set words e q) trace (Trace.Departed e ∷ []) s id to (departs_none id e) (get_set_other words e to q ne) a

-- ---- the letters that move

module _ (words : List ℕ) (trace : List TraceEntry) where
  -- a look in a hand
  pub looks_right : (p q : ℕ) (l : LetterView) → slice_get words l.to ≡ Some q → letter_in (strays words trace) no_elements (Bound p) l ≡ 0
      → letter_in (strays words trace) no_elements (look_site p (Some q)) l ≡ 0
  looks_right p q l word h = by (q == p) refl
    where
      r : Right words trace (Bound p) l.id l.to
      r = right_is words trace (Bound p) l.id l.to h

      chase : (q == p) ≡ false → IsClose (forwards l.id trace) (departed_since l.id l.to trace) (slice_get words l.to) (Bound p)
          → forwards l.id trace + 1 ≤ departed_since l.id l.to trace
      chase t (inl x) = x
      chase t (inr x) = let same : p ≡ q = cc in absurd (differ same t)
        where
          differ : p ≡ q → (q == p) ≡ false → ⊥
          differ same t = grind (arith, nat_tests)

      by : (b : Bool) → (q == p) ≡ b → letter_in (strays words trace) no_elements (if b then Waiting p else Chasing q) l ≡ 0
      by true t =
          let same : q ≡ p = grind (arith, nat_tests) in
          right_of words trace (Waiting p) l.id l.to (r.0, r.1, subst (λ (v : ℕ). slice_get words l.to ≡ Some v) same word)
      by false t = right_of words trace (Chasing q) l.id l.to (r.0, r.1, (chase t r.2, inr word))

  -- an address in an outbox
  pub addressed_right : (q : ℕ) (l : LetterView) → slice_get words l.to ≡ Some q → letter_in (strays words trace) no_elements Fresh l ≡ 0
      → letter_in (strays words trace) no_elements (Bound q) l ≡ 0
  addressed_right q l word h =
      let r = right_is words trace Fresh l.id l.to h in
      right_of words trace (Bound q) l.id l.to (r.0, r.1, inr word)

  -- a letter that leaves the shelf
  pub unshelved_right : (p : ℕ) (l : LetterView) → letter_in (strays words trace) no_elements (Waiting p) l ≡ 0 → letter_in (strays words trace) no_elements (Bound p) l ≡ 0
  unshelved_right p l h =
      let r = right_is words trace (Waiting p) l.id l.to h in
      right_of words trace (Bound p) l.id l.to (r.0, r.1, inr r.2)

  -- a letter that is forwarded
  pub forwarded_once : (id : ℕ × ℕ) → forwards id (Trace.Forwarded id ∷ []) ≡ 1
  forwarded_once id = grind (arith, nat_tests)

  pub forwarded_right : (q : ℕ) (l : LetterView) → letter_in (strays words trace) no_elements (Chasing q) l ≡ 0
      → letter_in (strays words (trace ++ Trace.Forwarded l.id ∷ [])) no_elements (Bound q) l ≡ 0
  forwarded_right q l h =
      let r = right_is words trace (Chasing q) l.id l.to h in
      let rs : List TraceEntry = Trace.Forwarded l.id ∷ [] in
      let more = since_more l.id l.to trace rs in
      let one = forwarded_once l.id in
      let a = forwards_join l.id trace rs in
      let hops : forwards l.id (trace ++ rs) ≡ forwards l.id trace + 1 = omega (arith, a, one) in
      let close = r.2.0 in
      right_of words (trace ++ rs) (Bound q) l.id l.to (
        posted_more l.id l.to trace rs r.0,
        omega (arith, hops, close, more),
        subst (λ (v : ℕ). IsClose v (departed_since l.id l.to (trace ++ rs)) (slice_get words l.to) (Bound q)) (sym hops) (spare r.2.1 more),
      )
    where
      spare : (forwards l.id trace + 2 ≤ departed_since l.id l.to trace) ⊎ (slice_get words l.to ≡ Some q)
          → departed_since l.id l.to trace ≤ departed_since l.id l.to (trace ++ Trace.Forwarded l.id ∷ [])
          → (forwards l.id trace + 1 + 1 ≤ departed_since l.id l.to (trace ++ Trace.Forwarded l.id ∷ [])) ⊎ (slice_get words l.to ≡ Some q)
      spare (inl x) more = inl (omega (arith, x, more))
      spare (inr x) more = inr x

  -- a letter that is posted
  module _ (rs : List TraceEntry) (one : (id : ℕ × ℕ) → times (says_number id) (posts (trace ++ rs)) ≤ 1)
      (unposted : (id : ℕ × ℕ) → times (says_number id) (posts trace) ≡ 0 → forwards id trace ≡ 0)
      (none : (id : ℕ × ℕ) → forwards id rs ≡ 0) where
    -- was never forwarded
    pub new_hops : (id : ℕ × ℕ) (e : ℕ) → was_posted id e rs ≡ true → forwards id (trace ++ rs) ≡ 0
    new_hops id e h =
        let a = number_posted id e rs h in
        let b = posts_join (λ x. if says_number id x then 1 else 0) trace rs in
        let c = one id in
        let before : times (says_number id) (posts trace) ≡ 0 = omega (arith, a, b, c) in
        hops_same id trace rs (none id) ∙ unposted id before

    posted_right : (id : ℕ × ℕ) (e : ℕ) → was_posted id e rs ≡ true → was_posted id e (trace ++ rs) ≡ true
    posted_right id e h = posted_join id e trace rs ∙ by (was_posted id e trace)
      where
        by : (b : Bool) → (b || was_posted id e rs) ≡ true
        by true = refl
        by false = h

    fresh_right : (id : ℕ × ℕ) (e : ℕ) → was_posted id e rs ≡ true → strays words (trace ++ rs) Fresh id e ≡ 0
    fresh_right id e h =
        let z = new_hops id e h in
        right_of words (trace ++ rs) Fresh id e (posted_right id e h, omega (arith, z), tt)

    pub all_fresh : (ls : List LetterView) → ((id : ℕ × ℕ) (e : ℕ) → was_posted id e (map post_of ls) ≡ true → was_posted id e rs ≡ true)
        → sum_by (letter_in (strays words (trace ++ rs)) no_elements Fresh) ls ≡ 0
    all_fresh [] h = refl
    all_fresh (l ∷ ls) h =
        let a : letter_in (strays words (trace ++ rs)) no_elements Fresh l ≡ 0 = fresh_right l.id l.to (h l.id l.to (posted_here l.id l.to (map post_of ls))) in
        let b = all_fresh ls (λ id e k. h id e (posted_later id e (post_of l) (map post_of ls) k)) in
        let c : sum_by (letter_in (strays words (trace ++ rs)) no_elements Fresh) (l ∷ ls) ≡ letter_in (strays words (trace ++ rs))
        no_elements Fresh l + sum_by (letter_in (strays words (trace ++ rs)) no_elements Fresh) ls = sum_by-cons
        (letter_in (strays words (trace ++ rs)) no_elements Fresh) l ls in
        omega (arith, a, b, c)

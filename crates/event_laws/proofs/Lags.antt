-- How far a letter lags behind its element. Where it is bound for a PE which the location word does not name, its
-- element has departed once more than it was forwarded; where a look has given it another PE it has one departure to
-- spare already.
use Rattle.std.proofs.Common.{◌≡◌, ℕ, ◌+◌, ◌≤◌, List, ◌++◌, Option, Some, Bool, true, false, arith, refl, sym, ◌∙◌, ap, subst, inl, inr}
use Rattle.std.specs.Prelude.{⊤, ◌⊎◌, slice_get, nat_lt, nat_le, ◌&&◌, ◌||◌, if◌then◌else◌}
use Rattle.std.proofs.lemmas.Bool.Decides.{nat_tests}
use Rattle.std.proofs.lemmas.Bool.{and_parts}
use Rattle.chares.specs.declared.trace_entry.TraceEntry.{TraceEntry}
use Rattle.event_laws.proofs.Moves.{waits_at}
use Rattle.event_laws.proofs.LocationWords.{is_pe, word_is, is_word_of, right_zero, zero_right}
use Rattle.event_laws.proofs.Sites.{Site, LetterWeight}
use Rattle.event_laws.proofs.Sites.Site.{Fresh, Bound, Chasing, Waiting, Room}
use Rattle.event_laws.proofs.LetterTraces.{forwards, departures, was_posted, departed_since, forwards_join, posted_join, since_join}

-- of a letter that was forwarded `hops` times, and whose element has departed `gone` times since its post and has this
-- location word
abbrev pub is_close : ℕ → ℕ → Option ℕ → Site → Bool
is_close hops gone word (Bound a) = nat_lt hops gone || is_pe a word
is_close hops gone word (Chasing q) = nat_lt hops gone && (nat_lt (hops + 1) gone || is_pe q word)
is_close hops gone word (Waiting p) = is_pe p word
is_close hops gone word s = true

abbrev pub IsClose : ℕ → ℕ → Option ℕ → Site → Type 0
IsClose hops gone word (Bound a) = (hops + 1 ≤ gone) ⊎ (word ≡ Some a)
IsClose hops gone word (Chasing q) = (hops + 1 ≤ gone) × ((hops + 2 ≤ gone) ⊎ (word ≡ Some q))
IsClose hops gone word (Waiting p) = word ≡ Some p
IsClose hops gone word s = ⊤

abbrev pub IsRight : Bool → ℕ → ℕ → Option ℕ → Site → Type 0
IsRight posted hops gone word s = (posted ≡ true) × (hops ≤ gone) × IsClose hops gone word s

-- 1 at a letter of which that is not so
abbrev pub strays : List ℕ → List TraceEntry → LetterWeight
strays words trace s id to =
    if was_posted id to trace && (nat_le (forwards id trace) (departed_since id to trace) && is_close (forwards id trace)
    (departed_since id to trace) (slice_get words to) s) then 0 else 1

or_is : (a b : Bool) → (a || b) ≡ true → (a ≡ true) ⊎ (b ≡ true)
or_is true b h = inl refl
or_is false b h = inr h

or_left : (a b : Bool) → a ≡ true → (a || b) ≡ true
or_left a b h = ap (λ (v : Bool). v || b) h

or_right : (a b : Bool) → b ≡ true → (a || b) ≡ true
or_right true b h = refl
or_right false b h = h

and_of : (a b : Bool) → a ≡ true → b ≡ true → (a && b) ≡ true
and_of a b h k = ap (λ (v : Bool). v && b) h ∙ k

lt_is : (a b : ℕ) → nat_lt a b ≡ true → a + 1 ≤ b
lt_is a b h = grind (arith, nat_tests)

lt_of : (a b : ℕ) → a + 1 ≤ b → nat_lt a b ≡ true
lt_of a b h = grind (arith, nat_tests)

le_is : (a b : ℕ) → nat_le a b ≡ true → a ≤ b
le_is a b h = grind (arith, nat_tests)

le_of : (a b : ℕ) → a ≤ b → nat_le a b ≡ true
le_of a b h = grind (arith, nat_tests)

close_is : (hops gone : ℕ) (word : Option ℕ) (s : Site) → is_close hops gone word s ≡ true → IsClose hops gone word s
close_is hops gone word Fresh h = tt
close_is hops gone word (Bound a) h = by (or_is (nat_lt hops gone) (is_pe a word) h)
  where
    by : (nat_lt hops gone ≡ true) ⊎ (is_pe a word ≡ true) → (hops + 1 ≤ gone) ⊎ (word ≡ Some a)
    by (inl x) = inl (lt_is hops gone x)
    by (inr x) = inr (word_is word a x)
close_is hops gone word (Chasing q) h =
    let b = and_parts (nat_lt hops gone) (nat_lt (hops + 1) gone || is_pe q word) h in
    (lt_is hops gone b.0, by (or_is (nat_lt (hops + 1) gone) (is_pe q word) b.1))
  where
    by : (nat_lt (hops + 1) gone ≡ true) ⊎ (is_pe q word ≡ true) → (hops + 2 ≤ gone) ⊎ (word ≡ Some q)
    by (inl x) = let a = lt_is (hops + 1) gone x in inl (omega (arith, a))
    by (inr x) = inr (word_is word q x)
close_is hops gone word (Waiting p) h = word_is word p h
close_is hops gone word (Room p key) h = tt

close_of : (hops gone : ℕ) (word : Option ℕ) (s : Site) → IsClose hops gone word s → is_close hops gone word s ≡ true
close_of hops gone word Fresh h = refl
close_of hops gone word (Bound a) (inl x) = or_left (nat_lt hops gone) (is_pe a word) (lt_of hops gone x)
close_of hops gone word (Bound a) (inr x) = or_right (nat_lt hops gone) (is_pe a word) (is_word_of word a x)
close_of hops gone word (Chasing q) (x, inl y) = and_of (nat_lt hops gone) (nat_lt (hops + 1) gone || is_pe q word) (lt_of hops gone x)
    (or_left (nat_lt (hops + 1) gone) (is_pe q word) (lt_of (hops + 1) gone (omega (arith, y))))
close_of hops gone word (Chasing q) (x, inr y) = and_of (nat_lt hops gone) (nat_lt (hops + 1) gone || is_pe q word) (lt_of hops gone x)
    (or_right (nat_lt (hops + 1) gone) (is_pe q word) (is_word_of word q y))
close_of hops gone word (Waiting p) h = is_word_of word p h
close_of hops gone word (Room p key) h = refl

module _ (words : List ℕ) (trace : List TraceEntry) (s : Site) (id : ℕ × ℕ) (to : ℕ) where
  abbrev pub Right : Type 0
  Right = IsRight (was_posted id to trace) (forwards id trace) (departed_since id to trace) (slice_get words to) s

  pub right_is : strays words trace s id to ≡ 0 → Right
  right_is h =
      let hops : ℕ = forwards id trace in
      let gone : ℕ = departed_since id to trace in
      let a = and_parts (was_posted id to trace) (nat_le hops gone && is_close hops gone (slice_get words to) s)
      (right_zero (was_posted id to trace && (nat_le hops gone && is_close hops gone (slice_get words to) s)) h) in
      let b = and_parts (nat_le hops gone) (is_close hops gone (slice_get words to) s) a.1 in
      (a.0, le_is hops gone b.0, close_is hops gone (slice_get words to) s b.1)

  pub right_of : Right → strays words trace s id to ≡ 0
  right_of (x, y, z) =
      let hops : ℕ = forwards id trace in
      let gone : ℕ = departed_since id to trace in
      zero_right (was_posted id to trace && (nat_le hops gone && is_close hops gone (slice_get words to) s))
      (and_of (was_posted id to trace) (nat_le hops gone && is_close hops gone (slice_get words to) s) x
      (and_of (nat_le hops gone) (is_close hops gone (slice_get words to) s) (le_of hops gone y) (close_of hops gone (slice_get words to) s z)))

-- with more departures it is closer
closer : (hops gone more : ℕ) (word : Option ℕ) (s : Site) → gone ≤ more → IsClose hops gone word s → IsClose hops more word s
closer hops gone more word Fresh le h = tt
closer hops gone more word (Bound a) le (inl x) = inl (omega (arith, le, x))
closer hops gone more word (Bound a) le (inr x) = inr x
closer hops gone more word (Chasing q) le (x, inl y) = (omega (arith, le, x), inl (omega (arith, le, y)))
closer hops gone more word (Chasing q) le (x, inr y) = (omega (arith, le, x), inr y)
closer hops gone more word (Waiting p) le h = h
closer hops gone more word (Room p key) le h = tt

-- ---- after more trace entries

pub since_more : (id : ℕ × ℕ) (e : ℕ) (trace rs : List TraceEntry) → departed_since id e trace ≤ departed_since id e (trace ++ rs)
since_more id e trace rs = let a = since_join id e trace rs in omega (arith, a)

pub posted_more : (id : ℕ × ℕ) (e : ℕ) (trace rs : List TraceEntry) → was_posted id e trace ≡ true → was_posted id e (trace ++ rs) ≡ true
posted_more id e trace rs h = posted_join id e trace rs ∙ or_left (was_posted id e trace) (was_posted id e rs) h

pub hops_same : (id : ℕ × ℕ) (trace rs : List TraceEntry) → forwards id rs ≡ 0 → forwards id (trace ++ rs) ≡ forwards id trace
hops_same id trace rs h = let a = forwards_join id trace rs in omega (arith, a, h)

module _ (words words' : List ℕ) (trace rs : List TraceEntry) (s : Site) (id : ℕ × ℕ) (to : ℕ) where
  -- a letter that is not forwarded, and whose location word does not change
  pub stays_right : forwards id rs ≡ 0 → slice_get words' to ≡ slice_get words to → strays words trace s id to ≡ 0 → strays words' (trace ++ rs) s id to ≡ 0
  stays_right none same h =
      let r = right_is words trace s id to h in
      let more = since_more id to trace rs in
      let hops = hops_same id trace rs none in
      let fewer = r.1 in
      right_of words' (trace ++ rs) s id to (
        posted_more id to trace rs r.0,
        omega (arith, more, hops, fewer),
        subst (λ (v : ℕ). IsClose v (departed_since id to (trace ++ rs)) (slice_get words' to) s) (sym hops)
            (subst (λ (v : Option ℕ). IsClose (forwards id trace) (departed_since id to (trace ++ rs)) v s) (sym same)
            (closer (forwards id trace) (departed_since id to trace) (departed_since id to (trace ++ rs)) (slice_get words to) s more r.2)),
      )

  -- one whose element departs from PE p
  pub leaves_right : (p : ℕ) → forwards id rs ≡ 0 → departures to rs ≡ 1 → slice_get words to ≡ Some p → waits_at p to s id to ≡ 0
      → strays words trace s id to ≡ 0 → strays words' (trace ++ rs) s id to ≡ 0
  leaves_right p none one word away h =
      let r = right_is words trace s id to h in
      let fewer = r.1 in
      let hops = hops_same id trace rs none in
      let j = since_join id to trace rs in
      let k : (if was_posted id to trace then departures to rs else departed_since id to rs) ≡ departures to rs = ap
      (λ (v : Bool). if v then departures to rs else departed_since id to rs) r.0 in
      let gone : departed_since id to (trace ++ rs) ≡ departed_since id to trace + 1 = omega (arith, j, k, one) in
      right_of words' (trace ++ rs) s id to (
        posted_more id to trace rs r.0,
        omega (arith, gone, hops, fewer),
        subst (λ (v : ℕ). IsClose v (departed_since id to (trace ++ rs)) (slice_get words' to) s) (sym hops)
            (subst (λ (v : ℕ). IsClose (forwards id trace) v (slice_get words' to) s) (sym gone)
            (by s away r.1 r.2)),
      )
    where
      here : (r : ℕ) → slice_get words to ≡ Some p → slice_get words to ≡ Some r → waits_at p to (Waiting r) id to ≡ 0 → ⊥
      here r a b z =
          let same : r ≡ p = cc in
          let y : waits_at p to (Waiting r) id to ≡ 1 = grind (arith, nat_tests) in
          omega (arith, y, z)

      by : (t : Site) → waits_at p to t id to ≡ 0 → forwards id trace ≤ departed_since id to trace
          → IsClose (forwards id trace) (departed_since id to trace) (slice_get words to) t
          → IsClose (forwards id trace) (departed_since id to trace + 1) (slice_get words' to) t
      by Fresh z le c = tt
      by (Bound a) z le c = inl (omega (arith, le))
      by (Chasing q) z le c = let x = c.0 in (omega (arith, x), inl (omega (arith, x)))
      by (Waiting q) z le c = absurd (here q word c z)
      by (Room q key) z le c = tt

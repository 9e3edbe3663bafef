-- What a trace says of a letter and its element: how often the letter was forwarded, whether it was posted to this
-- element, and how often that has departed since.
use Rattle.std.proofs.Common.{◌≡◌, ◌≢◌, ℕ, ◌+◌, ◌≤◌, List, [], ◌∷◌, ◌++◌, map, Bool, true, false, sum_by, arith, refl, sym, ◌∙◌, ap, subst}
use Rattle.std.specs.Prelude.{◌==◌, ◌&&◌, ◌||◌, if◌then◌else◌}
use Rattle.std.proofs.lemmas.Bool.Decides.{nat_tests}
use Rattle.std.proofs.lemmas.List.Sums.{sum_by-cons}
use Rattle.chares.specs.declared.trace_entry.TraceEntry.{TraceEntry}
use Rattle.chares.specs.declared.trace_entry.TraceEntry.TheVariants as Trace
use Rattle.chares.specs.Letters.{LetterView}
use Rattle.rts_core.specs.Accounts.{Said, times, is_number, says_number, says_both, posts}
use Rattle.event_laws.proofs.BothWeights.{both_by}
use Rattle.event_laws.proofs.Moves.{IsQuiet, AreQuiet, post_of}
use Rattle.event_laws.specs.Chase.{is_forwarded, is_departed}
use Rattle.event_laws.proofs.Tallies.{times-append, times-cons}

abbrev pub forwards : ℕ × ℕ → List TraceEntry → ℕ
forwards id trace = times (is_forwarded id) trace

abbrev pub departures : ℕ → List TraceEntry → ℕ
departures e trace = times (is_departed e) trace

abbrev pub posts_it : ℕ × ℕ → ℕ → TraceEntry → Bool
posts_it id e (Trace.Posted x to) = is_number id x && (to == e)
posts_it id e r = false

-- whether the letter was posted to this element
abbrev pub was_posted : ℕ × ℕ → ℕ → List TraceEntry → Bool
was_posted id e [] = false
was_posted id e (r ∷ rs) = posts_it id e r || was_posted id e rs

-- how often the element has departed since then
abbrev pub departed_since : ℕ × ℕ → ℕ → List TraceEntry → ℕ
departed_since id e [] = 0
departed_since id e (r ∷ rs) = if posts_it id e r then departures e rs else departed_since id e rs

-- ---- one trace after another

pub forwards_join : (id : ℕ × ℕ) (xs ys : List TraceEntry) → forwards id (xs ++ ys) ≡ forwards id xs + forwards id ys
forwards_join id xs ys = times-append (is_forwarded id) xs ys

pub departures_join : (e : ℕ) (xs ys : List TraceEntry) → departures e (xs ++ ys) ≡ departures e xs + departures e ys
departures_join e xs ys = times-append (is_departed e) xs ys

or_or : (a b c : Bool) → (a || (b || c)) ≡ ((a || b) || c)
or_or true b c = refl
or_or false b c = refl

pub posted_join : (id : ℕ × ℕ) (e : ℕ) (xs ys : List TraceEntry) → was_posted id e (xs ++ ys) ≡ (was_posted id e xs || was_posted id e ys)
posted_join id e [] ys = refl
posted_join id e (r ∷ rs) ys = ap (λ (v : Bool). posts_it id e r || v) (posted_join id e rs ys) ∙ or_or (posts_it id e r) (was_posted id e rs) (was_posted id e ys)

pub since_join : (id : ℕ × ℕ) (e : ℕ) (xs ys : List TraceEntry)
    → departed_since id e (xs ++ ys) ≡ departed_since id e xs + (if was_posted id e xs then departures e ys else departed_since id e ys)
since_join id e [] ys = omega arith
since_join id e (r ∷ rs) ys = by (posts_it id e r) (since_join id e rs ys) (departures_join e rs ys)
  where
    by : (b : Bool) → departed_since id e (rs ++ ys) ≡ departed_since id e
        rs + (if was_posted id e rs then departures e ys else departed_since id e ys) → departures e (rs ++ ys) ≡ departures e rs + departures e ys
        → (if b then departures e (rs ++ ys) else departed_since id e (rs ++ ys)) ≡ (if b then departures e rs else departed_since id e
        rs) + (if b || was_posted id e rs then departures e ys else departed_since id e ys)
    by true ih d = d
    by false ih d = ih

-- what was not posted has seen no departure
pub since_none : (id : ℕ × ℕ) (e : ℕ) (xs : List TraceEntry) → was_posted id e xs ≡ false → departed_since id e xs ≡ 0
since_none id e [] h = refl
since_none id e (r ∷ rs) h = by (posts_it id e r) h (since_none id e rs)
  where
    by : (b : Bool) → (b || was_posted id e rs) ≡ false → (was_posted id e rs ≡ false → departed_since id e rs ≡ 0) → (if b then departures e rs else departed_since id e rs) ≡ 0
    by true h ih = cc
    by false h ih = ih h

-- ---- posts

-- a letter that was posted to an element is among the posts
said_both : (id : ℕ × ℕ) (e : ℕ) (x : ℕ × ℕ) (to : ℕ) (xs : List Said)
    → times (says_both id e) ((x, to) ∷ xs) ≡ (if is_number id x && (to == e) then 1 else 0) + times (says_both id e) xs
said_both id e x to xs = times-cons (says_both id e) (x, to) xs

pub posted_counts : (id : ℕ × ℕ) (e : ℕ) (xs : List TraceEntry) → was_posted id e xs ≡ true → 1 ≤ times (says_both id e) (posts xs)
posted_counts id e [] h = cc
posted_counts id e (Trace.Posted x to ∷ rs) h = by (is_number id x && (to == e)) refl h (posted_counts id e rs)
  where
    by : (b : Bool) → (is_number id x && (to == e)) ≡ b → (b || was_posted id e rs) ≡ true
        → (was_posted id e rs ≡ true → 1 ≤ times (says_both id e) (posts rs)) → 1 ≤ times (says_both id e) (posts (Trace.Posted x to ∷ rs))
    by b is h ih =
        let c : times (says_both id e) ((x, to) ∷ posts rs) ≡ (if b then 1 else 0) + times (says_both id e) (posts rs) = said_both id e x to
        (posts rs) ∙ ap (λ (v : Bool). (if v then 1 else 0) + times (says_both id e) (posts rs)) is in
        subst (λ (v : ℕ). 1 ≤ v) (sym c) (there b h ih)
      where
        there : (c : Bool) → (c || was_posted id e rs) ≡ true → (was_posted id e rs ≡ true → 1 ≤ times (says_both id e) (posts rs))
            → 1 ≤ (if c then 1 else 0) + times (says_both id e) (posts rs)
        there true h ih = omega arith
        there false h ih = let a = ih h in omega (arith, a)
posted_counts id e (Trace.Executed x to ∷ rs) h = posted_counts id e rs h
posted_counts id e (Trace.Resumed x r ∷ rs) h = posted_counts id e rs h
posted_counts id e (Trace.Shelved x ∷ rs) h = posted_counts id e rs h
posted_counts id e (Trace.Forwarded x ∷ rs) h = posted_counts id e rs h
posted_counts id e (Trace.Installed x ∷ rs) h = posted_counts id e rs h
posted_counts id e (Trace.Synced x r ∷ rs) h = posted_counts id e rs h
posted_counts id e (Trace.Decided r ∷ rs) h = posted_counts id e rs h
posted_counts id e (Trace.Departed x ∷ rs) h = posted_counts id e rs h

one_said : (id : ℕ × ℕ) (e : ℕ) (x : Said) → (if says_both id e x then 1 else 0) + 0 ≤ (if says_number id x then 1 else 0)
one_said id e x = grind (arith, nat_tests)

two_said : (id : ℕ × ℕ) (e d : ℕ) → e ≢ d → (x : Said) → (if says_both id e x then 1 else 0) + (if says_both id d x then 1 else 0) ≤ (if says_number id x then 1 else 0)
two_said id e d ne x = grind (arith, nat_tests)

none_said : (xs : List Said) → sum_by (λ (x : Said). 0) xs ≡ 0
none_said [] = refl
none_said (x ∷ xs) = let a : sum_by (λ (y : Said). 0) (x ∷ xs) ≡ 0 + sum_by (λ (y : Said). 0) xs = sum_by-cons (λ (y : Said). 0) x xs in omega (arith, a, none_said xs)

pub number_posted : (id : ℕ × ℕ) (e : ℕ) (xs : List TraceEntry) → was_posted id e xs ≡ true → 1 ≤ times (says_number id) (posts xs)
number_posted id e xs h =
    let a = posted_counts id e xs h in
    let b = both_by (λ x. if says_both id e x then 1 else 0) (λ x. 0) (λ x. if says_number id x then 1 else 0) (posts xs) (one_said id e) in
    omega (arith, a, b)

-- a letter that was posted at most once was posted to one element
pub posted_to_one : (id : ℕ × ℕ) (e d : ℕ) (xs : List TraceEntry) → times (says_number id) (posts xs) ≤ 1 → was_posted id e xs ≡ true → was_posted id d xs ≡ true → e ≢ d → ⊥
posted_to_one id e d xs one h k ne =
    let a = posted_counts id e xs h in
    let b = posted_counts id d xs k in
    let c = both_by (λ x. if says_both id e x then 1 else 0) (λ x. if says_both id d x then 1 else 0) (λ x. if says_number id x then 1 else 0) (posts xs) (two_said id e d ne) in
    omega (arith, a, b, c, one)

-- ---- entries of one event

-- entries that are of no forwarding, of no departure, and of no departure after a post
pub record AreCalm (rs : List TraceEntry) : Type 0 where
  pub no_forward : (id : ℕ × ℕ) → forwards id rs ≡ 0
  pub no_departure : (e : ℕ) → departures e rs ≡ 0
  pub no_since : (id : ℕ × ℕ) (e : ℕ) → departed_since id e rs ≡ 0

pub calm_nil : AreCalm []
calm_nil = record { no_forward = λ id. refl; no_departure = λ e. refl; no_since = λ id e. refl }

calm_with : (r : TraceEntry) (rs : List TraceEntry) → ((id : ℕ × ℕ) → is_forwarded id r ≡ false) → ((e : ℕ) → is_departed e r ≡ false) → AreCalm rs → AreCalm (r ∷ rs)
calm_with r rs f d h =
    record {
      no_forward = λ id.
          let c : forwards id (r ∷ rs) ≡ (if is_forwarded id r then 1 else 0) + forwards id rs = times-cons (is_forwarded id) r rs in
          let z : ◌≡◌ {A = ℕ} (if is_forwarded id r then 1 else 0) 0 = ap (λ (v : Bool). if v then 1 else 0) (f id) in
          let k = h.no_forward id in
          omega (arith, c, z, k);
      no_departure = λ e.
          let c : departures e (r ∷ rs) ≡ (if is_departed e r then 1 else 0) + departures e rs = times-cons (is_departed e) r rs in
          let z : ◌≡◌ {A = ℕ} (if is_departed e r then 1 else 0) 0 = ap (λ (v : Bool). if v then 1 else 0) (d e) in
          let k = h.no_departure e in
          omega (arith, c, z, k);
      no_since = λ id e. by (posts_it id e r) (h.no_departure e) (h.no_since id e);
    }
  where
    by : {x y : ℕ} (b : Bool) → x ≡ 0 → y ≡ 0 → (if b then x else y) ≡ 0
    by true h k = h
    by false h k = k

pub calm_quiet : (r : TraceEntry) (rs : List TraceEntry) → IsQuiet r → AreCalm rs → AreCalm (r ∷ rs)
calm_quiet (Trace.Posted x to) rs q h = absurd q
calm_quiet (Trace.Executed x to) rs q h = calm_with (Trace.Executed x to) rs (λ id. refl) (λ e. refl) h
calm_quiet (Trace.Resumed x r) rs q h = calm_with (Trace.Resumed x r) rs (λ id. refl) (λ e. refl) h
calm_quiet (Trace.Shelved x) rs q h = calm_with (Trace.Shelved x) rs (λ id. refl) (λ e. refl) h
calm_quiet (Trace.Forwarded x) rs q h = absurd q
calm_quiet (Trace.Installed x) rs q h = calm_with (Trace.Installed x) rs (λ id. refl) (λ e. refl) h
calm_quiet (Trace.Synced x r) rs q h = calm_with (Trace.Synced x r) rs (λ id. refl) (λ e. refl) h
calm_quiet (Trace.Decided r) rs q h = calm_with (Trace.Decided r) rs (λ id. refl) (λ e. refl) h
calm_quiet (Trace.Departed x) rs q h = absurd q

pub calm_all : (rs : List TraceEntry) → AreQuiet rs → AreCalm rs
calm_all [] q = calm_nil
calm_all (r ∷ rs) q = calm_quiet r rs q.0 (calm_all rs q.1)

pub calm_posts : (ls : List LetterView) → AreCalm (map post_of ls)
calm_posts [] = calm_nil
calm_posts (l ∷ ls) = calm_with (post_of l) (map post_of ls) (λ id. refl) (λ e. refl) (calm_posts ls)

-- what the entries of posts say
number_itself : (id : ℕ × ℕ) (e : ℕ) → (is_number id id && (e == e)) ≡ true
number_itself id e = grind (arith, nat_tests)

pub posted_here : (id : ℕ × ℕ) (e : ℕ) (rs : List TraceEntry) → was_posted id e (Trace.Posted id e ∷ rs) ≡ true
posted_here id e rs = ap (λ (v : Bool). v || was_posted id e rs) (number_itself id e)

pub since_here : (id : ℕ × ℕ) (e : ℕ) (rs : List TraceEntry) → departed_since id e (Trace.Posted id e ∷ rs) ≡ departures e rs
since_here id e rs = ap (λ (v : Bool). if v then departures e rs else departed_since id e rs) (number_itself id e)

pub posted_later : (id : ℕ × ℕ) (e : ℕ) (r : TraceEntry) (rs : List TraceEntry) → was_posted id e rs ≡ true → was_posted id e (r ∷ rs) ≡ true
posted_later id e r rs h = by (posts_it id e r)
  where
    by : (b : Bool) → (b || was_posted id e rs) ≡ true
    by true = refl
    by false = h

pub posted_first : (id : ℕ × ℕ) (e : ℕ) (r : TraceEntry) (rs : List TraceEntry) → IsQuiet r → was_posted id e (r ∷ rs) ≡ was_posted id e rs
posted_first id e (Trace.Posted x to) rs q = absurd q
posted_first id e (Trace.Executed x to) rs q = refl
posted_first id e (Trace.Resumed x r) rs q = refl
posted_first id e (Trace.Shelved x) rs q = refl
posted_first id e (Trace.Forwarded x) rs q = absurd q
posted_first id e (Trace.Installed x) rs q = refl
posted_first id e (Trace.Synced x r) rs q = refl
posted_first id e (Trace.Decided r) rs q = refl
posted_first id e (Trace.Departed x) rs q = absurd q

-- the trace entry of a forwarding
pub forwarded_alone : (id x : ℕ × ℕ) → forwards id (Trace.Forwarded x ∷ []) ≡ (if is_number id x then 1 else 0) + 0
forwarded_alone id x = times-cons (is_forwarded id) (Trace.Forwarded x) []

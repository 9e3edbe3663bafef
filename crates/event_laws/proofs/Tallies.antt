-- How often entries of a kind are in a trace, and what the trace before an entry is, where the trace is made longer.
use Rattle.std.proofs.Common.{◌≡◌, ℕ, zero, suc, ◌+◌, ◌<◌, ◌≤◌, ◌⊎◌, inl, inr, List, [], ◌∷◌, ◌++◌, length, get_or, Bool, true, false, arith, refl, ap, ◌∙◌}
use Rattle.std.specs.Prelude.{Contains, if◌then◌else◌}
use Rattle.std.proofs.lemmas.List.Sums.{sum_by-cons, sum_by-append}
use Rattle.chares.specs.declared.trace_entry.TraceEntry.{TraceEntry}
use Rattle.chares.specs.declared.trace_entry.TraceEntry.TheVariants.{Posted}
use Rattle.chares.specs.Posting.{posts_of}
use Rattle.rts_core.specs.Accounts.{times}

module _ {X : Type 0} (test : X → Bool) where
  abbrev pub one : X → ℕ
  one x = if test x then 1 else 0

  pub times-append : (xs ys : List X) → times test (xs ++ ys) ≡ times test xs + times test ys
  times-append xs ys = sum_by-append one xs ys

  pub times-cons : (x : X) (xs : List X) → times test (x ∷ xs) ≡ one x + times test xs
  times-cons x xs = sum_by-cons one x xs

  pub one_passes : (x : X) → test x ≡ true → one x ≡ 1
  one_passes x t = rw t refl

  pub one_fails : (x : X) → test x ≡ false → one x ≡ 0
  one_fails x t = rw t refl

  -- an entry that is there is counted
  pub times_there : (xs : List X) (x : X) → test x ≡ true → Contains xs x → 1 ≤ times test xs
  times_there xs x t (k, lt, is) = at xs k lt is
    where
      at : (ys : List X) (i : ℕ) → i < length ys → get_or ys i x ≡ x → 1 ≤ times test ys
      at [] i less is = absurd (omega arith)
      at (y ∷ ys) zero less is =
          let a : one y ≡ 1 = one_passes y (ap test is ∙ t) in
          let b = times-cons y ys in
          omega (arith, a, b)
      at (y ∷ ys) (suc i) less is =
          let a = at ys i (omega arith) is in
          let b = times-cons y ys in
          omega (arith, a, b)

-- no entry of a post is counted
pub times_posts : (test : TraceEntry → Bool) → ((id : ℕ × ℕ) (to : ℕ) → test (Posted id to) ≡ false) → (me k : ℕ) (sends : List (ℕ × List ℕ)) → times test (posts_of me k sends) ≡ 0
times_posts test none me k [] = refl
times_posts test none me k (send ∷ sends) =
    let a : one test (Posted (me, k) send.0) ≡ 0 = one_fails test (Posted (me, k) send.0) (none (me, k) send.0) in
    let b : times test (Posted (me, k) send.0 ∷ posts_of me (k + 1) sends) ≡ one test (Posted (me, k) send.0) + times test
    (posts_of me (k + 1) sends) = times-cons test (Posted (me, k) send.0) (posts_of me (k + 1) sends) in
    omega (arith, a, b, times_posts test none me (k + 1) sends)

module _ {X : Type 0} where
  -- what a member is, where there is but one
  pub only_member : (y x : X) → Contains (y ∷ []) x → y ≡ x
  only_member y x (zero, lt, is) = is
  only_member y x (suc k, lt, is) = absurd (omega (arith, lt))

  -- a member is the first, or is among the others
  pub member_cases : (y : X) (ys : List X) (x : X) → Contains (y ∷ ys) x → (y ≡ x) ⊎ Contains ys x
  member_cases y ys x (zero, lt, is) = inl is
  member_cases y ys x (suc k, lt, is) = inr (k, omega (arith, lt), is)

  pub no_member : (x : X) → Contains [] x → ⊥
  no_member x (k, lt, is) = omega (arith, lt)

  -- a member is where the list is split at it
  pub split_there : (before after : List X) (x : X) → Contains (before ++ x ∷ after) x
  split_there [] after x = (0, omega arith, refl)
  split_there (y ∷ before) after x = let k = split_there before after x in let lt = k.1 in (suc k.0, omega (arith, lt), k.2)

  -- where a longer list is split, either the first part of it was, or the split is in what was added
  pub record InFirst (xs before : List X) (x : X) : Type 0 where
    pub rest : List X
    pub is : xs ≡ before ++ x ∷ rest

  pub record InAdded (xs ys before after : List X) (x : X) : Type 0 where
    pub more : List X
    pub behind : before ≡ xs ++ more
    pub is : ys ≡ more ++ x ∷ after

  pub split_of : (xs ys before after : List X) (x : X) → xs ++ ys ≡ before ++ x ∷ after → InFirst xs before x ⊎ InAdded xs ys before after x
  split_of [] ys before after x h = inr (record { more = before; behind = refl; is = h })
  split_of (z ∷ xs) ys [] after x h = let e : z ≡ x = cc in inl (record { rest = xs; is = ap (λ v. v ∷ xs) e })
  split_of (z ∷ xs) ys (b ∷ before) after x h =
      let e : z ≡ b = cc in
      let t : xs ++ ys ≡ before ++ x ∷ after = cc in
      by e (split_of xs ys before after x t)
    where
      by : z ≡ b → InFirst xs before x ⊎ InAdded xs ys before after x → InFirst (z ∷ xs) (b ∷ before) x ⊎ InAdded (z ∷ xs) ys (b ∷ before) after x
      by e (inl f) = inl (record { rest = f.rest; is = rw e (ap (λ v. b ∷ v) f.is) })
      by e (inr a) = inr (record { more = a.more; behind = rw e (ap (λ v. b ∷ v) a.behind); is = a.is })

-- What an event keeps of how often each letter was forwarded, wherever the letter is.
use Rattle.std.proofs.Common.{◌≡◌, ◌≢◌, ℕ, ◌+◌, ◌≤◌, List, [], ◌∷◌, ◌++◌, map, Bool, true, false, arith, refl, sym, ◌∙◌, ap, subst, inl, inr}
use Rattle.std.specs.Prelude.{◌⊎◌, nat_eq, ◌==◌, ◌&&◌, ◌||◌, if◌then◌else◌}
use Rattle.std.proofs.lemmas.Bool.Decides.{nat_tests}
use Rattle.chares.specs.declared.trace_entry.TraceEntry.{TraceEntry}
use Rattle.chares.specs.declared.trace_entry.TraceEntry.TheVariants as Trace
use Rattle.chares.specs.Letters.{LetterView}
use Rattle.rts_core.specs.Accounts.{times, is_number, says_number, posts}
use Rattle.rts_core.specs.Worlds.{WorldView}
use Rattle.rts_core.proofs.RunLaws.{posts_join}
use Rattle.event_laws.proofs.Moves.{Move, Change, Facts, taken, post_of}
use Rattle.event_laws.proofs.Moves.Move.{Still, Runs, Looks, Addresses, Forwards, Installs, Departs}
use Rattle.event_laws.proofs.LocationWords.{misnamed}
use Rattle.event_laws.proofs.Sites.{LetterWeight, ElementWeight, no_letters, no_elements, world_at, letter_in}
use Rattle.event_laws.proofs.Sites.Site.{Chasing}
use Rattle.event_laws.proofs.Chasing.{AreChasing, of_number, new_hops, forwarded_once}
use Rattle.event_laws.proofs.Lags.{strays, right_is, since_more, hops_same}
use Rattle.event_laws.proofs.LetterSteps.{lag_after, away_after}
use Rattle.event_laws.proofs.LetterTraces.{forwards, was_posted, departed_since, forwards_join, posted_join, AreCalm, calm_nil, calm_quiet, calm_all, calm_posts, number_posted, posted_to_one, forwarded_alone}

-- what is forwarded: no letter, or one in a hand which a look gave another PE
abbrev pub Forwarding : List ℕ → List TraceEntry → List TraceEntry → Type 0
Forwarding words trace rs =
    ((id : ℕ × ℕ) → forwards id rs ≡ 0)
    ⊎ ((q : ℕ) × (l : LetterView) × (rs ≡ Trace.Forwarded l.id ∷ []) × (letter_in (strays words trace) no_elements (Chasing q) l ≡ 0))

module _ {C A : Type 0} (w stays : WorldView C A) (rs trace : List TraceEntry) (lag : world_at (strays w.words trace) no_elements w ≡ 0) where
  pub forwarding : (m : Move) → ((g : LetterWeight) (k : ElementWeight) → world_at g k w ≡ taken g k m + world_at g k stays) → Facts w stays rs m → Forwarding w.words trace rs
  forwarding Still t f = inl (calm_all rs f).no_forward
  forwarding (Runs ran new) t (first, quiet, is) =
      let calm : AreCalm rs = subst AreCalm (sym is) (calm_quiet first (map post_of new) quiet (calm_posts new)) in
      inl calm.no_forward
  forwarding (Looks r q l) t (is, word, none) = let calm : AreCalm rs = subst AreCalm (sym is) calm_nil in inl calm.no_forward
  forwarding (Addresses q l) t (is, word) = let calm : AreCalm rs = subst AreCalm (sym is) calm_nil in inl calm.no_forward
  forwarding (Forwards q l) t is = let a = t (strays w.words trace) no_elements in inr (q, l, is, omega (arith, a, lag))
  forwarding (Installs r e letters) t (is, none) = let calm : AreCalm rs = subst AreCalm (sym is) (calm_quiet (Trace.Installed e) [] tt calm_nil) in inl calm.no_forward
  forwarding (Departs r e i q) t is = inl (λ id. ap (forwards id) is)

number_is : (id x : ℕ × ℕ) → is_number id x ≡ true → (x.0 ≡ id.0) × (x.1 ≡ id.1)
number_is id x h = by (x.0 == id.0) refl (x.1 == id.1) refl h
  where
    by : (a : Bool) → (x.0 == id.0) ≡ a → (b : Bool) → (x.1 == id.1) ≡ b → (a && b) ≡ true → (x.0 ≡ id.0) × (x.1 ≡ id.1)
    by true s true t h = (let u : x.0 ≡ id.0 = grind (arith, nat_tests) in u, let v : x.1 ≡ id.1 = grind (arith, nat_tests) in v)
    by true s false t h = cc
    by false s b t h = cc

same_number : (id x : ℕ × ℕ) → is_number id x ≡ true → x ≡ id
same_number id x h =
    let n = number_is id x h in
    subst (λ (u : ℕ). x ≡ (u, id.1)) n.0 (subst (λ (v : ℕ). x ≡ (x.0, v)) n.1 refl)

or_false : (a b : Bool) → (a || b) ≡ true → a ≡ false → b ≡ true
or_false true b h k = cc
or_false false b h k = h

module _ (words : List ℕ) (trace rs : List TraceEntry)
    (one : (id : ℕ × ℕ) → times (says_number id) (posts (trace ++ rs)) ≤ 1)
    (hops : (id : ℕ × ℕ) (e : ℕ) → was_posted id e trace ≡ true → forwards id trace ≤ departed_since id e trace)
    (unposted : (id : ℕ × ℕ) → times (says_number id) (posts trace) ≡ 0 → forwards id trace ≡ 0) where
  one_before : (id : ℕ × ℕ) → times (says_number id) (posts trace) ≤ 1
  one_before id =
      let a = posts_join (λ x. if says_number id x then 1 else 0) trace rs in
      let b = one id in
      omega (arith, a, b)

  -- a letter of which no trace entry says anything
  hops_kept : (id : ℕ × ℕ) (e : ℕ) → forwards id rs ≡ 0 → was_posted id e trace ≡ true → forwards id (trace ++ rs) ≤ departed_since id e (trace ++ rs)
  hops_kept id e none p =
      let a = hops id e p in
      let b = since_more id e trace rs in
      let c = hops_same id trace rs none in
      omega (arith, a, b, c)

  pub hops_after : Forwarding words trace rs → (id : ℕ × ℕ) (e : ℕ) → was_posted id e (trace ++ rs) ≡ true → forwards id (trace ++ rs) ≤ departed_since id e (trace ++ rs)
  hops_after (inl none) id e p = by (was_posted id e trace) refl
    where
      by : (b : Bool) → was_posted id e trace ≡ b → forwards id (trace ++ rs) ≤ departed_since id e (trace ++ rs)
      by true t = hops_kept id e (none id) t
      by false t =
          let later : was_posted id e rs ≡ true = or_false (was_posted id e trace) (was_posted id e rs) (sym (posted_join id e trace rs) ∙ p) t in
          let a = new_hops words trace rs one unposted none id e later in
          omega (arith, a)
  hops_after (inr (q, l, is, right)) id e p = by (is_number id l.id) refl
    where
      before : was_posted id e trace ≡ true
      before = was (was_posted id e trace) refl
        where
          was : (b : Bool) → was_posted id e trace ≡ b → was_posted id e trace ≡ true
          was true t = t
          was false t =
              let later : was_posted id e rs ≡ true = or_false (was_posted id e trace) (was_posted id e rs) (sym (posted_join id e trace rs) ∙ p) t in
              let none : was_posted id e rs ≡ false = ap (was_posted id e) is in
              cc

      this : l.id ≡ id → (b : Bool) → nat_eq l.to e ≡ b → forwards id (trace ++ rs) ≤ departed_since id e (trace ++ rs)
      this same true t =
          let to : l.to ≡ e = grind (arith, nat_tests) in
          let r = right_is words trace (Chasing q) l.id l.to right in
          let close : forwards l.id trace + 1 ≤ departed_since l.id l.to trace = r.2.0 in
          let near : forwards id trace + 1 ≤ departed_since id e trace = subst
          (λ (u : ℕ × ℕ). forwards u trace + 1 ≤ departed_since u e trace) same
          (subst (λ (v : ℕ). forwards l.id trace + 1 ≤ departed_since l.id v trace) to close) in
          let once : forwards id rs ≡ 1 = ap (forwards id) is ∙ subst (λ (u : ℕ × ℕ). forwards u (Trace.Forwarded l.id ∷ []) ≡ 1) same (forwarded_once words trace l.id) in
          let more = since_more id e trace rs in
          let j = forwards_join id trace rs in
          omega (arith, near, once, more, j)
      this same false t =
          let to : l.to ≢ e = grind (arith, nat_tests) in
          let r = right_is words trace (Chasing q) l.id l.to right in
          let posted : was_posted id l.to trace ≡ true = subst (λ (u : ℕ × ℕ). was_posted u l.to trace ≡ true) same r.0 in
          absurd (posted_to_one id l.to e trace (one_before id) posted before to)

      by : (b : Bool) → is_number id l.id ≡ b → forwards id (trace ++ rs) ≤ departed_since id e (trace ++ rs)
      by true t = this (same_number id l.id t) (nat_eq l.to e) refl
      by false t =
          let a = forwarded_alone id l.id in
          let b : ◌≡◌ {A = ℕ} (if is_number id l.id then 1 else 0) 0 = ap (λ (v : Bool). if v then 1 else 0) t in
          let none : forwards id rs ≡ 0 = ap (forwards id) is ∙ omega (arith, a, b) in
          hops_kept id e none before

  pub unposted_after : Forwarding words trace rs → (id : ℕ × ℕ) → times (says_number id) (posts (trace ++ rs)) ≡ 0 → forwards id (trace ++ rs) ≡ 0
  unposted_after (inl none) id z =
      let a = posts_join (λ x. if says_number id x then 1 else 0) trace rs in
      hops_same id trace rs (none id) ∙ unposted id (omega (arith, a, z))
  unposted_after (inr (q, l, is, right)) id z = by (is_number id l.id) refl
    where
      before : times (says_number id) (posts trace) ≡ 0
      before = let a = posts_join (λ x. if says_number id x then 1 else 0) trace rs in omega (arith, a, z)

      by : (b : Bool) → is_number id l.id ≡ b → forwards id (trace ++ rs) ≡ 0
      by true t =
          let same : l.id ≡ id = same_number id l.id t in
          let r = right_is words trace (Chasing q) l.id l.to right in
          let posted : was_posted id l.to trace ≡ true = subst (λ (u : ℕ × ℕ). was_posted u l.to trace ≡ true) same r.0 in
          let a = number_posted id l.to trace posted in
          let b = before in
          absurd (omega (arith, a, b))
      by false t =
          let a = forwarded_alone id l.id in
          let b : ◌≡◌ {A = ℕ} (if is_number id l.id then 1 else 0) 0 = ap (λ (v : Bool). if v then 1 else 0) t in
          let none : forwards id rs ≡ 0 = ap (forwards id) is ∙ omega (arith, a, b) in
          hops_same id trace rs none ∙ unposted id before

module _ {C A : Type 0} (w w' : WorldView C A) (rs trace : List TraceEntry) (h : AreChasing w trace)
    (one : (id : ℕ × ℕ) → times (says_number id) (posts (trace ++ rs)) ≤ 1)
    (few : (id : ℕ × ℕ) → world_at (of_number id) no_elements w ≤ 1)
    (named : world_at no_letters (misnamed w.words) w ≡ 0) where
  -- an event keeps all of it
  pub chasing_next : Change w w' rs → AreChasing w' (trace ++ rs)
  chasing_next c =
      let f : Forwarding w.words trace rs = forwarding w c.stays rs trace h.lag c.move c.takes c.facts in
      record {
        lag = subst (λ (v : List ℕ). world_at (strays v (trace ++ rs)) no_elements w' ≡ 0) (sym c.words)
            (lag_after w w' c.stays rs trace h one few named c.move c.takes c.puts c.facts);
        away = away_after w w' c.stays rs trace h one few named c.move c.takes c.puts c.facts;
        hops = hops_after w.words trace rs one h.hops h.unposted f;
        unposted = unposted_after w.words trace rs one h.hops h.unposted f;
      }

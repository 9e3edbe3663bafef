-- What a handler leaves of the outbox, the count and the trace that were lent to it.
use Rattle.std.proofs.Common.{◌≡◌, ℕ, ◌+◌, ◌++◌, ◌∷◌, [], List, Bool, true, length, Result, Ok, Err, OnOk, OnErr, ap, ◌∙◌}
use Rattle.chares.specs.Posting.{Posting, Out, posted, with_entry, letters_of, posts_of, traced}
use Rattle.chares.specs.declared.trace_entry.TraceEntry.{TraceEntry}
use Rattle.pe_state.proofs.Traces.{traced_twice}

-- what is lent
abbrev pub lending : {P : Type 0} → ℕ → ℕ → ℕ → ℕ → List (Out P) → Bool → List TraceEntry → Posting P
lending me n longest k outbox b rs = record { me = me; n = n; longest = longest; count = k; outbox = outbox; spare = true; tracing = b; trace = rs }

-- A handler answers r; s is lent to it, and t comes back. If it is Ok, these are posted after a report of what it handled.
abbrev pub Posts : {P R E : Type 0} → Result R E → Posting P → Posting P → TraceEntry → List (ℕ × List ℕ) → Type 0
Posts r s t rep sends = OnOk r (t ≡ posted (with_entry s rep) sends)

module _ {P R E : Type 0} {longest : ℕ} (r : Result R E) (me n k : ℕ) (outbox : List (Out P)) (b : Bool) (rs : List TraceEntry)
    (s t : Posting P) (lent : s ≡ lending me n longest k outbox b rs) where
  pub outbox_after : (rep : TraceEntry) (sends : List (ℕ × List ℕ)) (back old : List (Out P)) → back ≡ t.outbox → outbox ≡ old
      → Posts r s t rep sends → OnOk r (back ≡ old ++ letters_of me k sends)
  outbox_after rep sends back old e o h = by r h
    where
      by : (r : Result R E) → Posts r s t rep sends → OnOk r (back ≡ old ++ letters_of me k sends)
      by (Ok x) h = e ∙ ap (λ p. p.outbox) h ∙ ap (λ p. p.outbox ++ letters_of p.me p.count sends) lent ∙ ap (λ v. v ++ letters_of me k sends) o
      by (Err x) h = tt

  pub count_after : (rep : TraceEntry) (sends : List (ℕ × List ℕ)) (back : ℕ) → back ≡ t.count → Posts r s t rep sends → OnOk r (back ≡ k + length sends)
  count_after rep sends back e h = by r h
    where
      by : (r : Result R E) → Posts r s t rep sends → OnOk r (back ≡ k + length sends)
      by (Ok x) h = e ∙ ap (λ p. p.count) h ∙ ap (λ p. p.count + length sends) lent
      by (Err x) h = tt

  pub reports_after : (rep : TraceEntry) (sends : List (ℕ × List ℕ)) (back old : List TraceEntry) → back ≡ t.trace → rs ≡ old
      → Posts r s t rep sends → OnOk r (back ≡ traced b old (rep ∷ posts_of me k sends))
  reports_after rep sends back old e o h = by r h
    where
      by : (r : Result R E) → Posts r s t rep sends → OnOk r (back ≡ traced b old (rep ∷ posts_of me k sends))
      by (Ok x) h =
          e ∙ ap (λ p. p.trace) h
          ∙ ap (λ p. traced p.tracing (traced p.tracing p.trace (rep ∷ [])) (posts_of p.me p.count sends)) lent
          ∙ traced_twice b rs rep (posts_of me k sends)
          ∙ ap (λ v. traced b v (rep ∷ posts_of me k sends)) o
      by (Err x) h = tt

  pub place_after : (rep : TraceEntry) (sends : List (ℕ × List ℕ)) → Posts r s t rep sends → OnErr r (t ≡ s) → t.spare ≡ true
  place_after rep sends h f = by r h f
    where
      by : (r : Result R E) → Posts r s t rep sends → OnErr r (t ≡ s) → t.spare ≡ true
      by (Ok x) h f = ap (λ p. p.spare) h ∙ ap (λ p. p.spare) lent
      by (Err x) h f = ap (λ p. p.spare) f ∙ ap (λ p. p.spare) lent

  pub same_outbox : (back old : List (Out P)) → back ≡ t.outbox → outbox ≡ old → OnErr r (t ≡ s) → OnErr r (back ≡ old)
  same_outbox back old e o h = by r h
    where
      by : (r : Result R E) → OnErr r (t ≡ s) → OnErr r (back ≡ old)
      by (Ok x) h = tt
      by (Err x) h = e ∙ ap (λ p. p.outbox) h ∙ ap (λ p. p.outbox) lent ∙ o

  pub same_count : (back : ℕ) → back ≡ t.count → OnErr r (t ≡ s) → OnErr r (back ≡ k)
  same_count back e h = by r h
    where
      by : (r : Result R E) → OnErr r (t ≡ s) → OnErr r (back ≡ k)
      by (Ok x) h = tt
      by (Err x) h = e ∙ ap (λ p. p.count) h ∙ ap (λ p. p.count) lent

  pub same_trace : (back old : List TraceEntry) → back ≡ t.trace → rs ≡ old → OnErr r (t ≡ s) → OnErr r (back ≡ old)
  same_trace back old e o h = by r h
    where
      by : (r : Result R E) → OnErr r (t ≡ s) → OnErr r (back ≡ old)
      by (Ok x) h = tt
      by (Err x) h = e ∙ ap (λ p. p.trace) h ∙ ap (λ p. p.trace) lent ∙ o

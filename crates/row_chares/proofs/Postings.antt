-- One more letter after others.
use Rattle.std.proofs.Common.{◌≡◌, ℕ, ◌+◌, List, [], ◌∷◌, ◌++◌, length, Bool, true, false, append_assoc, ap, ◌∙◌, refl, sym, arith, length-append}
use Rattle.std.proofs.lemmas.List.{append-nil}
use Rattle.chares.specs.Posting.{Posting, letters_of, posted, posts_of, traced}
use Rattle.chares.specs.declared.trace_entry.TraceEntry.{TraceEntry}

-- the letters are numbered on
letters_more : {P : Type 0} (me k : ℕ) (xs : List (ℕ × List ℕ)) (y : ℕ × List ℕ)
    → letters_of {P = P} me k (xs ++ y ∷ []) ≡ letters_of {P = P} me k xs ++ letters_of {P = P} me (k + length xs) (y ∷ [])
letters_more {P = P} me k [] y = ap (λ v. letters_of {P = P} me v (y ∷ [])) (omega (arith))
letters_more {P = P} me k (x ∷ xs) y =
    let more : (k + 1) + length xs ≡ k + length (x ∷ xs) = grind (arith) in
    ap (λ v. letters_of {P = P} me k (x ∷ []) ++ v) (letters_more {P = P} me (k + 1) xs y ∙ ap (λ v. letters_of {P = P} me (k + 1) xs ++ letters_of {P = P} me v (y ∷ [])) more)

-- and so are their trace entries
posts_more : (me k : ℕ) (xs : List (ℕ × List ℕ)) (y : ℕ × List ℕ) → posts_of me k (xs ++ y ∷ []) ≡ posts_of me k xs ++ posts_of me (k + length xs) (y ∷ [])
posts_more me k [] y = ap (λ v. posts_of me v (y ∷ [])) (omega (arith))
posts_more me k (x ∷ xs) y =
    let more : (k + 1) + length xs ≡ k + length (x ∷ xs) = grind (arith) in
    ap (λ v. posts_of me k (x ∷ []) ++ v) (posts_more me (k + 1) xs y ∙ ap (λ v. posts_of me (k + 1) xs ++ posts_of me v (y ∷ [])) more)

traced_more : (b : Bool) (rs xs ys : List TraceEntry) → traced b (traced b rs xs) ys ≡ traced b rs (xs ++ ys)
traced_more true rs xs ys = append_assoc rs xs ys
traced_more false rs xs ys = refl

-- one more letter is posted as all at once are
pub posted_more : {P : Type 0} (p : Posting P) (xs : List (ℕ × List ℕ)) (y : ℕ × List ℕ) → posted (posted p xs) (y ∷ []) ≡ posted p (xs ++ y ∷ [])
posted_more {P} p xs y =
    let q = posted (posted p xs) (y ∷ []) in
    let all = posted p (xs ++ y ∷ []) in
    let count : (p.count + length xs) + 1 ≡ p.count + length (xs ++ y ∷ []) = grind (arith, length-append) in
    ap (λ v. record q { count = v }) count
    ∙ ap (λ v. record q { count = all.count; outbox = v })
    (append_assoc p.outbox (letters_of p.me p.count xs) (letters_of p.me (p.count + length xs) (y ∷ []))
    ∙ ap (λ v. p.outbox ++ v) (sym (letters_more {P = P} p.me p.count xs y)))
    ∙ ap (λ v. record all { trace = v }) (traced_more p.tracing p.trace (posts_of p.me p.count xs)
    (posts_of p.me (p.count + length xs) (y ∷ [])) ∙ ap (traced p.tracing p.trace) (sym (posts_more p.me p.count xs y)))

traced_none : (b : Bool) (rs : List TraceEntry) → traced b rs [] ≡ rs
traced_none true rs = append-nil rs
traced_none false rs = refl

-- where nothing is posted
pub posted_none : {P : Type 0} (p : Posting P) → posted p [] ≡ p
posted_none {P} p =
    ap (λ v. record p { count = v; outbox = p.outbox ++ []; trace = traced p.tracing p.trace [] }) (omega (arith))
    ∙ ap (λ v. record p { outbox = v; trace = traced p.tracing p.trace [] }) (append-nil p.outbox)
    ∙ ap (λ v. record p { trace = v }) (traced_none p.tracing p.trace)

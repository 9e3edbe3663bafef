-- Letters that a handler posts after others: for chares that call `Sends::put` more than once.
use Rattle.std.proofs.Common.{◌≡◌, ℕ, ◌+◌, List, [], ◌∷◌, ◌++◌, length, Bool, true, false, append_assoc, ap, ◌∙◌, refl, sym, arith, length-append}
use Rattle.std.proofs.lemmas.List.{append-nil}
use Rattle.chares.specs.Posting.{Posting, letters_of, posted, posts_of, traced}
use Rattle.chares.specs.declared.trace_entry.TraceEntry.{TraceEntry}

-- the letters are numbered on
letters_on : {P : Type 0} (me k : ℕ) (xs ys : List (ℕ × List ℕ)) → letters_of {P = P} me k (xs ++ ys) ≡ letters_of {P = P} me k xs ++ letters_of {P = P} me (k + length xs) ys
letters_on {P = P} me k [] ys = ap (λ v. letters_of {P = P} me v ys) (omega arith)
letters_on {P = P} me k (x ∷ xs) ys =
    let more : (k + 1) + length xs ≡ k + length (x ∷ xs) = grind arith in
    ap (λ v. letters_of {P = P} me k (x ∷ []) ++ v) (letters_on {P = P} me (k + 1) xs ys ∙ ap (λ v. letters_of {P = P} me (k + 1) xs ++ letters_of {P = P} me v ys) more)

-- and so are their entries of the trace
posts_on : (me k : ℕ) (xs ys : List (ℕ × List ℕ)) → posts_of me k (xs ++ ys) ≡ posts_of me k xs ++ posts_of me (k + length xs) ys
posts_on me k [] ys = ap (λ v. posts_of me v ys) (omega arith)
posts_on me k (x ∷ xs) ys =
    let more : (k + 1) + length xs ≡ k + length (x ∷ xs) = grind arith in
    ap (λ v. posts_of me k (x ∷ []) ++ v) (posts_on me (k + 1) xs ys ∙ ap (λ v. posts_of me (k + 1) xs ++ posts_of me v ys) more)

traced_on : (b : Bool) (rs xs ys : List TraceEntry) → traced b (traced b rs xs) ys ≡ traced b rs (xs ++ ys)
traced_on true rs xs ys = append_assoc rs xs ys
traced_on false rs xs ys = refl

-- letters that are posted after others are posted as all at once are
pub posted_twice : {P : Type 0} (p : Posting P) (xs ys : List (ℕ × List ℕ)) → posted (posted p xs) ys ≡ posted p (xs ++ ys)
posted_twice {P} p xs ys =
    let q = posted (posted p xs) ys in
    let all = posted p (xs ++ ys) in
    let count : (p.count + length xs) + length ys ≡ p.count + length (xs ++ ys) = grind (arith, length-append) in
    ap (λ v. record q { count = v }) count
    ∙ ap (λ v. record q { count = all.count; outbox = v })
    (append_assoc p.outbox (letters_of p.me p.count xs) (letters_of p.me (p.count + length xs) ys)
    ∙ ap (λ v. p.outbox ++ v) (sym (letters_on {P = P} p.me p.count xs ys)))
    ∙ ap (λ v. record all { trace = v }) (traced_on p.tracing p.trace (posts_of p.me p.count xs) (posts_of p.me (p.count + length xs) ys)
    ∙ ap (traced p.tracing p.trace) (sym (posts_on p.me p.count xs ys)))

pub posted_both : {P : Type 0} (p q r : Posting P) (xs ys : List (ℕ × List ℕ)) → q ≡ posted p xs → r ≡ posted q ys → r ≡ posted p (xs ++ ys)
posted_both p q r xs ys first second = second ∙ ap (λ v. posted v ys) first ∙ posted_twice p xs ys

traced_none : (b : Bool) (rs : List TraceEntry) → traced b rs [] ≡ rs
traced_none true rs = append-nil rs
traced_none false rs = refl

-- where nothing is posted
pub posted_none : {P : Type 0} (p : Posting P) → posted p [] ≡ p
posted_none {P} p =
    ap (λ v. record p { count = v; outbox = p.outbox ++ []; trace = traced p.tracing p.trace [] }) (omega arith)
    ∙ ap (λ v. record p { outbox = v; trace = traced p.tracing p.trace [] }) (append-nil p.outbox)
    ∙ ap (λ v. record p { trace = v }) (traced_none p.tracing p.trace)

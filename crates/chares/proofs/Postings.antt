-- What is taken back when a handler is refused.
use Rattle.std.proofs.Common.{◌≡◌, ℕ, List, [], ◌∷◌, ◌++◌, length, take, Bool, true, false, append_assoc, ap, ◌∙◌}
use Rattle.std.proofs.Math.Seq.{take-append_seam, take-length}
use Rattle.chares.specs.Posting.{Posting, letters_of, posted, posts_of, traced, with_entry}
use Rattle.chares.specs.declared.trace_entry.TraceEntry.{TraceEntry}

-- what was there before it is what is left
pub rewound : {X : Type 0} (xs ys : List X) → take (length xs) (xs ++ ys) ≡ xs
rewound xs ys = take-append_seam xs ys

pub rewound_trace : (b : Bool) (rs more posts : List TraceEntry) → take (length rs) (traced b (traced b rs more) posts) ≡ rs
rewound_trace true rs more posts = rw append_assoc (take-append_seam rs (more ++ posts))
rewound_trace false rs more posts = take-length rs

-- a handler that was refused leaves what was there before it and before its trace entry
pub all_rewound : {P : Type 0} (now s t r : Posting P) (rep : TraceEntry) (out : List (ℕ × List ℕ)) (k w d : ℕ) → s ≡ with_entry now rep
    → t ≡ posted s out → k ≡ now.count → w ≡ length now.outbox → d ≡ length now.trace
    → r ≡ record t { count = k; outbox = take w t.outbox; trace = take d t.trace }
    → r ≡ now
all_rewound {P} now s t r rep out k w d logged post count waiting trace e =
    let u = posted (with_entry now rep) out in
    let f : t ≡ u = post ∙ ap (λ (p : Posting P). posted p out) logged in
    e
    ∙ ap (λ (v : Posting P). record v { count = k; outbox = take w v.outbox; trace = take d v.trace }) f
    ∙ ap (λ v. record u { count = v; outbox = take w u.outbox; trace = take d u.trace }) count
    ∙ ap (λ v. record u { count = now.count; outbox = take v u.outbox; trace = take d u.trace }) waiting
    ∙ ap (λ v. record u { count = now.count; outbox = take (length now.outbox) u.outbox; trace = take v u.trace }) trace
    ∙ ap (λ v. record u { count = now.count; outbox = v; trace = take (length now.trace) u.trace }) (rewound now.outbox (letters_of now.me now.count out))
    ∙ ap (λ v. record u { count = now.count; outbox = now.outbox; trace = v }) (rewound_trace now.tracing now.trace (rep ∷ []) (posts_of now.me now.count out))

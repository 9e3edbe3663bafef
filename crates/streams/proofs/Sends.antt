-- Bytes that go out in several writes.
use Rattle.std.proofs.Common.{◌≡◌, ℕ, ◌+◌, ◌-◌, ◌≤◌, List, ◌++◌, length, take, drop, arith, ap, ◌∙◌, subst, Option, None, Some, append_assoc, length-drop}
use Rattle.std.specs.Io.KnownBytes.{Appends}
use Rattle.std.proofs.lemmas.List.{drop-drop}
use Rattle.std.proofs.Math.Seq.{take-add}

-- the first bytes have gone out, and the rest are still to go
pub record Sent (old new : Option (List ℕ)) (bytes rest : List ℕ) : Type 0 where
  pub count : ℕ
  pub inside : count ≤ length bytes
  pub rest_is : rest ≡ drop count bytes
  pub gone : Appends old new (take count bytes)

appends_both : (a b c : Option (List ℕ)) (xs ys : List ℕ) → Appends a b xs → Appends b c ys → Appends a c (xs ++ ys)
appends_both None b c xs ys one two = tt
appends_both (Some us) None c xs ys one two = absurd one
appends_both (Some us) (Some vs) None xs ys one two = absurd two
appends_both (Some us) (Some vs) (Some ws) xs ys one two = two ∙ ap (λ z. z ++ ys) one ∙ append_assoc us xs ys

pub sent_more : (old before new : Option (List ℕ)) (bytes rest : List ℕ) (n : ℕ) → Sent old before bytes rest → n ≤ length rest
    → Appends before new (take n rest) → Sent old new bytes (drop n rest)
sent_more old before new bytes rest n sent inside more =
    let left : length rest ≡ length bytes - sent.count = ap length sent.rest_is ∙ length-drop sent.count bytes in
    record {
      count = sent.count + n;
      inside = omega (arith, sent.inside);
      rest_is = ap (λ r. drop n r) sent.rest_is ∙ drop-drop n sent.count bytes;
      gone = rw (take-add sent.count n bytes) (appends_both old before new (take sent.count bytes) (take n (drop sent.count bytes))
          sent.gone (subst (λ r. Appends before new (take n r)) sent.rest_is more));
    }

-- Messages that are posted to one element or to all.
use Rattle.std.proofs.Common.{◌≡◌, ℕ, ◌+◌, ◌<◌, ◌≤◌, List, [], ◌∷◌, length, map, ap, ◌∙◌, refl, sym, arith, inr}
use Rattle.std.specs.List.{range_with_len}
use Rattle.std.proofs.lemmas.List.FromFn.{length-map-range_with_len, map-range_with_len_more}
use Rattle.chare_index.specs.declared.limits.TheConstants.Limits.{LETTERS}
use Rattle.chares.proofs.SeveralPosts.{posted_both, posted_none}
use Rattle.chares.specs.Posting.{Posting, posted}
use Rattle.chares.specs.declared.sends.SendError.{SendError}
use Rattle.chares.specs.declared.sends.SendError.TheVariants.{Stranger, TooLong, Worn, OutOfMemory}
use Rattle.messages.specs.Messages.{RefusesBroadcast, RefusesMessagePost, RefusesPack, letters, to_all}

-- to no element nothing is posted
pub none_posted : {P : Type 0} (p : Posting P) (body : List ℕ) → p ≡ posted p (to_all 0 body)
none_posted p body = sym (posted_none p)

-- after those to the first i elements, one to the next
pub one_more : {P : Type 0} (p q r : Posting P) (i : ℕ) (body : List ℕ) → q ≡ posted p (to_all i body) → r ≡ posted q ((i, body) ∷ []) → r ≡ posted p (to_all (i + 1) body)
one_more p q r i body before next =
    posted_both p q r (to_all i body) ((i, body) ∷ []) before next
    ∙ ap (posted p) (sym (map-range_with_len_more (λ j. (j, body)) 0 i i (omega arith)))

-- they take as many letter numbers
pub counted_after : {P : Type 0} (p q : Posting P) (i : ℕ) (body : List ℕ) → q ≡ posted p (to_all i body) → (q.count ≡ p.count + i) × (q.n ≡ p.n) × (q.longest ≡ p.longest)
counted_after p q i body before =
    (ap (λ s. s.count) before ∙ ap (λ k. p.count + k) (length-map-range_with_len (λ j. (j, body)) 0 i), ap (λ s. s.n) before, ap (λ s. s.longest) before)

-- the letters of a message to some are its pack to each
packed_each : {M : Type 0} (pack : M → List ℕ) (message : M) (is : List ℕ)
    → letters pack (map {B = ℕ × M} (λ i. (i, message)) is) ≡ map {B = ℕ × List ℕ} (λ i. (i, pack message)) is
packed_each pack message [] = refl
packed_each pack message (i ∷ is) = ap (λ v. (i, pack message) ∷ v) (packed_each pack message is)

pub packed_to_all : {M : Type 0} (pack : M → List ℕ) (n : ℕ) (message : M) → letters pack (to_all n message) ≡ to_all n (pack message)
packed_to_all pack n message = packed_each pack message (range_with_len 0 n)

-- what the refusal of a pack is to who posts
pub message_refused : {P : Type 0} (p : Posting P) (to : ℕ) (counted : Type 0) (body : List ℕ) (error : SendError)
    → RefusesPack counted error → to < p.n → length body ≤ p.longest → p.count < LETTERS → RefusesMessagePost p to counted body error
message_refused p to counted body TooLong not_counted known short numbered = (known, inr not_counted)
message_refused p to counted body OutOfMemory refused known short numbered = record { known = known; short = short; numbered = numbered }
message_refused p to counted body Stranger refused known short numbered = absurd refused
message_refused p to counted body Worn refused known short numbered = absurd refused

pub broadcast_refused : {P : Type 0} (p : Posting P) (counted : Type 0) (body : List ℕ) (error : SendError)
    → RefusesPack counted error → length body ≤ p.longest → p.count + p.n ≤ LETTERS → RefusesBroadcast p counted body error
broadcast_refused p counted body TooLong not_counted short numbered = inr not_counted
broadcast_refused p counted body OutOfMemory refused short numbered = (short, numbered)
broadcast_refused p counted body Stranger refused short numbered = absurd refused
broadcast_refused p counted body Worn refused short numbered = absurd refused

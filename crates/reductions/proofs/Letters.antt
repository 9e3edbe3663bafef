-- Messages of the chares, and what goes through the tree.
use Rattle.std.proofs.Common.{◌≡◌, ◌≢◌, ℕ, ◌+◌, ◌<◌, ◌≤◌, List, [], ◌∷◌, ◌++◌, length, ap, ◌∙◌, refl, sym, arith, inl, inr, length-append, Result, Ok, Err, OnOk, OnErr, IfErr, MatchResult, Option}
use Rattle.std.specs.Prelude.{⊤}
use Rattle.std.proofs.lemmas.List.{length-map, map-append}
use Rattle.std.proofs.lemmas.List.FromFn.{length-map-range_with_len}
use Rattle.chare_index.specs.declared.limits.TheConstants.Limits.{LETTERS}
use Rattle.chares.proofs.SeveralPosts.{posted_both, posted_none}
use Rattle.chares.specs.Posting.{Posting, posted}
use Rattle.chares.specs.declared.sends.SendError.{SendError}
use Rattle.chares.specs.declared.sends.SendError.TheVariants.{Stranger, TooLong, Worn, OutOfMemory}
use Rattle.messages.proofs.Broadcasts.{packed_to_all}
use Rattle.messages.specs.Messages.{IsBroadcast, RefusesBroadcast, RefusesMessagePost, letters, to_all}
use Rattle.reductions.specs.declared.tree_message.TreeMessage.{TreeMessage}
use Rattle.reductions.specs.declared.tree_message.TreeMessage.TheVariants.{User}
use Rattle.reductions.specs.Stepping.{as_user, passed_on}
use Rattle.reductions.specs.TreeMessages.{tree_pack, user_pack}

-- a message of the chares to all
pub user_to_all : {M V : Type 0} (pack : M → List ℕ) (value_pack : V → List ℕ) (n : ℕ) (message : M)
    → letters (tree_pack pack value_pack) (to_all n (User message)) ≡ letters (user_pack pack) (to_all n message)
user_to_all {V = V} pack value_pack n message = packed_to_all (tree_pack {V = V} pack value_pack) n (User message) ∙ sym (packed_to_all (user_pack pack) n message)

pub user_to_all_posted : {P M V : Type 0} (p q : Posting P) (pack : M → List ℕ) (value_pack : V → List ℕ) (n : ℕ) (message : M) (result : Result ⊤ SendError)
    → OnOk result (q ≡ posted p (letters (tree_pack pack value_pack) (to_all n (User message)))) → OnOk result (q ≡ posted p (letters (user_pack pack) (to_all n message)))
user_to_all_posted p q pack value_pack n message (Ok _) all = all ∙ ap (posted p) (user_to_all pack value_pack n message)
user_to_all_posted p q pack value_pack n message (Err e) all = tt

-- the letters of a chare's messages are those of messages in the tree
pub user_letters : {M V : Type 0} (pack : M → List ℕ) (value_pack : V → List ℕ) (sends : List (ℕ × M))
    → letters (user_pack pack) sends ≡ letters (tree_pack pack value_pack) (as_user sends)
user_letters pack value_pack [] = refl
user_letters pack value_pack (x ∷ xs) = ap (λ v. (x.0, user_pack pack x.1) ∷ v) (user_letters pack value_pack xs)

-- the messages of a chare, and then what goes through the tree
pub both_posted : {P M V : Type 0} (p q r : Posting P) (pack : M → List ℕ) (value_pack : V → List ℕ) (sends : List (ℕ × M)) (more : List (ℕ × TreeMessage M V))
    → q ≡ posted p (letters (user_pack pack) sends) → r ≡ posted q (letters (tree_pack pack value_pack) more)
    → r ≡ posted p (letters (tree_pack pack value_pack) (as_user sends ++ more))
both_posted p q r pack value_pack sends more first second =
    posted_both p q r (letters (tree_pack pack value_pack) (as_user sends)) (letters (tree_pack pack value_pack) more)
    (first ∙ ap (posted p) (user_letters pack value_pack sends)) second
    ∙ ap (posted p) (sym (map-append (λ x. (x.0, tree_pack pack value_pack x.1)) (as_user sends) more))

-- the messages of a chare, and then a value that goes on from an element
pub and_passed_on : {P M V : Type 0} (p q r : Posting P) (pack : M → List ℕ) (value_pack : V → List ℕ) (sends : List (ℕ × M)) (n i : ℕ) (goes_on same : Option V)
    → p.n ≡ n → q ≡ posted p (letters (user_pack pack) sends) → r ≡ posted q (letters (tree_pack pack value_pack) (passed_on q.n i goes_on)) → goes_on ≡ same
    → r ≡ posted p (letters (tree_pack pack value_pack) (as_user sends ++ passed_on n i same))
and_passed_on {M = M} p q r pack value_pack sends n i goes_on same array first second value =
    let here : q.n ≡ n = ap (λ s. s.n) first ∙ array in
    both_posted p q r pack value_pack sends (passed_on q.n i goes_on) first second
    ∙ ap (λ m. posted p (letters (tree_pack pack value_pack) (as_user sends ++ passed_on {M = M} m i goes_on))) here
    ∙ ap (λ g. posted p (letters (tree_pack pack value_pack) (as_user sends ++ passed_on {M = M} n i g))) value

-- two lists of posts, one after the other
pub some_posted : {P : Type 0} (p q r : Posting P) → (xs : List (ℕ × List ℕ)) × (q ≡ posted p xs) → (ys : List (ℕ × List ℕ)) × (r ≡ posted q ys)
    → (zs : List (ℕ × List ℕ)) × (r ≡ posted p zs)
some_posted p q r first second = (first.0 ++ second.0, posted_both p q r first.0 second.0 first.1 second.1)

-- a post that is refused posts nothing
pub posts_or_none : {P : Type 0} (p q : Posting P) (result : Result ⊤ SendError) (sends : List (ℕ × List ℕ)) → OnOk result (q ≡ posted p sends)
    → OnErr result (q ≡ p) → (out : List (ℕ × List ℕ)) × (q ≡ posted p out)
posts_or_none p q (Ok _) sends ok err = (sends, ok)
posts_or_none p q (Err e) sends ok err = ([], err ∙ sym (posted_none p))

-- a short message is refused only where no letter number is left, or for want of memory
pub post_worn : {P : Type 0} (p : Posting P) (to : ℕ) (counted : Type 0) (body : List ℕ) (error : SendError) → to < p.n → counted → length body ≤ p.longest
    → RefusesMessagePost p to counted body error → error ≢ OutOfMemory → (error ≡ Worn) × (LETTERS < p.count + 1)
post_worn p to counted body Stranger known count short refused other = absurd (omega arith)
post_worn p to counted body TooLong known count short refused other = elim (refused.1) [ inl long ↦ absurd (omega arith) | inr not_counted ↦ absurd (not_counted count) ]
post_worn p to counted body Worn known count short refused other = (refl, omega (arith, refused.2))
post_worn p to counted body OutOfMemory known count short refused other = absurd (other refl)

pub broadcast_worn : {P M : Type 0} (p : Posting P) (message : M) (counted : Type 0) (body : List ℕ) (error : SendError) → counted → length body ≤ p.longest
    → RefusesBroadcast p counted body error → error ≢ OutOfMemory → (error ≡ Worn) × (LETTERS < p.count + length (to_all p.n message))
broadcast_worn p message counted body Stranger count short refused other = absurd refused
broadcast_worn p message counted body TooLong count short refused other = elim refused [ inl long ↦ absurd (omega arith) | inr not_counted ↦ absurd (not_counted count) ]
broadcast_worn {M = M} p message counted body Worn count short refused other = (refl, omega (arith, refused.1, length-map-range_with_len {X = ℕ × M} (λ i. (i, message)) 0 p.n))
broadcast_worn p message counted body OutOfMemory count short refused other = absurd (other refl)

pub broadcast_refused_worn : {P M : Type 0} (p : Posting P) (message : M) (counted : Type 0) (body : List ℕ) (result : Result ⊤ SendError) → counted → length body ≤ p.longest
    → MatchResult result (λ _. IsBroadcast p counted body) (RefusesBroadcast p counted body)
    → IfErr result (λ e. e ≢ OutOfMemory → (e ≡ Worn) × (LETTERS < p.count + length (to_all p.n message)))
broadcast_refused_worn p message counted body (Ok _) count short answer = tt
broadcast_refused_worn p message counted body (Err e) count short answer = broadcast_worn p message counted body e count short answer

-- where no letter number is left after a chare's messages, there are not numbers for all
pub worn_in_all : {P M V : Type 0} (p q : Posting P) (pack : M → List ℕ) (sends : List (ℕ × M)) (more : List (ℕ × TreeMessage M V))
    → q ≡ posted p (letters (user_pack pack) sends) → LETTERS < q.count + length more → LETTERS < p.count + length (as_user sends ++ more)
worn_in_all {M = M} {V = V} p q pack sends more first worn =
    let count : q.count ≡ p.count + length (letters (user_pack pack) sends) = ap (λ s. s.count) first in
    let letters_len : length (letters (user_pack pack) sends) ≡ length sends = length-map sends (λ x. (x.0, user_pack pack x.1)) in
    let users : length (as_user {V = V} sends) ≡ length sends = length-map {B = ℕ × TreeMessage M V} sends (λ x. (x.0, User x.1)) in
    omega (arith, count, letters_len, users, length-append (as_user {V = V} sends) more)

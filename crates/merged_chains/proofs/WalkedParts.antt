-- A greedy walk over a chain that comes part by part.
use Rattle.std.proofs.Common.{◌≡◌, ◌≢◌, ◌∙◌, ℕ, suc, zero, ◌+◌, ◌-◌, ◌<◌, ◌≤◌, ◌↔◌, inl, inr, List, [], ◌∷◌, ◌++◌, length, slice_index, get_or, set, arith, refl, sym, subst, ap, add-one}
use Rattle.std.specs.Prelude.{replicate}
use Rattle.std.specs.List.Sorted.{IsNonDecreasing}
use Rattle.std.proofs.lemmas.Bool.{cases_lt, cases_eq}
use Rattle.std.proofs.lemmas.List.{append-nil, append_assoc, get_or-append_right, get_or-replicate, get_or-set_other, get_or-set_same, get_or_default, length-append, replicate_more}
use Rattle.lb_snapshot.specs.Measured.{load}
use Rattle.lb_certificates.proofs.Chains.{load_wider}
use Rattle.chain_partition.specs.Greedy.{CanFit, IsGreatestEnd, IsGreedy}
use Rattle.chain_partition.proofs.Ranges.{load_nothing}
use Rattle.chain_partition.proofs.GreedyCuts.{greedy_full, greedy_inside, greedy_none, greedy_push, greedy_push_last, greedy_short}
use Rattle.merged_chains.specs.declared.walk.Walk.{Walk}
use Rattle.merged_chains.specs.Narrowing.{walk_at}
use Rattle.merged_chains.specs.Walks.{EndsAt, IsWalked, WalksOn}
use Rattle.merged_chains.proofs.Parts.{load_front, load_join, load_next}

-- greedy ends rise: they are cuts or a fence
greedy_ordered : (xs : List ℕ) (k limit : ℕ) (ends : List ℕ) → IsGreedy xs k limit ends → IsNonDecreasing ends
greedy_ordered xs k limit ends h =
    elim (cases_eq (slice_index ends k) (length xs)) [
      | inl full ↦ (greedy_full xs k limit ends h full).1.divides.ordered
      | inr short ↦ (greedy_short xs k limit ends h short).1.fence.ordered
    ]

-- the end of a block that could not take its next element stays its end, whatever follows
end_longer : (xs ys : List ℕ) (first limit end : ℕ) → IsGreatestEnd xs first limit end → first ≤ end → end < length xs → IsGreatestEnd (xs ++ ys) first limit end
end_longer xs ys first limit end h onward past =
    record {
      inside = omega (arith, length-append xs ys, past);
      fits = omega (arith, load_front xs ys first end onward (omega arith), h.fits);
      greatest = λ other within light. elim (cases_lt end other) [
        | inl behind ↦
            let less : load xs first (end + 1) ≤ limit = omega (
              arith,
              light,
              load_front xs ys first (end + 1) (omega arith) (omega arith),
              load_wider (xs ++ ys) first (end + 1) first other (omega arith) (omega arith) (omega arith),
            ) in
            absurd (omega (arith, h.greatest (end + 1) (omega arith) less))
        | inr before ↦ before
      ];
    }

greedy_longer : (xs ys : List ℕ) (k limit : ℕ) (ends : List ℕ) → IsGreedy xs k limit ends → (0 < k → slice_index ends k < length xs) → IsGreedy (xs ++ ys) k limit ends
greedy_longer xs ys k limit ends h past =
    record {
      counted = h.counted;
      starts = h.starts;
      greedy = λ b inside. end_longer xs ys (slice_index ends b) limit (slice_index ends (b + 1)) (h.greedy b inside) (rises b inside)
          (omega (arith, past (omega arith), last b inside));
    }
  where
    rises : (b : ℕ) → b < k → slice_index ends b ≤ slice_index ends (b + 1)
    rises b inside =
        greedy_ordered xs k limit ends h b (b + 1) 0 (omega arith) (omega (arith, h.counted))

    last : (b : ℕ) → b < k → slice_index ends (b + 1) ≤ slice_index ends k
    last b inside =
        greedy_ordered xs k limit ends h (b + 1) k 0 (omega arith) (omega (arith, h.counted))

-- before the first element
pub walked_none : (blocks : ℕ) (walk : Walk) → walk.closed ≡ 0 → walk.filled ≡ 0 → IsWalked [] blocks (0 ∷ []) walk
walked_none blocks walk none empty =
    record {
      few = omega arith;
      greedy = subst (λ n. IsGreedy [] n walk.limit (0 ∷ [])) (sym none) (greedy_none [] walk.limit);
      past = λ some. absurd (omega arith);
      open_load = λ left. empty ∙ sym (subst (λ n. load [] (slice_index (0 ∷ []) n) 0 ≡ 0) (sym none) (load_nothing [] 0));
      fits = omega arith;
      none_open = λ _. empty;
    }

-- A walk within a part: it has closed this many blocks, and the open one begins at or before the element `first` of the part
-- and weighs `filled` up to there.
pub record IsUnderWay (before part ends : List ℕ) (blocks limit closed first filled : ℕ) : Type 0 where
  pub greedy : IsGreedy (before ++ part) closed limit ends
  pub past : 0 < closed → slice_index ends closed < length before + length part
  pub behind : slice_index ends closed ≤ length before + first
  pub weighed : closed < blocks → filled ≡ load (before ++ part) (slice_index ends closed) (length before + first)
  pub fits : filled ≤ limit

walk_begins : (before part ends : List ℕ) (blocks : ℕ) (walk : Walk) → IsWalked before blocks ends walk
    → IsUnderWay before part (ends ++ []) blocks walk.limit walk.closed 0 walk.filled
walk_begins before part ends blocks walk h =
    subst (λ list. IsUnderWay before part list blocks walk.limit walk.closed 0 walk.filled) (sym (append-nil ends)) (record {
      greedy = greedy_longer before part walk.closed walk.limit ends h.greedy h.past;
      past = λ some. omega (arith, h.past some);
      behind = omega (arith, inside);
      weighed = λ left. subst (λ n. walk.filled ≡ load (before ++ part) (slice_index ends walk.closed) n) here
          (omega (arith, h.open_load left, load_front before part (slice_index ends walk.closed) (length before) inside (omega arith)));
      fits = h.fits;
    })
  where
    inside : slice_index ends walk.closed ≤ length before
    inside = greedy_inside before walk.closed walk.limit ends h.greedy walk.closed (omega arith)

    here : length before ≡ length before + 0
    here = omega arith

-- what the open block weighs up to a later element of the part
open_weighs : (before part ends : List ℕ) (blocks limit closed first filled end : ℕ)
    → IsUnderWay before part ends blocks limit closed first filled → closed < blocks → first ≤ end
    → load (before ++ part) (slice_index ends closed) (length before + end) ≡ filled + load part first end
open_weighs before part ends blocks limit closed first filled end h left onward =
    omega (
      arith,
      h.weighed left,
      load_join (before ++ part) (slice_index ends closed) (length before + first) (length before + end)
          h.behind (omega arith),
      load_next before part (length before) first end refl onward,
    )

-- as far as the open block reaches within the part, where there is more
block_ends : (before part ends : List ℕ) (blocks limit closed first filled end : ℕ)
    → IsUnderWay before part ends blocks limit closed first filled → closed < blocks → first ≤ end
    → IsGreatestEnd part first (limit - filled) end → IsGreatestEnd (before ++ part) (slice_index ends closed) limit (length before + end)
block_ends before part ends blocks limit closed first filled end h left onward greatest =
    record {
      inside = omega (arith, length-append before part, greatest.inside);
      fits = omega (arith, open_weighs before part ends blocks limit closed first filled end h left onward, greatest.fits, h.fits);
      greatest = λ other within light. elim (cases_lt (length before + end) other) [
        | inl further ↦
            let e : other ≡ length before + (other - length before) = omega arith in
            let less : load (before ++ part) (slice_index ends closed) (length before + (other - length before)) ≤ limit = subst
            (λ n. load (before ++ part) (slice_index ends closed) n ≤ limit) e light in
            let weighs = open_weighs before part ends blocks limit closed first filled (other - length before) h left (omega arith) in
            let fitting : load part first (other - length before) ≤ limit - filled = omega (arith, less, weighs, h.fits) in
            absurd (omega (arith, further, greatest.greatest (other - length before) (omega (arith, within, length-append before part)) fitting))
        | inr fine ↦ fine
      ];
    }

-- the block closes there, where an element is behind it
walk_closes : (before part ends : List ℕ) (blocks limit closed first filled end : ℕ)
    → IsUnderWay before part ends blocks limit closed first filled → closed < blocks → first ≤ end
    → IsGreatestEnd part first (limit - filled) end → end ≢ length part
    → IsUnderWay before part (ends ++ (length before + end) ∷ []) blocks limit (closed + 1) end 0
walk_closes before part ends blocks limit closed first filled end h left onward greatest short =
    record {
      greedy = greedy_push (before ++ part) closed limit ends (length before + end) h.greedy
          (block_ends before part ends blocks limit closed first filled end h left onward greatest);
      past = λ some. omega (arith, last, short, greatest.inside);
      behind = omega (arith, last);
      weighed = λ _. sym (subst (λ n. load (before ++ part) n (length before + end) ≡ 0) (sym last) (load_nothing (before ++ part) (length before + end)));
      fits = omega arith;
    }
  where
    last : slice_index (ends ++ (length before + end) ∷ []) (closed + 1) ≡ length before + end
    last = greedy_push_last (before ++ part) closed limit ends (length before + end) h.greedy

-- it stays open, where the part ends there
walk_stays : (before part ends : List ℕ) (blocks first filled end : ℕ) (new : Walk)
    → IsUnderWay before part ends blocks new.limit new.closed first filled → new.closed < blocks → first ≤ end
    → IsGreatestEnd part first (new.limit - filled) end → end ≡ length part → new.filled ≡ filled + load part first end
    → IsWalked (before ++ part) blocks ends new
walk_stays before part ends blocks first filled end new h left onward greatest whole load_is =
    record {
      few = omega arith;
      greedy = h.greedy;
      past = λ some. omega (arith, h.past some, length-append before part);
      open_load = λ _. load_is ∙ sym (subst (λ n. load (before ++ part) (slice_index ends new.closed) n ≡ filled + load part first end) e
          (open_weighs before part ends blocks new.limit new.closed first filled end h left onward));
      fits = omega (arith, load_is, greatest.fits, h.fits);
      none_open = λ closed. absurd (omega (arith, closed));
    }
  where
    e : length before + end ≡ length (before ++ part)
    e = omega (arith, length-append before part)

-- all blocks are closed
walk_ends : (before part ends : List ℕ) (blocks closed first filled : ℕ) (new : Walk)
    → IsUnderWay before part ends blocks new.limit closed first filled → closed ≡ blocks → new.closed ≡ blocks → new.filled ≡ 0
    → IsWalked (before ++ part) blocks ends new
walk_ends before part ends blocks closed first filled new h closed_is same empty =
    record {
      few = omega arith;
      greedy = subst (λ n. IsGreedy (before ++ part) n new.limit ends) e h.greedy;
      past = subst (λ n. 0 < n → slice_index ends n < length (before ++ part)) e (λ some. omega (arith, h.past some, length-append before part));
      open_load = λ left. absurd (omega (arith, left));
      fits = omega arith;
      none_open = λ _. empty;
    }
  where
    e : closed ≡ new.closed
    e = omega arith

-- wherever the walk stood before the part, with this many elements before it, it stands here within the part, with these
-- further ends
abbrev pub StandsAt : List ℕ → ℕ → Walk → ℕ → List ℕ → ℕ → ℕ → ℕ → Type 0
StandsAt part blocks walk offset more closed first filled =
    (before ends : List ℕ) → length before ≡ offset → IsWalked before blocks ends walk → IsUnderWay before part (ends ++ more) blocks walk.limit closed first filled

pub at_begins : (part : List ℕ) (blocks : ℕ) (walk : Walk) (offset : ℕ) → StandsAt part blocks walk offset [] walk.closed 0 walk.filled
at_begins part blocks walk offset before ends e h = walk_begins before part ends blocks walk h

pub at_closes : (part : List ℕ) (blocks : ℕ) (walk : Walk) (offset : ℕ) (more : List ℕ) (closed first filled room end : ℕ)
    → StandsAt part blocks walk offset more closed first filled → closed < blocks → first ≤ end → IsGreatestEnd part first room end
    → room ≡ walk.limit - filled → end ≢ length part → StandsAt part blocks walk offset (more ++ (offset + end) ∷ []) (closed + 1) end 0
at_closes part blocks walk offset more closed first filled room end stands left onward greatest room_is short before ends e h =
    subst (λ list. IsUnderWay before part list blocks walk.limit (closed + 1) end 0) same
    (walk_closes before part (ends ++ more) blocks walk.limit closed first filled end (stands before ends e h) left onward
    (subst (λ n. IsGreatestEnd part first n end) room_is greatest) short)
  where
    same : (ends ++ more) ++ (length before + end) ∷ [] ≡ ends ++ (more ++ (offset + end) ∷ [])
    same =
        append_assoc ends more ((length before + end) ∷ []) ∙ ap (λ n. ends ++ (more ++ (n + end) ∷ [])) e

-- where the part ends
pub at_stays : (part : List ℕ) (blocks : ℕ) (walk : Walk) (offset : ℕ) (more : List ℕ) (first filled room end : ℕ) (new : Walk)
    → StandsAt part blocks walk offset more new.closed first filled → new.closed < blocks → first ≤ end → IsGreatestEnd part first room end
    → room ≡ walk.limit - filled → end ≡ length part → new.limit ≡ walk.limit → new.filled ≡ filled + load part first end
    → EndsAt part blocks walk offset more new
at_stays part blocks walk offset more first filled room end new stands left onward greatest room_is whole limit_is load_is before ends e h =
    walk_stays before part (ends ++ more) blocks first filled end new
    (subst (λ n. IsUnderWay before part (ends ++ more) blocks n new.closed first filled) (sym limit_is) (stands before ends e h)) left
    onward (subst (λ n. IsGreatestEnd part first (n - filled) end) (sym limit_is)
    (subst (λ n. IsGreatestEnd part first n end) room_is greatest)) whole load_is

pub at_ends : (part : List ℕ) (blocks : ℕ) (walk : Walk) (offset : ℕ) (more : List ℕ) (closed first filled : ℕ) (new : Walk)
    → StandsAt part blocks walk offset more closed first filled → (walk.closed ≤ blocks → closed ≡ blocks) → new.limit ≡ walk.limit
    → new.closed ≡ blocks → new.filled ≡ 0 → EndsAt part blocks walk offset more new
at_ends part blocks walk offset more closed first filled new stands closed_is limit_is same empty before ends e h =
    walk_ends before part (ends ++ more) blocks closed first filled new
    (subst (λ n. IsUnderWay before part (ends ++ more) blocks n closed first filled) (sym limit_is) (stands before ends e h)) (closed_is h.few) same empty

-- the walk stands so with some further ends, however many elements there were before
abbrev pub Stands : List ℕ → ℕ → Walk → ℕ → ℕ → ℕ → Type 0
Stands part blocks walk closed first filled =
    (offset : ℕ) → (more : List ℕ) × StandsAt part blocks walk offset more closed first filled

pub stands_closes : (part : List ℕ) (blocks : ℕ) (walk : Walk) (closed first filled room end : ℕ)
    → Stands part blocks walk closed first filled → closed < blocks → first ≤ end → IsGreatestEnd part first room end
    → room ≡ walk.limit - filled → end ≢ length part → Stands part blocks walk (closed + 1) end 0
stands_closes part blocks walk closed first filled room end stands left onward greatest room_is short offset =
    let found = stands offset in
    (found.0 ++ (offset + end) ∷ [], at_closes part blocks walk offset found.0 closed first filled room end found.1 left onward greatest room_is short)

pub stands_stays : (part : List ℕ) (blocks : ℕ) (walk : Walk) (first filled room end : ℕ) (new : Walk)
    → Stands part blocks walk new.closed first filled → new.closed < blocks → first ≤ end → IsGreatestEnd part first room end
    → room ≡ walk.limit - filled → end ≡ length part → new.limit ≡ walk.limit → new.filled ≡ filled + load part first end
    → walk.closed ≤ new.closed → (walk.filled ≤ walk.limit → filled ≤ walk.limit) → WalksOn part blocks walk new
stands_stays part blocks walk first filled room end new stands left onward greatest room_is whole limit_is load_is further within =
    record {
      limit = limit_is;
      few = omega arith;
      onward = λ _. further;
      fits = λ small. omega (arith, within small, greatest.fits, load_is);
      walked = walked;
    }
  where
    walked : (before ends : List ℕ) → IsWalked before blocks ends walk → (more : List ℕ) × IsWalked (before ++ part) blocks (ends ++ more) new
    walked before ends h =
        let found = stands (length before) in
        (found.0, at_stays part blocks walk (length before) found.0 first filled room end new found.1 left onward greatest room_is whole limit_is load_is before ends refl h)

pub stands_ends : (part : List ℕ) (blocks : ℕ) (walk : Walk) (closed first filled : ℕ) (new : Walk)
    → Stands part blocks walk closed first filled → (walk.closed ≤ blocks → closed ≡ blocks) → new.limit ≡ walk.limit → new.closed ≡ blocks
    → new.filled ≡ 0 → WalksOn part blocks walk new
stands_ends part blocks walk closed first filled new stands closed_is limit_is same empty =
    record {
      limit = limit_is;
      few = omega arith;
      onward = λ few. omega arith;
      fits = λ _. omega arith;
      walked = walked;
    }
  where
    walked : (before ends : List ℕ) → IsWalked before blocks ends walk → (more : List ℕ) × IsWalked (before ++ part) blocks (ends ++ more) new
    walked before ends h =
        let found = stands (length before) in
        (found.0, at_ends part blocks walk (length before) found.0 closed first filled new found.1 closed_is limit_is same empty before ends refl h)

-- one more of many walks
pub walks_more : (part : List ℕ) (blocks : ℕ) (old now : List Walk) (k : ℕ) (d new : Walk) → k < length now
    → ((i : ℕ) (e : Walk) → k ≤ i → get_or now i e ≡ get_or old i e)
    → ((i : ℕ) (e : Walk) → i < k → WalksOn part blocks (get_or old i e) (get_or now i e)) → WalksOn part blocks (get_or now k d) new
    → (i : ℕ) (e : Walk) → i < k + 1 → WalksOn part blocks (get_or old i e) (get_or (set now k new) i e)
walks_more part blocks old now k d new inside kept walked step i e below =
    elim (cases_lt i k) [
      | inl earlier ↦ subst (λ w. WalksOn part blocks (get_or old i e) w) (sym (get_or-set_other now k i new e (omega arith))) (walked i e earlier)
      | inr latest ↦
          let same : k ≡ i = omega arith in
          let here : WalksOn part blocks (get_or old k e) new = subst (λ w. WalksOn part blocks w new) (get_or_default now k d e inside ∙ kept k e (omega arith)) step in
          subst (λ n. WalksOn part blocks (get_or old n e) (get_or (set now k new) n e)) same
          (subst (λ w. WalksOn part blocks (get_or old k e) w) (sym (get_or-set_same now k new e inside)) here)
    ]

-- one more of the walks in three lists
pub lists_more : (part : List ℕ) (blocks : ℕ) (limits closed_old filled_old closed filled : List ℕ) (n : ℕ) (new : Walk) → n < length closed
    → n < length filled → slice_index closed n ≡ slice_index closed_old n → slice_index filled n ≡ slice_index filled_old n
    → ((k : ℕ) → k < n → WalksOn part blocks (walk_at limits closed_old filled_old k) (walk_at limits closed filled k))
    → WalksOn part blocks (walk_at limits closed filled n) new → (k : ℕ) → k < n + 1
    → WalksOn part blocks (walk_at limits closed_old filled_old k) (walk_at limits (set closed n new.closed) (set filled n new.filled) k)
lists_more part blocks limits closed_old filled_old closed filled n new in_closed in_filled closed_kept filled_kept walked step k below =
    elim (cases_lt k n) [
      | inl earlier ↦
          let one : slice_index (set closed n new.closed) k ≡ slice_index closed k = get_or-set_other closed n k new.closed 0 (omega arith) in
          let other : slice_index (set filled n new.filled) k ≡ slice_index filled k = get_or-set_other filled n k new.filled 0 (omega arith) in
          rw (one, other) (walked k earlier)
      | inr latest ↦
          let same : n ≡ k = omega arith in
          let one : slice_index (set closed n new.closed) n ≡ new.closed = get_or-set_same closed n new.closed 0 in_closed in
          let other : slice_index (set filled n new.filled) n ≡ new.filled = get_or-set_same filled n new.filled 0 in_filled in
          let begins : WalksOn part blocks (walk_at limits closed_old filled_old n) new = rw (← closed_kept, ← filled_kept) step in
          let here : WalksOn part blocks (walk_at limits closed_old filled_old n)
          (walk_at limits (set closed n new.closed) (set filled n new.filled) n) = rw (one, other)
          (subst (λ limit. WalksOn part blocks (walk_at limits closed_old filled_old n)
          (record { limit = limit; closed = new.closed; filled = new.filled })) step.limit begins) in
          subst (λ m. WalksOn part blocks (walk_at limits closed_old filled_old m) (walk_at limits (set closed n new.closed) (set filled n new.filled) m)) same here
    ]

-- a block from the last element on is empty
full_end : (xs : List ℕ) (limit : ℕ) → IsGreatestEnd xs (length xs) limit (length xs)
full_end xs limit =
    record { inside = omega arith; fits = omega (arith, load_nothing xs (length xs)); greatest = λ other within light. within }

-- the last of the ends that are filled up with the number of elements
last_padded : (ends : List ℕ) (n j all : ℕ) → length ends ≡ n + 1 → n < j → slice_index (ends ++ replicate (j - n) all) j ≡ all
last_padded ends n j all counted behind =
    get_or-append_right ends (replicate (j - n) all) (n + 1) j 0 counted (omega arith) ∙ get_or-replicate (j - n) (j - (n + 1)) all 0 (omega arith)

last_end : (xs ends : List ℕ) (blocks : ℕ) (walk : Walk) → IsWalked xs blocks ends walk → (j : ℕ) → walk.closed + j < blocks
    → IsGreatestEnd xs (slice_index (ends ++ replicate j (length xs)) (walk.closed + j)) walk.limit (length xs)
last_end xs ends blocks walk h zero inside =
    let e : walk.closed ≡ walk.closed + 0 = omega arith in
    let reaches : IsGreatestEnd xs (slice_index ends walk.closed) walk.limit (length xs) = record
    { inside = omega arith; fits = omega (arith, h.open_load (omega arith), h.fits); greatest = λ other within light. within } in
    subst (λ n. IsGreatestEnd xs (slice_index (ends ++ []) n) walk.limit (length xs)) e
    (subst (λ list. IsGreatestEnd xs (slice_index list walk.closed) walk.limit (length xs)) (sym (append-nil ends)) reaches)
last_end xs ends blocks walk h (suc j) inside =
    let e : walk.closed + suc j - walk.closed ≡ suc j = omega arith in
    let last : slice_index (ends ++ replicate (suc j) (length xs)) (walk.closed + suc j) ≡ length xs = subst
    (λ n. slice_index (ends ++ replicate n (length xs)) (walk.closed + suc j) ≡ length xs) e
    (last_padded ends walk.closed (walk.closed + suc j) (length xs) h.greedy.counted (omega arith)) in
    subst (λ n. IsGreatestEnd xs n walk.limit (length xs)) (sym last) (full_end xs walk.limit)

padded : (xs ends : List ℕ) (blocks : ℕ) (walk : Walk) → IsWalked xs blocks ends walk → (j : ℕ) → walk.closed + j ≤ blocks
    → IsGreedy xs (walk.closed + j) walk.limit (ends ++ replicate j (length xs))
padded xs ends blocks walk h zero inside =
    let e : walk.closed ≡ walk.closed + 0 = omega arith in
    subst (λ n. IsGreedy xs n walk.limit (ends ++ [])) e (subst (λ list. IsGreedy xs walk.closed walk.limit list) (sym (append-nil ends)) h.greedy)
padded xs ends blocks walk h (suc j) inside =
    let e : walk.closed + j + 1 ≡ walk.closed + suc j = omega arith in
    let more : (ends ++ replicate j (length xs)) ++ length xs ∷ [] ≡ ends
    ++ replicate (suc j) (length xs) = append_assoc ends (replicate j (length xs)) (length xs ∷ [])
    ∙ ap (λ list. ends ++ list) (replicate_more j (length xs) ∙ ap (λ n. replicate n (length xs)) (add-one j)) in
    let pushed : IsGreedy xs (walk.closed + j + 1) walk.limit ((ends ++ replicate j (length xs)) ++ length xs ∷ []) = greedy_push xs
    (walk.closed + j) walk.limit (ends ++ replicate j (length xs)) (length xs) (padded xs ends blocks walk h j (omega arith))
    (last_end xs ends blocks walk h j (omega arith)) in
    subst (λ n. IsGreedy xs n walk.limit (ends ++ replicate (suc j) (length xs))) e (subst (λ list. IsGreedy xs (walk.closed + j + 1) walk.limit list) more pushed)

-- a walk behind the last element has found the greedy ends: the blocks that it has not closed end there
pub walked_ends : (xs ends : List ℕ) (blocks : ℕ) (walk : Walk) → IsWalked xs blocks ends walk
    → IsGreedy xs blocks walk.limit (ends ++ replicate (blocks - walk.closed) (length xs))
walked_ends xs ends blocks walk h =
    let e : walk.closed + (blocks - walk.closed) ≡ blocks = omega (arith, h.few) in
    subst (λ n. IsGreedy xs n walk.limit (ends ++ replicate (blocks - walk.closed) (length xs))) e (padded xs ends blocks walk h (blocks - walk.closed) (omega (arith, h.few)))

-- and they hold all elements where a block is open
pub walked_fits : (xs ends : List ℕ) (blocks : ℕ) (walk : Walk) → IsWalked xs blocks ends walk → 1 ≤ blocks → CanFit xs blocks walk.limit ↔ (walk.closed < blocks)
walked_fits xs ends blocks walk h some = (to, from)
  where
    to : CanFit xs blocks walk.limit → walk.closed < blocks
    to fit = elim (cases_lt walk.closed blocks) [
      | inl left ↦ left
      | inr all ↦
          let e : walk.closed ≡ blocks = omega (arith, h.few) in
          let greedy : IsGreedy xs blocks walk.limit ends = subst (λ n. IsGreedy xs n walk.limit ends) e h.greedy in
          let past : slice_index ends blocks < length xs = subst (λ n. slice_index ends n < length xs) e (h.past (omega arith)) in
          absurd ((greedy_short xs blocks walk.limit ends greedy (λ full. absurd (omega (arith, full, past)))).0 fit)
    ]

    from : walk.closed < blocks → CanFit xs blocks walk.limit
    from left =
        (greedy_full xs blocks walk.limit (ends ++ replicate (blocks - walk.closed) (length xs)) (walked_ends xs ends blocks walk h)
        (last_padded ends walk.closed blocks (length xs) h.greedy.counted left)).0

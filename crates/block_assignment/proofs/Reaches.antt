-- The search backward from a block.
use Rattle.std.proofs.Common.{◌≡◌, ◌≢◌, ℕ, ◌+◌, ◌*◌, ◌<◌, inl, inr, List, length, set, slice_index, arith, ap, sym, ◌∙◌, subst}
use Rattle.std.proofs.lemmas.Bool.{cases_eq}
use Rattle.std.proofs.lemmas.List.{get_or-set_same, get_or-set_other}
use Rattle.lb_certificates.specs.Naming.{total}
use Rattle.block_assignment.specs.Least.{member, may_have, IsFound}
use Rattle.block_assignment.proofs.Coverings.{changed, changed_here, changed_apart}
use Rattle.block_assignment.proofs.LeastPes.{member_or_not}
use Rattle.block_assignment.proofs.Namings.{total_taken}

-- The search has reached the blocks that are not left, and is at block i. Some of them wait for their turn.
pub record IsSearching (takers : List (List ℕ)) (names : List ℕ) (b i : ℕ) (left waiting next : List ℕ) : Type 0 where
  pub rank : ℕ → ℕ
  pub top : ℕ
  pub here : IsFound (length takers) b left i
  pub later : (j : ℕ) → member left j ≡ 1 → (b < j) × (j < length takers)
  pub opened : (j : ℕ) → member waiting j ≡ 1 → IsFound (length takers) b left j
  pub ranks : (j : ℕ) → IsFound (length takers) b left j → rank j < top
  pub reached : (j : ℕ) → b < j → IsFound (length takers) b left j → IsFound (length takers) b left (slice_index next j)
  pub allowed : (j : ℕ) → b < j → IsFound (length takers) b left j → may_have takers j (slice_index names (slice_index next j)) ≡ 1
  pub nearer : (j : ℕ) → b < j → IsFound (length takers) b left j → rank (slice_index next j) < rank j
  pub closed : (k j : ℕ) → IsFound (length takers) b left k → member waiting k ≡ 0 → k ≢ i → b < j → j < length takers
      → may_have takers j (slice_index names k) ≡ 1 → member left j ≡ 0

-- what is left is not reached
not_both : (set : List ℕ) (j k : ℕ) → member set j ≡ 1 → member set k ≡ 0 → k ≢ j
not_both set j k one none same = absurd (omega (arith, one, none, ap (λ m. member set m) same))

pub search_starts : (takers : List (List ℕ)) (names : List ℕ) (b : ℕ) (left waiting next : List ℕ) → b < length takers
    → ((j : ℕ) → member left j ≡ 1 → (b < j) × (j < length takers)) → ((j : ℕ) → b < j → j < length takers → member left j ≡ 1)
    → ((j : ℕ) → member waiting j ≡ 0) → IsSearching takers names b b left waiting next
search_starts takers names b left waiting next inside later all none =
    record {
      rank = λ _. 0;
      top = 1;
      here = record {
        from = omega arith;
        inside = inside;
        taken = elim (member_or_not left b) [
          | inl out ↦ out
          | inr has ↦ absurd (omega (arith, (later b has).0))
        ];
      };
      later = later;
      opened = λ j waits. absurd (omega (arith, waits, none j));
      ranks = λ j _. omega arith;
      reached = λ j after at. absurd (omega (arith, at.taken, all j after at.inside));
      allowed = λ j after at. absurd (omega (arith, at.taken, all j after at.inside));
      nearer = λ j after at. absurd (omega (arith, at.taken, all j after at.inside));
      closed = λ k j at _ other _ _ _. absurd (omega (arith, at.taken, all k (omega (arith, at.from, other)) at.inside));
    }

pub search_joins : (takers : List (List ℕ)) (names : List ℕ) (b i j : ℕ) (left waiting next new_left new_waiting : List ℕ)
    → IsSearching takers names b i left waiting next → length next ≡ length takers → member left j ≡ 1
    → may_have takers j (slice_index names i) ≡ 1 → member new_left j ≡ 0 → ((k : ℕ) → k ≢ j → member new_left k ≡ member left k)
    → member new_waiting j ≡ 1 → ((k : ℕ) → k ≢ j → member new_waiting k ≡ member waiting k) → IsSearching takers names b i new_left new_waiting (set next j i)
search_joins takers names b i j left waiting next new_left new_waiting search counted left_here takes gone left_same opens waiting_same =
    record {
      rank = rank;
      top = search.top + 1;
      here = still i search.here;
      later = λ k has. search.later k (sym (left_same k (not_left k has)) ∙ has);
      opened = λ k has. elim (cases_eq k j) [
        | inl at ↦ subst (λ m. IsFound (length takers) b new_left m) (sym at) joined
        | inr other ↦ still k (search.opened k (sym (waiting_same k other) ∙ has))
      ];
      ranks = λ k at. elim (cases_eq k j) [
        | inl same ↦ omega (arith, changed_here search.rank j search.top k same)
        | inr other ↦ omega (arith, changed_apart search.rank j search.top k other, search.ranks k (before k other at))
      ];
      reached = λ k after at. elim (cases_eq k j) [
        | inl same ↦ subst (λ m. IsFound (length takers) b new_left m) (sym (next_here k same)) (still i search.here)
        | inr other ↦ subst (λ m. IsFound (length takers) b new_left m) (sym (next_other k other)) (still (slice_index next k) (search.reached k after (before k other at)))
      ];
      allowed = λ k after at. elim (cases_eq k j) [
        | inl same ↦ ap (λ m. may_have takers k (slice_index names m)) (next_here k same) ∙ ap (λ m. may_have takers m (slice_index names i)) same ∙ takes
        | inr other ↦ ap (λ m. may_have takers k (slice_index names m)) (next_other k other) ∙ search.allowed k after (before k other at)
      ];
      nearer = λ k after at. elim (cases_eq k j) [
        | inl same ↦ omega (arith, ap rank (next_here k same), changed_here search.rank j search.top k same, kept i search.here, search.ranks i search.here)
        | inr other ↦ omega (
          arith,
          ap rank (next_other k other),
          changed_apart search.rank j search.top k other,
          kept (slice_index next k) (search.reached k after (before k other at)),
          search.nearer k after (before k other at),
        )
      ];
      closed = λ k m at shut other after inside has.
          let apart : k ≢ j = λ same. absurd (omega (arith, shut, opens, ap (λ x. member new_waiting x) same)) in
          let out : member left m ≡ 0 = search.closed k m (before k apart at) (sym (waiting_same k apart) ∙ shut) other after inside has in
          left_same m (not_both left j m left_here out) ∙ out;
    }
  where
    rank : ℕ → ℕ
    rank = changed search.rank j search.top

    not_left : (k : ℕ) → member new_left k ≡ 1 → k ≢ j
    not_left k has same = absurd (omega (arith, has, gone, ap (λ m. member new_left m) same))

    apart : (k : ℕ) → IsFound (length takers) b left k → k ≢ j
    apart k at = not_both left j k left_here at.taken

    still : (k : ℕ) → IsFound (length takers) b left k → IsFound (length takers) b new_left k
    still k at = record { from = at.from; inside = at.inside; taken = left_same k (apart k at) ∙ at.taken }

    before : (k : ℕ) → k ≢ j → IsFound (length takers) b new_left k → IsFound (length takers) b left k
    before k other at = record { from = at.from; inside = at.inside; taken = sym (left_same k other) ∙ at.taken }

    joined : IsFound (length takers) b new_left j
    joined = record { from = omega (arith, (search.later j left_here).0); inside = (search.later j left_here).1; taken = gone }

    next_here : (k : ℕ) → k ≡ j → slice_index (set next j i) k ≡ i
    next_here k same = ap (λ m. slice_index (set next j i) m) same ∙ get_or-set_same next j i 0 (omega (arith, counted, (search.later j left_here).1))

    next_other : (k : ℕ) → k ≢ j → slice_index (set next j i) k ≡ slice_index next k
    next_other k other = get_or-set_other next j k i 0 other

    kept : (k : ℕ) → IsFound (length takers) b left k → rank k ≡ search.rank k
    kept k at = changed_apart search.rank j search.top k (apart k at)

-- what joins is no longer left, and waits
pub joins_less : (takers : List (List ℕ)) (names : List ℕ) (b i j : ℕ) (left waiting next new_left new_waiting : List ℕ)
    → IsSearching takers names b i left waiting next → member left j ≡ 1 → member new_left j ≡ 0
    → ((k : ℕ) → k ≢ j → member new_left k ≡ member left k) → member new_waiting j ≡ 1
    → ((k : ℕ) → k ≢ j → member new_waiting k ≡ member waiting k)
    → 2 * total (length takers) (member new_left) + total (length takers) (member new_waiting) < 2 * total (length takers)
    (member left) + total (length takers) (member waiting)
joins_less takers names b i j left waiting next new_left new_waiting search left_here gone left_same opens waiting_same =
    let inside : j < length takers = (search.later j left_here).1 in
    let shut : member waiting j ≡ 0 = elim (member_or_not waiting j) [ inl out ↦ out | inr has ↦ absurd (omega (arith, left_here, (search.opened j has).taken)) ] in
    omega (
      arith,
      total_taken (length takers) (member left) (member new_left) j inside left_here gone left_same,
      total_taken (length takers) (member new_waiting) (member waiting) j inside opens shut (λ k other. sym (waiting_same k other)),
    )

pub search_moves : (takers : List (List ℕ)) (names : List ℕ) (b i j : ℕ) (left waiting next new_waiting : List ℕ)
    → IsSearching takers names b i left waiting next → ((k : ℕ) → k < length takers → member left k ≡ 1
    → may_have takers k (slice_index names i) ≡ 0) → member waiting j ≡ 1 → ((k : ℕ) → k ≢ j → member new_waiting k ≡ member waiting k)
    → member new_waiting j ≡ 0 → IsSearching takers names b j left new_waiting next
search_moves takers names b i j left waiting next new_waiting search none waits waiting_same shut =
    record {
      rank = search.rank;
      top = search.top;
      here = search.opened j waits;
      later = search.later;
      opened = λ k has. search.opened k (sym (waiting_same k (λ same. absurd (omega (arith, has, shut, ap (λ m. member new_waiting m) same)))) ∙ has);
      ranks = search.ranks;
      reached = search.reached;
      allowed = search.allowed;
      nearer = search.nearer;
      closed = λ k m at out other after inside has. closed_at takers names b i left waiting next search none k m at (sym (waiting_same k other) ∙ out) after inside has;
    }
  where
    closed_at : (takers : List (List ℕ)) (names : List ℕ) (b i : ℕ) (left waiting next : List ℕ)
        → IsSearching takers names b i left waiting next → ((k : ℕ) → k < length takers → member left k ≡ 1
        → may_have takers k (slice_index names i) ≡ 0) → (k m : ℕ) → IsFound (length takers) b left k → member waiting k ≡ 0 → b < m
        → m < length takers → may_have takers m (slice_index names k) ≡ 1 → member left m ≡ 0
    closed_at takers names b i left waiting next search none k m at out after inside has =
        elim (cases_eq k i) [
          | inl same ↦ elim (member_or_not left m) [
            | inl gone ↦ gone
            | inr left_here ↦ absurd (omega (arith, none m inside left_here, has, ap (λ x. may_have takers m (slice_index names x)) same))
          ]
          | inr other ↦ search.closed k m at out other after inside has
        ]

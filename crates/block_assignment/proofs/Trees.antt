-- The tree of the search grows.
use Rattle.std.proofs.Common.{◌≡◌, ◌≢◌, ◌⊎◌, ℕ, ◌+◌, ◌-◌, ◌^◌, ◌<◌, ◌≤◌, ◌==◌, inl, inr, cond, suc, Bool, List, [], ◌∷◌, Some, None, ◌++◌, length, take, drop, set, slice_index, slice_index_or, arith, ap, sym, ◌∙◌, subst, refl}
use Rattle.std.proofs.lemmas.Bool.{cases_eq, cases_lt, eq-eqb, ne_eqb}
use Rattle.std.proofs.lemmas.List.{get_or-set_same, get_or-set_other}
use Rattle.std.proofs.lemmas.List.Sums.{sum_by-cons, sum_by-set}
use Rattle.std.proofs.Math.Seq.{take-append_seam}
use Rattle.block_assignment.specs.Table.{cost_at}
use Rattle.block_assignment.specs.Search.{State, IsSized, IsFree, IsMatched, IsAt, IsReached, IsTree, IsNearest, IsRelaxed, unscanned}
use Rattle.block_assignment.proofs.Coverings.{covers}
use Rattle.block_assignment.proofs.Sums.{cost_within}
use Rattle.block_assignment.proofs.Prices.{discount_small}

-- a list written over from its start to its end
pub written : {A : Type 0} (n : ℕ) (new old : List A) → length new ≡ n → take n (new ++ drop (length new) old) ≡ new
written n new old e = subst (λ k. take k (new ++ drop (length new) old) ≡ new) e (take-append_seam new (drop (length new) old))

-- the state with another tree
abbrev pub grown : State → List ℕ → List ℕ → List ℕ → State
grown s rank distance from =
    record { table = s.table; named = s.named; names = s.names; holders = s.holders; price = s.price; discount = s.discount; rank = rank; distance = distance; from = from }

-- a PE that knows no block is free
pub free_if_unheld : (s : State) (p : ℕ) → IsMatched s → slice_index_or s.holders p None ≡ None → IsFree s.named s.names p
free_if_unheld s p matched none b named here =
    let known : slice_index_or s.holders (slice_index s.names b) None ≡ Some b = matched.known b named in
    let same : slice_index_or s.holders p None ≡ Some b = subst (λ q. slice_index_or s.holders q None ≡ Some b) here known in
    cc

pub grown_sized : (s : State) (rank distance from : List ℕ) → IsSized s → length rank ≡ s.table.blocks → length distance ≡ s.table.blocks
    → length from ≡ s.table.blocks → IsSized (grown s rank distance from)
grown_sized s rank distance from sized ranks distances froms =
    record {
      is_table = sized.is_table;
      names_length = sized.names_length;
      holders_length = sized.holders_length;
      price_length = sized.price_length;
      discount_length = sized.discount_length;
      rank_length = ranks;
      distance_length = distances;
      from_length = froms;
    }

pub grown_matched : (s : State) (rank distance from : List ℕ) → IsMatched s → IsMatched (grown s rank distance from)
grown_matched s rank distance from matched =
    record { below = matched.below; apart = matched.apart; known = matched.known; held = matched.held; low = matched.low; tight = matched.tight; free = matched.free }

-- how many PEs were not scanned: all at first, and one less with each that is scanned
pub none_scanned : (rank : List ℕ) → ((p : ℕ) → p < length rank → slice_index rank p ≡ 0) → unscanned rank ≡ length rank
none_scanned [] none = refl
none_scanned (r ∷ rank) none =
    omega (
      arith,
      sum_by-cons (λ (n : ℕ). cond (n == 0) 1 0) r rank,
      ap {B = ℕ} (λ (t : Bool). cond t 1 0) (eq-eqb r 0 (none 0 (omega arith))),
      none_scanned rank (λ p inside. none (suc p) (omega (arith, inside))),
    )

pub one_scanned : (rank : List ℕ) (p next : ℕ) → p < length rank → slice_index rank p ≡ 0 → 0 < next → unscanned (set rank p next) + 1 ≡ unscanned rank
one_scanned rank p next inside none some =
    omega (
      arith,
      sum_by-set (λ (n : ℕ). cond (n == 0) 1 0) rank p next 0 inside,
      ap {B = ℕ} (λ (t : Bool). cond t 1 0) (eq-eqb (slice_index rank p) 0 none),
      ap {B = ℕ} (λ (t : Bool). cond t 1 0) (ne_eqb next 0 (λ e. absurd (omega (arith, e, some)))),
    )

-- ---- a tree of one block

pub record StartsTree (s : State) (rank most old_from distance from : List ℕ) : Type 0 where
  pub unranked : (p : ℕ) → p < s.table.blocks → slice_index rank p ≡ 0
  pub far : (p : ℕ) → p < s.table.blocks → slice_index most p ≡ 2 ^ 64 - 1
  pub relaxed : (p : ℕ) → p < s.table.blocks → IsRelaxed 0 (cost_at s.table s.named p) (slice_index s.price s.named)
      (slice_index s.discount p) s.named (slice_index most p) (slice_index old_from p) (slice_index distance p) (slice_index from p)

pub started_tree : (s : State) (rank most old_from distance from : List ℕ) → IsSized s → IsMatched s → s.named < s.table.blocks
    → StartsTree s rank most old_from distance from → IsTree 1 (grown s rank distance from)
started_tree s rank most old_from distance from sized matched unnamed starts_tree =
    record {
      some = omega arith;
      ranks = λ p inside. omega (arith, starts_tree.unranked p inside);
      held = λ p inside scanned. absurd (omega (arith, scanned, starts_tree.unranked p inside));
      reached = reached;
      least = least;
      nearer = λ p q inside other scanned not_yet. absurd (omega (arith, scanned, starts_tree.unranked p inside));
      earlier = λ p inside scanned named. absurd (omega (arith, scanned, starts_tree.unranked p inside));
    }
  where
    by_root : (p : ℕ) → p < s.table.blocks → (slice_index distance p + slice_index s.price s.named ≡ 0 + cost_at s.table s.named
        p + slice_index s.discount p) × (slice_index from p ≡ s.named)
    by_root p inside =
        elim (starts_tree.relaxed p inside).which [
          | inl kept ↦ absurd (omega (
            arith,
            kept.0,
            starts_tree.far p inside,
            (starts_tree.relaxed p inside).for_block,
            cost_within s.table s.named p sized.is_table unnamed inside,
            discount_small s sized.is_table matched unnamed p inside,
          ))
          | inr less ↦ (less.1, less.2)
        ]

    reached : (p : ℕ) → p < s.table.blocks → IsReached (grown s rank distance from) p
    reached p inside = record {
      far = 0;
      joined = inl ((by_root p inside).1, refl);
      exact = subst (λ b. slice_index distance p + slice_index s.price b ≡ 0 + cost_at s.table b p + slice_index s.discount p) (sym (by_root p inside).1) (by_root p inside).0;
    }

    least : (b far p : ℕ) → IsAt (grown s rank distance from) b far → p < s.table.blocks
        → slice_index distance p + slice_index s.price b ≤ far + cost_at s.table b p + slice_index s.discount p
    least b far p at inside =
        elim at [
          | inl root ↦ subst (λ k. slice_index distance p + slice_index s.price k ≤ far + cost_at s.table k p + slice_index s.discount p)
              (sym root.0) (omega (arith, (by_root p inside).0))
          | inr joined ↦ absurd (omega (arith, joined.1, starts_tree.unranked (slice_index s.names b) (matched.below b joined.0)))
        ]

-- ---- a block joins

pub record Joins (s : State) (b pe : ℕ) : Type 0 where
  pub inside : s.named < s.table.blocks
  pub nearest : IsNearest s.rank s.distance s.table.blocks pe
  pub held : slice_index_or s.holders pe None ≡ Some b

abbrev pub Relaxed : State → ℕ → List ℕ → ℕ → List ℕ → List ℕ → Type 0
Relaxed s far rank b distance from =
    (p : ℕ) → p < s.table.blocks → slice_index rank p ≡ 0
    → IsRelaxed far (cost_at s.table b p) (slice_index s.price b) (slice_index s.discount p) b (slice_index s.distance p)
    (slice_index s.from p) (slice_index distance p) (slice_index from p)

-- what was scanned stays as it is
pub record Kept (s : State) (rank distance from : List ℕ) : Type 0 where
  pub distances : (p : ℕ) → 0 < slice_index rank p → slice_index distance p ≡ slice_index s.distance p
  pub froms : (p : ℕ) → 0 < slice_index rank p → slice_index from p ≡ slice_index s.from p

pub grown_tree : (next : ℕ) (s : State) (b pe : ℕ) (distance from : List ℕ) → IsSized s → IsMatched s → IsTree next s → Joins s b pe
    → Relaxed s (slice_index s.distance pe) (set s.rank pe next) b distance from → Kept s (set s.rank pe next) distance from
    → IsTree (next + 1) (grown s (set s.rank pe next) distance from)
grown_tree next s b pe distance from sized matched tree joins relaxed kept =
    record {
      some = omega arith;
      ranks = ranks;
      held = held;
      reached = reached;
      least = least;
      nearer = nearer;
      earlier = earlier;
    }
  where
    block : (b < s.named) × (slice_index s.names b ≡ pe)
    block = matched.held pe b joins.nearest.inside joins.held

    rank_here : slice_index (set s.rank pe next) pe ≡ next
    rank_here = get_or-set_same s.rank pe next 0 (omega (arith, sized.rank_length, joins.nearest.inside))

    rank_at : (p : ℕ) → p ≡ pe → slice_index (set s.rank pe next) p ≡ next
    rank_at p here = ap (λ q. slice_index (set s.rank pe next) q) here ∙ rank_here

    rank_other : (p : ℕ) → p ≢ pe → slice_index (set s.rank pe next) p ≡ slice_index s.rank p
    rank_other p other = get_or-set_other s.rank pe p next 0 other

    -- PEs that were scanned before keep their ranks
    rank_kept : (p : ℕ) → 0 < slice_index s.rank p → slice_index (set s.rank pe next) p ≡ slice_index s.rank p
    rank_kept p before = rank_other p (λ e. absurd (omega (arith, before, joins.nearest.apart, ap (λ q. slice_index s.rank q) e)))

    still : (p : ℕ) → 0 < slice_index s.rank p → 0 < slice_index (set s.rank pe next) p
    still p before = omega (arith, before, rank_kept p before)

    -- and were not scanned before if they are not now
    not_before : (p : ℕ) → slice_index (set s.rank pe next) p ≡ 0 → slice_index s.rank p ≡ 0
    not_before p none =
        elim (cases_lt 0 (slice_index s.rank p)) [
          | inl before ↦ absurd (omega (arith, none, still p before))
          | inr never ↦ omega arith
        ]

    -- blocks that joined before stand where they stood
    at_before : (k far : ℕ) → IsAt s k far → IsAt (grown s (set s.rank pe next) distance from) k far
    at_before k far at =
        elim at [
          | inl root ↦ inl root
          | inr joined ↦ inr (joined.0, still (slice_index s.names k) joined.1, joined.2 ∙ sym (kept.distances (slice_index s.names k) (still (slice_index s.names k) joined.1)))
        ]

    -- the block stands as far as its PE
    at_here : IsAt (grown s (set s.rank pe next) distance from) b (slice_index s.distance pe)
    at_here =
        let scanned : 0 < slice_index (set s.rank pe next) (slice_index s.names b) = omega (arith, rank_at (slice_index s.names b) block.1, tree.some) in
        inr (block.0, scanned, ap (λ q. slice_index s.distance q) (sym block.1) ∙ sym (kept.distances (slice_index s.names b) scanned))

    -- no block stands in the tree but these
    at_one : (k far : ℕ) → IsAt (grown s (set s.rank pe next) distance from) k far → IsAt s k far ⊎ ((k ≡ b) × (far ≡ slice_index s.distance pe))
    at_one k far at =
        elim at [
          | inl root ↦ inl (inl root)
          | inr joined ↦ elim (cases_eq (slice_index s.names k) pe) [
            | inl here ↦ inr (only_holder k joined.0 here, joined.2 ∙ kept.distances (slice_index s.names k) joined.1 ∙ ap (λ q. slice_index s.distance q) here)
            | inr other ↦ inl (inr (joined.0, omega (arith, joined.1, rank_other (slice_index s.names k) other), joined.2 ∙ kept.distances (slice_index s.names k) joined.1))
          ]
        ]
      where
        only_holder : (k : ℕ) → k < s.named → slice_index s.names k ≡ pe → k ≡ b
        only_holder k named here =
            let known : slice_index_or s.holders pe None ≡ Some k = subst (λ q. slice_index_or s.holders q None ≡ Some k) here (matched.known k named) in
            let held : slice_index_or s.holders pe None ≡ Some b = joins.held in
            cc

    ranks : (p : ℕ) → p < s.table.blocks → slice_index (set s.rank pe next) p < next + 1
    ranks p inside =
        elim (cases_eq p pe) [
          | inl here ↦ omega (arith, rank_at p here)
          | inr other ↦ omega (arith, rank_other p other, tree.ranks p inside)
        ]

    held : (p : ℕ) → p < s.table.blocks → 0 < slice_index (set s.rank pe next) p → (k : ℕ) × (k < s.named) × (slice_index s.names k ≡ p)
    held p inside scanned =
        elim (cases_eq p pe) [
          | inl here ↦ (b, block.0, block.1 ∙ sym here)
          | inr other ↦ tree.held p inside (omega (arith, scanned, rank_other p other))
        ]

    reached : (p : ℕ) → p < s.table.blocks → IsReached (grown s (set s.rank pe next) distance from) p
    reached p inside =
        elim (cases_lt 0 (slice_index (set s.rank pe next) p)) [
          | inl scanned ↦ as_before (kept.distances p scanned) (kept.froms p scanned)
          | inr not_yet ↦ elim (relaxed p inside (omega arith)).which [
            | inl same ↦ as_before same.0 same.1
            | inr less ↦ record {
              far = slice_index s.distance pe;
              joined = subst (λ k. IsAt (grown s (set s.rank pe next) distance from) k (slice_index s.distance pe)) (sym less.2) at_here;
              exact = subst (λ k. slice_index distance p + slice_index s.price k ≡ slice_index s.distance pe + cost_at s.table k p + slice_index s.discount p) (sym less.2) less.1;
            }
          ]
        ]
      where
        old : IsReached s p
        old = tree.reached p inside

        as_before : slice_index distance p ≡ slice_index s.distance p → slice_index from p ≡ slice_index s.from p → IsReached (grown s (set s.rank pe next) distance from) p
        as_before far_same from_same = record {
          far = old.far;
          joined = subst (λ k. IsAt (grown s (set s.rank pe next) distance from) k old.far) (sym from_same) (at_before (slice_index s.from p) old.far old.joined);
          exact = subst (λ k. slice_index distance p + slice_index s.price k ≡ old.far + cost_at s.table k p + slice_index s.discount p)
              (sym from_same) (omega (arith, far_same, old.exact));
        }

    no_farther : (p : ℕ) → p < s.table.blocks → slice_index distance p ≤ slice_index s.distance p
    no_farther p inside =
        elim (cases_lt 0 (slice_index (set s.rank pe next) p)) [
          | inl scanned ↦ omega (arith, kept.distances p scanned)
          | inr not_yet ↦ (relaxed p inside (omega arith)).no_more
        ]

    -- PEs that were scanned before are no farther than the one that is scanned now
    up_to_here : (p : ℕ) → p < s.table.blocks → 0 < slice_index (set s.rank pe next) p → slice_index s.distance p ≤ slice_index s.distance pe
    up_to_here p inside scanned =
        elim (cases_eq p pe) [
          | inl here ↦ omega (arith, ap (λ q. slice_index s.distance q) here)
          | inr other ↦ tree.nearer p pe inside joins.nearest.inside (omega (arith, scanned, rank_other p other)) joins.nearest.apart
        ]

    least : (k far p : ℕ) → IsAt (grown s (set s.rank pe next) distance from) k far → p < s.table.blocks
        → slice_index distance p + slice_index s.price k ≤ far + cost_at s.table k p + slice_index s.discount p
    least k far p at inside =
        elim (at_one k far at) [
          | inl before ↦ omega (arith, no_farther p inside, tree.least k far p before inside)
          | inr joined ↦ subst (λ n. slice_index distance p + slice_index s.price n ≤ far + cost_at s.table n p + slice_index s.discount p)
              (sym joined.0) (omega (arith, joined.1, by_block))
        ]
      where
        by_block : slice_index distance p + slice_index s.price b ≤ slice_index s.distance pe + cost_at s.table b p + slice_index s.discount p
        by_block =
            elim (cases_lt 0 (slice_index (set s.rank pe next) p)) [
              | inl scanned ↦ omega (arith, kept.distances p scanned, up_to_here p inside scanned, matched.low b p (omega (arith, block.0, joins.inside)) inside)
              | inr not_yet ↦ (relaxed p inside (omega arith)).for_block
            ]

    nearer : (p q : ℕ) → p < s.table.blocks → q < s.table.blocks → 0 < slice_index (set s.rank pe next) p
        → slice_index (set s.rank pe next) q ≡ 0 → slice_index distance p ≤ slice_index distance q
    nearer p q inside other scanned not_yet =
        elim (relaxed q other not_yet).which [
          | inl same ↦ omega (arith, kept.distances p scanned, same.0, up_to_here p inside scanned, joins.nearest.least q other (not_before q not_yet))
          | inr less ↦ omega (arith, kept.distances p scanned, up_to_here p inside scanned, less.1, matched.low b q (omega (arith, block.0, joins.inside)) other)
        ]

    earlier : (p : ℕ) → p < s.table.blocks → 0 < slice_index (set s.rank pe next) p → slice_index from p < s.named
        → slice_index (set s.rank pe next) (slice_index s.names (slice_index from p)) < slice_index (set s.rank pe next) p
    earlier p inside scanned named =
        let same : slice_index from p ≡ slice_index s.from p = kept.froms p scanned in
        subst (λ f. slice_index (set s.rank pe next) (slice_index s.names f) < slice_index (set s.rank pe next) p) (sym same) (before (omega (arith, same, named)))
      where
        joined_before : slice_index s.from p < s.named → 0 < slice_index s.rank (slice_index s.names (slice_index s.from p))
        joined_before named =
            elim (tree.reached p inside).joined [
              | inl root ↦ absurd (omega (arith, root.0, named))
              | inr joined ↦ joined.1
            ]

        before : slice_index s.from p < s.named → slice_index (set s.rank pe next) (slice_index s.names (slice_index s.from p)) < slice_index (set s.rank pe next) p
        before named =
            let q : ℕ = slice_index s.names (slice_index s.from p) in
            elim (cases_eq p pe) [
              | inl here ↦ omega (arith, rank_at p here, rank_kept q (joined_before named), tree.ranks q (matched.below (slice_index s.from p) named))
              | inr other ↦ omega (arith, rank_other p other, rank_kept q (joined_before named), tree.earlier p inside (omega (arith, scanned, rank_other p other)) named)
            ]

-- the tree has not scanned all PEs, since each that it scanned is held by a block
pub not_all_scanned : (next : ℕ) (s : State) → IsTree next s → s.named < s.table.blocks → ((p : ℕ) → p < s.table.blocks → 0 < slice_index s.rank p) → ⊥
not_all_scanned next s tree fewer all =
    absurd (omega (arith, fewer, covers s.table.blocks s.named (λ b. slice_index s.names b) (λ p inside. tree.held p inside (all p inside))))

-- The prices are changed once, when the tree has reached a free PE.
use Rattle.std.proofs.Common.{◌≡◌, ◌≢◌, ◌⊎◌, ℕ, ◌+◌, ◌^◌, ◌<◌, ◌≤◌, inl, inr, List, None, length, take, set, slice_index, slice_index_or, arith, ap, sym, ◌∙◌, subst, refl}
use Rattle.std.proofs.lemmas.Bool.{cases_eq, cases_lt}
use Rattle.std.proofs.lemmas.List.{get_or-set_same, get_or-set_other, get_or-take, length-take, length-set}
use Rattle.block_assignment.specs.Table.{cost_at}
use Rattle.block_assignment.specs.Search.{State, IsSized, IsFree, IsMatched, IsAt, IsReached, IsTree, IsPath, IsNearest, IsRaised}
use Rattle.block_assignment.proofs.Prices.{prices_small, discount_small, distance_small}
use Rattle.block_assignment.proofs.Trees.{free_if_unheld}

abbrev pub repriced : State → List ℕ → List ℕ → List ℕ → State
repriced s rank price discount =
    record { table = s.table; named = s.named; names = s.names; holders = s.holders; price = price; discount = discount; rank = rank; distance = s.distance; from = s.from }

-- the nearest PE is free, and was scanned with the next rank
pub record Reprices (next : ℕ) (s : State) (pe : ℕ) (price discount : List ℕ) : Type 0 where
  pub inside : s.named < s.table.blocks
  pub nearest : IsNearest s.rank s.distance s.table.blocks pe
  pub free : slice_index_or s.holders pe None ≡ None
  pub root : slice_index price s.named ≡ slice_index s.price s.named + slice_index s.distance pe
  pub joined : (b : ℕ) → b < s.named → IsRaised (slice_index (set s.rank pe next) (slice_index s.names b))
      (slice_index s.distance (slice_index s.names b)) (slice_index s.distance pe) (slice_index s.price b) (slice_index price b)
  pub later : (b : ℕ) → s.named < b → slice_index price b ≡ slice_index s.price b
  pub pes : (p : ℕ) → p < s.table.blocks → IsRaised (slice_index (set s.rank pe next) p) (slice_index s.distance p)
      (slice_index s.distance pe) (slice_index s.discount p) (slice_index discount p)

-- no PE that was scanned is farther than the nearest
pub none_farther : (next : ℕ) (s : State) (pe : ℕ) → IsTree next s → IsNearest s.rank s.distance s.table.blocks pe → (p : ℕ)
    → p < s.table.blocks → 0 < slice_index (set s.rank pe next) p → slice_index s.distance p ≤ slice_index s.distance pe
none_farther next s pe tree nearest p inside scanned =
    elim (cases_eq p pe) [
      | inl here ↦ omega (arith, ap (λ q. slice_index s.distance q) here)
      | inr other ↦ tree.nearer p pe inside nearest.inside (omega (arith, scanned, get_or-set_other s.rank pe p next 0 other)) nearest.apart
    ]

-- the price of a block of the tree then
price_then : (next : ℕ) (s : State) (pe : ℕ) (price discount : List ℕ) → IsSized s → IsMatched s → IsTree next s
    → Reprices next s pe price discount → (b far : ℕ) → IsAt s b far → slice_index price b + far ≡ slice_index s.price b + slice_index s.distance pe
price_then next s pe price discount sized matched tree new b far at =
    elim at [
      | inl root ↦ subst (λ k. slice_index price k + far ≡ slice_index s.price k + slice_index s.distance pe) (sym root.0) (omega (arith, root.1, new.root))
      | inr joined ↦
          let q : ℕ = slice_index s.names b in
          let other : q ≢ pe = λ e. absurd (omega (arith, joined.1, new.nearest.apart, ap (λ p. slice_index s.rank p) e)) in
          omega (arith, joined.2, (new.joined b joined.0).in_tree (omega (arith, joined.1, get_or-set_other s.rank pe q next 0 other)))
    ]

-- a block is in the tree, or keeps its price
in_tree_or_not : (next : ℕ) (s : State) (pe : ℕ) (price discount : List ℕ) → IsMatched s → Reprices next s pe price discount → (b : ℕ)
    → ((far : ℕ) × IsAt s b far) ⊎ (slice_index price b ≡ slice_index s.price b)
in_tree_or_not next s pe price discount matched new b =
    elim (cases_eq b s.named) [
      | inl root ↦ inl (0, inl (root, refl))
      | inr other ↦ elim (cases_lt b s.named) [
        | inl named ↦ elim (cases_lt 0 (slice_index s.rank (slice_index s.names b))) [
          | inl scanned ↦ inl (slice_index s.distance (slice_index s.names b), inr (named, scanned, refl))
          | inr not_yet ↦
              let apart : slice_index s.names b ≢ pe = λ e. free_if_unheld s pe matched new.free b named e in
              inr ((new.joined b named).outside (omega (arith, not_yet, get_or-set_other s.rank pe (slice_index s.names b) next 0 apart)))
        ]
        | inr past ↦ inr (new.later b (omega arith))
      ]
    ]

pub repriced_matched : (next : ℕ) (s : State) (pe : ℕ) (price discount : List ℕ) → IsSized s → IsMatched s → IsTree next s
    → Reprices next s pe price discount → IsMatched (repriced s (set s.rank pe next) price discount)
repriced_matched next s pe price discount sized matched tree new =
    record {
      below = matched.below;
      apart = matched.apart;
      known = matched.known;
      held = matched.held;
      low = low;
      tight = tight;
      free = free;
    }
  where
    none_gives_less : (p : ℕ) → p < s.table.blocks → slice_index s.discount p ≤ slice_index discount p
    none_gives_less p inside =
        elim (cases_lt 0 (slice_index (set s.rank pe next) p)) [
          | inl scanned ↦ omega (arith, (new.pes p inside).in_tree scanned, none_farther next s pe tree new.nearest p inside scanned)
          | inr not_yet ↦ omega (arith, (new.pes p inside).outside (omega arith))
        ]

    low : (b p : ℕ) → b < s.table.blocks → p < s.table.blocks → slice_index price b ≤ cost_at s.table b p + slice_index discount p
    low b p block inside =
        elim (in_tree_or_not next s pe price discount matched new b) [
          | inr outside ↦ omega (arith, outside, matched.low b p block inside, none_gives_less p inside)
          | inl at ↦ elim (cases_lt 0 (slice_index (set s.rank pe next) p)) [
            | inl scanned ↦ omega (
              arith,
              tree.least b at.0 p at.1 inside,
              price_then next s pe price discount sized matched tree new b at.0 at.1,
              (new.pes p inside).in_tree scanned,
            )
            | inr not_yet ↦
                let other : p ≢ pe = λ e. absurd (omega (
                  arith,
                  not_yet,
                  tree.some,
                  ap (λ q. slice_index (set s.rank pe next) q) e,
                  get_or-set_same s.rank pe next 0 (omega (arith, sized.rank_length, new.nearest.inside)),
                )) in
                let before : slice_index s.rank p ≡ 0 = omega (arith, not_yet, get_or-set_other s.rank pe p next 0 other) in
                omega (
                  arith,
                  tree.least b at.0 p at.1 inside,
                  price_then next s pe price discount sized matched tree new b at.0 at.1,
                  (new.pes p inside).outside (omega arith),
                  new.nearest.least p inside before,
                )
          ]
        ]

    tight : (b : ℕ) → b < s.named → slice_index price b ≡ cost_at s.table b (slice_index s.names b) + slice_index discount (slice_index s.names b)
    tight b named =
        let p : ℕ = slice_index s.names b in
        elim (cases_lt 0 (slice_index (set s.rank pe next) p)) [
          | inl scanned ↦ omega (
            arith,
            matched.tight b named,
            (new.joined b named).in_tree scanned,
            (new.pes p (matched.below b named)).in_tree scanned,
            none_farther next s pe tree new.nearest p (matched.below b named) scanned,
          )
          | inr not_yet ↦ omega (arith, matched.tight b named, (new.joined b named).outside (omega arith), (new.pes p (matched.below b named)).outside (omega arith))
        ]

    free : (p : ℕ) → p < s.table.blocks → IsFree s.named s.names p → slice_index discount p ≡ 0
    free p inside is_free =
        elim (cases_eq p pe) [
          | inl here ↦
              let rank_here : slice_index (set s.rank pe next) p ≡ next = ap (λ q. slice_index (set s.rank pe next) q) here
              ∙ get_or-set_same s.rank pe next 0 (omega (arith, sized.rank_length, new.nearest.inside)) in
              omega (arith, matched.free p inside is_free, (new.pes p inside).in_tree (omega (arith, rank_here, tree.some)), ap (λ q. slice_index s.distance q) here)
          | inr other ↦ elim (cases_lt 0 (slice_index (set s.rank pe next) p)) [
            | inl scanned ↦ let held = tree.held p inside (omega (arith, scanned, get_or-set_other s.rank pe p next 0 other)) in absurd (is_free held.0 held.1 held.2)
            | inr not_yet ↦ omega (arith, matched.free p inside is_free, (new.pes p inside).outside (omega arith))
          ]
        ]

pub repriced_path : (next : ℕ) (s : State) (pe : ℕ) (price discount : List ℕ) → IsSized s → IsMatched s → IsTree next s
    → Reprices next s pe price discount → IsPath (repriced s (set s.rank pe next) price discount)
repriced_path next s pe price discount sized matched tree new =
    record {
      joined = joined;
      reduced_zero = reduced_zero;
      scanned = scanned;
      earlier = earlier;
    }
  where
    joined : (p : ℕ) → p < s.table.blocks → 0 < slice_index (set s.rank pe next) p → slice_index s.from p ≤ s.named
    joined p inside before =
        elim (tree.reached p inside).joined [
          | inl root ↦ omega (arith, root.0)
          | inr block ↦ omega (arith, block.0)
        ]

    reduced_zero : (p : ℕ) → p < s.table.blocks → 0 < slice_index (set s.rank pe next) p
        → slice_index price (slice_index s.from p) ≡ cost_at s.table (slice_index s.from p) p + slice_index discount p
    reduced_zero p inside before =
        let way : IsReached s p = tree.reached p inside in
        omega (
          arith,
          way.exact,
          price_then next s pe price discount sized matched tree new (slice_index s.from p) way.far way.joined,
          (new.pes p inside).in_tree before,
          none_farther next s pe tree new.nearest p inside before,
        )

    -- a block before a PE holds one that was scanned before
    of_before : (p : ℕ) → p < s.table.blocks → slice_index s.from p < s.named → 0 < slice_index s.rank (slice_index s.names (slice_index s.from p))
    of_before p inside named =
        elim (tree.reached p inside).joined [
          | inl root ↦ absurd (omega (arith, root.0, named))
          | inr block ↦ block.1
        ]

    rank_kept : (q : ℕ) → 0 < slice_index s.rank q → slice_index (set s.rank pe next) q ≡ slice_index s.rank q
    rank_kept q before = get_or-set_other s.rank pe q next 0 (λ e. absurd (omega (arith, before, new.nearest.apart, ap (λ p. slice_index s.rank p) e)))

    scanned : (p : ℕ) → p < s.table.blocks → 0 < slice_index (set s.rank pe next) p → slice_index s.from p < s.named
        → 0 < slice_index (set s.rank pe next) (slice_index s.names (slice_index s.from p))
    scanned p inside before named =
        omega (arith, of_before p inside named, rank_kept (slice_index s.names (slice_index s.from p)) (of_before p inside named))

    earlier : (p : ℕ) → p < s.table.blocks → 0 < slice_index (set s.rank pe next) p → slice_index s.from p < s.named
        → slice_index (set s.rank pe next) (slice_index s.names (slice_index s.from p)) < slice_index (set s.rank pe next) p
    earlier p inside before named =
        let q : ℕ = slice_index s.names (slice_index s.from p) in
        elim (cases_eq p pe) [
          | inl here ↦
              let rank_here : slice_index (set s.rank pe next) p ≡ next = ap (λ r. slice_index (set s.rank pe next) r) here
              ∙ get_or-set_same s.rank pe next 0 (omega (arith, sized.rank_length, new.nearest.inside)) in
              omega (arith, rank_here, rank_kept q (of_before p inside named), tree.ranks q (matched.below (slice_index s.from p) named))
          | inr other ↦ omega (
            arith,
            rank_kept q (of_before p inside named),
            get_or-set_other s.rank pe p next 0 other,
            tree.earlier p inside (omega (arith, before, get_or-set_other s.rank pe p next 0 other)) named,
          )
        ]

-- the prices are to be changed, since the nearest PE is free
pub record IsRaising (next : ℕ) (s : State) (pe : ℕ) : Type 0 where
  pub sized : IsSized s
  pub matched : IsMatched s
  pub tree : IsTree next s
  pub unnamed : s.named < s.table.blocks
  pub near : IsNearest s.rank s.distance s.table.blocks pe
  pub free : slice_index_or s.holders pe None ≡ None
  pub in_rank : pe < length s.rank
  pub in_distance : pe < length s.distance
  pub firsts : length (take s.named s.names) ≡ s.named

pub raising : (next : ℕ) (s old : State) (pe : ℕ) → s ≡ old → IsSized old → IsMatched old → IsTree next old → old.named < old.table.blocks
    → IsNearest old.rank old.distance old.table.blocks pe → slice_index_or old.holders pe None ≡ None → IsRaising next s pe
raising next s old pe same sized matched tree unnamed near free =
    subst (λ z. IsRaising next z pe) (sym same) (record {
      sized = sized;
      matched = matched;
      tree = tree;
      unnamed = unnamed;
      near = near;
      free = free;
      in_rank = omega (arith, near.inside, sized.rank_length);
      in_distance = omega (arith, near.inside, sized.distance_length);
      firsts = omega (arith, length-take old.named old.names, sized.names_length, unnamed);
    })

-- prices stay far below 2^64
pub raised_price : (next : ℕ) (s : State) (pe reach : ℕ) → IsRaising next s pe → reach ≡ slice_index s.distance pe → (b : ℕ)
    → b < length s.price → slice_index s.price b + reach < 2 ^ 64
raised_price next s pe reach r read b inside =
    omega (
      arith,
      read,
      distance_small next s r.sized.is_table r.matched r.tree r.unnamed pe r.near.inside,
      prices_small s r.sized.is_table r.matched r.unnamed b (omega (arith, inside, r.sized.price_length)),
    )

pub raised_discount : (next : ℕ) (s : State) (pe reach : ℕ) → IsRaising next s pe → reach ≡ slice_index s.distance pe → (p : ℕ)
    → p < length s.discount → slice_index s.discount p + reach < 2 ^ 64
raised_discount next s pe reach r read p inside =
    omega (
      arith,
      read,
      distance_small next s r.sized.is_table r.matched r.tree r.unnamed pe r.near.inside,
      discount_small s r.sized.is_table r.matched r.unnamed p (omega (arith, inside, r.sized.discount_length)),
    )

-- PEs of named blocks are below the number of PEs, and those that were scanned no farther than the nearest
pub names_below : (next : ℕ) (s : State) (pe : ℕ) → IsRaising next s pe → (b : ℕ) → b < length (take s.named s.names)
    → slice_index (take s.named s.names) b < length (set s.rank pe next)
names_below next s pe r b inside =
    let named : b < s.named = omega (arith, inside, r.firsts) in
    omega (arith, get_or-take s.named s.names b 0 named, r.matched.below b named, length-set s.rank pe next, r.sized.rank_length)

pub none_past : (next : ℕ) (s : State) (pe reach : ℕ) → IsRaising next s pe → reach ≡ slice_index s.distance pe → (p : ℕ)
    → p < length (set s.rank pe next) → 0 < slice_index (set s.rank pe next) p → slice_index s.distance p ≤ reach
none_past next s pe reach r read p inside scanned =
    omega (arith, read, none_farther next s pe r.tree r.near p (omega (arith, inside, length-set s.rank pe next, r.sized.rank_length)) scanned)

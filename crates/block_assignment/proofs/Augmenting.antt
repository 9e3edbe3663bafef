-- Augmenting: each block on the path to a free PE takes the next PE on it.
use Rattle.std.proofs.Common.{◌≡◌, ◌≢◌, ℕ, ◌+◌, ◌<◌, ◌≤◌, inl, inr, List, Option, Some, None, length, set, slice_index, slice_index_or, arith, ap, sym, ◌∙◌, subst, refl}
use Rattle.std.proofs.lemmas.Bool.{cases_eq, cases_lt}
use Rattle.std.proofs.lemmas.List.{get_or-set_same, get_or-set_other, length-set}
use Rattle.block_assignment.specs.Table.{cost_at}
use Rattle.block_assignment.specs.Search.{State, IsSized, IsFree, IsMatched, IsPath}
use Rattle.block_assignment.proofs.Trees.{free_if_unheld}

abbrev pub renamed : State → ℕ → List ℕ → List (Option ℕ) → State
renamed s named names holders =
    record { table = s.table; named = named; names = names; holders = holders; price = s.price; discount = s.discount; rank = s.rank; distance = s.distance; from = s.from }

-- A PE that no block holds is to be given to the block before it. Blocks whose PEs were scanned before it have the
-- names with which the walk began.
pub record IsAugmenting (s : State) (names : List ℕ) (holders : List (Option ℕ)) (pe : ℕ) : Type 0 where
  pub names_length : length names ≡ s.table.blocks
  pub holders_length : length holders ≡ s.table.blocks
  pub below : (b : ℕ) → b < s.named → slice_index names b < s.table.blocks
  pub apart : (a b : ℕ) → a < b → b < s.named → slice_index names a ≢ slice_index names b
  pub known : (b : ℕ) → b < s.named → slice_index_or holders (slice_index names b) None ≡ Some b
  pub held : (p b : ℕ) → p < s.table.blocks → p ≢ pe → slice_index_or holders p None ≡ Some b → (b < s.named) × (slice_index names b ≡ p)
  pub tight : (b : ℕ) → b < s.named → slice_index s.price b ≡ cost_at s.table b (slice_index names b) + slice_index s.discount (slice_index names b)
  pub free : (p : ℕ) → p < s.table.blocks → IsFree s.named names p → p ≢ pe → slice_index s.discount p ≡ 0
  pub inside : pe < s.table.blocks
  pub not_held : IsFree s.named names pe
  pub scanned : 0 < slice_index s.rank pe
  pub kept : (b : ℕ) → b < s.named → slice_index s.rank (slice_index s.names b) < slice_index s.rank pe → slice_index names b ≡ slice_index s.names b

pub augmenting_starts : (s : State) (free : ℕ) → IsSized s → IsMatched s → free < s.table.blocks → slice_index_or s.holders free None ≡ None
    → 0 < slice_index s.rank free → IsAugmenting s s.names s.holders free
augmenting_starts s free sized matched inside unheld scanned =
    record {
      names_length = sized.names_length;
      holders_length = sized.holders_length;
      below = matched.below;
      apart = matched.apart;
      known = matched.known;
      held = λ p b within other is. matched.held p b within is;
      tight = matched.tight;
      free = λ p within other _. matched.free p within other;
      inside = inside;
      not_held = free_if_unheld s free matched unheld;
      scanned = scanned;
      kept = λ b named before. refl;
    }

-- the PE that the block held before is the next, and was scanned earlier
pub next_earlier : (s : State) (names : List ℕ) (holders : List (Option ℕ)) (pe b : ℕ) → IsPath s → IsAugmenting s names holders pe
    → b ≡ slice_index s.from pe → b < s.named → (slice_index names b ≡ slice_index s.names b)
    × (slice_index s.rank (slice_index names b) < slice_index s.rank pe) × (0 < slice_index s.rank (slice_index names b))
next_earlier s names holders pe b path augmenting e named =
    let before : slice_index s.from pe < s.named = omega (arith, e, named) in
    let less : slice_index s.rank (slice_index s.names b) < slice_index s.rank pe = subst
    (λ k. slice_index s.rank (slice_index s.names k) < slice_index s.rank pe) (sym e) (path.earlier pe augmenting.inside augmenting.scanned before) in
    let some : 0 < slice_index s.rank (slice_index s.names b) = subst (λ k. 0 < slice_index s.rank (slice_index s.names k)) (sym e)
    (path.scanned pe augmenting.inside augmenting.scanned before) in
    let same : slice_index names b ≡ slice_index s.names b = augmenting.kept b named less in
    (same, subst (λ q. slice_index s.rank q < slice_index s.rank pe) (sym same) less, subst (λ q. 0 < slice_index s.rank q) (sym same) some)

-- the price of the block before a PE
before_price : (s : State) (names : List ℕ) (holders : List (Option ℕ)) (pe b : ℕ) → IsPath s → IsAugmenting s names holders pe
    → b ≡ slice_index s.from pe → slice_index s.price b ≡ cost_at s.table b pe + slice_index s.discount pe
before_price s names holders pe b path augmenting e =
    subst (λ k. slice_index s.price k ≡ cost_at s.table k pe + slice_index s.discount pe) (sym e) (path.reduced_zero pe augmenting.inside augmenting.scanned)

pub augmenting_more : (s : State) (names : List ℕ) (holders : List (Option ℕ)) (pe b : ℕ) → s.named ≤ s.table.blocks → IsPath s
    → IsAugmenting s names holders pe → b ≡ slice_index s.from pe → b < s.named
    → IsAugmenting s (set names b pe) (set holders pe (Some b)) (slice_index names b)
augmenting_more s names holders pe b few path augmenting e named =
    record {
      names_length = length-set names b pe ∙ augmenting.names_length;
      holders_length = length-set holders pe (Some b) ∙ augmenting.holders_length;
      below = λ k inside. elim (cases_eq k b) [
        | inl same ↦ omega (arith, augmenting.inside, here_at k same)
        | inr other ↦ omega (arith, augmenting.below k inside, there k other)
      ];
      apart = apart;
      known = known;
      held = held;
      tight = tight;
      free = free;
      inside = augmenting.below b named;
      not_held = not_held;
      scanned = earlier.2;
      kept = kept;
    }
  where
    earlier : (slice_index names b ≡ slice_index s.names b) × (slice_index s.rank (slice_index names b) < slice_index s.rank pe) × (0 < slice_index s.rank (slice_index names b))
    earlier = next_earlier s names holders pe b path augmenting e named

    here : slice_index (set names b pe) b ≡ pe
    here = get_or-set_same names b pe 0 (omega (arith, augmenting.names_length, named, few))

    here_at : (k : ℕ) → k ≡ b → slice_index (set names b pe) k ≡ pe
    here_at k same = ap (λ n. slice_index (set names b pe) n) same ∙ here

    there : (k : ℕ) → k ≢ b → slice_index (set names b pe) k ≡ slice_index names k
    there k other = get_or-set_other names b k pe 0 other

    holder_here : slice_index_or (set holders pe (Some b)) pe None ≡ Some b
    holder_here = get_or-set_same holders pe (Some b) None (omega (arith, augmenting.holders_length, augmenting.inside))

    holder_there : (p : ℕ) → p ≢ pe → slice_index_or (set holders pe (Some b)) p None ≡ slice_index_or holders p None
    holder_there p other = get_or-set_other holders pe p (Some b) None other

    apart : (i k : ℕ) → i < k → k < s.named → slice_index (set names b pe) i ≢ slice_index (set names b pe) k
    apart i k before inside =
        elim (cases_eq i b) [
          | inl first ↦ λ same. augmenting.not_held k inside (sym (there k (omega arith)) ∙ sym same ∙ here_at i first)
          | inr other ↦ elim (cases_eq k b) [
            | inl second ↦ λ same. augmenting.not_held i (omega arith) (sym (there i other) ∙ same ∙ here_at k second)
            | inr neither ↦ λ same. augmenting.apart i k before inside (sym (there i other) ∙ same ∙ there k neither)
          ]
        ]

    known : (k : ℕ) → k < s.named → slice_index_or (set holders pe (Some b)) (slice_index (set names b pe) k) None ≡ Some k
    known k inside =
        elim (cases_eq k b) [
          | inl same ↦ ap (λ p. slice_index_or (set holders pe (Some b)) p None) (here_at k same) ∙ holder_here ∙ ap (λ n. Some n) (sym same)
          | inr other ↦ ap (λ p. slice_index_or (set holders pe (Some b)) p None) (there k other)
              ∙ holder_there (slice_index names k) (augmenting.not_held k inside) ∙ augmenting.known k inside
        ]

    held : (p k : ℕ) → p < s.table.blocks → p ≢ slice_index names b → slice_index_or (set holders pe (Some b)) p None ≡ Some k
        → (k < s.named) × (slice_index (set names b pe) k ≡ p)
    held p k inside other is =
        elim (cases_eq p pe) [
          | inl at ↦
              let now : slice_index_or (set holders pe (Some b)) p None ≡ Some b = ap (λ q. slice_index_or (set holders pe (Some b)) q None) at ∙ holder_here in
              let same : k ≡ b = cc in
              (omega (arith, same, named), here_at k same ∙ sym at)
          | inr away ↦
              let before : (k < s.named) × (slice_index names k ≡ p) = augmenting.held p k inside away (sym (holder_there p away) ∙ is) in
              (before.0, there k (λ same. other (sym before.1 ∙ ap (λ n. slice_index names n) same)) ∙ before.1)
        ]

    tight : (k : ℕ) → k < s.named → slice_index s.price k ≡ cost_at s.table k (slice_index (set names b pe) k) + slice_index s.discount (slice_index (set names b pe) k)
    tight k inside =
        elim (cases_eq k b) [
          | inl same ↦ subst (λ q. slice_index s.price k ≡ cost_at s.table k q + slice_index s.discount q) (sym (here_at k same))
              (before_price s names holders pe k path augmenting (same ∙ e))
          | inr other ↦ subst (λ q. slice_index s.price k ≡ cost_at s.table k q + slice_index s.discount q) (sym (there k other)) (augmenting.tight k inside)
        ]

    free : (p : ℕ) → p < s.table.blocks → IsFree s.named (set names b pe) p → p ≢ slice_index names b → slice_index s.discount p ≡ 0
    free p inside is_free other =
        augmenting.free p inside (λ k within same. elim (cases_eq k b) [
          | inl last ↦ other (sym same ∙ ap (λ n. slice_index names n) last)
          | inr kept ↦ is_free k within (there k kept ∙ same)
        ]) (λ same. is_free b named (here ∙ sym same))

    not_held : IsFree s.named (set names b pe) (slice_index names b)
    not_held k inside =
        elim (cases_eq k b) [
          | inl last ↦ λ same. augmenting.not_held b named (sym same ∙ here_at k last)
          | inr other ↦ elim (cases_lt k b) [
            | inl before ↦ λ same. augmenting.apart k b before named (sym (there k other) ∙ same)
            | inr after ↦ λ same. augmenting.apart b k (omega arith) inside (sym same ∙ there k other)
          ]
        ]

    kept : (k : ℕ) → k < s.named → slice_index s.rank (slice_index s.names k) < slice_index s.rank (slice_index names b) → slice_index (set names b pe) k ≡ slice_index s.names k
    kept k inside before =
        let other : k ≢ b = λ same. absurd (omega (arith, before, ap (λ q. slice_index s.rank q) earlier.0, ap (λ n. slice_index s.rank (slice_index s.names n)) same)) in
        there k other ∙ augmenting.kept k inside (omega (arith, before, earlier.1))

-- the path after one step, where the next PE was read before it
pub augmenting_next : (s : State) (names : List ℕ) (holders : List (Option ℕ)) (pe b before : ℕ) → s.named ≤ s.table.blocks → IsPath s
    → IsAugmenting s names holders pe → b ≡ slice_index s.from pe → b < s.named → before ≡ slice_index names b
    → IsAugmenting s (set names b pe) (set holders pe (Some b)) before
augmenting_next s names holders pe b before few path augmenting e named read =
    subst (λ q. IsAugmenting s (set names b pe) (set holders pe (Some b)) q) (sym read) (augmenting_more s names holders pe b few path augmenting e named)

-- lists that are written over keep their lengths
pub augmented_sized : (s : State) (named b : ℕ) (names : List ℕ) (holders : List (Option ℕ)) (pe : ℕ) → IsSized s
    → IsAugmenting s names holders pe → IsSized (renamed s named (set names b pe) (set holders pe (Some b)))
augmented_sized s named b names holders pe sized augmenting =
    record {
      is_table = sized.is_table;
      names_length = length-set names b pe ∙ augmenting.names_length;
      holders_length = length-set holders pe (Some b) ∙ augmenting.holders_length;
      price_length = sized.price_length;
      discount_length = sized.discount_length;
      rank_length = sized.rank_length;
      distance_length = sized.distance_length;
      from_length = sized.from_length;
    }

-- the root takes the last
pub augmenting_ends : (s : State) (names : List ℕ) (holders : List (Option ℕ)) (pe b : ℕ) → s.named < s.table.blocks → IsMatched s
    → IsPath s → IsAugmenting s names holders pe → b ≡ slice_index s.from pe → s.named ≤ b
    → IsMatched (renamed s (s.named + 1) (set names s.named pe) (set holders pe (Some s.named)))
augmenting_ends s names holders pe b unnamed matched path augmenting e past =
    record {
      below = λ k inside. elim (cases_eq k s.named) [
        | inl last ↦ omega (arith, augmenting.inside, here_at k last)
        | inr other ↦ omega (arith, augmenting.below k (omega arith), there k other)
      ];
      apart = λ i k before inside. elim (cases_eq k s.named) [
        | inl last ↦ λ same. augmenting.not_held i (omega arith) (sym (there i (omega arith)) ∙ same ∙ here_at k last)
        | inr other ↦ λ same. augmenting.apart i k before (omega arith) (sym (there i (omega arith)) ∙ same ∙ there k other)
      ];
      known = known;
      held = held;
      low = matched.low;
      tight = λ k inside. elim (cases_eq k s.named) [
        | inl last ↦ subst (λ q. slice_index s.price k ≡ cost_at s.table k q + slice_index s.discount q) (sym (here_at k last))
            (before_price s names holders pe k path augmenting (last ∙ sym root ∙ e))
        | inr other ↦ subst (λ q. slice_index s.price k ≡ cost_at s.table k q + slice_index s.discount q) (sym (there k other)) (augmenting.tight k (omega arith))
      ];
      free = λ p inside is_free. augmenting.free p inside (λ k within same. is_free k (omega arith) (there k (omega arith) ∙ same))
          (λ same. is_free s.named (omega arith) (here ∙ sym same));
    }
  where
    root : b ≡ s.named
    root = omega (arith, past, e, path.joined pe augmenting.inside augmenting.scanned)

    here : slice_index (set names s.named pe) s.named ≡ pe
    here = get_or-set_same names s.named pe 0 (omega (arith, augmenting.names_length, unnamed))

    here_at : (k : ℕ) → k ≡ s.named → slice_index (set names s.named pe) k ≡ pe
    here_at k last = ap (λ n. slice_index (set names s.named pe) n) last ∙ here

    there : (k : ℕ) → k ≢ s.named → slice_index (set names s.named pe) k ≡ slice_index names k
    there k other = get_or-set_other names s.named k pe 0 other

    holder_here : slice_index_or (set holders pe (Some s.named)) pe None ≡ Some s.named
    holder_here = get_or-set_same holders pe (Some s.named) None (omega (arith, augmenting.holders_length, augmenting.inside))

    holder_there : (p : ℕ) → p ≢ pe → slice_index_or (set holders pe (Some s.named)) p None ≡ slice_index_or holders p None
    holder_there p other = get_or-set_other holders pe p (Some s.named) None other

    known : (k : ℕ) → k < s.named + 1 → slice_index_or (set holders pe (Some s.named)) (slice_index (set names s.named pe) k) None ≡ Some k
    known k inside =
        elim (cases_eq k s.named) [
          | inl last ↦ ap (λ p. slice_index_or (set holders pe (Some s.named)) p None) (here_at k last) ∙ holder_here ∙ ap (λ n. Some n) (sym last)
          | inr other ↦ ap (λ p. slice_index_or (set holders pe (Some s.named)) p None) (there k other)
              ∙ holder_there (slice_index names k) (augmenting.not_held k (omega arith)) ∙ augmenting.known k (omega arith)
        ]

    held : (p k : ℕ) → p < s.table.blocks → slice_index_or (set holders pe (Some s.named)) p None ≡ Some k → (k < s.named + 1) × (slice_index (set names s.named pe) k ≡ p)
    held p k inside is =
        elim (cases_eq p pe) [
          | inl at ↦
              let now : slice_index_or (set holders pe (Some s.named)) p None ≡ Some s.named = ap (λ q. slice_index_or (set holders pe (Some s.named)) q None) at ∙ holder_here in
              let same : k ≡ s.named = cc in
              (omega (arith, same), here_at k same ∙ sym at)
          | inr away ↦
              let before : (k < s.named) × (slice_index names k ≡ p) = augmenting.held p k inside away (sym (holder_there p away) ∙ is) in
              (omega (arith, before.0), there k (omega (arith, before.0)) ∙ before.1)
        ]

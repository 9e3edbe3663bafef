-- Cuts that are read off a table move the fewest bytes.
use Rattle.std.proofs.Common.{◌≡◌, ℕ, zero, suc, ◌+◌, ◌-◌, ◌<◌, ◌≤◌, max, List, length, slice_index, arith, ap, sym, ◌∙◌, subst, add-one, add-zero, inl, inr}
use Rattle.std.proofs.lemmas.Bool.{cases_lt}
use Rattle.std.proofs.lemmas.List.Sorted.{IsNonDecreasingBy-from_default}
use Rattle.lb_certificates.specs.Naming.{total}
use Rattle.lb_certificates.proofs.Chains.{block_within, load_wider}
use Rattle.chain_refinement.specs.Refinement.{AreWithin, cut_cost, cuts_cost, IsBound}
use Rattle.chain_refinement.proofs.Bounds.{bound_below}
use Rattle.refinement_search.specs.Tables.{AreRead, IsLevel, IsRow, IsSearch, Searched}
use Rattle.chain_refinement.specs.Walks.{IsLeastStart}
use Rattle.refinement_search.specs.Windows.{AreStarts}
use Rattle.chain_refinement.proofs.Orders.{cost_falls, cost_rises}

-- a later end has no earlier least start
pub starts_rise : (loads : List ℕ) (limit : ℕ) (start : ℕ → ℕ) (x y : ℕ) → AreStarts loads limit start → x ≤ y → y ≤ length loads → start x ≤ start y
starts_rise loads limit start x y starts onward within =
    let one : IsLeastStart loads x limit (start x) = starts x (omega arith) in
    let other : IsLeastStart loads y limit (start y) = starts y within in
    elim (cases_lt x (start y)) [
      | inl behind ↦ omega (arith, behind, one.inside)
      | inr inner ↦ one.least (start y) inner (omega (arith, other.light, load_wider loads (start y) x (start y) y (omega arith) inner onward))
    ]

later_start : (s : Searched) (x y : ℕ) → IsSearch s → x ≤ y → y ≤ length s.loads → s.start x ≤ s.start y
later_start s x y h onward within = starts_rise s.loads s.limit s.start x y h.starts onward within

start_inside : (s : Searched) (x : ℕ) → IsSearch s → x ≤ length s.loads → s.start x ≤ x
start_inside s x h within = (h.starts x within).inside

present_inside : (s : Searched) (b : ℕ) → IsSearch s → b + 1 < length s.names → slice_index s.present (b + 1) ≤ length s.sizes
present_inside s b h inside =
    (block_within (length s.sizes) (length s.names) s.present b h.divides (omega arith)).1

-- a row of the table, by the number of its block
pub rises_at : (s : Searched) (b x y : ℕ) → IsSearch s → b < length s.names → x ≤ y → s.at b x ≤ s.at b y
rises_at s zero x y h inside onward = h.table.rises x y onward
rises_at s (suc b) x y h inside onward =
    subst (λ n. s.at n x ≤ s.at n y) (add-one b) ((h.table.rows b (omega arith)).rises x y onward)

-- and up to its first place it is level
flat_at : (s : Searched) (b x : ℕ) → IsSearch s → b < length s.names → x ≤ s.near b → s.at b x ≡ s.at b (s.near b)
flat_at s zero x h inside before = ap (s.at 0) (omega (arith, h.spans.first, before))
flat_at s (suc b) x h inside before =
    subst (λ n. x ≤ s.near n → s.at n x ≡ s.at n (s.near n)) (add-one b) (λ there. (h.table.rows b (omega arith)).flat x there) before

-- from the least start of a block to its end the height rises by no more than the cut there costs
gentle : (s : Searched) (b x : ℕ) → IsSearch s → b + 1 < length s.names → x ≤ length s.loads → s.at (b + 1) x ≤ s.at b (s.start x) + cut_cost s.sizes s.names b x
gentle s b x h inside within =
    let row : IsRow (s.near (b + 1)) (s.far (b + 1)) s.start (cut_cost s.sizes s.names b) (s.at b) (s.at (b + 1)) = h.table.rows b inside in
    let near : ℕ = s.near (b + 1) in
    let far : ℕ = s.far (b + 1) in
    let present : ℕ = slice_index s.present (b + 1) in
    let before : near ≤ present = h.spans.near_before (b + 1) inside in
    let behind : present ≤ far = h.spans.far_behind (b + 1) inside in
    let far_in : far ≤ length s.loads = h.spans.far_inside (b + 1) inside in
    elim (cases_lt x near) [
      | inl early ↦
          let later : s.start x ≤ s.start near = later_start s x near h (omega arith) (omega (arith, before, behind, far_in)) in
          let reached : s.start near ≤ s.near b = h.spans.near_reached b inside in
          let one : s.at b (s.start x) ≡ s.at b (s.near b) = flat_at s b (s.start x) h (omega arith) (omega (arith, later, reached)) in
          let other : s.at b (s.start near) ≡ s.at b (s.near b) = flat_at s b (s.start near) h (omega arith) reached in
          let level : s.at (b + 1) x ≡ s.at (b + 1) near = row.flat x (omega arith) in
          let here : s.at (b + 1) near ≤ s.at b (s.start near) + cut_cost s.sizes s.names b near = row.low near (omega arith) (omega (arith, before, behind)) in
          let cheaper : cut_cost s.sizes s.names b near ≤ cut_cost s.sizes s.names b x = cost_falls s.sizes s.names s.present b x near
          (h.apart b inside) (omega arith) before (present_inside s b h inside) in
          omega (arith, level, here, one, other, cheaper)
      | inr inner ↦ elim (cases_lt far x) [
        | inr low ↦ row.low x inner low
        | inl late ↦
            let level : s.at (b + 1) x ≡ s.at (b + 1) far = row.level x (omega arith) in
            let here : s.at (b + 1) far ≤ s.at b (s.start far) + cut_cost s.sizes s.names b far = row.low far (omega (arith, before, behind)) (omega arith) in
            let dearer : cut_cost s.sizes s.names b far ≤ cut_cost s.sizes s.names b x = cost_rises s.sizes s.names s.present b far x
            (h.apart b inside) behind (omega arith) (omega (arith, h.paired)) in
            let later : s.start far ≤ s.start x = later_start s far x h (omega arith) within in
            let higher : s.at b (s.start far) ≤ s.at b (s.start x) = rises_at s b (s.start far) (s.start x) h (omega arith) later in
            omega (arith, level, here, dearer, higher)
      ]
    ]

-- the height at the end of the table
abbrev pub top : Searched → ℕ
top s = s.at (length s.names - 1) (s.start (length s.loads))

-- the table is a bound
pub table_bounds : (s : Searched) → IsSearch s → IsBound s.loads s.sizes s.names s.limit s.at (top s)
table_bounds s h =
    record {
      starts = h.table.first;
      rises = λ b x y inside before within light.
          let least : s.start x ≤ y = (h.starts x within).least y before light in
          omega (arith, gentle s b x h inside within, rises_at s b (s.start x) y h (omega arith) least);
      ends = λ y within light.
          rises_at s (length s.names - 1) (s.start (length s.loads)) y h (omega (arith, h.some_block)) ((h.starts (length s.loads) (omega arith)).least y within light);
    }

-- what is known of a place at which a level ends
pub record IsLevelCut (s : Searched) (b low cut : ℕ) : Type 0 where
  pub near : s.near (b + 1) ≤ cut
  pub far : cut ≤ s.far (b + 1)
  pub cost : s.at b (s.start cut) + cut_cost s.sizes s.names b cut ≡ s.at (b + 1) low

-- the height that a level has is that of the block before it and what the cut costs
pub level_cut : (s : Searched) (b low cut : ℕ) → IsSearch s → b + 1 < length s.names → low ≤ s.far (b + 1)
    → IsLevel (s.at (b + 1)) (slice_index s.present (b + 1)) low cut → IsLevelCut s b low cut
level_cut s b low cut h inside low_in level =
    let row : IsRow (s.near (b + 1)) (s.far (b + 1)) s.start (cut_cost s.sizes s.names b) (s.at b) (s.at (b + 1)) = h.table.rows b inside in
    let near : ℕ = s.near (b + 1) in
    let far : ℕ = s.far (b + 1) in
    let present : ℕ = slice_index s.present (b + 1) in
    let before : near ≤ present = h.spans.near_before (b + 1) inside in
    let behind : present ≤ far = h.spans.far_behind (b + 1) inside in
    let cut_far : cut ≤ far = omega (arith, level.to, behind, low_in) in
    let cut_near : near ≤ cut = elim (cases_lt cut near) [
      | inr on ↦ on
      | inl early ↦
          let higher : s.at (b + 1) cut < s.at (b + 1) near = level.last near early (omega (arith, before)) in
          absurd (omega (arith, higher, row.flat cut (omega arith)))
    ] in
    let below : s.at (b + 1) cut ≤ s.at b (s.start cut) + cut_cost s.sizes s.names b cut = row.low cut cut_near cut_far in
    let reached = row.reached cut cut_near cut_far in
    let y : ℕ = reached.0 in
    let onward : cut ≤ y = reached.1 in
    let y_far : y ≤ far = reached.2 in
    let there : s.at b (s.start y) + cut_cost s.sizes s.names b y ≤ s.at (b + 1) cut = reached.3 in
    let same : s.at (b + 1) cut ≡ s.at (b + 1) low = level.level in
    let far_in : far ≤ length s.loads = h.spans.far_inside (b + 1) inside in
    let cost : s.at b (s.start cut) + cut_cost s.sizes s.names b cut ≡ s.at (b + 1) low = elim (cases_lt cut y) [
      | inr met ↦
          let here : y ≡ cut = omega (arith, met, onward) in
          let at_cut : s.at b (s.start cut) + cut_cost s.sizes s.names b cut ≤ s.at (b + 1) cut = subst
          (λ n. s.at b (s.start n) + cut_cost s.sizes s.names b n ≤ s.at (b + 1) cut) here there in
          omega (arith, at_cut, below, same)
      | inl past ↦ elim (cases_lt cut (max present low)) [
        | inl short ↦
            let higher : s.at (b + 1) cut < s.at (b + 1) (cut + 1) = level.last (cut + 1) (omega arith) (omega (arith, short)) in
            let on : s.at (b + 1) (cut + 1) ≤ s.at (b + 1) y = row.rises (cut + 1) y (omega (arith, past)) in
            absurd (omega (arith, higher, on, row.low y (omega (arith, cut_near, onward)) y_far, there))
        | inr full ↦
            let dearer : cut_cost s.sizes s.names b cut ≤ cut_cost s.sizes s.names b y = cost_rises s.sizes s.names s.present b cut y
            (h.apart b inside) (omega (arith, full)) onward (omega (arith, y_far, far_in, h.paired)) in
            let later : s.start cut ≤ s.start y = later_start s cut y h onward (omega (arith, y_far, far_in)) in
            let higher : s.at b (s.start cut) ≤ s.at b (s.start y) = rises_at s b (s.start cut) (s.start y) h (omega arith) later in
            omega (arith, dearer, higher, there, below, same)
      ]
    ] in
    record { near = cut_near; far = cut_far; cost = cost }

-- neighboring cuts are in order
levels_ordered : (s : Searched) (b low cut next : ℕ) → IsSearch s → b + 1 + 1 < length s.names → low ≤ s.far (b + 1 + 1)
    → IsLevel (s.at (b + 1)) (slice_index s.present (b + 1)) (s.start next) cut
    → IsLevel (s.at (b + 1 + 1)) (slice_index s.present (b + 1 + 1)) low next → cut ≤ next
levels_ordered s b low cut next h inside low_in level level_next =
    let there : IsLevelCut s (b + 1) low next = level_cut s (b + 1) low next h inside low_in level_next in
    let far_in : s.far (b + 1 + 1) ≤ length s.loads = h.spans.far_inside (b + 1 + 1) inside in
    let next_in : next ≤ length s.loads = omega (arith, there.far, far_in) in
    elim (cases_lt next cut) [
      | inr ordered ↦ ordered
      | inl back ↦
          let before : cut ≤ slice_index s.present (b + 1) = omega (arith, level.to, start_inside s next h next_in, back) in
          let later : slice_index s.present (b + 1) ≤ slice_index s.present
          (b + 1 + 1) = (block_within (length s.sizes) (length s.names) s.present (b + 1) h.divides (omega arith)).0 in
          let behind : slice_index s.present (b + 1 + 1) ≤ s.far (b + 1 + 1) = h.spans.far_behind (b + 1 + 1) inside in
          let cheaper : cut_cost s.sizes s.names (b + 1) cut ≤ cut_cost s.sizes s.names (b + 1) next = cost_falls s.sizes s.names s.present
          (b + 1) next cut (h.apart (b + 1) inside) (omega (arith, back)) (omega (arith, before, later)) (present_inside s (b + 1) h inside) in
          let low_there : s.at (b + 1 + 1) cut ≤ s.at (b + 1) (s.start cut) + cut_cost s.sizes s.names (b + 1)
          cut = (h.table.rows (b + 1) inside).low cut (omega (arith, there.near, back)) (omega (arith, before, later, behind)) in
          let lower : s.at (b + 1) (s.start cut) ≤ s.at (b + 1) cut = rises_at s (b + 1) (s.start cut) cut h (omega arith)
          (start_inside s cut h (omega (arith, before, later, behind, far_in))) in
          let higher : s.at (b + 1 + 1) next < s.at (b + 1 + 1) cut = level_next.last cut back (omega (arith, before, later)) in
          absurd (omega (arith, higher, low_there, lower, level.level, cheaper, there.cost, level_next.level))
    ]

-- these cuts are read off the table of a search
abbrev pub IsReading : Searched → List ℕ → Type 0
IsReading s cuts = AreRead (length s.names) s.present (length s.loads) s.start s.at cuts

-- the least start of the block that ends at a cut is a place of the row below
low_inside : (s : Searched) (cuts : List ℕ) (left b : ℕ) → IsSearch s → IsReading s cuts → b + 1 + left ≡ length s.names
    → (s.start (slice_index cuts (b + 1)) ≤ s.far b) × (slice_index cuts (b + 1) ≤ length s.loads)
low_inside s cuts zero b h read same =
    let last : b + 1 ≡ length s.names = omega (arith, same) in
    let end : slice_index cuts (b + 1) ≡ length s.loads = ap (slice_index cuts) last ∙ read.ends in
    let block : length s.names - 1 ≡ b = omega (arith, same) in
    let reached : s.start (length s.loads) ≤ s.far b = subst (λ n. s.start (length s.loads) ≤ s.far n) block h.spans.far_last in
    (subst (λ x. s.start x ≤ s.far b) (sym end) reached, omega (arith, end))
low_inside s cuts (suc left) b h read same =
    let inside : b + 1 < length s.names = omega (arith, same) in
    let next = low_inside s cuts left (b + 1) h read (omega (arith, same)) in
    let cut : IsLevelCut s b (s.start (slice_index cuts (b + 1 + 1))) (slice_index cuts (b + 1)) = level_cut s b
    (s.start (slice_index cuts (b + 1 + 1))) (slice_index cuts (b + 1)) h inside next.0 (read.level b inside) in
    let far_in : s.far (b + 1) ≤ length s.loads = h.spans.far_inside (b + 1) inside in
    (omega (arith, later_start s (slice_index cuts (b + 1)) (s.far (b + 1)) h cut.far far_in, h.spans.far_reached b inside), omega (arith, cut.far, far_in))

pub low_at : (s : Searched) (cuts : List ℕ) (b : ℕ) → IsSearch s → IsReading s cuts → b < length s.names → s.start (slice_index cuts (b + 1)) ≤ s.far b
low_at s cuts b h read inside = (low_inside s cuts (length s.names - (b + 1)) b h read (omega arith)).0

pub cut_inside : (s : Searched) (cuts : List ℕ) (b : ℕ) → IsSearch s → IsReading s cuts → b < length s.names → slice_index cuts (b + 1) ≤ length s.loads
cut_inside s cuts b h read inside = (low_inside s cuts (length s.names - (b + 1)) b h read (omega arith)).1

-- each block begins no earlier than the least start of its end
block_starts : (s : Searched) (cuts : List ℕ) (b : ℕ) → IsSearch s → IsReading s cuts → s.start (slice_index cuts 1) ≡ 0
    → b < length s.names → (s.start (slice_index cuts (b + 1)) ≤ slice_index cuts b) × (slice_index cuts b ≤ slice_index cuts (b + 1))
block_starts s cuts zero h read begins inside = (omega (arith, begins, read.starts), omega (arith, read.starts))
block_starts s cuts (suc b) h read begins inside =
    let level = read.level b (omega arith) in
    let ordered : slice_index cuts (b + 1) ≤ slice_index cuts (b + 1 + 1) = elim (cases_lt (b + 1 + 1) (length s.names)) [
      | inl more ↦
          levels_ordered s b (s.start (slice_index cuts (b + 1 + 1 + 1))) (slice_index cuts (b + 1)) (slice_index cuts (b + 1 + 1)) h more
          (low_at s cuts (b + 1 + 1) h read more) level (read.level (b + 1) more)
      | inr last ↦
          let all : length s.names ≡ b + 1 + 1 = omega (arith, last, inside) in
          let end : slice_index cuts (b + 1 + 1) ≡ length s.loads = subst (λ n. slice_index cuts n ≡ length s.loads) all read.ends in
          omega (arith, end, cut_inside s cuts b h read (omega arith))
    ] in
    subst (λ n. (s.start (slice_index cuts (n + 1)) ≤ slice_index cuts n) × (slice_index cuts n ≤ slice_index cuts (n + 1))) (add-one b) (level.from, ordered)

-- what the first b cuts between blocks cost
abbrev pub cost_to : Searched → List ℕ → ℕ → ℕ
cost_to s cuts b = total b (λ k. cut_cost s.sizes s.names k (slice_index cuts (k + 1)))

-- what the first cuts cost, up to the height of the least start of the next block's end
pub read_cost : (s : Searched) (cuts : List ℕ) (b : ℕ) → IsSearch s → IsReading s cuts → b < length s.names
    → cost_to s cuts b + s.at 0 (s.start (slice_index cuts 1)) ≡ s.at b (s.start (slice_index cuts (b + 1)))
read_cost s cuts zero h read inside = omega arith
read_cost s cuts (suc b) h read inside =
    let before : cost_to s cuts b + s.at 0 (s.start (slice_index cuts 1)) ≡ s.at b (s.start (slice_index cuts (b + 1))) = read_cost s cuts b h read (omega arith) in
    let low : ℕ = s.start (slice_index cuts (b + 1 + 1)) in
    let here : IsLevelCut s b low (slice_index cuts (b + 1)) = level_cut s b low (slice_index cuts (b + 1)) h (omega arith)
    (low_at s cuts (b + 1) h read (omega arith)) (read.level b (omega arith)) in
    let more : (cost_to s cuts b + cut_cost s.sizes s.names b (slice_index cuts (b + 1))) + s.at 0 (s.start (slice_index cuts 1)) ≡ s.at
    (b + 1) (s.start (slice_index cuts (b + 1 + 1))) = omega (arith, before, here.cost) in
    subst (λ n. (cost_to s cuts b + cut_cost s.sizes s.names b (slice_index cuts (b + 1))) + s.at 0 (s.start (slice_index cuts 1)) ≡ s.at n
    (s.start (slice_index cuts (n + 1)))) (add-one b) more

-- all cuts cost the height at the end of the table
pub read_cost_all : (s : Searched) (cuts : List ℕ) → IsSearch s → IsReading s cuts → cuts_cost s.sizes s.names cuts + s.at 0 (s.start (slice_index cuts 1)) ≡ top s
read_cost_all s cuts h read =
    let last : ℕ = length s.names - 1 in
    let same : last + 1 ≡ length s.names = omega (arith, h.some_block) in
    let end : slice_index cuts (last + 1) ≡ length s.loads = ap (slice_index cuts) same ∙ read.ends in
    read_cost s cuts last h read (omega (arith, h.some_block)) ∙ ap (λ x. s.at last (s.start x)) end

-- where all neighbors are in order, all are
rises_by : (f : ℕ → ℕ) (n i k : ℕ) → ((b : ℕ) → b < n → f b ≤ f (b + 1)) → i + k ≤ n → f i ≤ f (i + k)
rises_by f n i zero steps within = simp add-zero (omega arith)
rises_by f n i (suc k) steps within =
    let before : f i ≤ f (i + k) = rises_by f n i k steps (omega arith) in
    let same : i + k + 1 ≡ i + suc k = omega arith in
    subst (λ m. f i ≤ f m) same (omega (arith, before, steps (i + k) (omega arith)))

-- cuts that are read off a table are within the limit where the first block begins at 0
pub read_within : (s : Searched) (cuts : List ℕ) → IsSearch s → IsReading s cuts → s.start (slice_index cuts 1) ≡ 0 → AreWithin s.loads s.names s.limit cuts
read_within s cuts h read begins =
    record {
      divides = record {
        counted = read.counted;
        starts = read.starts;
        ordered = IsNonDecreasingBy-from_default (λ x. x) cuts 0 (λ i j onward inside.
            let same : i + (j - i) ≡ j = omega arith in
            subst (λ n. slice_index cuts i ≤ slice_index cuts n) same
            (rises_by (slice_index cuts) (length s.names) i (j - i) (λ b within. (block_starts s cuts b h read begins within).1)
            (omega (arith, read.counted))));
        ends = read.ends;
      };
      within = λ b inside.
          let block = block_starts s cuts b h read begins inside in
          let end_in : slice_index cuts (b + 1) ≤ length s.loads = cut_inside s cuts b h read inside in
          omega (
            arith,
            (h.starts (slice_index cuts (b + 1)) end_in).light,
            load_wider s.loads (slice_index cuts b) (slice_index cuts (b + 1)) (s.start (slice_index cuts (b + 1)))
                (slice_index cuts (b + 1)) block.0 block.1 (omega arith),
          );
    }

-- where any cuts are within the limit, the first block begins at 0
pub read_begins : (s : Searched) (cuts others : List ℕ) → IsSearch s → IsReading s cuts → AreWithin s.loads s.names s.limit others
    → cuts_cost s.sizes s.names others < s.none → s.start (slice_index cuts 1) ≡ 0
read_begins s cuts others h read within few =
    elim (cases_lt 0 (s.start (slice_index cuts 1))) [
      | inr none ↦ omega arith
      | inl late ↦
          let all : cuts_cost s.sizes s.names cuts + s.at 0 (s.start (slice_index cuts 1)) ≡ top s = read_cost_all s cuts h read in
          let much : s.none ≤ s.at 0 (s.start (slice_index cuts 1)) = h.table.elsewhere (s.start (slice_index cuts 1)) late in
          absurd (omega (arith, all, much, few, bound_below s.loads s.sizes s.names s.limit s.at (top s) others h.some_block (table_bounds s h) within))
    ]

-- and then the table proves them to move the fewest bytes
pub read_bound : (s : Searched) (cuts : List ℕ) → IsSearch s → IsReading s cuts → s.start (slice_index cuts 1) ≡ 0
    → IsBound s.loads s.sizes s.names s.limit s.at (cuts_cost s.sizes s.names cuts)
read_bound s cuts h read begins =
    let all : cuts_cost s.sizes s.names cuts + s.at 0 (s.start (slice_index cuts 1)) ≡ top s = read_cost_all s cuts h read in
    let nothing : s.at 0 (s.start (slice_index cuts 1)) ≡ 0 = ap (s.at 0) begins ∙ h.table.first in
    let same : top s ≡ cuts_cost s.sizes s.names cuts = omega (arith, all, nothing) in
    subst (λ bytes. IsBound s.loads s.sizes s.names s.limit s.at bytes) same (table_bounds s h)

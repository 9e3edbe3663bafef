use Rattle.std.proofs.Common.{◌≡◌, ◌<◌, ◌+◌, ◌-◌, ℕ, List, MatchOption, length, take, slice_index, arith, ap, sym, ◌∙◌, subst, refl}
use Rattle.std.proofs.lemmas.List.{length-take, take_all}
use Rattle.std.proofs.lemmas.Option.{IfSome_then}
use Rattle.block_assignment.specs.Table.{Table}
use Rattle.block_assignment.specs.Search.{IsNearest, IsUnscanned}
use Rattle.block_assignment.proofs.Prices.{small_from_matched, small_kept}
use Rattle.block_assignment.proofs.Trees.{not_all_scanned}
use Rattle.block_assignment.proofs.Unscanned.{IsWithout, one_less_listed, taken_out}
use Rattle.block_assignment.proofs.search.Search.name_next.Goals as goal

pub loop-nearest-init : goal.loop-nearest-init
loop-nearest-init g c =
    let made = c.start_tree-nearest.ensures in
    let pes : List ℕ = c.list_all.new.pes in
    let whole : pes ≡ take (length pes) pes = sym (take_all (length pes) pes (omega arith)) in
    record {
      sized = made.sized;
      matched = made.matched;
      tree = made.tree;
      table = made.table;
      named = made.named;
      listed = subst (λ xs. IsUnscanned c.start_tree-nearest.new.self.rank xs c.start_tree-nearest.new.self.table.blocks) whole
          (subst (λ (t : Table). IsUnscanned c.start_tree-nearest.new.self.rank pes t.blocks) (sym made.table) made.listed);
      nearest = subst (λ xs. MatchOption c.start_tree-nearest.result
          ((p : ℕ) → p < c.start_tree-nearest.new.self.table.blocks → 0 < slice_index c.start_tree-nearest.new.self.rank p)
          (λ place. IsNearest c.start_tree-nearest.new.self.rank c.start_tree-nearest.new.self.distance
          c.start_tree-nearest.new.self.table.blocks (slice_index xs place))) whole
          (subst (λ (t : Table). MatchOption c.start_tree-nearest.result
          ((p : ℕ) → p < t.blocks → 0 < slice_index c.start_tree-nearest.new.self.rank p)
          (λ place. IsNearest c.start_tree-nearest.new.self.rank c.start_tree-nearest.new.self.distance t.blocks (slice_index pes place)))
          (sym made.table) made.nearest);
      inside = made.inside;
      within = omega arith;
      not_yet = omega (arith, made.unscanned, ap (λ (t : Table). t.blocks) made.table);
    }

pub loop-nearest-preserved : goal.loop-nearest-preserved
loop-nearest-preserved g c =
    let known = c.loop-nearest.invariant in
    let next = c.grow-nearest.ensures in
    let pes : List ℕ = take (c.loop-nearest.count - 1) c.take_out.new.pes in
    record {
      sized = next.sized;
      matched = next.matched;
      tree = next.tree;
      table = next.table ∙ known.table;
      named = next.named ∙ known.named;
      listed = subst (λ (t : Table). IsUnscanned c.grow-nearest.new.self.rank pes t.blocks) (sym next.table) next.listed;
      nearest = subst (λ (t : Table). MatchOption c.grow-nearest.result
          ((p : ℕ) → p < t.blocks → 0 < slice_index c.grow-nearest.new.self.rank p)
          (λ place. IsNearest c.grow-nearest.new.self.rank c.grow-nearest.new.self.distance t.blocks (slice_index pes place))) (sym next.table) next.nearest;
      inside = IfSome_then c.grow-nearest.result next.inside (λ place inside. omega (arith, inside, length-take (c.loop-nearest.count - 1) c.take_out.new.pes));
      within = omega (arith, known.within, c.take_out.auto.pes);
      not_yet = omega (arith, next.unscanned, known.not_yet, ap (λ (t : Table). t.blocks) next.table);
    }

pub start_tree-nearest-requires-clause-counted : goal.start_tree-nearest-requires-clause-counted
start_tree-nearest-requires-clause-counted g c = c.list_all.auto.pes ∙ c.requires.room

pub start_tree-nearest-requires-clause-each : goal.start_tree-nearest-requires-clause-each
start_tree-nearest-requires-clause-each g c = λ p inside. c.list_all.ensures.each p (omega (arith, inside, c.list_all.auto.pes, c.requires.room))

pub list_all-requires : goal.list_all-requires
list_all-requires g c = record { few = omega (arith, c.requires.room, c.requires.sized.is_table.few_blocks) }

pub take_out-requires-clause-inside : goal.take_out-requires-clause-inside
take_out-requires-clause-inside g c = (let h = rw c.in-Some.is at c.loop-nearest.invariant.inside in h)

pub take_out-requires-clause-within : goal.take_out-requires-clause-within
take_out-requires-clause-within g c = c.loop-nearest.invariant.within

pub grow-nearest-requires-clause-listed : goal.grow-nearest-requires-clause-listed
grow-nearest-requires-clause-listed g c =
    let known = c.loop-nearest.invariant in
    let old : List ℕ = c.loop-nearest.to_scan in
    let new : List ℕ = c.take_out.new.pes in
    let count : ℕ = c.loop-nearest.count in
    let inside : c.in-Some.place < count = (let h = rw c.in-Some.is at known.inside in h) in
    let nearest = rw c.in-Some.is at known.nearest in
    let without : IsWithout (take count old) (take (count - 1) new) c.in-Some.place = taken_out old new count c.in-Some.place inside
    known.within c.take_out.auto.pes c.take_out.ensures.before c.take_out.ensures.behind in
    one_less_listed c.loop-nearest.self.rank (take count old) (take (count - 1) new) c.loop-nearest.self.table.blocks c.in-Some.place
    (slice_index (take count old) c.in-Some.place) c.loop-nearest.rank known.listed without refl
    (omega (arith, nearest.inside, known.sized.rank_length)) known.tree.some

pub loop-nearest-smaller : goal.loop-nearest-smaller
loop-nearest-smaller g c = omega (arith, c.grow-nearest.ensures.unscanned)

pub returns-in_default-index-clause-sized : goal.returns-in_default-index-clause-sized
returns-in_default-index-clause-sized g c = c.augment.ensures.sized

pub returns-in_default-index-clause-matched : goal.returns-in_default-index-clause-matched
returns-in_default-index-clause-matched g c = c.augment.ensures.matched

pub returns-in_default-index-clause-small : goal.returns-in_default-index-clause-small
returns-in_default-index-clause-small g c =
    let fewer : c.raise.new.self.named < c.raise.new.self.table.blocks = omega (
      arith,
      c.raise.ensures.named,
      c.loop-nearest.invariant.named,
      ap (λ (t : Table). t.blocks) c.raise.ensures.table,
      ap (λ (t : Table). t.blocks) c.loop-nearest.invariant.table,
      c.requires.unnamed,
    ) in
    small_kept c.raise.new.self c.augment.new.self c.augment.ensures.table c.augment.ensures.price c.augment.ensures.discount
    (small_from_matched c.raise.new.self c.raise.ensures.sized.is_table c.raise.ensures.matched fewer)

pub returns-in_default-index-clause-table : goal.returns-in_default-index-clause-table
returns-in_default-index-clause-table g c = c.augment.ensures.table ∙ c.raise.ensures.table ∙ c.loop-nearest.invariant.table

pub returns-in_default-index-clause-named : goal.returns-in_default-index-clause-named
returns-in_default-index-clause-named g c = c.augment.ensures.named ∙ ap (λ n. n + 1) (c.raise.ensures.named ∙ c.loop-nearest.invariant.named)

-- the loop does not end, since the tree has not scanned all PEs
no_end : (g : _) (c : goal.In_default g) → ⊥
no_end g c =
    let fewer : c.loop-nearest.self.named < c.loop-nearest.self.table.blocks = omega
    (arith, c.loop-nearest.invariant.named, ap (λ (t : Table). t.blocks) c.loop-nearest.invariant.table, c.requires.unnamed) in
    let all : (p : ℕ) → p < c.loop-nearest.self.table.blocks → 0 < slice_index c.loop-nearest.self.rank p = (let h = rw c.in_default.is at c.loop-nearest.invariant.nearest in h) in
    not_all_scanned c.loop-nearest.rank c.loop-nearest.self c.loop-nearest.invariant.tree fewer all

pub returns-clause-sized : goal.returns-clause-sized
returns-clause-sized g c = absurd (no_end g c)

pub returns-clause-matched : goal.returns-clause-matched
returns-clause-matched g c = absurd (no_end g c)

pub returns-clause-small : goal.returns-clause-small
returns-clause-small g c = absurd (no_end g c)

pub returns-clause-table : goal.returns-clause-table
returns-clause-table g c = absurd (no_end g c)

pub returns-clause-named : goal.returns-clause-named
returns-clause-named g c = absurd (no_end g c)

pub start_tree-nearest-requires-clause-sized : goal.start_tree-nearest-requires-clause-sized
start_tree-nearest-requires-clause-sized g c = c.requires.sized

pub start_tree-nearest-requires-clause-matched : goal.start_tree-nearest-requires-clause-matched
start_tree-nearest-requires-clause-matched g c = c.requires.matched

pub start_tree-nearest-requires-clause-unnamed : goal.start_tree-nearest-requires-clause-unnamed
start_tree-nearest-requires-clause-unnamed g c = c.requires.unnamed

pub raise-requires-clause-sized : goal.raise-requires-clause-sized
raise-requires-clause-sized g c = c.loop-nearest.invariant.sized

pub raise-requires-clause-matched : goal.raise-requires-clause-matched
raise-requires-clause-matched g c = c.loop-nearest.invariant.matched

pub raise-requires-clause-tree : goal.raise-requires-clause-tree
raise-requires-clause-tree g c = c.loop-nearest.invariant.tree

pub raise-requires-clause-unnamed : goal.raise-requires-clause-unnamed
raise-requires-clause-unnamed g c =
    omega (arith, c.loop-nearest.invariant.named, ap (λ (t : Table). t.blocks) c.loop-nearest.invariant.table, c.requires.unnamed)

pub grow-nearest-requires-clause-sized : goal.grow-nearest-requires-clause-sized
grow-nearest-requires-clause-sized g c = c.loop-nearest.invariant.sized

pub grow-nearest-requires-clause-matched : goal.grow-nearest-requires-clause-matched
grow-nearest-requires-clause-matched g c = c.loop-nearest.invariant.matched

pub grow-nearest-requires-clause-tree : goal.grow-nearest-requires-clause-tree
grow-nearest-requires-clause-tree g c = c.loop-nearest.invariant.tree

pub grow-nearest-requires-clause-unnamed : goal.grow-nearest-requires-clause-unnamed
grow-nearest-requires-clause-unnamed g c =
    omega (arith, c.loop-nearest.invariant.named, ap (λ (t : Table). t.blocks) c.loop-nearest.invariant.table, c.requires.unnamed)

pub augment-requires-clause-sized : goal.augment-requires-clause-sized
augment-requires-clause-sized g c = c.raise.ensures.sized

pub augment-requires-clause-matched : goal.augment-requires-clause-matched
augment-requires-clause-matched g c = c.raise.ensures.matched

pub augment-requires-clause-path : goal.augment-requires-clause-path
augment-requires-clause-path g c = c.raise.ensures.path

pub augment-requires-clause-scanned : goal.augment-requires-clause-scanned
augment-requires-clause-scanned g c = c.raise.ensures.scanned

pub augment-requires-clause-unnamed : goal.augment-requires-clause-unnamed
augment-requires-clause-unnamed g c =
    omega (
      arith,
      c.raise.ensures.named,
      ap (λ (t : Table). t.blocks) c.raise.ensures.table,
      c.loop-nearest.invariant.named,
      ap (λ (t : Table). t.blocks) c.loop-nearest.invariant.table,
      c.requires.unnamed,
    )

use Rattle.std.proofs.Common.{◌≡◌, ℕ, ◌+◌, ◌-◌, ◌^◌, ◌<◌, ◌≤◌, List, None, length, set, slice_index, arith, subst, refl}
use Rattle.block_assignment.specs.Search.{IsUnscanned}
use Rattle.block_assignment.proofs.Scans.{Walked, Nearest, Relaxing, AtPlace, at_place, behind, behind_some, behind_none, scanned_last, last_inside, walked_to, relaxed_nearer, relaxed_kept, nearest_to, step_taken, step_left, nearest_of_all}
use Rattle.block_assignment.proofs.scan.scan.Goals.{then-way-far, else-way-far}
use Rattle.block_assignment.proofs.scan.scan.Goals as goal

pub loop-place-init : goal.loop-place-init
loop-place-init c =
    let end : ℕ = length c.args.row.now in
    let pes : List ℕ = c.args.to_scan.now in
    let before : behind pes (length pes) ≤ end = last_inside c.args.rank.now pes end c.requires.unscanned in
    let last : (p : ℕ) → behind pes (length pes) ≤ p → p < end → 0 < slice_index c.args.rank.now p = scanned_last c.args.rank.now pes end c.requires.unscanned in
    record {
      few = omega arith;
      walked = walked_to _ _ _ _ _ _ _ _ _ _ end end (behind pes (length pes)) (record {
        relaxed = λ p past inside _. absurd (omega (arith, past, inside));
        kept_distance = λ p _. refl;
        kept_from = λ p _. refl;
        to_do_distance = λ p _. refl;
        to_do_from = λ p _. refl;
      }) before last;
      nearest = nearest_to c.args.rank.now pes c.args.distance.now None (2 ^ 64 - 1) end end (behind pes (length pes))
          (record { which = λ p past inside. absurd (omega (arith, past, inside)); far = refl }) before last;
      found = tt;
    }

pub loop-place-preserved-then-comes_first : goal.loop-place-preserved-then-comes_first
loop-place-preserved-then-comes_first c =
    let end : ℕ = length c.args.row.now in
    let pes : List ℕ = c.args.to_scan.now in
    let place : ℕ = c.loop-place.place - 1 in
    let k : ℕ = slice_index pes place in
    let known = c.loop-place.invariant in
    let some : 0 < c.loop-place.place = c.loop-place-test.true in
    let in_list : place < length pes = omega (arith, some, known.few) in
    let listed : IsUnscanned c.args.rank.now pes end = c.requires.unscanned in
    let at : AtPlace c.args.rank.now pes end place = at_place c.args.rank.now pes end place listed in_list in
    let inside : k < end = at.inside in
    let walked : Walked c.args.joining.distance c.args.joining.price c.args.joining.block c.args.row.now c.args.discount.now c.args.rank.now
    c.args.distance.now c.args.from.now c.loop-place.distance c.loop-place.from end (k + 1) = subst
    (λ n. Walked c.args.joining.distance c.args.joining.price c.args.joining.block c.args.row.now c.args.discount.now c.args.rank.now
    c.args.distance.now c.args.from.now c.loop-place.distance c.loop-place.from end n) (behind_some pes c.loop-place.place some) known.walked in
    let nearest : Nearest c.args.rank.now pes c.loop-place.distance c.loop-place.nearest c.loop-place.least end (k + 1) = subst
    (λ n. Nearest c.args.rank.now pes c.loop-place.distance c.loop-place.nearest c.loop-place.least end n)
    (behind_some pes c.loop-place.place some) known.nearest in
    let there : ℕ = c.args.joining.distance + slice_index c.args.row.now k + slice_index c.args.discount.now k - c.args.joining.price in
    let exact : there + c.args.joining.price ≡ c.args.joining.distance + slice_index c.args.row.now k + slice_index c.args.discount.now
    k = omega (arith, c.requires.low k inside) in
    let small : there < 2 ^ 64 - 1 = omega (arith, c.requires.near, c.requires.small k inside) in
    let in_distance : k < length c.loop-place.distance = omega (arith, inside, c.loop-place.auto.distance, c.requires.distances) in
    let in_from : k < length c.loop-place.from = omega (arith, inside, c.loop-place.auto.from, c.requires.froms) in
    let r : Relaxing c.args.joining.distance c.args.joining.price c.args.joining.block c.args.row.now c.args.discount.now c.args.rank.now
    c.args.distance.now c.args.from.now c.loop-place.distance c.if-way-far.distance c.if-way-far.from end k c.if-way-far.far = elim c.if-way-far.branch [
      | then-way-far v ↦
          let d : c.if-way-far.distance ≡ set c.loop-place.distance k there = v.distance-is in
          let f : c.if-way-far.from ≡ set c.loop-place.from k c.args.joining.block = v.from-is in
          let e : c.if-way-far.far ≡ there = v.far-is in
          rw (d, f, e) (relaxed_nearer _ _ _ _ _ _ _ _ _ _ end k there walked at.unscanned in_distance in_from exact v.if-way-far.true small)
      | else-way-far v ↦
          let e : c.if-way-far.far ≡ slice_index c.loop-place.distance k = v.far-is in
          rw (v.distance-is, v.from-is, e) (relaxed_kept _ _ _ _ _ _ _ _ _ _ end k there walked exact v.if-way-far.false small)
    ] in
    let near : c.if-way-far.far ≤ c.loop-place.least = (let h = rw c.if-comes_first.true at c.comes_first.ensures in h) in
    record {
      few = omega (arith, in_list);
      walked = walked_to _ _ _ _ _ _ _ _ _ _ end k (behind pes place) r.walked at.before at.between;
      nearest = step_taken _ _ _ _ _ _ pes _ _ _ _ _ _ _ end place c.if-way-far.far r at nearest near;
      found = in_list;
    }

pub loop-place-preserved : goal.loop-place-preserved
loop-place-preserved c =
    let end : ℕ = length c.args.row.now in
    let pes : List ℕ = c.args.to_scan.now in
    let place : ℕ = c.loop-place.place - 1 in
    let k : ℕ = slice_index pes place in
    let known = c.loop-place.invariant in
    let some : 0 < c.loop-place.place = c.loop-place-test.true in
    let in_list : place < length pes = omega (arith, some, known.few) in
    let listed : IsUnscanned c.args.rank.now pes end = c.requires.unscanned in
    let at : AtPlace c.args.rank.now pes end place = at_place c.args.rank.now pes end place listed in_list in
    let inside : k < end = at.inside in
    let walked : Walked c.args.joining.distance c.args.joining.price c.args.joining.block c.args.row.now c.args.discount.now c.args.rank.now
    c.args.distance.now c.args.from.now c.loop-place.distance c.loop-place.from end (k + 1) = subst
    (λ n. Walked c.args.joining.distance c.args.joining.price c.args.joining.block c.args.row.now c.args.discount.now c.args.rank.now
    c.args.distance.now c.args.from.now c.loop-place.distance c.loop-place.from end n) (behind_some pes c.loop-place.place some) known.walked in
    let nearest : Nearest c.args.rank.now pes c.loop-place.distance c.loop-place.nearest c.loop-place.least end (k + 1) = subst
    (λ n. Nearest c.args.rank.now pes c.loop-place.distance c.loop-place.nearest c.loop-place.least end n)
    (behind_some pes c.loop-place.place some) known.nearest in
    let there : ℕ = c.args.joining.distance + slice_index c.args.row.now k + slice_index c.args.discount.now k - c.args.joining.price in
    let exact : there + c.args.joining.price ≡ c.args.joining.distance + slice_index c.args.row.now k + slice_index c.args.discount.now
    k = omega (arith, c.requires.low k inside) in
    let small : there < 2 ^ 64 - 1 = omega (arith, c.requires.near, c.requires.small k inside) in
    let in_distance : k < length c.loop-place.distance = omega (arith, inside, c.loop-place.auto.distance, c.requires.distances) in
    let in_from : k < length c.loop-place.from = omega (arith, inside, c.loop-place.auto.from, c.requires.froms) in
    let r : Relaxing c.args.joining.distance c.args.joining.price c.args.joining.block c.args.row.now c.args.discount.now c.args.rank.now
    c.args.distance.now c.args.from.now c.loop-place.distance c.if-way-far.distance c.if-way-far.from end k c.if-way-far.far = elim c.if-way-far.branch [
      | then-way-far v ↦
          let d : c.if-way-far.distance ≡ set c.loop-place.distance k there = v.distance-is in
          let f : c.if-way-far.from ≡ set c.loop-place.from k c.args.joining.block = v.from-is in
          let e : c.if-way-far.far ≡ there = v.far-is in
          rw (d, f, e) (relaxed_nearer _ _ _ _ _ _ _ _ _ _ end k there walked at.unscanned in_distance in_from exact v.if-way-far.true small)
      | else-way-far v ↦
          let e : c.if-way-far.far ≡ slice_index c.loop-place.distance k = v.far-is in
          rw (v.distance-is, v.from-is, e) (relaxed_kept _ _ _ _ _ _ _ _ _ _ end k there walked exact v.if-way-far.false small)
    ] in
    let near : c.loop-place.least ≤ c.if-way-far.far = (let h = rw c.if-comes_first.false at c.comes_first.ensures in h) in
    record {
      few = omega (arith, in_list);
      walked = walked_to _ _ _ _ _ _ _ _ _ _ end k (behind pes place) r.walked at.before at.between;
      nearest = step_left _ _ _ _ _ _ pes _ _ _ _ _ _ _ end place c.if-way-far.far r at nearest near;
      found = known.found;
    }

pub returns-clause-relaxed : goal.returns-clause-relaxed
returns-clause-relaxed c = λ p inside not_yet. c.loop-place.invariant.walked.relaxed p
    (omega (arith, behind_none c.args.to_scan.now c.loop-place.place (omega (arith, c.loop-place-test.false)))) inside not_yet

pub returns-clause-kept_distance : goal.returns-clause-kept_distance
returns-clause-kept_distance c = c.loop-place.invariant.walked.kept_distance

pub returns-clause-kept_from : goal.returns-clause-kept_from
returns-clause-kept_from c = c.loop-place.invariant.walked.kept_from

pub returns-clause-nearest : goal.returns-clause-nearest
returns-clause-nearest c =
    let all : behind c.args.to_scan.now c.loop-place.place ≡ 0 = behind_none c.args.to_scan.now c.loop-place.place (omega (arith, c.loop-place-test.false)) in
    nearest_of_all c.args.rank.now c.args.to_scan.now c.loop-place.distance c.loop-place.nearest c.loop-place.least (length c.args.row.now)
    (subst (λ k. Nearest c.args.rank.now c.args.to_scan.now c.loop-place.distance c.loop-place.nearest c.loop-place.least
    (length c.args.row.now) k) all c.loop-place.invariant.nearest)

pub returns-clause-listed : goal.returns-clause-listed
returns-clause-listed c = c.loop-place.invariant.found

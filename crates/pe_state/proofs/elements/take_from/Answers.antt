use Rattle.std.proofs.Common.{◌≡◌, ◌+◌, ◌<◌, None, length, drop, ap, sym, ◌∙◌, arith}
use Rattle.pe_state.specs.InOrder.{element_on}
use Rattle.pe_state.specs.Rooms.{found}
use Rattle.pe_state.proofs.InOrder.{hit, missed, others_stay}
use Rattle.pe_state.proofs.elements.take_from.Goals as goal

pub returns-in-Some-clause-value : goal.returns-in-Some-clause-value
returns-in-Some-clause-value g c =
    let test = c.loop-place-test.true in
    let long = c.len-place-end.ensures in
    let same = c.loop-place.invariant.same in
    let h : c.loop-place.place < length c.loop-place.ends.items = omega (arith, test, long, ap length same) in
    sym (hit c.args.index c.loop-place.place c.loop-place.ends.items c.index_mut.result.now c.in-Some.element h c.index_mut.ensures.value
    (sym c.in-Some.ensures.value)) ∙ c.loop-place.invariant.sought

pub returns-in-Some-clause-others : goal.returns-in-Some-clause-others
returns-in-Some-clause-others g c i other =
    others_stay c.args.index c.loop-place.place c.loop-place.ends.items c.index_mut.result.now c.take.new.self c.index_mut.ensures.value c.take.ensures.left i other
    ∙ ap (element_on i) c.loop-place.invariant.same

pub loop-place-preserved : goal.loop-place-preserved
loop-place-preserved g c =
    let test = c.loop-place-test.true in
    let long = c.len-place-end.ensures in
    let h : c.loop-place.place < length c.loop-place.ends.items = omega (arith, test, long, ap length c.loop-place.invariant.same) in
    let none : found c.args.index c.index_mut.result.now.room ≡ None = sym c.take.ensures.value ∙ c.in_default.is in
    let (same, sought) = missed c.args.index c.loop-place.place c.loop-place.ends.items c.index_mut.result.now c.take.new.self h
    c.index_mut.ensures.value none c.take.ensures.left in
    record {
      same = same ∙ c.loop-place.invariant.same;
      sought = ap (λ ends. element_on c.args.index (drop (c.loop-place.place + 1) ends)) same ∙ sym sought ∙ c.loop-place.invariant.sought;
    }

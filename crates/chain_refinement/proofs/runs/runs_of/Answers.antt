use Rattle.std.proofs.Common.{◌≡◌, arith, ap, sym, ◌∙◌, subst}
use Rattle.std.proofs.lemmas.Bool.{iff_false}
use Rattle.std.proofs.lemmas.List.{get_or_default}
use Rattle.std.specs.List.{Contains}
use Rattle.chain_refinement.specs.Orders.{place_of}
use Rattle.chain_refinement.specs.Runs.{IsLast}
use Rattle.chain_refinement.proofs.PresentOrders.{no_order_past}
use Rattle.chain_refinement.proofs.PresentRuns.{no_order_twice, runs_push, runs_same}
use Rattle.chain_refinement.proofs.runs.runs_of.Goals as goal
use Rattle.chain_refinement.proofs.runs.runs_of.Goals.{then-place-pes-via-then-place-pes, then-place-pes-via-else-place-pes+then-has}

pub loop-i-preserved-then-is_last : goal.loop-i-preserved-then-is_last
loop-i-preserved-then-is_last g c =
    let sizes = c.args.pairs.now in
    let i = c.loop-i.i in
    let here : place_of sizes i ≡ c.get-place.result =
    sym (c.get-place.ensures.value ∙ ap (λ s. s.1) (get_or_default sizes i c.index-pairs-i.result (0, 0) (omega arith))) in
    let last = subst (λ ns. IsLast ns c.get-place.result) c.deref.ensures.value (c.is_last.ensures.0 c.if-is_last.true) in
    runs_same sizes c.args.pes i c.loop-i.names.items c.loop-i.starts.items c.loop-i.invariant last.0 (here ∙ sym last.1)

pub returns-then-place-pes : goal.returns-then-place-pes
returns-then-place-pes g c =
    let sizes = c.args.pairs.now in
    let i = c.loop-i.i in
    let names = c.loop-i.names.items in
    let here : place_of sizes i ≡ c.get-place.result =
    sym (c.get-place.ensures.value ∙ ap (λ s. s.1) (get_or_default sizes i c.index-pairs-i.result (0, 0) (omega arith))) in
    elim c.then-place-pes.branch [
      | then-place-pes-via-then-place-pes w ↦ record { runs = no_order_past sizes c.args.pes i (omega arith) (omega (arith, here)) }
      | then-place-pes-via-else-place-pes+then-has w ↦
          let other : IsLast names (place_of sizes i) → ⊥ = λ last. iff_false c.is_last.ensures c.if-is_last.false
          (subst (λ ns. IsLast ns c.get-place.result) (sym c.deref.ensures.value) (subst (λ p. IsLast names p) here last)) in
          let found = subst (λ ns. Contains ns c.get-place.result) w.deref-else-place-pes.ensures.value (w.has.ensures.0 w.if-has.true) in
          record { runs = no_order_twice sizes c.args.pes i names c.loop-i.starts.items c.loop-i.invariant (omega arith) other (subst (λ p. Contains names p) (sym here) found) }
    ]

pub loop-i-preserved : goal.loop-i-preserved
loop-i-preserved g c =
    let sizes = c.args.pairs.now in
    let i = c.loop-i.i in
    let names = c.loop-i.names.items in
    let here : place_of sizes i ≡ c.get-place.result =
    sym (c.get-place.ensures.value ∙ ap (λ s. s.1) (get_or_default sizes i c.index-pairs-i.result (0, 0) (omega arith))) in
    let new : Contains names c.get-place.result → ⊥ = λ found. iff_false c.has.ensures c.if-has.false
    (subst (λ ns. Contains ns c.get-place.result) (sym c.deref-else-place-pes.ensures.value) found) in
    rw (c.in_ok-push.ensures.items, c.in_ok-push-2.ensures.items)
    (runs_push sizes c.args.pes i names c.loop-i.starts.items c.get-place.result c.loop-i.invariant here (omega arith) new)

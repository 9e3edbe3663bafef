use Rattle.std.proofs.Common.{◌≡◌, length, arith, refl, sym, subst}
use Rattle.std.proofs.lemmas.Bool.{iff_false}
use Rattle.std.specs.List.{Contains}
use Rattle.chain_refinement.proofs.Idle.{AreListed, listed_all, listed_push, listed_skip}
use Rattle.chain_refinement.proofs.runs.with_idle.Goals as goal
use Rattle.chain_refinement.proofs.runs.with_idle.Goals.{then-not-has+in_ok-push+in_ok-push-2, else-not-has}

pub loop-pe-preserved : goal.loop-pe-preserved
loop-pe-preserved g c =
    let sizes = c.args.pairs.now in
    let names = c.loop-pe.names.items in
    let starts = c.loop-pe.starts.items in
    let busy = length c.args.runs.names.items in
    elim c.if-not-has.branch [
      | then-not-has+in_ok-push+in_ok-push-2 w ↦
          let new : Contains names c.loop-pe.pe → ⊥ = λ found. iff_false c.has.ensures w.if-not-has.true
          (subst (λ ns. Contains ns c.loop-pe.pe) (sym c.deref.ensures.value) found) in
          rw (w.names-is, w.starts-is, w.in_ok-push.ensures.items, w.in_ok-push-2.ensures.items)
          (listed_push sizes c.args.pes (length sizes) busy c.loop-pe.pe names starts c.loop-pe.invariant (omega arith) new)
      | else-not-has w ↦
          let found = subst (λ ns. Contains ns c.loop-pe.pe) c.deref.ensures.value (c.has.ensures.0 w.if-not-has.false) in
          rw (w.names-is, w.starts-is) (listed_skip sizes c.args.pes (length sizes) busy c.loop-pe.pe names starts c.loop-pe.invariant found)
    ]

pub returns : goal.returns
returns g c =
    let sizes = c.args.pairs.now in
    let names = c.loop-pe.names.items in
    let starts = c.loop-pe.starts.items in
    let busy = length c.args.runs.names.items in
    let all : c.loop-pe.pe ≡ c.args.pes = omega arith in
    let listed = subst (λ pe. AreListed sizes c.args.pes (length sizes) busy pe names starts) all c.loop-pe.invariant in
    record {
      order = rw (c.new.ensures.value, c.new-2.ensures.value, c.in_ok-push-3.ensures.items) (listed_all sizes c.args.pes (length sizes) busy names starts listed refl);
    }

use Rattle.std.proofs.Common.{◌≡◌, ◌++◌, take, ap, ◌∙◌, sym, append_assoc, List, ℕ}
use Rattle.std.proofs.KnownBytes.{Appends-trans}
use Rattle.run_checkpoint.proofs.putting.put.Goals as goal

pub loop-rest-preserved : goal.loop-rest-preserved
loop-rest-preserved g c =
    let before = c.loop-rest.invariant in
    let front = take c.in-Ok.len c.loop-rest.rest.now in
    let after = c.split_at.result.1.now in
    let parts : c.loop-rest.rest.now ≡ front ++ after = c.split_at.ensures.by_index.0 ∙ ap (λ (p : List ℕ). p ++ after) c.split_at.ensures.front in (
      before.0 ++ front,
      before.1 ∙ ap (λ (r : List ℕ). before.0 ++ r) parts ∙ sym (append_assoc before.0 front after),
      Appends-trans _ _ _ before.0 front before.2 c.in-Ok.ensures.bytes,
    )

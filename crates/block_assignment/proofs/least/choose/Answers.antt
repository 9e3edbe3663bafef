use Rattle.std.proofs.Common.{List, ℕ, arith}
use Rattle.block_assignment.proofs.LeastPes.{least_more}
use Rattle.block_assignment.proofs.least.choose.Goals as goal
use Rattle.block_assignment.proofs.least.choose.Goals.{then-pe-names+then-not-has+then-has, else-pe-names, else-pe-names-via-then-pe-names+then-not-has+else-has, else-pe-names-via-then-pe-names+else-not-has, else-pe-names-via-else-pe-names}

pub loop-j-preserved : goal.loop-j-preserved
loop-j-preserved c =
    let takers : List (List ℕ) = c.args.takers.now in
    let names : List ℕ = c.args.names.now in
    let left : List ℕ = c.args.left.now in
    let b : ℕ = c.args.b in
    let j : ℕ = c.loop-j.j in
    let chosen : ℕ = c.loop-j.chosen in
    let known = c.loop-j.invariant in
    elim c.if-pe-names.branch [
      | then-pe-names+then-not-has+then-has w ↦ rw w.chosen-is (record {
        reached = record { from = omega arith; inside = omega arith; taken = w.if-not-has.ensures };
        allowed = w.if-has.ensures;
        least = least_more takers names left b j chosen j known.least (omega (arith, w.if-pe-names.true)) (λ found has. omega arith);
      })
      | else-pe-names w ↦ rw w.chosen-is (record {
        reached = known.reached;
        allowed = known.allowed;
        least = least_more takers names left b j chosen chosen known.least (omega arith) (λ found has. elim w.else-pe-names.branch [
          | else-pe-names-via-then-pe-names+then-not-has+else-has v ↦ absurd (omega (arith, has, v.if-has.ensures))
          | else-pe-names-via-then-pe-names+else-not-has v ↦ absurd (omega (arith, found.taken, v.if-not-has.ensures))
          | else-pe-names-via-else-pe-names v ↦ v.if-pe-names.false
        ]);
      })
    ]

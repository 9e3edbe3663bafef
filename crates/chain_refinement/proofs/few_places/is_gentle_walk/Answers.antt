use Rattle.std.proofs.Common.{◌≡◌, ℕ, ◌+◌, ◌≤◌, arith, inl, inr, subst}
use Rattle.std.proofs.lemmas.Bool.{cases_lt, OnTrue_at, OnTrue_from}
use Rattle.chain_refinement.specs.Internal.{IsGentle, IsPlace, IsWalked}
use Rattle.chain_refinement.proofs.Steeps.{gentle_here, gentle_where_not}
use Rattle.chain_refinement.proofs.few_places.is_gentle_walk.Goals as goal

pub returns : goal.returns
returns g c =
    let claim = c.args.claim.now in
    let b = c.args.b in
    let last : c.loop-x.x ≡ c.args.to = omega arith in
    let here : IsPlace claim b c.args.to c.loop-x.place = subst (λ x. IsPlace claim b x c.loop-x.place) last c.loop-x.invariant.here in
    let there : IsGentle claim b c.args.to = gentle_here claim b c.args.to c.loop-x.place here
    (gentle_where_not c.is_steep-2.result (c.loop-x.place.low.height + c.loop-x.place.cost) c.loop-x.place.high.height
    c.is_steep-2.ensures.steep c.if-is_steep-2.false) in
    let gentle : (x : ℕ) → c.args.from ≤ x → x ≤ c.args.to → IsGentle claim b x = λ x onward within. elim (cases_lt x c.args.to) [
      | inl before ↦ c.loop-x.invariant.gentle x onward (omega (arith, before, last))
      | inr at_end ↦ subst (IsGentle claim b) (omega (arith, at_end, within)) there
    ] in
    record {
      walked = OnTrue_from c.is_level_behind.result (IsWalked claim b c.args.from c.args.to) (λ level. record {
        gentle = gentle;
        level = OnTrue_at level c.is_level_behind.ensures.level;
      });
    }

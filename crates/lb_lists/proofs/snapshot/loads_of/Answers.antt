use Rattle.std.proofs.Common.{◌≤◌, length, arith, ap, sym, subst}
use Rattle.std.specs.Prelude.{All}
use Rattle.chare_index.specs.declared.limits.TheConstants.Limits.{LOAD}
use Rattle.lb_snapshot.proofs.Made.{made_where}
use Rattle.lb_lists.proofs.snapshot.loads_of.Goals as goal

pub unwrap-requires : goal.unwrap-requires
unwrap-requires g c =
    let same = c.in_ok-from_slice.ensures.items in
    made_where c.new.result _ _ c.new.ensures.made (record {
      few = omega (arith, ap length same, c.requires.few);
      small = subst (All (λ units. units ≤ LOAD)) (sym same) c.requires.light;
    })

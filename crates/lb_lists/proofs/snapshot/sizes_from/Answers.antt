use Rattle.std.proofs.Common.{◌≤◌, length, arith, ap, sym, subst}
use Rattle.std.specs.Prelude.{All}
use Rattle.chare_index.specs.declared.limits.TheConstants.Limits.{STATE_BYTES}
use Rattle.lb_snapshot.proofs.Made.{made_where}
use Rattle.lb_lists.proofs.Zipped.{all_firsts, zip_length}
use Rattle.lb_lists.proofs.snapshot.sizes_from.Goals as goal

pub unwrap-requires : goal.unwrap-requires
unwrap-requires g c =
    made_where c.new.result _ _ c.new.ensures.made (record {
      few = omega (arith, ap length c.in_ok-pairs_of.ensures, zip_length c.args.bytes.now c.args.places.now c.requires.counted, c.requires.few);
      small = subst (All (λ size. size.0 ≤ STATE_BYTES)) (sym c.in_ok-pairs_of.ensures)
          (all_firsts (λ size. size ≤ STATE_BYTES) c.args.bytes.now c.args.places.now c.requires.counted c.requires.small);
    })

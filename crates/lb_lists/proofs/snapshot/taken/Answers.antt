use Rattle.std.proofs.Common.{◌≡◌, ◌<◌, ◌≤◌, length, arith, ap, sym, subst, ◌∙◌}
use Rattle.std.specs.Prelude.{All}
use Rattle.lb_snapshot.proofs.Made.{made_where}
use Rattle.lb_lists.specs.Runs.{IsRun}
use Rattle.lb_lists.proofs.Zipped.{all_seconds, zip_length}
use Rattle.lb_lists.proofs.snapshot.taken.Goals as goal

pub unwrap-requires : goal.unwrap-requires
unwrap-requires g c =
    let run = subst IsRun (sym c.run.view_is) c.requires.run in
    let same : length c.run.inside.places.now ≡ length c.run.inside.bytes.now = run.stood ∙ sym run.sized in
    let loads = c.in_ok-loads.ensures in
    let sizes = c.in_ok-sizes.ensures in
    made_where c.new.result _ _ c.new.ensures.made (record {
      some_pe = run.some_pe;
      few_pes = subst (λ r. r.procs ≤ 256) (sym c.run.view_is) c.requires.few_pes;
      paired = omega (arith, ap length loads, ap length sizes, zip_length c.run.inside.bytes.now c.run.inside.places.now same, run.sized);
      placed = subst (All (λ size. size.1 < c.run.inside.procs)) (sym sizes)
          (all_seconds (λ place. place < c.run.inside.procs) c.run.inside.bytes.now c.run.inside.places.now same run.placed);
    })

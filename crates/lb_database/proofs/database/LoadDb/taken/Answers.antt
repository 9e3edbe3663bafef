use Rattle.std.proofs.Common.{◌≡◌, ◌<◌, ◌∙◌, sym, ap, subst, map, Some, length}
use Rattle.lb_snapshot.specs.Measured.{IsTaken, Taken}
use Rattle.lb_snapshot.proofs.Made.{made_where}
use Rattle.lb_database.specs.Measuring.{elements}
use Rattle.lb_database.proofs.Refused.{known}
use Rattle.lb_database.proofs.Reports.{placed_there}
use Rattle.lb_database.proofs.database.LoadDb.taken.Goals as goal

pub unwrap-requires : goal.unwrap-requires
unwrap-requires g c =
    let m = c.args.self.now in
    let kept : c.in_ok-loads.loads ≡ m.loads = c.in_ok-loads.ensures.items ∙ c.deref.ensures.value ∙ ap (λ m. m.loads) c.self.view_is in
    let same : map Some c.in_ok-sizes.sizes ≡ m.reports = c.in_ok-sizes.ensures.items ∙ c.deref-2.ensures.value ∙ ap (λ m. m.reports) c.self.view_is in
    let paired : length m.loads ≡ length m.reports = sym (ap (λ m. length m.loads) c.self.view_is) ∙ c.self.invariant.0.paired ∙ ap (λ m. length m.reports) c.self.view_is in
    let taken : IsTaken c.args.pes c.in_ok-loads.loads c.in_ok-sizes.sizes = placed_there m c.args.pes c.in_ok-loads.loads
    c.in_ok-sizes.sizes kept same paired c.requires.some_pe c.requires.few_pes c.requires.placed in
    made_where c.new.result (IsTaken c.args.pes c.in_ok-loads.loads c.in_ok-sizes.sizes) _ c.new.ensures.made taken

pub returns-in_err-loads-clause-refused : goal.returns-in_err-loads-clause-refused
returns-in_err-loads-clause-refused g c =
    let kept = c.deref.ensures.value ∙ ap (λ m. m.loads) c.self.view_is in
    known c.from_residual.result (0 < elements c.args.self.now) (subst (λ loads. 0 < length loads) kept c.in_err-loads.ensures.refused)

pub returns-in_err-sizes-clause-refused : goal.returns-in_err-sizes-clause-refused
returns-in_err-sizes-clause-refused g c =
    let paired = ap length c.deref-2.ensures.value ∙ sym c.self.invariant.0.paired ∙ ap (λ m. length m.loads) c.self.view_is in
    known c.from_residual-in_err-sizes.result (0 < elements c.args.self.now) (subst (λ n. 0 < n) paired c.in_err-sizes.ensures.refused)

pub returns-clause-of_all : goal.returns-clause-of_all
returns-clause-of_all g c =
    let made = rw c.unwrap.ensures at c.new.ensures.made in
    record {
      at_step = ap (λ (taken : Taken). taken.step) made.1;
      on_pes = ap (λ (taken : Taken). taken.procs) made.1;
      loads_charged = ap (λ (taken : Taken). taken.loads) made.1 ∙ c.in_ok-loads.ensures.items ∙ c.deref.ensures.value ∙ ap (λ m. m.loads) c.self.view_is;
      sizes_reported = ap (λ (taken : Taken). map Some taken.sizes) made.1 ∙ c.in_ok-sizes.ensures.items ∙ c.deref-2.ensures.value ∙ ap (λ m. m.reports) c.self.view_is;
    }

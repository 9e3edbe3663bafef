use Rattle.std.proofs.Common.{◌<◌, ◌∙◌, ap, map, length, Some}
use Rattle.lb_snapshot.specs.Measured.{IsSizes}
use Rattle.lb_snapshot.proofs.Made.{made_where}
use Rattle.lb_database.proofs.Refused.{known}
use Rattle.lb_database.proofs.Reports.{sizes_there}
use Rattle.lb_database.proofs.lists.reported_sizes.Goals as goal

pub unwrap-requires : goal.unwrap-requires
unwrap-requires g c =
    let sizes = c.in_ok-pairs_of.field-0.items in
    made_where c.new.result (IsSizes sizes) _ c.new.ensures.made (sizes_there sizes c.args.reports.now c.in_ok-pairs_of.ensures.items c.requires.within)

pub returns-in_err-pairs_of-clause-refused : goal.returns-in_err-pairs_of-clause-refused
returns-in_err-pairs_of-clause-refused g c =
    known c.from_residual.result (0 < length c.args.reports.now) c.in_err-pairs_of.ensures.refused

pub returns-clause-items : goal.returns-clause-items
returns-clause-items g c =
    let made = rw c.unwrap.ensures at c.new.ensures.made in
    ap (λ sizes. map Some sizes) made.1 ∙ c.in_ok-pairs_of.ensures.items

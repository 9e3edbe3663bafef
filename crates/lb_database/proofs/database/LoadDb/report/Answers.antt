use Rattle.std.proofs.Common.{ap}
use Rattle.lb_database.specs.Measuring.{with_report}
use Rattle.lb_database.specs.Refusals.{RefusesReport}
use Rattle.lb_database.specs.declared.error.DbError.TheVariants.{Twice}
use Rattle.lb_database.proofs.Refused.{report_taken, too_large_refused, twice_refused, wrong_round_refused}
use Rattle.lb_database.proofs.Reports.{same_reports, some_missing, missing_less, measured_more}
use Rattle.lb_database.proofs.database.LoadDb.report.Goals as goal

pub invariant_of-self : goal.invariant_of-self
invariant_of-self g c = c.self.invariant

pub invariant_of-self-then-ne : goal.invariant_of-self-then-ne
invariant_of-self-then-ne g c =
    let stood = c.in-Some.ensures.value in
    rw (same_reports c.self.inside.reports.items c.args.i c.in-Some.report.now stood) c.self.invariant

pub invariant_of-self-then-is_some : goal.invariant_of-self-then-is_some
invariant_of-self-then-is_some g c =
    let stood = c.in-Some.ensures.value in
    rw (same_reports c.self.inside.reports.items c.args.i c.in-Some.report.now stood) c.self.invariant

pub invariant_of-self-then-bytes-gt-STATE_BYTES : goal.invariant_of-self-then-bytes-gt-STATE_BYTES
invariant_of-self-then-bytes-gt-STATE_BYTES g c =
    let stood = c.in-Some.ensures.value in
    rw (same_reports c.self.inside.reports.items c.args.i c.in-Some.report.now stood) c.self.invariant

pub overflow_sub-self : goal.overflow_sub-self
overflow_sub-self g c =
    let self = c.self.inside in
    let item = c.in-Some.ensures.item in
    some_missing self.reports.items c.args.i (c.args.bytes, c.args.pe) c.in-Some.report.now self.missing item.3.0 item.1 c.if-is_some.ensures c.self.invariant.1

pub invariant_of-self-2 : goal.invariant_of-self-2
invariant_of-self-2 g c =
    let self = c.self.inside in
    let item = c.in-Some.ensures.item in (
      measured_more (record { round = self.round; loads = self.loads.items; reports = self.reports.items }) c.args.i c.args.bytes c.args.pe
          c.if-bytes-gt-STATE_BYTES.false c.self.invariant.0,
      missing_less self.reports.items c.args.i (c.args.bytes, c.args.pe) c.in-Some.report.now self.missing item.3.0 item.1 c.if-is_some.ensures c.self.invariant.1,
    )

pub returns-then-ne-clause-answer : goal.returns-then-ne-clause-answer
returns-then-ne-clause-answer g c =
    let item = c.in-Some.ensures.item in
    wrong_round_refused _ c.args.self.now c.args.i c.args.round c.args.bytes c.self.view_is c.self.invariant.0 item.3.0 c.if-ne.ensures

pub returns-then-is_some-clause-answer : goal.returns-then-is_some-clause-answer
returns-then-is_some-clause-answer g c =
    let item = c.in-Some.ensures.item in
    let refused : RefusesReport c.args.self.now c.args.i c.args.round c.args.bytes Twice = twice_refused _ c.args.self.now c.args.i
    c.args.round c.args.bytes c.in-Some.report.now c.self.view_is c.self.invariant.0 item.3.0 item.1 c.if-ne.ensures c.if-is_some.ensures in
    refused

pub returns-then-is_some-clause-ok : goal.returns-then-is_some-clause-ok
returns-then-is_some-clause-ok g c = tt

pub returns-then-bytes-gt-STATE_BYTES-clause-answer : goal.returns-then-bytes-gt-STATE_BYTES-clause-answer
returns-then-bytes-gt-STATE_BYTES-clause-answer g c =
    let item = c.in-Some.ensures.item in
    too_large_refused _ c.args.self.now c.args.i c.args.round c.args.bytes c.in-Some.report.now c.self.view_is c.self.invariant.0 item.3.0
    item.1 c.if-ne.ensures c.if-is_some.ensures c.if-bytes-gt-STATE_BYTES.true

pub returns-clause-answer : goal.returns-clause-answer
returns-clause-answer g c =
    let item = c.in-Some.ensures.item in
    report_taken _ c.args.self.now c.args.i c.args.round c.args.bytes c.in-Some.report.now c.self.view_is c.self.invariant.0 item.3.0 item.1
    c.if-ne.ensures c.if-is_some.ensures c.if-bytes-gt-STATE_BYTES.false

pub returns-clause-ok : goal.returns-clause-ok
returns-clause-ok g c = ap (λ m. with_report m c.args.i c.args.bytes c.args.pe) c.self.view_is

pub returns-then-ne-clause-err : goal.returns-then-ne-clause-err
returns-then-ne-clause-err g c =
    let stood = c.in-Some.ensures.value in
    rw (same_reports c.self.inside.reports.items c.args.i c.in-Some.report.now stood) c.self.view_is

pub returns-then-is_some-clause-err : goal.returns-then-is_some-clause-err
returns-then-is_some-clause-err g c =
    let stood = c.in-Some.ensures.value in
    rw (same_reports c.self.inside.reports.items c.args.i c.in-Some.report.now stood) c.self.view_is

pub returns-then-bytes-gt-STATE_BYTES-clause-err : goal.returns-then-bytes-gt-STATE_BYTES-clause-err
returns-then-bytes-gt-STATE_BYTES-clause-err g c =
    let stood = c.in-Some.ensures.value in
    rw (same_reports c.self.inside.reports.items c.args.i c.in-Some.report.now stood) c.self.view_is

use Rattle.std.proofs.Common.{◌∙◌, ap, subst}
use Rattle.std.specs.Prelude.{slice_get}
use Rattle.rts_core.specs.declared.event.Event.TheVariants as Happening
use Rattle.schedules.specs.Choices.{AreFlags, ChoicesView}
use Rattle.schedules.specs.NumberSets.{members}
use Rattle.schedules.specs.declared.bias.Kind.TheVariants.{Look, Flush, Deliver, Act, Report}
use Rattle.schedules.proofs.Sets.{act_is, deliver_is, flush_is, look_is, none_is, report_is, some_is}
use Rattle.schedules.proofs.choices.Choices.event_at.Goals as goal

pub returns-in_err-pe_in-in-Look : goal.returns-in_err-pe_in-in-Look
returns-in_err-pe_in-in-Look g c =
    let flags : AreFlags c.args.self.now = subst (λ (v : ChoicesView). AreFlags v) c.self.view_is c.self.invariant in
    let at = c.in_err-pe_in-in-Look.ensures.value ∙ ap (λ (v : ChoicesView). slice_get (members v.looks) c.args.place) c.self.view_is in
    record {
      value = none_is c.args.world.now c.args.self.now c.requires.knows flags c.args.kind Look Happening.Look c.args.self.now.looks c.args.place
          (look_is c.args.world.now c.args.self.now c.requires.knows flags) c.in-Look.is at c.from_residual.result c.from_residual.ensures;
    }

pub returns-in_ok-pe_in-in-Look : goal.returns-in_ok-pe_in-in-Look
returns-in_ok-pe_in-in-Look g c =
    let flags : AreFlags c.args.self.now = subst (λ (v : ChoicesView). AreFlags v) c.self.view_is c.self.invariant in
    let at = c.in_ok-pe_in-in-Look.ensures.value ∙ ap (λ (v : ChoicesView). slice_get (members v.looks) c.args.place) c.self.view_is in
    record {
      value = some_is c.args.world.now c.args.self.now c.requires.knows flags c.args.kind Look Happening.Look c.args.self.now.looks c.args.place c.in_ok-pe_in-in-Look.field-0
          (look_is c.args.world.now c.args.self.now c.requires.knows flags) c.in-Look.is at;
    }

pub returns-in_err-pe_in-in-Flush : goal.returns-in_err-pe_in-in-Flush
returns-in_err-pe_in-in-Flush g c =
    let flags : AreFlags c.args.self.now = subst (λ (v : ChoicesView). AreFlags v) c.self.view_is c.self.invariant in
    let at = c.in_err-pe_in-in-Flush.ensures.value ∙ ap (λ (v : ChoicesView). slice_get (members v.flushes) c.args.place) c.self.view_is in
    record {
      value = none_is c.args.world.now c.args.self.now c.requires.knows flags c.args.kind Flush Happening.Flush c.args.self.now.flushes c.args.place
          (flush_is c.args.world.now c.args.self.now c.requires.knows flags) c.in-Flush.is at c.from_residual-in_err-pe_in-in-Flush.result
          c.from_residual-in_err-pe_in-in-Flush.ensures;
    }

pub returns-in_ok-pe_in-in-Flush : goal.returns-in_ok-pe_in-in-Flush
returns-in_ok-pe_in-in-Flush g c =
    let flags : AreFlags c.args.self.now = subst (λ (v : ChoicesView). AreFlags v) c.self.view_is c.self.invariant in
    let at = c.in_ok-pe_in-in-Flush.ensures.value ∙ ap (λ (v : ChoicesView). slice_get (members v.flushes) c.args.place) c.self.view_is in
    record {
      value = some_is c.args.world.now c.args.self.now c.requires.knows flags c.args.kind Flush Happening.Flush c.args.self.now.flushes c.args.place c.in_ok-pe_in-in-Flush.field-0
          (flush_is c.args.world.now c.args.self.now c.requires.knows flags) c.in-Flush.is at;
    }

pub returns-in_err-pe_in-in-Deliver : goal.returns-in_err-pe_in-in-Deliver
returns-in_err-pe_in-in-Deliver g c =
    let flags : AreFlags c.args.self.now = subst (λ (v : ChoicesView). AreFlags v) c.self.view_is c.self.invariant in
    let at = c.in_err-pe_in-in-Deliver.ensures.value ∙ ap (λ (v : ChoicesView). slice_get (members v.delivers) c.args.place) c.self.view_is in
    record {
      value = none_is c.args.world.now c.args.self.now c.requires.knows flags c.args.kind Deliver Happening.Deliver c.args.self.now.delivers c.args.place
          (deliver_is c.args.world.now c.args.self.now c.requires.knows flags) c.in-Deliver.is at
          c.from_residual-in_err-pe_in-in-Deliver.result c.from_residual-in_err-pe_in-in-Deliver.ensures;
    }

pub returns-in_ok-pe_in-in-Deliver : goal.returns-in_ok-pe_in-in-Deliver
returns-in_ok-pe_in-in-Deliver g c =
    let flags : AreFlags c.args.self.now = subst (λ (v : ChoicesView). AreFlags v) c.self.view_is c.self.invariant in
    let at = c.in_ok-pe_in-in-Deliver.ensures.value ∙ ap (λ (v : ChoicesView). slice_get (members v.delivers) c.args.place) c.self.view_is in
    record {
      value = some_is c.args.world.now c.args.self.now c.requires.knows flags c.args.kind Deliver Happening.Deliver c.args.self.now.delivers
          c.args.place c.in_ok-pe_in-in-Deliver.field-0
          (deliver_is c.args.world.now c.args.self.now c.requires.knows flags) c.in-Deliver.is at;
    }

pub returns-in_err-pe_in-in-Act : goal.returns-in_err-pe_in-in-Act
returns-in_err-pe_in-in-Act g c =
    let flags : AreFlags c.args.self.now = subst (λ (v : ChoicesView). AreFlags v) c.self.view_is c.self.invariant in
    let at = c.in_err-pe_in-in-Act.ensures.value ∙ ap (λ (v : ChoicesView). slice_get (members v.acts) c.args.place) c.self.view_is in
    record {
      value = none_is c.args.world.now c.args.self.now c.requires.knows flags c.args.kind Act Happening.Act c.args.self.now.acts c.args.place
          (act_is c.args.world.now c.args.self.now c.requires.knows flags) c.in-Act.is at c.from_residual-in_err-pe_in-in-Act.result c.from_residual-in_err-pe_in-in-Act.ensures;
    }

pub returns-in_ok-pe_in-in-Act : goal.returns-in_ok-pe_in-in-Act
returns-in_ok-pe_in-in-Act g c =
    let flags : AreFlags c.args.self.now = subst (λ (v : ChoicesView). AreFlags v) c.self.view_is c.self.invariant in
    let at = c.in_ok-pe_in-in-Act.ensures.value ∙ ap (λ (v : ChoicesView). slice_get (members v.acts) c.args.place) c.self.view_is in
    record {
      value = some_is c.args.world.now c.args.self.now c.requires.knows flags c.args.kind Act Happening.Act c.args.self.now.acts c.args.place c.in_ok-pe_in-in-Act.field-0
          (act_is c.args.world.now c.args.self.now c.requires.knows flags) c.in-Act.is at;
    }

pub returns-in_err-pe_in-in-Report : goal.returns-in_err-pe_in-in-Report
returns-in_err-pe_in-in-Report g c =
    let flags : AreFlags c.args.self.now = subst (λ (v : ChoicesView). AreFlags v) c.self.view_is c.self.invariant in
    let at = c.in_err-pe_in-in-Report.ensures.value ∙ ap (λ (v : ChoicesView). slice_get (members v.reports) c.args.place) c.self.view_is in
    record {
      value = none_is c.args.world.now c.args.self.now c.requires.knows flags c.args.kind Report Happening.Report c.args.self.now.reports c.args.place
          (report_is c.args.world.now c.args.self.now c.requires.knows flags) c.in-Report.is at
          c.from_residual-in_err-pe_in-in-Report.result c.from_residual-in_err-pe_in-in-Report.ensures;
    }

pub returns-in_ok-pe_in-in-Report : goal.returns-in_ok-pe_in-in-Report
returns-in_ok-pe_in-in-Report g c =
    let flags : AreFlags c.args.self.now = subst (λ (v : ChoicesView). AreFlags v) c.self.view_is c.self.invariant in
    let at = c.in_ok-pe_in-in-Report.ensures.value ∙ ap (λ (v : ChoicesView). slice_get (members v.reports) c.args.place) c.self.view_is in
    record {
      value = some_is c.args.world.now c.args.self.now c.requires.knows flags c.args.kind Report Happening.Report c.args.self.now.reports
          c.args.place c.in_ok-pe_in-in-Report.field-0
          (report_is c.args.world.now c.args.self.now c.requires.knows flags) c.in-Report.is at;
    }

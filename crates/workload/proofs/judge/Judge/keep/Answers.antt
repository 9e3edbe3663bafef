use Rattle.std.proofs.Common.{◌≡◌, true, sym, ◌∙◌}
use Rattle.workload.specs.Faults.{in_range}
use Rattle.workload.specs.Machine.{form_of}
use Rattle.workload.proofs.Judged.{in_range_small}
use Rattle.workload.proofs.judge.Judge.keep.Goals as goal

pub overflow_cast-value : goal.overflow_cast-value
overflow_cast-value g c =
    let ranged : in_range (form_of c.args.self.now.line 0) c.args.value ≡ true = sym (c.allows.ensures 0) ∙ c.if-not-allows.false in
    record { fits = in_range_small c.args.self.now.line 0 c.args.value ranged }

use Rattle.std.proofs.Common.{◌≡◌, ◌≤◌, List, ℕ, ap, arith, drop, length}
use Rattle.std.proofs.lemmas.List.{drop_all}
use Rattle.std.specs.Option.{option_map}
use Rattle.workload_run.proofs.Asking.{rest_asked, rest_none}
use Rattle.workload_run.proofs.early_dumps.EarlyDumps.write.Goals as goal

pub returns-then-rounds-self : goal.returns-then-rounds-self
returns-then-rounds-self g c =
    let self = c.args.self.now in
    let given = ap (option_map (λ p. p.now)) c.in-Some-None.is-0 in
    let nothing = drop_all self.written c.args.rounds.now (omega arith) in
    record {
      asked = rest_none self.format (option_map (λ p. p.now) self.prefix) self.failed (drop self.written c.args.rounds.now) (g.F.DumpFiles.names self.files)
          c.in-Some-None.prefix.now given c.in-Some-None.is-1 nothing;
    }

pub returns : goal.returns
returns g c =
    let self = c.args.self.now in
    let given = ap (option_map (λ p. p.now)) c.in-Some-None.is-0 in
    record {
      asked = rest_asked self.format (option_map (λ p. p.now) self.prefix) self.failed c.err-self.result (drop self.written c.args.rounds.now)
          (g.F.DumpFiles.names self.files) (g.F.DumpFiles.names c.write_later-written.new.files) c.in-Some-None.prefix.now c.write_later-written.result given
          c.in-Some-None.is-1 c.err-self.ensures.value c.write_later-written.ensures.asked;
    }

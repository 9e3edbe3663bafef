use Rattle.std.proofs.Common.{ℕ, ◌≤◌, ◌∙◌, length, take, sym, subst, inl, arith, rules}
use Rattle.std.specs.Io.KnownBytes.{Appends}
use Rattle.std.proofs.lemmas.List.{take_rest}
use Rattle.streams.proofs.Sends.{Sent, sent_more}
use Rattle.streams.proofs.output.write_out_logged.Goals as goal

pub loop-rest-preserved : goal.loop-rest-preserved
loop-rest-preserved g c =
    record {
      sent = subst (λ r. Sent (g.W.Write.contents c.args.writer.now) (g.W.Write.contents c.write.new.writer) c.args.bytes.now r) (sym (take_rest c.loop-rest.rest.now c.in-Ok.n))
          (sent_more (g.W.Write.contents c.args.writer.now) (g.W.Write.contents c.loop-rest.writer) (g.W.Write.contents c.write.new.writer)
          c.args.bytes.now c.loop-rest.rest.now c.in-Ok.n c.loop-rest.invariant.sent c.in-Ok.ensures.bound c.in-Ok.ensures.bytes);
      failure = c.in-Ok.ensures.failure ∙ c.loop-rest.invariant.failure;
      took_none = c.in-Ok.ensures.took_none.1 (inl (omega arith)) ∙ c.loop-rest.invariant.took_none;
    }

pub returns-in-Ok-eq0-clause-written : goal.returns-in-Ok-eq0-clause-written
returns-in-Ok-eq0-clause-written g c =
    let part : (n : ℕ) × (n ≤ length c.args.bytes.now)
    × Appends (g.W.Write.contents c.args.writer.now) (g.W.Write.contents c.write.new.writer) (take n c.args.bytes.now) = search rules in
    part

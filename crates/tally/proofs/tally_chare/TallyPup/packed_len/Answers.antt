use Rattle.std.proofs.Common.{◌≡◌, ◌+◌, ◌*◌, ap, length, true, subst, ◌∙◌}
use Rattle.tally.specs.Tallies.{TallyView, is_tally, tally_pack}
use Rattle.tally.proofs.Lengths.{parts_are_all, never_over}
use Rattle.tally.proofs.tally_chare.TallyPup.packed_len.Goals as goal

pub returns-clause-len : goal.returns-clause-len
returns-clause-len g c = λ _.
    subst (λ (t : TallyView). c.fields_len-numbers.result + c.amounts_len.result + c.packed_len.result ≡ length (tally_pack t)) c.self.view_is
    (parts_are_all (record {
      posted = c.self.inside.posted;
      got = c.self.inside.got;
      sum = c.self.inside.sum;
      amounts = c.self.inside.amounts;
      pad = c.self.inside.pad;
    }) c.self.invariant _ _ _ c.fields_len-numbers.ensures.len
    (c.amounts_len.ensures.value ∙ ap (λ xs. 4 + 4 * length xs) c.as_slice.ensures.value) c.packed_len.ensures.len)

pub returns-clause-over : goal.returns-clause-over
returns-clause-over g c = λ more.
    never_over c.args.self.now (subst (λ (t : TallyView). is_tally t ≡ true) c.self.view_is c.self.invariant) more _

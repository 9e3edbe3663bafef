use Rattle.std.proofs.Common.{◌∙◌, Fits, ap, length, refl, rules, w64}
use Rattle.rts_core.specs.Accounts.{execution_of, post_of}
use Rattle.schedules.proofs.Counting.{entry_more, starts}
use Rattle.schedules.proofs.letter_count.LetterCount.with.Goals as goal

pub loop-entry-init : goal.loop-entry-init
loop-entry-init c =
    let posted : Fits w64 c.args.self.posted = search rules in
    let executed : Fits w64 c.args.self.executed = search rules in
    record { posted = starts c.args.self.posted posted.fits; executed = starts c.args.self.executed executed.fits }

pub loop-entry-preserved : goal.loop-entry-preserved
loop-entry-preserved c =
    let at = c.loop-entry in
    let entry = c.entry-item.result in
    record {
      posted = entry_more post_of c.args.entries.now at.entry-index entry c.args.self.posted at.count.posted c.posts_in.result _ c.loop-entry-test.true
          at.invariant.posted (c.posts_in.ensures.value ∙ ap (λ x. length (post_of x)) c.entry-item.is) refl;
      executed = entry_more execution_of c.args.entries.now at.entry-index entry c.args.self.executed at.count.executed c.executions_in.result _ c.loop-entry-test.true
          at.invariant.executed (c.executions_in.ensures.value ∙ ap (λ x. length (execution_of x)) c.entry-item.is) refl;
    }

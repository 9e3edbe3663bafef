use Rattle.std.proofs.Common.{ℕ, List, [], ◌∷◌, ap, ◌∙◌}
use Rattle.std.proofs.lemmas.List.{replicate_more}
use Rattle.chares.specs.Posting.{posted}
use Rattle.row_chares.specs.Errands.{empty_letters}
use Rattle.row_chares.proofs.Postings.{posted_more}
use Rattle.row_chares.proofs.errand.send_all.Goals as goal

pub loop-sent-preserved : goal.loop-sent-preserved
loop-sent-preserved g c =
    let one : ℕ × List ℕ = (c.args.to, []) in
    let before = empty_letters c.loop-sent._sent c.args.to in
    c.in_ok-send_one.ensures.ok
    ∙ ap (λ p. posted p (one ∷ [])) c.loop-sent.invariant
    ∙ posted_more c.args.sends.now before one
    ∙ ap (posted c.args.sends.now) (replicate_more c.loop-sent._sent one)

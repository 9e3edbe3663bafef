use Rattle.std.proofs.Common.{◌≡◌, ◌∙◌, ap, length}
use Rattle.std.proofs.lemmas.Result.{IfOk-weaker}
use Rattle.checkpointed_runs.proofs.Places.{counted}
use Rattle.checkpointed_runs.proofs.beginning.places_of.Goals as goal

pub returns-clause-each_chare : goal.returns-clause-each_chare
returns-clause-each_chare g c =
    let same : c.workload.inside.chares ≡ c.args.workload.now.chares = ap (λ w. w.chares) c.workload.view_is in
    IfOk-weaker c.opening_words.result _ _ (λ places is. ap length is ∙ counted _ _ ∙ same) c.opening_words.ensures.value

use Rattle.std.proofs.Common.{ap, ◌∙◌}
use Rattle.lb_capi.specs.Calls.{is_set}
use Rattle.lb_capi.proofs.tezgumi_refine.Goals as goal

pub returns-in-Ok-clause-no_more : goal.returns-in-Ok-clause-no_more
returns-in-Ok-clause-no_more c ok anew =
    c.in-Ok.ensures.no_more (c.flag_in.ensures.flag ∙ ap is_set anew)

use Rattle.std.proofs.Common.{rules}
use Rattle.rts_run.proofs.running.fn.work_all.work+FnOnce.call_once.Goals as goal

pub work-requires : goal.work-requires
work-requires g c = (
  search rules,
  (
    search rules,
    (
      search rules,
      (search rules, (search rules, (search rules, (search rules, (search rules, (search rules, (search rules, search rules))))))),
    ),
  ),
)

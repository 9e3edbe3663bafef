use denote.Exit.{no}
use denote.Param.Send.{param_send, arg_send, param_sync, arg_sync, copied_send, copied_sync}
use Rattle.rts_run.proofs.running.work_all.Goals as goal

pub run-requires-clause-callable : goal.run-requires-clause-callable
run-requires-clause-callable g c κs within = record {
  at = λ w. (
    param_send 0 _ (arg_send _ no _ c.type_bounds.send-C),
    param_send 1 _ (arg_send _ no _ c.type_bounds.send-H),
    param_send 2 _ (arg_send _ no _ c.type_bounds.send-J),
    copied_send 6 _ (arg_send _ no _ c.type_bounds.send-A),
    param_sync 1 _ (arg_sync _ no _ c.type_bounds.sync-H),
    param_sync 2 _ (arg_sync _ no _ c.type_bounds.sync-J),
    param_sync 3 _ (arg_sync _ no _ c.type_bounds.sync-G),
    param_sync 4 _ (arg_sync _ no _ c.type_bounds.sync-V),
    param_sync 5 _ (arg_sync _ no _ c.type_bounds.sync-R),
    copied_sync 6 _ (arg_sync _ no _ c.type_bounds.sync-A),
    c.type_bounds.frees-A-Allocator,
  );
}

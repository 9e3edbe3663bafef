use Rattle.std.proofs.Common.{◌≡◌, ◌<◌, ◌++◌, length, map}
use Rattle.std.specs.Prelude.{All}
use Rattle.pe_state.specs.Histories.{HasHistories, IsParcelHistory}
use Rattle.run_account.specs.Reopenings.{all_reopened}
use Rattle.carried_runs.proofs.reopening.reopen_all.Given as goal

abbrev pub invariant-loop-end : goal.invariant-loop-end
invariant-loop-end g l = record {
  made : l.states.items ++ all_reopened l.fn.pes l.ends.items (map (λ q. q.items) l.left.items) ≡ all_reopened l.fn.pes l.fn.ends.items (map (λ q. q.items) l.fn.left.items);
  members : All (λ pe. pe.me < l.fn.pes) l.ends.items;
  histories : All (HasHistories g.C.Chare.step g.C.Pup.fits g.C.Pup.pack g.H.Openings.opened) l.ends.items;
  queues : All (λ queue. All (IsParcelHistory g.C.Chare.step g.C.Pup.fits g.C.Pup.pack g.H.Openings.opened) queue.items) l.left.items;
  one_each : length l.ends.items ≡ length l.left.items;
}

abbrev pub decreases-loop-end : goal.decreases-loop-end
decreases-loop-end g l = length l.ends.items

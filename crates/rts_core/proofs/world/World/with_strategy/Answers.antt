use Rattle.std.proofs.Common.{◌≡◌, ◌≤◌, ◌∙◌, length, ap, refl, arith}
use Rattle.chare_index.specs.declared.limits.TheConstants.Limits.{ELEMENTS}
use Rattle.rts_core.proofs.Openings.{opening_is_world, opening_run}
use Rattle.sync_board.specs.Boards.{new_board}
use Rattle.rts_core.proofs.WorldAccount.{sent_open, counted_open}
use Rattle.rts_core.proofs.world.World.with_strategy.Goals as goal

pub invariant_of-result : goal.invariant_of-result
invariant_of-result g c =
    let same : c.len-n.result ≡ length g.H.Openings.opened = omega (arith, ap length c.requires.opened) in
    let few : c.len-n.result ≤ ELEMENTS = omega (arith, c.requires.few) in
    let states = c.in_ok-states.states.items in
    rw (c.in_ok-queues.ensures.value, c.of-count.ensures.value, c.in_ok-board.ensures.made, ← c.requires.run) (
      rw (← same) (opening_is_world c.len-n.result c.args.pes c.args.strategy states c.in_ok-words.words.items c.requires.some_pe
          c.requires.few_pes few (c.in_ok-states.ensures.counted ∙ c.of-count.ensures.value)
          (rw c.of-count.ensures.value at c.in_ok-words.ensures.value) (rw c.of-count.ensures.value at c.in_ok-words.ensures.named)),
      opening_run g.C.Chare.step g.C.Pup.fits g.C.Pup.pack g.H.Openings.opened c.args.pes states c.in_ok-words.words.items _ c.in_ok-states.ensures.histories,
      sent_open {A = g.row.A.Denot} g.C.Chare.step c.args.pes c.args.chares.items g.H.Openings.opened c.args.strategy states
          c.in_ok-words.words.items (new_board c.len-n.result c.args.pes c.args.strategy) c.requires.some_pe
          (rw c.of-count.ensures.value at c.in_ok-states.ensures.value) c.requires.opened,
      counted_open {A = g.row.A.Denot} g.C.Chare.step c.args.pes c.args.chares.items g.H.Openings.opened c.args.strategy states
          c.in_ok-words.words.items (new_board c.len-n.result c.args.pes c.args.strategy) c.requires.some_pe
          (rw c.of-count.ensures.value at c.in_ok-states.ensures.value),
    )

pub returns-clause-made : goal.returns-clause-made
returns-clause-made g c =
    let same : length c.args.chares.items ≡ c.len-n.result = omega arith in
    rw (c.in_ok-states.ensures.value, c.in_ok-queues.ensures.value, c.in_ok-words.ensures.value, c.of-count.ensures.value, c.in_ok-board.ensures.made, same) refl

pub returns-clause-history : goal.returns-clause-history
returns-clause-history g c =
    rw (c.in_ok-queues.ensures.value, c.of-count.ensures.value)
    (opening_run g.C.Chare.step g.C.Pup.fits g.C.Pup.pack g.H.Openings.opened c.args.pes c.in_ok-states.states.items c.in_ok-words.words.items _ c.in_ok-states.ensures.histories)

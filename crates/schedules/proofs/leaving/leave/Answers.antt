use Rattle.std.proofs.Common.{◌≡◌, ◌∙◌, ℕ, List, length, sym, ap, subst}
use Rattle.sync_board.specs.Boards.{BoardState}
use Rattle.courses.specs.Courses.{Leads, Made, events_of, trace_of}
use Rattle.courses.proofs.Courses.{reaches}
use Rattle.lb_database.specs.Measuring.{elements}
use Rattle.rts_core.specs.Histories.{AreHistories}
use Rattle.rts_core.specs.Worlds.{WorldView, opening_words, opening_world}
use Rattle.rts_core.proofs.RunAccount.{accounted}
use Rattle.schedules.specs.Courses.{ExploredView, IsDone, left_by}
use Rattle.schedules.proofs.Endings.{only_done}
use Rattle.schedules.proofs.LeftWorlds.{left_is}
use Rattle.schedules.proofs.leaving.leave.Goals as goal

pub returns-clause-explored : goal.returns-clause-explored
returns-clause-explored g c =
    let x = c.new.result in
    let w = c.into_parts-world.result.0 in
    let view = ExploredView g.row.C.Denot g.row.A.Denot in
    let world = WorldView g.row.C.Denot g.row.A.Denot in
    let pes = ap (λ (v : view). v.outcome.ends) c.new.ensures.made ∙ (c.new-outcome.ensures.ends ∙ (c.in_ok-ends.ensures.value ∙ c.into_parts-pes.ensures.pes)) in
    let queues = ap (λ (v : view). v.outcome.left) c.new.ensures.made ∙ (c.new-outcome.ensures.left ∙ (c.in_ok-left.ensures.value ∙ c.into_parts-pes.ensures.queues)) in
    let words = ap (λ (v : view). v.words) c.new.ensures.made ∙ c.into_parts-pes.ensures.words in
    let board = ap (λ (v : view). v.outcome.board) c.new.ensures.made ∙ (c.new-outcome.ensures.board ∙ c.into_parts-pes.ensures.board) in
    let is : left_by x ≡ w = left_is x w pes queues words board in
    let same : left_by x ≡ c.args.course.world = is ∙ c.into_parts-world.ensures.world in
    let steps : x.steps ≡ c.args.course.steps = ap (λ (v : view). v.steps) c.new.ensures.made ∙ c.into_parts-world.ensures.steps in
    let held = c.into_parts-pes.result.3 in
    let counted : elements held.database ≡ length g.H.Openings.opened =
    ap (λ (b : BoardState g.row.A.Denot). elements b.database) c.into_parts-pes.ensures.board ∙ c.into_parts-pes.ensures.world.board_counted in
    let placed : held.pes ≡ g.H.Openings.pes =
    ap (λ (b : BoardState g.row.A.Denot). b.pes) c.into_parts-pes.ensures.board ∙ c.into_parts-pes.ensures.world.board_pes in
    let opening : world = opening_world g.H.Openings.pes g.H.Openings.opened c.args.course.strategy in
    let led : Leads g.C.Chare.step g.C.Pup.pack g.C.Pup.unpack opening x.steps (left_by x) =
    subst (λ (v : world). Leads g.C.Chare.step g.C.Pup.pack g.C.Pup.unpack opening x.steps v) (sym same)
    (subst (λ (s : List Made). Leads g.C.Chare.step g.C.Pup.pack g.C.Pup.unpack opening s c.args.course.world) (sym steps) c.into_parts-world.ensures.led) in
    record {
      led = led;
      account = accounted g.C.Chare.step g.C.Pup.pack g.C.Pup.unpack g.H.Openings.pes g.H.Openings.opened c.args.course.strategy c.into_parts-pes.ensures.world.some_pe
          (events_of x.steps) (left_by x, trace_of x.steps) (reaches g.C.Chare.step g.C.Pup.pack g.C.Pup.unpack opening (left_by x) x.steps led);
      histories = subst (λ (v : world). AreHistories g.C.Chare.step g.C.Pup.fits g.C.Pup.pack g.H.Openings.opened v) (sym is) c.into_parts-pes.ensures.histories;
      elements = ap (λ (b : BoardState g.row.A.Denot). elements b.database) board ∙ c.into_parts-pes.ensures.world.board_counted;
      on_pes = ap (λ (b : BoardState g.row.A.Denot). b.pes) board ∙ c.into_parts-pes.ensures.world.board_pes;
      homes = ap (λ (v : view). v.outcome.homes) c.new.ensures.made
          ∙ (c.new-outcome.ensures.homes ∙ (c.in_ok-homes.ensures.value
          ∙ (ap (λ (n : ℕ). opening_words n c.into_parts-pes.result.3.pes) counted ∙ ap (opening_words (length g.H.Openings.opened)) placed)));
      done = λ none.
          let fault = ap (λ (v : view). v.outcome.fault) c.new.ensures.made ∙ (c.new-outcome.ensures.fault ∙ c.fault-fault.ensures.value) in
          subst (λ (v : world). IsDone v) (sym same) (c.requires.done (only_done c.args.ending (sym fault ∙ none)));
    }

pub returns-clause-world : goal.returns-clause-world
returns-clause-world g c =
    let x = c.new.result in
    let view = ExploredView g.row.C.Denot g.row.A.Denot in
    let pes = ap (λ (v : view). v.outcome.ends) c.new.ensures.made ∙ (c.new-outcome.ensures.ends ∙ (c.in_ok-ends.ensures.value ∙ c.into_parts-pes.ensures.pes)) in
    let queues = ap (λ (v : view). v.outcome.left) c.new.ensures.made ∙ (c.new-outcome.ensures.left ∙ (c.in_ok-left.ensures.value ∙ c.into_parts-pes.ensures.queues)) in
    let words = ap (λ (v : view). v.words) c.new.ensures.made ∙ c.into_parts-pes.ensures.words in
    let board = ap (λ (v : view). v.outcome.board) c.new.ensures.made ∙ (c.new-outcome.ensures.board ∙ c.into_parts-pes.ensures.board) in
    left_is x c.into_parts-world.result.0 pes queues words board ∙ c.into_parts-world.ensures.world

pub returns-clause-steps : goal.returns-clause-steps
returns-clause-steps g c = ap (λ (v : ExploredView g.row.C.Denot g.row.A.Denot). v.steps) c.new.ensures.made ∙ c.into_parts-world.ensures.steps

pub returns-clause-refused : goal.returns-clause-refused
returns-clause-refused g c = ap (λ (v : ExploredView g.row.C.Denot g.row.A.Denot). v.refused) c.new.ensures.made ∙ c.refused-refused.ensures.value

pub returns-clause-fault : goal.returns-clause-fault
returns-clause-fault g c =
    ap (λ (v : ExploredView g.row.C.Denot g.row.A.Denot). v.outcome.fault) c.new.ensures.made ∙ (c.new-outcome.ensures.fault ∙ c.fault-fault.ensures.value)

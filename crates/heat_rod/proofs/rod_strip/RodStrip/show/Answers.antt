use Rattle.heat_rod.specs.GhostCells.{cell_letters}
use Rattle.heat_rod.specs.Strips.{at_stage, shown, shown_left, shown_right}
use Rattle.heat_rod.proofs.Showing.{both_shown}
use Rattle.heat_rod.proofs.rod_strip.RodStrip.show.Goals as goal

pub returns-clause-only_posts : goal.returns-clause-only_posts
returns-clause-only_posts g c =
    let s = at_stage c.args.self.now c.args.stage in (
      cell_letters (shown s c.args.me c.args.n),
      both_shown c.args.sends.now c.show_left.new.sends c.show_right.new.sends (shown_left s c.args.me) (shown_right s c.args.me c.args.n) c.in_ok-show_left.ensures.ok
          c.in_ok-show_right.ensures.ok,
    )

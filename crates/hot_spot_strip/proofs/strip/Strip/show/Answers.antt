use Rattle.hot_spot_strip.specs.Strips.{shown_by, shown_left, shown_right}
use Rattle.chares.proofs.SeveralPosts.{posted_both}
use Rattle.hot_spot_strip.proofs.strip.Strip.show.Goals as goal

pub returns-clause-only_posts : goal.returns-clause-only_posts
returns-clause-only_posts g c =
    let s = c.args.self.now in (
      shown_by s c.args.me c.args.n,
      posted_both c.args.sends.now c.show_left.new.sends c.show_right.new.sends (shown_left s c.args.me)
          (shown_right s c.args.me c.args.n) c.in_ok-show_left.ensures.ok c.in_ok-show_right.ensures.ok,
    )

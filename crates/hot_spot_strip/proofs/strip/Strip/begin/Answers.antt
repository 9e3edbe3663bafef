use Rattle.std.proofs.Common.{◌≡◌, ◌<◌, [], ◌++◌, true, ap, ◌∙◌, arith}
use Rattle.std.proofs.lemmas.Grind.{common_steps}
use Rattle.chares.specs.Posting.{posted}
use Rattle.hot_spot_strip.specs.Chains.{letters_to}
use Rattle.hot_spot_strip.specs.Coming.{are_beside}
use Rattle.hot_spot_strip.specs.Strips.{asks, shown_by}
use Rattle.chares.proofs.SeveralPosts.{posted_both}
use Rattle.hot_spot_strip.proofs.Steps.{sends_begun}
use Rattle.hot_spot_strip.proofs.strip.Strip.begin.Goals as goal

pub returns-clause-sends : goal.returns-clause-sends
returns-clause-sends g c =
    let s = c.args.self.now in
    let less : s.done < s.rounds = grind (arith, common_steps) in
    let beside : are_beside s.came c.args.me c.args.n ≡ true = grind (arith, common_steps) in
    let asked : c.post.new.sends ≡ posted c.show.new.sends (letters_to (asks s c.args.me) []) = c.in_ok-post.ensures.ok
    ∙ ap (λ to. posted c.show.new.sends (letters_to to [])) c.asks.ensures.value in
    rw (sends_begun s c.args.me c.args.n less beside) (posted_both c.args.sends.now c.show.new.sends c.post.new.sends
    (shown_by s c.args.me c.args.n) (letters_to (asks s c.args.me) []) c.in_ok-show.ensures.ok asked)

pub returns-clause-only_posts : goal.returns-clause-only_posts
returns-clause-only_posts g c =
    let s = c.args.self.now in
    let asked = letters_to c.asks.result [] in (
      shown_by s c.args.me c.args.n ++ asked,
      posted_both c.args.sends.now c.show.new.sends c.post.new.sends (shown_by s c.args.me c.args.n)
          asked c.in_ok-show.ensures.ok c.in_ok-post.ensures.ok,
    )

use Rattle.std.proofs.Common.{◌∷◌, []}
use Rattle.messages.specs.Messages.{letters}
use Rattle.reductions.proofs.Letters.{posts_or_none}
use Rattle.reductions.proofs.reducing.tell.Goals as goal

pub returns-clause-only_posts : goal.returns-clause-only_posts
returns-clause-only_posts g c =
    posts_or_none c.args.sends.now c.post.new.sends c.post.result (letters g.T.Pup.pack ((c.args.to, c.args.message.now) ∷ [])) c.post.ensures.ok c.post.ensures.err

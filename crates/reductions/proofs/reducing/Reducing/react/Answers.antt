use Rattle.std.proofs.Common.{◌≡◌, ◌∙◌, ap, Option}
use Rattle.chares.specs.Posting.{posted}
use Rattle.messages.specs.Messages.{letters}
use Rattle.reductions.specs.Nodes.{NodeView, contributed, with_waits}
use Rattle.reductions.specs.TreeMessages.{user_pack}
use Rattle.reductions.proofs.Letters.{and_passed_on, some_posted}
use Rattle.reductions.proofs.reducing.Reducing.react.Goals as goal

pub returns-in-Err-clause-only_posts : goal.returns-in-Err-clause-only_posts
returns-in-Err-clause-only_posts g c = some_posted c.args.sends.now c.given.new.sends c.pass_on.new.sends c.given.ensures.only_posts c.pass_on.ensures.only_posts

pub returns-clause-only_posts : goal.returns-clause-only_posts
returns-clause-only_posts g c = some_posted c.args.sends.now c.given.new.sends c.pass_on.new.sends c.given.ensures.only_posts c.pass_on.ensures.only_posts

pub returns-clause-sends : goal.returns-clause-sends
returns-clause-sends g c =
    let n = c.args.here.now.n in
    let me = c.args.here.now.me in
    let step = λ (chare : g.row.C.Denot). g.C.Contributes.step chare me n c.args.input in
    let f = λ (chare : g.row.C.Denot). posted c.args.sends.now (letters (user_pack g.C.Message.Pup.pack) (step chare).sends) in
    let chare : c.self.inside.chare ≡ c.args.self.now.chare = ap (λ r. r.chare) c.self.view_is in
    let node : c.self.inside.node ≡ c.args.self.now.node = ap (λ r. r.node) c.self.view_is in
    let advance = λ (node : NodeView g.row.C-Value.Denot)
    (value : Option g.row.C-Value.Denot). (contributed g.C.Value.Combines.combined n me (with_waits node c.args.waits) value).goes_on in
    and_passed_on c.args.sends.now c.given.new.sends c.pass_on.new.sends g.C.Message.Pup.pack g.C.Value.Pup.pack (step c.args.self.now.chare).sends n me c.plan-goes_on.result
    (advance c.args.self.now.node (step c.args.self.now.chare).contribution)
    c.requires.same_array (c.in_ok-reacted.ensures.sends ∙ ap f chare) c.in_default.ensures.ok
    (c.plan-goes_on.ensures.value ∙ ap (λ x. advance x c.in_ok-reacted.reacted.contribution) node
    ∙ ap (advance c.args.self.now.node) (c.in_ok-reacted.ensures.contribution ∙ ap (λ x. (step x).contribution) chare))

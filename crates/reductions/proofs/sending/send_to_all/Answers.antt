use Rattle.pup_pack.specs.Truths.{pack_bool}
use Rattle.reductions.proofs.Letters.{user_to_all_posted}
use Rattle.reductions.proofs.sending.send_to_all.Goals as goal

pub returns-clause-ok : goal.returns-clause-ok
returns-clause-ok g c =
    user_to_all_posted c.args.sends.now c.broadcast.new.sends g.M.Pup.pack pack_bool c.args.sends.now.n c.args.message c.broadcast.result c.broadcast.ensures.ok

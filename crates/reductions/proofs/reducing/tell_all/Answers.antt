use Rattle.std.proofs.Common.{arith}
use Rattle.reductions.proofs.Letters.{broadcast_refused_worn}
use Rattle.reductions.proofs.reducing.tell_all.Goals as goal

pub returns-clause-refused : goal.returns-clause-refused
returns-clause-refused g c =
    broadcast_refused_worn c.args.sends.now c.args.message.now (g.T.Pup.counted c.args.message.now) (g.T.Pup.pack c.args.message.now) c.broadcast.result
    c.requires.counted (omega arith) c.broadcast.ensures.answer

use Rattle.run_checkpoint.proofs.Fronts.{no_head, past_head, head_front}
use Rattle.run_checkpoint.proofs.head.read_head.Goals as goal

pub returns-in_default : goal.returns-in_default
returns-in_default c = no_head c.args.bytes.now c.in_default.ensures

pub returns-then-rounds : goal.returns-then-rounds
returns-then-rounds c = past_head c.args.bytes.now c.in-Some.rounds c.in-Some.rest.now c.in-Some.ensures c.if-rounds.true

pub returns : goal.returns
returns c = head_front c.args.bytes.now c.in-Some.rounds c.in-Some.rest.now c.in-Some.ensures c.if-rounds.false

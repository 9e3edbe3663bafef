use Rattle.run_checkpoint.proofs.Answered.{long_said, head_said, body_said}
use Rattle.run_checkpoint.proofs.checkpoint.Checkpoint.parse.Goals as goal

pub returns-then-bytes-gt-TEXT_BYTES : goal.returns-then-bytes-gt-TEXT_BYTES
returns-then-bytes-gt-TEXT_BYTES g c =
    let said = long_said c.args.bytes.now c.if-bytes-gt-TEXT_BYTES.true in
    record { answer = said.answer; again = said.again; first = said.first }

pub returns-in-Err : goal.returns-in-Err
returns-in-Err g c =
    let said = head_said c.args.bytes.now c.in-Err.fault c.if-bytes-gt-TEXT_BYTES.false c.in-Err.ensures in
    record { answer = said.answer; again = said.again; first = said.first }

pub returns-in-Ok : goal.returns-in-Ok
returns-in-Ok g c =
    let said = body_said c.args.bytes.now c.in-Ok.rounds c.in-Ok.rest.now c.read_body.result c.if-bytes-gt-TEXT_BYTES.false c.in-Ok.ensures c.read_body.ensures in
    record { answer = said.answer; again = said.again; first = said.first }

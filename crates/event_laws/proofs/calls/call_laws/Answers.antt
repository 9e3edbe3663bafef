use Rattle.event_laws.proofs.TwoEvents.{delivers, delivers_and_acts, looks_and_flushes, looks}
use Rattle.event_laws.proofs.calls.call_laws.Goals as goal

pub returns-clause-delivers : goal.returns-clause-delivers
returns-clause-delivers g c = λ w p pe next parcel rest r is. delivers g.C.Chare.step g.C.Pup.pack g.C.Pup.unpack w p pe next parcel rest r is

pub returns-clause-delivers_and_acts : goal.returns-clause-delivers_and_acts
returns-clause-delivers_and_acts g c = λ w p pe next parcel rest r did is. delivers_and_acts g.C.Chare.step g.C.Pup.pack g.C.Pup.unpack w p pe next parcel rest r did is

pub returns-clause-looks_and_flushes : goal.returns-clause-looks_and_flushes
returns-clause-looks_and_flushes g c = λ w p to pe next parcel queue l is. looks_and_flushes g.C.Chare.step g.C.Pup.pack g.C.Pup.unpack w p pe to next parcel queue l is

pub returns-clause-looks : goal.returns-clause-looks
returns-clause-looks g c = λ w p to pe next parcel queue l is. looks g.C.Chare.step g.C.Pup.pack g.C.Pup.unpack w p pe to next parcel queue l is

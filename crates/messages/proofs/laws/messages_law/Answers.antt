use Rattle.messages.proofs.Reading.{handled, read}
use Rattle.messages.proofs.laws.messages_law.Goals as goal

pub returns-clause-read : goal.returns-clause-read
returns-clause-read g c = read g.C.Message.Pup.fits g.C.Message.Pup.counted g.C.Message.Pup.pack g.C.Message.Pup.unpack g.met.C.Message.Pup.round_trip

pub returns-clause-handled : goal.returns-clause-handled
returns-clause-handled g c = handled g.C.Message.Pup.fits g.C.Message.Pup.counted g.C.Message.Pup.pack g.C.Message.Pup.unpack g.met.C.Message.Pup.round_trip g.C.Receives.step

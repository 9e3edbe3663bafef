use Rattle.overtaking_laws.proofs.AnyDelivery.{any_taken, front_taken, unordered_freely, ordered_freely}
use Rattle.overtaking_laws.proofs.deliveries.delivery_laws.Goals as goal

pub returns-clause-taken : goal.returns-clause-taken
returns-clause-taken g c = λ p w next takes. any_taken g.C.Chare.step g.C.Pup.pack g.C.Pup.unpack p w next takes

pub returns-clause-front : goal.returns-clause-front
returns-clause-front g c = λ p w next happens. front_taken g.C.Chare.step g.C.Pup.pack g.C.Pup.unpack p w next happens

pub returns-clause-unordered : goal.returns-clause-unordered
returns-clause-unordered g c = λ w events last run. unordered_freely g.C.Chare.step g.C.Pup.pack g.C.Pup.unpack w events last run

pub returns-clause-ordered : goal.returns-clause-ordered
returns-clause-ordered g c = λ w events last run. ordered_freely g.C.Chare.step g.C.Pup.pack g.C.Pup.unpack w events last run

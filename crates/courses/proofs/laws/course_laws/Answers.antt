use Rattle.courses.proofs.Courses.{reaches}
use Rattle.courses.proofs.laws.course_laws.Goals as goal

pub returns : goal.returns
returns g c = record { reaches = λ w last steps led. reaches g.C.Chare.step g.C.Pup.pack g.C.Pup.unpack w last steps led }

-- What was written where no load is too great for the format LBD1.
use Rattle.std.proofs.Common.{◌≡◌, ℕ, List, Option, Ok, Err, refl, subst}
use Rattle.std.specs.Prelude.{⊤, Result}
use Rattle.lb_snapshot.specs.Measured.{Taken}
use Rattle.dump_format.specs.Text.{IsLbd1, lbd1_text}
use Rattle.dump_format.specs.declared.error.DumpError.{DumpError}
use Rattle.dump_format.specs.declared.error.DumpError.TheVariants.{Wide}
use Rattle.dump_writing.specs.Narrow.{IsNarrow}
use Rattle.dump_writing.specs.Writing.{Puts, PutsLbd1}

-- a snapshot that the format can represent has a text
pub has_text : (s : Taken) → IsNarrow s → IsLbd1 s (lbd1_text s)
has_text s narrow = record { snapshot = narrow.snapshot; step = narrow.step; narrow = narrow.narrow; spelled = refl }

-- its text was written, or a prefix of it
pub put_text : (s : Taken) (old new : Option (List ℕ)) (result : Result ⊤ DumpError) → IsNarrow s → Puts old new (lbd1_text s) result → PutsLbd1 s old new result
put_text s old new (Ok done) narrow puts = (lbd1_text s, has_text s narrow, puts)
put_text s old new (Err (Wide i)) narrow puts = cc puts.0
put_text s old new (Err e) narrow puts = (lbd1_text s, has_text s narrow, puts)

-- the text of an equal snapshot was written, or a prefix of it
pub put_same : (s t : Taken) (old new : Option (List ℕ)) (result : Result ⊤ DumpError) → s ≡ t → IsNarrow s → Puts old new (lbd1_text s) result → PutsLbd1 t old new result
put_same s t old new result same narrow puts = subst (λ u. PutsLbd1 u old new result) same (put_text s old new result narrow puts)

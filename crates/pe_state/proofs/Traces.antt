-- Reports, one after another.
use Rattle.std.proofs.Common.{◌≡◌, List, [], ◌∷◌, Bool, true, false, refl, sym, append_assoc, append-nil}
use Rattle.chares.specs.Posting.{traced}
use Rattle.chares.specs.declared.trace_entry.TraceEntry.{TraceEntry}

-- a report and then what was posted
pub traced_twice : (b : Bool) (rs : List TraceEntry) (r : TraceEntry) (more : List TraceEntry) → traced b (traced b rs (r ∷ [])) more ≡ traced b rs (r ∷ more)
traced_twice true rs r more = append_assoc rs (r ∷ []) more
traced_twice false rs r more = refl

-- no report
pub traced_none : (b : Bool) (rs : List TraceEntry) → rs ≡ traced b rs []
traced_none true rs = sym (append-nil rs)
traced_none false rs = refl

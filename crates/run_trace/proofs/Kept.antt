-- What was kept in a file that was made was kept in the file that was handed over.
use Rattle.std.proofs.Common.{◌≡◌, Result, Ok, Err, subst, sym}
use Rattle.std.specs.Prelude.{IfOk}

pub kept_in_made : {T E F W : Type 0} (P : W → Type 0) (r : Result T E) (file : Result W F) (made : W) → file ≡ Ok made → IfOk r (λ _. P made)
    → IfOk r (λ _. IfOk file P)
kept_in_made P (Ok x) file made is kept = subst (λ f. IfOk f P) (sym is) kept
kept_in_made P (Err e) file made is kept = tt

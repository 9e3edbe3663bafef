-- What was asked for where a new file took a name.
use Rattle.std.proofs.Common.{◌≡◌, ◌∙◌, ap, inl, inr, ℕ, List, [], ◌∷◌, ◌++◌, append_assoc, Option, None, Some, Result, Ok, Err}
use Rattle.std.specs.Prelude.{IfSome, ⊤}
use Rattle.std.specs.Io.KnownBytes.{Appends}
use Rattle.checkpointed_runs.specs.Keeping.{FileRequest, AsksFor, Made, Placed, Replaces}

-- one thing was asked for after another
asked_both : (old mid now : Option (List FileRequest)) (one two : List FileRequest) → AsksFor old mid one → AsksFor mid now two → AsksFor old now (one ++ two)
asked_both None mid now one two first then_ = tt
asked_both (Some before) None now one two first then_ = absurd first
asked_both (Some before) (Some between) None one two first then_ = absurd then_
asked_both (Some before) (Some between) (Some after) one two first then_ =
    then_ ∙ ap (λ l. l ++ two) first ∙ append_assoc before one two

-- what a file holds that was empty, once these bytes were written to it
filled : (held now : Option (List ℕ)) (bytes : List ℕ) → held ≡ Some [] → Appends held now bytes → now ≡ Some bytes
filled None now bytes is more = absurd (cc)
filled (Some found) None bytes is more = absurd more
filled (Some found) (Some whole) bytes is more =
    let empty : found ≡ [] = cc in
    ap Some (more ∙ ap (λ l. l ++ bytes) empty)

-- the file took the name, or the system refused that
pub replaces : {E : Type 0} (result : Result ⊤ E) (old mid now : Option (List FileRequest)) (empty held : Option (List ℕ)) (name bytes : List ℕ)
    → AsksFor old mid (Made name ∷ []) → IfSome mid (λ _. empty ≡ Some []) → Appends empty held bytes
    → AsksFor mid now (Placed name held ∷ []) → Replaces name bytes old now result
replaces (Ok _) None mid now empty held name bytes made is written placed = tt
replaces (Err _) None mid now empty held name bytes made is written placed = inl tt
replaces result (Some before) None now empty held name bytes made is written placed = absurd made
replaces (Ok _) (Some before) (Some between) now empty held name bytes made is written placed =
    asked_both (Some before) (Some between) now (Made name ∷ []) (Placed name (Some bytes) ∷ []) made
    (rw (← filled empty held bytes is written) placed)
replaces (Err _) (Some before) (Some between) now empty held name bytes made is written placed =
    inr (inr (asked_both (Some before) (Some between) now (Made name ∷ []) (Placed name (Some bytes) ∷ []) made
    (rw (← filled empty held bytes is written) placed)))

-- The sizes that are copied out of reports, one after another.
use Rattle.std.proofs.Common.{◌≡◌, ℕ, ◌+◌, ◌<◌, List, [], ◌∷◌, ◌++◌, length, get_or, map, take, Option, Some}
use Rattle.std.proofs.lemmas.List.{map-append, take_more}

-- with the next report's size, the sizes are those of one report more
pub pairs_more : {X : Type 0} (sizes more : List X) (reports : List (Option X)) (i : ℕ) (report : Option X) (size : X) → more ≡ sizes
    ++ size ∷ [] → i < length reports → report ≡ get_or reports i report → report ≡ Some size → map Some sizes ≡ take i reports
    → map Some more ≡ take (i + 1) reports
pairs_more sizes more reports i report size pushed inside stood there copied =
    let split : map Some (sizes ++ size ∷ []) ≡ map Some sizes ++ Some size ∷ [] = map-append Some sizes (size ∷ []) in
    let next = take_more reports i report inside in
    cc

-- What a text leaves free of a line, where it is written in parts.
use Rattle.std.proofs.Common.{◌≡◌, ◌∙◌, ◌-◌, ap, sym, ℕ, List, [], ◌∷◌, length, arith}
use Rattle.std.specs.List.{FoldsTo, concat}
use Rattle.std.specs.Fmt.{WritesInCalls}
use Rattle.std.proofs.lemmas.List.{length-append}
use Rattle.progress_line.specs.declared.text.Room.{Room}

-- how many columns stay free after this part
abbrev Takes : Room → List ℕ → Room → Type 0
Takes room text left = left.columns ≡ room.columns - length text

columns_after_parts : (room : Room) (parts : List (List ℕ)) (left : Room) → FoldsTo Takes room parts left → left.columns ≡ room.columns - length (concat parts)
columns_after_parts room [] left same =
    let columns : left.columns ≡ room.columns = ap (λ r. r.columns) (sym same) in
    omega (arith, columns)
columns_after_parts room (part ∷ parts) left steps =
    let rest = columns_after_parts steps.0 parts left steps.2 in
    let both = length-append part (concat parts) in
    omega (arith, steps.1)

pub columns_after : (room : Room) (text : List ℕ) (left : Room) → WritesInCalls Takes room text left → left.columns ≡ room.columns - length text
columns_after room text left writes =
    columns_after_parts room writes.parts left writes.calls ∙ ap (λ t. room.columns - length t) writes.whole

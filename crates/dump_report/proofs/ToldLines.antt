-- A line about a file, in one piece or in several.
use Rattle.std.proofs.Common.{◌≡◌, ℕ, List, ◌++◌, append_assoc}

pub line_is : (front name colon what semicolon todo end : List ℕ)
    → front ++ (name ++ (colon ++ (what ++ (semicolon ++ (todo ++ end))))) ≡ front ++ name ++ colon ++ (what ++ semicolon ++ todo) ++ end
line_is front name colon what semicolon todo end = simp append_assoc

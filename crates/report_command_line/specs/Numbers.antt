-- Numbers of PEs, in the text of an argument of a command line.
use Rattle.std.specs.Prelude.{ℕ, ◌≤◌, List, [], ◌∷◌, ◌++◌, codes}
use Rattle.std.specs.Fmt.{decimal}
use Rattle.std.specs.List.{flat_map}
use Rattle.chare_index.specs.declared.limits.TheConstants.Limits.{PES}

-- a number of PEs within the limits
abbrev pub IsNumber : ℕ → Type 0
IsNumber p = (1 ≤ p) × (p ≤ PES)

-- a comma and a number, for each
abbrev pub numerals_after : List ℕ → List ℕ
numerals_after numbers = flat_map (λ n. codes "," ++ decimal n) numbers

-- numbers with a comma between two
abbrev pub numerals : List ℕ → List ℕ
numerals [] = []
numerals (n ∷ numbers) = decimal n ++ numerals_after numbers

-- the line where an argument is not a list of numbers of PEs
abbrev pub no_numbers_line : List ℕ → List ℕ
no_numbers_line text =
    codes "lb_report: --procs " ++ text ++ codes ": give numbers of 1 to 256 with a comma between two, as in 4,8,16" ++ 10 ∷ []

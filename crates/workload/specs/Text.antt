-- The text of a workload, byte by byte: lines of a word and numbers.
use Rattle.std.specs.Prelude.{◌≡◌, ℕ, ◌<◌, ◌≤◌, List, [], ◌∷◌, ◌++◌, length, codes, All}
use Rattle.std.specs.Fmt.{decimal}
use Rattle.std.specs.List.{flat_map}
use Rattle.chare_index.specs.declared.limits.TheConstants.Limits.{ELEMENTS, PES}
use Rattle.tally.specs.declared.tally_limits.TheConstants.TallyLimits.{AMOUNTS, PAD_BYTES}
use Rattle.workload.specs.declared.form.TheConstants.{TEXT_BYTES}

-- a workload: PEs, rounds, padding of each chare, chares, and for each round the amount of each chare
pub record WorkloadView : Type 0 where
  pub pes : ℕ
  pub rounds : ℕ
  pub pad : ℕ
  pub chares : ℕ
  pub amounts : List (List ℕ)

-- the largest amount
abbrev pub most_amount : ℕ
most_amount = 4294967295

-- the end of a line
abbrev pub newline : List ℕ
newline = 10 ∷ []

-- a number after a blank
abbrev pub blank_number : ℕ → List ℕ
blank_number n = 32 ∷ decimal n

-- a word, each number after a blank, and a newline
abbrev pub line : List ℕ → List ℕ → List ℕ
line word numbers = word ++ (flat_map blank_number numbers ++ newline)

-- the amounts of a round
abbrev pub amounts_text : List ℕ → List ℕ
amounts_text amounts = line (codes "amounts") amounts

-- pes P, rounds R, pad D, chares N, and R lines of N amounts
abbrev pub workload_text : WorkloadView → List ℕ
workload_text w =
    line (codes "pes") (w.pes ∷ [])
    ++ (line (codes "rounds") (w.rounds ∷ [])
    ++ (line (codes "pad") (w.pad ∷ []) ++ (line (codes "chares") (w.chares ∷ []) ++ flat_map amounts_text w.amounts)))

-- the limits of a workload: an amount of each chare in each round
pub record IsWithin (w : WorkloadView) : Type 0 where
  pub some_pe : 0 < w.pes
  pub few_pes : w.pes ≤ PES
  pub few_rounds : w.rounds ≤ AMOUNTS
  pub small_pad : w.pad ≤ PAD_BYTES
  pub few_chares : w.chares ≤ ELEMENTS
  pub each_round : length w.amounts ≡ w.rounds
  pub each_chare : All (λ row. length row ≡ w.chares) w.amounts
  pub small : All (λ row. All (λ amount. amount ≤ most_amount) row) w.amounts

-- these bytes are the text of this workload
pub record IsText (w : WorkloadView) (bytes : List ℕ) : Type 0 where
  pub spelled : bytes ≡ workload_text w
  pub within : IsWithin w
  pub short : length bytes ≤ TEXT_BYTES

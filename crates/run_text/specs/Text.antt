-- The text of what a run left, byte by byte: a line for each round that was decided, the sums of the elements or the fault
-- that ended the run early, and the account of its letters.
use Rattle.std.specs.Prelude.{ℕ, List, [], ◌∷◌, ◌++◌, length, codes, Option, None, Some}
use Rattle.std.specs.Fmt.{decimal}
use Rattle.std.specs.List.{flat_map, range_with_len}
use Rattle.std.specs.Option.{option_map_or}
use Rattle.sync_board.specs.Boards.{Kept, kept_of}
use Rattle.pe_worker.specs.declared.fault.Fault.{Fault}
use Rattle.pe_worker.specs.declared.fault.Fault.TheVariants.{OutOfMemory, Idle, Unpack, Stranger, TooLong, Worn, Mismatch, Stopped, Quiet}
use Rattle.rts_core.specs.Accounts.{posted_count, executed_count, held_count}
use Rattle.rts_run.specs.Outcomes.{OutcomeView}
use Rattle.run_account.specs.RunAccounts.{left_world}
use Rattle.tally.specs.Tallies.{TallyView}
use Rattle.run_text.specs.Sums.{element_sums}

-- the byte that ends a line
abbrev pub newline : List ℕ
newline = 10 ∷ []

-- a round, without what was decided
abbrev pub round_start : ℕ → List ℕ
round_start r = codes "round " ++ decimal r

-- what was decided, after the round
abbrev pub decision_end : ℕ → ℕ → List ℕ
decision_end bottleneck moved =
    codes " bottleneck " ++ decimal bottleneck ++ codes " moved " ++ decimal moved ++ newline

-- round r bottleneck B moved M
abbrev pub round_line : ℕ → ℕ → ℕ → List ℕ
round_line r bottleneck moved = round_start r ++ decision_end bottleneck moved

-- the line of round r, by what was decided for it
abbrev pub decided_line : {A : Type 0} → List (Kept A) → ℕ → List ℕ
decided_line rounds r =
    option_map_or (λ kept. round_line r kept.1.division.bottleneck kept.1.moved) (kept_of rounds r) []

-- the lines of all rounds, from round 1 on
abbrev pub round_lines : {A : Type 0} → List (Kept A) → List ℕ
round_lines rounds = flat_map (decided_line rounds) (range_with_len 1 (length rounds))

-- a blank and a number
abbrev pub blank_number : ℕ → List ℕ
blank_number n = codes " " ++ decimal n

-- sums s0 s1 ..
abbrev pub sums_line : List ℕ → List ℕ
sums_line sums = codes "sums" ++ flat_map blank_number sums ++ newline

-- the word for a fault
abbrev pub fault_word : Fault → List ℕ
fault_word OutOfMemory = codes "memory"
fault_word Idle = codes "idle"
fault_word Unpack = codes "unpack"
fault_word Stranger = codes "stranger"
fault_word TooLong = codes "toolong"
fault_word Worn = codes "worn"
fault_word Mismatch = codes "mismatch"
fault_word Stopped = codes "stopped"
fault_word Quiet = codes "quiet"

-- fault, and its word
abbrev pub fault_line : Fault → List ℕ
fault_line fault = codes "fault " ++ fault_word fault ++ newline

-- posted X executed Y held Z
abbrev pub account_line : ℕ → ℕ → ℕ → List ℕ
account_line posted executed held =
    codes "posted " ++ decimal posted ++ codes " executed " ++ decimal executed ++ codes " held " ++ decimal held ++ newline

-- the fault, where there is one, or otherwise the sums
abbrev pub ending_line : Option Fault → List ℕ → List ℕ
ending_line None sums = sums_line sums
ending_line (Some fault) sums = fault_line fault

-- the whole text of what a run left that had n elements
abbrev pub outcome_text : {A : Type 0} → ℕ → OutcomeView TallyView A → List ℕ
outcome_text n o =
    let w = left_world o.ends o.left in
    round_lines o.board.rounds ++ ending_line o.fault (element_sums o n) ++ account_line (posted_count w) (executed_count w) (held_count w)

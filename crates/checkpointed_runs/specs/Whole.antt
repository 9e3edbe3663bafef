-- The text of a whole run, of which some rounds were decided before, byte by byte.
use Rattle.std.specs.Prelude.{ℕ, ◌+◌, ◌*◌, ◌-◌, List, ◌++◌, [], length, slice_get}
use Rattle.std.specs.List.{flat_map, range_with_len}
use Rattle.std.specs.Option.{option_map_or}
use Rattle.sync_board.specs.Boards.{Kept, kept_of}
use Rattle.rts_core.specs.Accounts.{posted_count, executed_count, held_count}
use Rattle.rts_run.specs.Outcomes.{OutcomeView}
use Rattle.run_account.specs.RunAccounts.{left_world}
use Rattle.run_checkpoint.specs.declared.checkpoint.DecidedRound.{DecidedRound}
use Rattle.run_text.specs.Sums.{element_sums}
use Rattle.run_text.specs.Text.{account_line, ending_line, round_line}
use Rattle.tally.specs.Tallies.{TallyView}

-- the line of round r, of those that were decided before
abbrev pub earlier_line : List DecidedRound → ℕ → List ℕ
earlier_line decided r = option_map_or (λ d. round_line r d.bottleneck d.moved) (slice_get decided (r - 1)) []

-- the lines of all of them, from round 1 on
abbrev pub earlier_lines : List DecidedRound → List ℕ
earlier_lines decided = flat_map (earlier_line decided) (range_with_len 1 (length decided))

-- the line of round r of the run, before which this number of rounds were decided
abbrev pub later_line : {A : Type 0} → ℕ → List (Kept A) → ℕ → List ℕ
later_line before rounds r =
    option_map_or (λ kept. round_line (r + before) kept.1.division.bottleneck kept.1.moved) (kept_of rounds r) []

-- the lines of the rounds of the run, with their numbers counted on
abbrev pub later_lines : {A : Type 0} → ℕ → List (Kept A) → List ℕ
later_lines before rounds = flat_map (later_line before rounds) (range_with_len 1 (length rounds))

-- The whole text of n elements of which a run left this, before which these rounds were decided. In each of them every element
-- posted a letter, which was executed.
abbrev pub whole_text : {A : Type 0} → List DecidedRound → ℕ → OutcomeView TallyView A → List ℕ
whole_text decided n o =
    let w = left_world o.ends o.left in
    let before = n * length decided in
    earlier_lines decided ++ later_lines (length decided) o.board.rounds ++ ending_line o.fault (element_sums o n)
    ++ account_line (posted_count w + before) (executed_count w + before) (held_count w)

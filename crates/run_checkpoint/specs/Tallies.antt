-- The chares of a workload after some of its rounds: tallies, each of which has got an amount in each of these rounds.
use Rattle.std.specs.Prelude.{◌≡◌, ℕ, ◌+◌, ◌-◌, ◌%◌, ◌==◌, if◌then◌else◌, List, [], ◌∷◌, map, take, sum, replicate, slice_index}
use Rattle.std.specs.Int.{w32, to_be_bytes}
use Rattle.std.specs.List.{range_with_len}
use Rattle.chares.specs.declared.entry.Entry.TheVariants.{Letter, Resumption}
use Rattle.tally.specs.Tallies.{TallyView, tally_step}
use Rattle.workload.specs.Text.{WorkloadView}

-- of n chares the one that sends its amounts to chare i
abbrev pub sender : ℕ → ℕ → ℕ
sender n i = if i == 0 then n - 1 else i - 1

-- the amounts of a chare, one for each round
abbrev pub amounts_of : WorkloadView → ℕ → List ℕ
amounts_of w i = map (λ row. slice_index row i) w.amounts

-- tally i of a workload after this many of its rounds
abbrev pub tally_after : WorkloadView → ℕ → ℕ → TallyView
tally_after w rounds i = record {
  posted = rounds;
  got = rounds;
  sum = sum (take rounds (amounts_of w (sender w.chares i)));
  amounts = amounts_of w i;
  pad = replicate w.pad 0;
}

-- all of them, in order
abbrev pub tallies_after : WorkloadView → ℕ → List TallyView
tallies_after w rounds = map (tally_after w rounds) (range_with_len 0 w.chares)

-- the chare that chare i of n sends its amounts to
abbrev pub neighbor : ℕ → ℕ → ℕ
neighbor n i = (i + 1) % n

-- the body of the letter that chare i gets in the round after this many: the amount of its sender
abbrev pub next_body : WorkloadView → ℕ → ℕ → List ℕ
next_body w rounds i = to_be_bytes w32 (slice_index (amounts_of w (sender w.chares i)) rounds)

-- what chare i of a workload is after it was resumed, and after it got its letter of the round after this many
module _ (w : WorkloadView) (rounds i : ℕ) where
  abbrev pub resumed : TallyView → TallyView
  resumed t = (tally_step t i w.chares (Resumption rounds)).state

  abbrev pub got : TallyView → TallyView
  got t = (tally_step t i w.chares (Letter (next_body w rounds i))).state

-- Chare i goes through one more round by its own steps. It sends its amount to its neighbor; and once it was resumed and has got what
-- it is sent, in either order, it is the tally after one more round.
pub record TakesRound (w : WorkloadView) (rounds i : ℕ) : Type 0 where
  pub sends : (tally_step (tally_after w rounds i) i w.chares (Resumption rounds)).sends ≡ (neighbor w.chares i, next_body w rounds (neighbor w.chares i)) ∷ []
  pub resumed_first : got w rounds i (resumed w rounds i (tally_after w rounds i)) ≡ tally_after w (rounds + 1) i
  pub got_first : resumed w rounds i (got w rounds i (tally_after w rounds i)) ≡ tally_after w (rounds + 1) i

-- A token that goes around a ring: each member hands it to the next, and it ends where it began, after a given number
-- of visits.
use Rattle.std.specs.Prelude.{◌≡◌, ℕ, ◌+◌, ◌-◌, ◌≤◌, ◌%◌, List, [], ◌∷◌, length, Bool, false, ◌&&◌, ◌||◌, not, ◌==◌, if◌then◌else◌}
use Rattle.std.specs.Int.{w32, to_be_bytes}
use Rattle.std.proofs.Common.{arith}
use Rattle.chare_index.specs.declared.limits.TheConstants.Limits.{LETTERS, STATE_BYTES}
use Rattle.chares.specs.declared.entry.Entry.{Entry}
use Rattle.chares.specs.declared.entry.Entry.TheVariants.{Letter, Resumption}
use Rattle.chares.specs.declared.sends.SendError.{SendError}
use Rattle.chares.specs.declared.sends.SendError.TheVariants.{Worn}
use Rattle.chares.specs.Steps.{Outcome}

-- this many visits are left after a handler, which posts these letters; it has finished if no visit is left
abbrev pub leaves : ℕ → List (ℕ × List ℕ) → Outcome ℕ
leaves left sends = record { state = left; effect = record { units = 1; at_sync = false; finished = left == 0 }; sends = sends }

-- the token goes to the next in the ring, unless it stays
abbrev pub hands_on : Bool → ℕ → ℕ → List (ℕ × List ℕ)
hands_on stays me n = if stays then [] else ((me + 1) % n, []) ∷ []

-- as it starts, member 0 sends the token off, if there is any visit to make
abbrev pub starts : ℕ → ℕ → ℕ → Outcome ℕ
starts left me n = leaves left (hands_on (left == 0 || not (me == 0)) me n)

-- a member hands the token on, except at the last visit to member 0
abbrev pub visited : ℕ → ℕ → ℕ → Outcome ℕ
visited left me n = leaves (left - 1) (hands_on ((left - 1) == 0 && me == 0) me n)

abbrev pub member_step : ℕ → ℕ → ℕ → Entry (List ℕ) → Outcome ℕ
member_step left me n (Letter body) = visited left me n
member_step left me n (Resumption round) = starts left me n

-- it returns an error only where no letter number is left for the token
abbrev pub MemberRefuses : ℕ → ℕ → ℕ → ℕ → Entry (List ℕ) → SendError → Type 0
MemberRefuses left me n count entry Worn = count ≡ LETTERS
MemberRefuses left me n count entry _ = ⊥

-- every member packs, into four bytes
pub member_packs : (left : ℕ) → Unit {0} × (length (to_be_bytes w32 left) ≤ STATE_BYTES)
member_packs left = (tt, omega arith)

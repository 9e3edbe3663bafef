-- The neighbors of a strip, and letters to them.
use Rattle.std.specs.Prelude.{◌≡◌, ℕ, ◌+◌, ◌-◌, ◌<◌, List, [], ◌∷◌, length, Option, None, Some, Bool, true, ◌==◌, if◌then◌else◌, nat_lt}
use Rattle.chare_index.specs.declared.limits.TheConstants.Limits.{LETTERS}
use Rattle.chares.specs.declared.sends.SendError.{SendError}
use Rattle.chares.specs.declared.sends.SendError.TheVariants.{Worn}
use Rattle.hot_spot_strip.specs.declared.slot.Slot.{Slot}
use Rattle.hot_spot_strip.specs.Slots.{is_filled}

abbrev pub left_of : ℕ → Option ℕ
left_of me = if me == 0 then None else Some (me - 1)

abbrev pub right_of : ℕ → ℕ → Option ℕ
right_of me n = if nat_lt (me + 1) n then Some (me + 1) else None

-- a letter to a strip, if there is one
abbrev pub letters_to : Option ℕ → List ℕ → List (ℕ × List ℕ)
letters_to None body = []
letters_to (Some to) body = (to, body) ∷ []

-- too few letter numbers are left for these letters
abbrev pub WornBy : ℕ → List (ℕ × List ℕ) → SendError → Type 0
WornBy count letters e = (e ≡ Worn) × (LETTERS < count + length letters)

-- the value beside a strip has come, or there is no strip on that side
abbrev pub is_beside : Option ℕ → Slot → Bool
is_beside None slot = true
is_beside (Some neighbor) slot = is_filled slot

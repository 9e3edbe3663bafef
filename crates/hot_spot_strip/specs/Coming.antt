-- The values that have come from the neighbors of a strip.
use Rattle.std.specs.Prelude.{ℕ, ◌+◌, Bool, ◌&&◌, ◌==◌, if◌then◌else◌}
use Rattle.hot_spot_strip.specs.declared.came.Came.{Came}
use Rattle.hot_spot_strip.specs.declared.shown.Shown.{Shown}
use Rattle.hot_spot_strip.specs.declared.shown.Side.{Side}
use Rattle.hot_spot_strip.specs.declared.shown.Side.TheVariants.{Left, Right}
use Rattle.hot_spot_strip.specs.declared.slot.Slot.TheVariants.{Empty, Filled}
use Rattle.hot_spot_strip.specs.Chains.{is_beside, left_of, right_of}

abbrev pub kept_now : Came → Side → ℕ → Came
kept_now came Left value = record came { left = Filled value }
kept_now came Right value = record came { right = Filled value }

abbrev pub kept_early : Came → Side → ℕ → Came
kept_early came Left value = record came { early_left = Filled value }
kept_early came Right value = record came { early_right = Filled value }

-- with one more value, where this number of rounds is computed: it is of the next round, or early and of the one after that; a
-- value of any other round is ignored
abbrev pub kept : Came → ℕ → Shown → Came
kept came done shown =
    if shown.round == done
    then kept_now came shown.side shown.value
    else (if shown.round == done + 1 then kept_early came shown.side shown.value else came)

-- strip `me` of n has the values of the next round from all neighbors that it has
abbrev pub are_beside : Came → ℕ → ℕ → Bool
are_beside came me n = is_beside (left_of me) came.left && is_beside (right_of me n) came.right

-- once that round is computed, what came early is of the round that is next
abbrev pub moved_up : Came → Came
moved_up came = record { left = came.early_left; right = came.early_right; early_left = Empty; early_right = Empty }

-- A strip of cells in a chain of strips: in each round it takes the values beside it from its neighbors, and computes its cells.
use Rattle.std.specs.Prelude.{◌≡◌, ℕ, ◌+◌, ◌*◌, ◌≤◌, List, [], ◌∷◌, ◌++◌, length, flat_map, All, Option, None, Some, Bool, true, false, not, ◌&&◌, if◌then◌else◌, nat_lt}
use Rattle.std.specs.Int.{w32, w64, to_be_bytes}
use Rattle.std.proofs.Common.{refl, arith, length-append}
use Rattle.std.proofs.lemmas.Bool.Decides.{nat_tests}
use Rattle.std.proofs.lemmas.List.Concat.{flat_map-cons}
use Rattle.chare_index.specs.declared.limits.TheConstants.Limits.{STATE_BYTES}
use Rattle.chares.specs.declared.chare.Effect.{Effect}
use Rattle.chares.specs.declared.entry.Entry.{Entry}
use Rattle.chares.specs.declared.entry.Entry.TheVariants.{Letter, Resumption}
use Rattle.chares.specs.declared.sends.SendError.{SendError}
use Rattle.chares.specs.Steps.{Outcome}
use Rattle.pup_pack.specs.Lists.{IsCounted, pack_list}
use Rattle.hot_spot_strip.specs.declared.came.Came.{Came}
use Rattle.hot_spot_strip.specs.declared.limits.TheConstants.StripLimits.{CELLS, ROUNDS}
use Rattle.hot_spot_strip.specs.declared.mode.Mode.{Mode}
use Rattle.hot_spot_strip.specs.declared.shown.Shown.{Shown}
use Rattle.hot_spot_strip.specs.declared.shown.Side.TheVariants.{Left, Right}
use Rattle.hot_spot_strip.specs.declared.slot.Slot.{Slot}
use Rattle.hot_spot_strip.specs.declared.slot.Slot.TheVariants.{Empty}
use Rattle.hot_spot_strip.specs.Cells.{computed, first_value, last_value}
use Rattle.hot_spot_strip.specs.Chains.{WornBy, left_of, letters_to, right_of}
use Rattle.hot_spot_strip.specs.Coming.{are_beside, kept, moved_up}
use Rattle.hot_spot_strip.specs.Modes.{is_static, mode_number}
use Rattle.hot_spot_strip.specs.Profile.{cell_work}
use Rattle.hot_spot_strip.specs.Showing.{body_of, shown_in}
use Rattle.hot_spot_strip.specs.Slots.{slot_parts, value_in}

-- whether it is balanced, how many rounds it has, the work in the middle of the hot spot, how many rounds it has begun and
-- computed, what has come from its neighbors, and its cells
pub record StripView : Type 0 where
  pub mode : Mode
  pub rounds : ℕ
  pub work : ℕ
  pub begun : ℕ
  pub done : ℕ
  pub came : Came
  pub cells : List ℕ

-- it has computed no more rounds than it has begun, and begun no more than it has, and keeps to the limits of rounds and cells
abbrev pub are_within : ℕ → ℕ → ℕ → ℕ → Bool
are_within rounds begun done cells =
    not (nat_lt ROUNDS rounds) && (not (nat_lt rounds begun) && (not (nat_lt begun done) && not (nat_lt CELLS cells)))

abbrev pub is_strip : StripView → Bool
is_strip s = are_within s.rounds s.begun s.done (length s.cells)

-- as it opens
abbrev pub opening_strip : Mode → ℕ → ℕ → List ℕ → StripView
opening_strip mode rounds work cells =
    record {
      mode = mode;
      rounds = rounds;
      work = work;
      begun = 0;
      done = 0;
      came = record { left = Empty; right = Empty; early_left = Empty; early_right = Empty };
      cells = cells;
    }

-- the value at its left end, for the neighbor there; a strip without cells shows 0
abbrev pub shown_left : StripView → ℕ → List (ℕ × List ℕ)
shown_left s me = letters_to (left_of me) (body_of (record { side = Right; round = s.done; value = first_value s.cells 0 }))

-- and that at its right end
abbrev pub shown_right : StripView → ℕ → ℕ → List (ℕ × List ℕ)
shown_right s me n = letters_to (right_of me n) (body_of (record { side = Left; round = s.done; value = last_value s.cells 0 }))

-- as a round begins it shows both
abbrev pub shown_by : StripView → ℕ → ℕ → List (ℕ × List ℕ)
shown_by s me n = shown_left s me ++ shown_right s me n

-- whether a round follows the next one
abbrev pub goes_on : StripView → Bool
goes_on s = nat_lt (s.done + 1) s.rounds

-- a strip that is not balanced posts itself an empty letter to go on
abbrev pub asks : StripView → ℕ → Option ℕ
asks s me = if is_static s.mode && goes_on s then Some me else None

-- the work of a round: this number of rounds of mixing for each cell
abbrev pub units_of : StripView → ℕ → ℕ → ℕ
units_of s me n = length s.cells * cell_work me n s.done s.rounds s.work

-- it computes the next round from what has come
abbrev pub after_round : StripView → Came → ℕ → ℕ → StripView
after_round s came me n =
    record s {
      done = s.done + 1;
      came = moved_up came;
      cells = computed (cell_work me n s.done s.rounds s.work) (value_in came.left) s.cells (value_in came.right);
    }

-- what the handler of a round returns: that work, and that the strip is ready to be balanced; one that is not balanced has
-- finished after the last round
abbrev pub effect_of : StripView → ℕ → ℕ → Effect
effect_of s me n = record { units = units_of s me n; at_sync = not (is_static s.mode); finished = is_static s.mode && not (goes_on s) }

abbrev pub computes : StripView → Came → ℕ → ℕ → List (ℕ × List ℕ) → Outcome StripView
computes s came me n sends =
    record {
      state = after_round s came me n;
      effect = effect_of s me n;
      sends = sends ++ letters_to (asks s me) [];
    }

-- it waits
abbrev pub rests : StripView → List (ℕ × List ℕ) → Outcome StripView
rests s sends = record { state = s; effect = record { units = 0; at_sync = false; finished = false }; sends = sends }

-- it begins the next round, and computes it if the values beside it are there already; without a next round it has finished
abbrev pub begins : StripView → ℕ → ℕ → Outcome StripView
begins s me n =
    let t = record s { begun = s.done + 1 } in
    if nat_lt s.done s.rounds
    then (if are_beside s.came me n then computes t s.came me n (shown_by s me n) else rests t (shown_by s me n))
    else record { state = s; effect = record { units = 0; at_sync = false; finished = true }; sends = [] }

-- it keeps what a neighbor shows, and computes the next round if it has begun that and the values beside it are there
abbrev pub takes : StripView → ℕ → ℕ → Option Shown → Outcome StripView
takes s me n None = rests s []
takes s me n (Some shown) =
    let came = kept s.came s.done shown in
    if nat_lt s.done s.begun && are_beside came me n then computes s came me n [] else rests (record s { came = came }) []

-- an empty letter is one from the strip itself
abbrev pub on_letter : StripView → ℕ → ℕ → List ℕ → Outcome StripView
on_letter s me n [] = begins s me n
on_letter s me n (byte ∷ bytes) = takes s me n (shown_in (byte ∷ bytes))

abbrev pub strip_step : StripView → ℕ → ℕ → Entry (List ℕ) → Outcome StripView
strip_step s me n (Letter body) = on_letter s me n body
strip_step s me n (Resumption round) = begins s me n

-- it returns an error only where too few letter numbers are left for what it sends
abbrev pub StripRefuses : StripView → ℕ → ℕ → ℕ → Entry (List ℕ) → SendError → Type 0
StripRefuses s me n count entry e = WornBy count (strip_step s me n entry).sends e

-- the fields, as they are packed
abbrev pub Parts : Type 0
Parts = Mode × (ℕ × (ℕ × (ℕ × (ℕ × (Slot × (Slot × (Slot × (Slot × List ℕ))))))))

abbrev pub parts : StripView → Parts
parts s = (s.mode, (s.rounds, (s.work, (s.begun, (s.done, (s.came.left, (s.came.right, (s.came.early_left, (s.came.early_right, s.cells)))))))))

-- what came, of the fields from the slots on
abbrev pub came_of : Slot × (Slot × (Slot × (Slot × List ℕ))) → Came
came_of x = record { left = x.0; right = x.1.0; early_left = x.1.1.0; early_right = x.1.1.1.0 }

abbrev pub of_parts : Parts → StripView
of_parts x =
    record {
      mode = x.0;
      rounds = x.1.0;
      work = x.1.1.0;
      begun = x.1.1.1.0;
      done = x.1.1.1.1.0;
      came = came_of x.1.1.1.1.1;
      cells = x.1.1.1.1.1.1.1.1.1;
    }

-- what a strip packs into
abbrev pub slot_pack : Slot → List ℕ
slot_pack slot = to_be_bytes w32 (slot_parts slot).0 ++ to_be_bytes w64 (slot_parts slot).1

abbrev pub strip_pack : StripView → List ℕ
strip_pack s =
    to_be_bytes w32 (mode_number s.mode)
    ++ (to_be_bytes w32 s.rounds
    ++ (to_be_bytes w32 s.work
    ++ (to_be_bytes w32 s.begun
    ++ (to_be_bytes w32 s.done
    ++ (slot_pack s.came.left ++ (slot_pack s.came.right ++ (slot_pack s.came.early_left ++ (slot_pack s.came.early_right ++ pack_list (to_be_bytes w64) s.cells))))))))

abbrev pub Nothing : Type 0
Nothing = Unit {0}

abbrev pub AreCounted : StripView → Type 0
AreCounted s =
    Nothing × (Nothing × (Nothing × (Nothing × (Nothing
    × ((Nothing × Nothing) × ((Nothing × Nothing) × ((Nothing × Nothing) × ((Nothing × Nothing) × (IsCounted s.cells × All (λ _. Nothing) s.cells)))))))))

all_nothing : (xs : List ℕ) → All (λ _. Nothing) xs
all_nothing xs = λ k d inside. tt

cells_len : (xs : List ℕ) → length (flat_map (to_be_bytes w64) xs) ≡ 8 * length xs
cells_len [] = refl
cells_len (x ∷ xs) = grind (arith, flat_map-cons, length-append, cells_len xs)

-- every strip packs, into 72 bytes and 8 for each cell
pub strip_packs : (s : StripView) → is_strip s ≡ true → AreCounted s × (length (strip_pack s) ≤ STATE_BYTES)
strip_packs s right =
    let cells : length s.cells ≤ CELLS = grind (arith, nat_tests, right) in (
      (tt, (tt, (tt, (tt, (tt, ((tt, tt), ((tt, tt), ((tt, tt), ((tt, tt), (omega (arith, cells), all_nothing s.cells)))))))))),
      grind (arith, length-append, cells_len s.cells, cells),
    )

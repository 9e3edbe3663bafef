-- A run of chares whose handlers run elsewhere.
use Rattle.std.specs.Prelude.{◌≡◌, ℕ, ◌+◌, ◌*◌, ◌/◌, ◌<◌, ◌^◌, ◌==◌, zero, suc, List, [], ◌∷◌, ◌++◌, Bool, true, not, ◌&&◌, length, is_some, Result, slice_get, if◌then◌else◌}
use Rattle.std.specs.Int.{w32, w64, to_be_bytes}
use Rattle.std.specs.Option.{option_map_or}
use Rattle.chares.specs.Steps.{Step}
use Rattle.foreign_chare.specs.Scripts.{Answered, Stamp, is_stamp, new_stamp, of_parts, scripted_step, silent}
use Rattle.pe_state.specs.Histories.{IsParcelHistory}
use Rattle.pe_state.specs.Pes.{PeView, Parcel, new_pe, placed}
use Rattle.pe_state.specs.Rooms.{found}
use Rattle.pup_pack.specs.declared.error.PupError.{PupError}
use Rattle.pup_pack.specs.Lists.{pack_bytes, unpack_bytes}
use Rattle.pup_pack.specs.Numbers.{unpack_u32, unpack_u64}
use Rattle.pup_pack.specs.Pairs.{unpack_pair}
use Rattle.pup_pack.specs.Structs.{judged, made}
use Rattle.zero_tails.specs.Tails.{zeros}

-- how many elements and PEs it has, and of each element its answers, in order
pub record Run : Type 0 where
  pub n : ℕ
  pub pes : ℕ
  pub answers : List (List Answered)

abbrev pub no_run : Run
no_run = record { n = 0; pes = 1; answers = [] }

-- what an element answers to the entry after this many, and nothing where the list has no answer to it
abbrev pub answers_in : Run → ℕ → ℕ → Answered
answers_in run i v = option_map_or (λ list. option_map_or (λ answer. answer) (slice_get list v) (silent i v)) (slice_get run.answers i) (silent i v)

abbrev pub step_in : Run → Step Stamp
step_in run = scripted_step (answers_in run)

-- the chares, as the array opens
abbrev pub stamps_from : ℕ → ℕ → List Stamp
stamps_from i zero = []
stamps_from i (suc n) = new_stamp i ∷ stamps_from (i + 1) n

abbrev pub opening : Run → List Stamp
opening run = stamps_from 0 run.n

-- numbers such as a stamp has, what it packs into, and what bytes unpack to
abbrev pub FitsStamp : Stamp → Type 0
FitsStamp s = ((s.index < 2 ^ 32) × ((s.version < 2 ^ 64) × Unit {0})) × (is_stamp s ≡ true)

abbrev pub stamp_pack : Stamp → List ℕ
stamp_pack s = to_be_bytes w32 s.index ++ (to_be_bytes w64 s.version ++ pack_bytes (zeros s.bytes))

abbrev pub stamp_unpack : List ℕ → Result (Stamp × ℕ) PupError
stamp_unpack bytes = judged is_stamp (made of_parts (unpack_pair unpack_u32 (unpack_pair unpack_u64 (λ b. made length (unpack_bytes b))) bytes))

-- a parcel of the run: a letter, or an element with the history that its entries say
abbrev pub IsOfRun : Run → Parcel → Type 0
IsOfRun run parcel = IsParcelHistory (step_in run) FitsStamp stamp_pack (opening run) parcel

-- A PE, of this many, of an array of this many elements, as it opens, once the first this many elements were asked after: of these it has
-- those that begin on it, which is where the array is cut into as many runs of elements as there are PEs.
abbrev pub begins_on : ℕ → ℕ → PeView Stamp → ℕ → Bool
begins_on pes n pe i = (i * pes / n == pe.me) && not (is_some (found i pe.room))

abbrev pub with_element : ℕ → ℕ → PeView Stamp → ℕ → PeView Stamp
with_element pes n pe i = if begins_on pes n pe i then placed pe i (new_stamp i) else pe

abbrev pub opened_to : ℕ → ℕ → ℕ → ℕ → PeView Stamp
opened_to pes n me zero = new_pe me n
opened_to pes n me (suc i) = with_element pes n (opened_to pes n me i) i

abbrev pub opened : ℕ → ℕ → ℕ → PeView Stamp
opened pes n me = opened_to pes n me n

-- A mark of an element, as it is sent.
use Rattle.std.specs.Prelude.{◌≡◌, ℕ, ◌<◌, ◌^◌, List, ◌++◌, Option, None, Some, Result, Bool, true, not, ◌&&◌, ◌==◌, nat_lt, if◌then◌else◌}
use Rattle.std.specs.Int.{w32, w64, to_be_bytes}
use Rattle.std.proofs.Common.{refl}
use Rattle.chare_index.specs.declared.limits.TheConstants.Limits.{ELEMENTS, LOAD, PES, ROUND, STATE_BYTES}
use Rattle.chares.specs.declared.note.Mark.{Mark}
use Rattle.chares.specs.declared.note.Mark.TheVariants.{Synced, Resumed}
use Rattle.chares.specs.declared.note.Note.{Note}
use Rattle.chares.specs.declared.note.Note.TheVariants.{Sync, Finish}
use Rattle.pup_pack.specs.declared.error.PupError.{PupError}
use Rattle.pup_pack.specs.Numbers.{pack_u8, unpack_u8, unpack_u32, unpack_u64}
use Rattle.pup_pack.specs.Packing.{RoundTrip}
use Rattle.pup_pack.specs.Pairs.{unpack_pair}
use Rattle.pup_pack.specs.Structs.{decoded}
use Rattle.pup_pack.specs.Trips.{decoded_trips, pair_trips, u32_trips, u64_trips, u8_trips}

-- its kind, the index, the round, the load, the bytes and the PE; unused fields are 0
abbrev pub Parts : Type 0
Parts = ℕ × (ℕ × (ℕ × (ℕ × (ℕ × ℕ))))

abbrev pub note_parts : Note → Parts
note_parts (Sync index round load bytes pe) = (1, (index, (round, (load, (bytes, pe)))))
note_parts (Finish index) = (2, (index, (0, (0, (0, 0)))))

abbrev pub mark_parts : Mark → Parts
mark_parts (Resumed round pe) = (0, (0, (round, (0, (0, pe)))))
mark_parts (Synced note) = note_parts note

-- within the limits of elements, rounds, loads, states and PEs
abbrev pub are_within : Parts → Bool
are_within x = nat_lt x.1.0 ELEMENTS && (not (nat_lt ROUND x.1.1.0) && (not (nat_lt LOAD x.1.1.1.0) && (not (nat_lt STATE_BYTES x.1.1.1.1.0) && nat_lt x.1.1.1.1.1 PES)))

-- whether the parts that a resumption has not, or the end of an element, are 0
abbrev pub is_bare : Parts → Bool
is_bare x = (x.1.0 == 0) && ((x.1.1.1.0 == 0) && (x.1.1.1.1.0 == 0))

abbrev pub is_end : Parts → Bool
is_end x = (x.1.1.0 == 0) && ((x.1.1.1.0 == 0) && ((x.1.1.1.1.0 == 0) && (x.1.1.1.1.1 == 0)))

-- the mark with these parts, where there is one
abbrev pub mark_of : Parts → Option Mark
mark_of x =
    if x.0 == 0 then (if is_bare x then Some (Resumed x.1.1.0 x.1.1.1.1.1) else None)
    else if x.0 == 1 then Some (Synced (Sync x.1.0 x.1.1.0 x.1.1.1.0 x.1.1.1.1.0 x.1.1.1.1.1))
    else if x.0 == 2 then (if is_end x then Some (Synced (Finish x.1.0)) else None)
    else None

abbrev pub mark_read : Parts → Option Mark
mark_read x = if are_within x then mark_of x else None

-- a mark is read from its parts
pub note_again : (n : Note) → mark_of (note_parts n) ≡ Some (Synced n)
note_again (Sync index round load bytes pe) = refl
note_again (Finish index) = refl

pub mark_again : (m : Mark) → mark_of (mark_parts m) ≡ Some m
mark_again (Resumed round pe) = refl
mark_again (Synced note) = note_again note

pub mark_reads : (m : Mark) → are_within (mark_parts m) ≡ true → mark_read (mark_parts m) ≡ Some m
mark_reads m within = rw within (mark_again m)

-- numbers such as their types have, of which none is a list, and their bytes, one after another
abbrev pub AreNumbers : Parts → Type 0
AreNumbers x = (x.0 < 2 ^ 8) × ((x.1.0 < 2 ^ 32) × ((x.1.1.0 < 2 ^ 32) × ((x.1.1.1.0 < 2 ^ 64) × ((x.1.1.1.1.0 < 2 ^ 32) × (x.1.1.1.1.1 < 2 ^ 32)))))

abbrev pub AreCounted : Parts → Type 0
AreCounted x = Unit {0} × (Unit {0} × (Unit {0} × (Unit {0} × (Unit {0} × Unit {0}))))

abbrev pub pack_parts : Parts → List ℕ
pack_parts x = pack_u8 x.0 ++ (to_be_bytes w32 x.1.0 ++ (to_be_bytes w32 x.1.1.0 ++ (to_be_bytes w64 x.1.1.1.0 ++ (to_be_bytes w32 x.1.1.1.1.0 ++ to_be_bytes w32 x.1.1.1.1.1))))

abbrev pub unpack_parts : List ℕ → Result (Parts × ℕ) PupError
unpack_parts bytes = unpack_pair unpack_u8 (unpack_pair unpack_u32 (unpack_pair unpack_u32 (unpack_pair unpack_u64 (unpack_pair unpack_u32 unpack_u32)))) bytes

-- a mark that a value of its type may be
abbrev pub FitsMark : Mark → Type 0
FitsMark m = AreNumbers (mark_parts m) × (are_within (mark_parts m) ≡ true)

pub mark_trips : RoundTrip FitsMark (λ m. AreCounted (mark_parts m)) (λ m. pack_parts (mark_parts m)) (λ bytes. decoded mark_read (unpack_parts bytes))
mark_trips =
    decoded_trips FitsMark mark_parts mark_read (λ m fit. mark_reads m fit.1) (λ m fit. fit.0)
    (pair_trips u8_trips (pair_trips u32_trips (pair_trips u32_trips (pair_trips u64_trips (pair_trips u32_trips u32_trips)))))

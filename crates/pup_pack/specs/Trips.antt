-- The law of each type, as a value: that of a list is made from that of its items, and that of a struct from those
-- of its fields, as the types are.
use Rattle.std.specs.Prelude.{◌≡◌, ℕ, FitsSigned, ◌*◌, ◌<◌, ◌^◌, List, ◌++◌, length, All, Bool, true, Option, Some, IfSome, Result, Ok, to_bits, from_bits}
use Rattle.std.specs.Int.{w8, w16, w32, w64, Width, to_be_bytes, cast_unsigned, cast_signed}
use Rattle.std.proofs.Common.{refl, subst}
use Rattle.std.proofs.Math.Facts.{Fits-of_z, Fits-lt-pow}
use Rattle.std.proofs.lemmas.Int.{to_z-of_z}
use Rattle.std.specs.Bool.{passes}
use Rattle.std.specs.Float.{Format, binary32, binary64}
use Rattle.std.specs.Str.{is_utf8}
use lib.Ieee.{top}
use lib.Ieee.Bits.{of_bits-to_bits, to_bits-lt}
use mir.Val.{bits}
use Rattle.pup_pack.specs.declared.error.PupError.{PupError}
use Rattle.pup_pack.specs.Packing.{RoundTrip}
use Rattle.pup_pack.specs.Numbers.{pack_u8, unpack_u8, unpack_u16, u16_round_trip, unpack_u32, u32_round_trip, unpack_u64, u64_round_trip}
use Rattle.pup_pack.specs.Pairs.{unpack_pair, pair_round_trip, le_first, le_second}
use Rattle.pup_pack.specs.Lists.{IsCounted, pack_list, unpack_list, pack_bytes, unpack_bytes}
use Rattle.pup_pack.specs.ListTrips.{list_round_trip, bytes_round_trip}
use Rattle.pup_pack.specs.Arrays.{AreItems, pack_array, unpack_array, array_round_trip}
use Rattle.pup_pack.specs.Options.{pack_option, unpack_option, option_round_trip}
use Rattle.pup_pack.specs.Structs.{made, judged, decoded, made_round_trip, judged_round_trip, decoded_round_trip}
use Rattle.pup_pack.specs.Signed.{pack_signed, unpack_signed}
use Rattle.pup_pack.specs.Floats.{IsFloat, pack_float, unpack_float}
use Rattle.pup_pack.specs.Texts.{IsText, unpack_text}
use Rattle.pup_pack.specs.Tuples.{three_of, pairs_of_three, four_of, pairs_of_four, five_of, pairs_of_five, six_of, pairs_of_six}
use Rattle.pup_pack.specs.Truths.{pack_bool, unpack_bool, bool_code, bool_of, bool_again}

pub u8_trips : RoundTrip (λ n. n < 2 ^ 8) (λ _. Unit {0}) pack_u8 unpack_u8
u8_trips = record { trip = λ n rest _ _ _. refl }

pub u16_trips : RoundTrip (λ n. n < 2 ^ 16) (λ _. Unit {0}) (to_be_bytes w16) unpack_u16
u16_trips = record { trip = λ n rest fit _ _. u16_round_trip n rest fit }

pub u32_trips : RoundTrip (λ n. n < 2 ^ 32) (λ _. Unit {0}) (to_be_bytes w32) unpack_u32
u32_trips = record { trip = λ n rest fit _ _. u32_round_trip n rest fit }

pub u64_trips : RoundTrip (λ n. n < 2 ^ 64) (λ _. Unit {0}) (to_be_bytes w64) unpack_u64
u64_trips = record { trip = λ n rest fit _ _. u64_round_trip n rest fit }

pub bytes_trips : RoundTrip (λ _. Unit {0}) IsCounted pack_bytes unpack_bytes
bytes_trips = record { trip = λ bytes rest _ _ few. bytes_round_trip bytes rest few }

pub list_trips : {T : Type 0} {fits counted : T → Type 0} {pack : T → List ℕ} {unpack : List ℕ → Result (T × ℕ) PupError} → RoundTrip fits counted pack unpack
    → RoundTrip (All fits) (λ xs. IsCounted xs × All counted xs) (pack_list pack) (unpack_list unpack)
list_trips {fits = fits} {counted = counted} {pack = pack} {unpack = unpack} item =
    record { trip = λ xs rest fit count few. list_round_trip fits counted pack unpack item xs rest fit count.1 count.0 few }

-- of an array of n items
pub array_trips : {T : Type 0} {fits counted : T → Type 0} {pack : T → List ℕ} {unpack : List ℕ → Result (T × ℕ) PupError} (n : ℕ) → RoundTrip fits counted pack unpack
    → RoundTrip (AreItems fits n) (λ xs. IsCounted xs × All counted xs) (pack_array pack) (unpack_array unpack n)
array_trips {fits = fits} {counted = counted} {pack = pack} {unpack = unpack} n item =
    record { trip = λ xs rest fit count few. array_round_trip fits counted pack unpack item n xs rest fit count.1 count.0 few }

pub option_trips : {T : Type 0} {fits counted : T → Type 0} {pack : T → List ℕ} {unpack : List ℕ → Result (T × ℕ) PupError} → RoundTrip fits counted pack unpack
    → RoundTrip (λ o. IfSome o fits) (λ o. IfSome o counted) (pack_option pack) (unpack_option unpack)
option_trips {fits = fits} {counted = counted} {pack = pack} {unpack = unpack} item =
    record { trip = λ o rest fit count few. option_round_trip fits counted pack unpack item o rest fit count few }

pub pair_trips : {T U : Type 0} {f c : T → Type 0} {p : T → List ℕ} {u : List ℕ → Result (T × ℕ) PupError} {g d : U → Type 0}
    {q : U → List ℕ} {v : List ℕ → Result (U × ℕ) PupError}
    → RoundTrip f c p u → RoundTrip g d q v → RoundTrip (λ s. f s.0 × g s.1) (λ s. c s.0 × d s.1) (λ s. p s.0 ++ q s.1) (unpack_pair u v)
pair_trips {p = p} {u = u} {q = q} {v = v} first second =
    record {
      trip = λ s rest fit count few. pair_round_trip p q u v s.0 s.1 rest
          (λ r. first.trip s.0 r fit.0 count.0 (le_first (p s.0) (q s.1) few)) (λ r. second.trip s.1 r fit.1 count.1 (le_second (p s.0) (q s.1) few)) few;
    }

-- of a struct that is made again from its fields
pub struct_trips : {F S : Type 0} {f c : F → Type 0} {p : F → List ℕ} {u : List ℕ → Result (F × ℕ) PupError} (fields : S → F) (make : F → S) → ((s : S) → make (fields s) ≡ s)
    → RoundTrip f c p u → RoundTrip (λ s. f (fields s)) (λ s. c (fields s)) (λ s. p (fields s)) (λ bytes. made make (u bytes))
struct_trips {p = p} {u = u} fields make same whole =
    record {
      trip = λ s rest fit count few. subst (λ t. made make (u (p (fields s) ++ rest)) ≡ Ok (t, length (p (fields s)))) (same s)
          (made_round_trip make (u (p (fields s) ++ rest)) (fields s) (length (p (fields s))) (whole.trip (fields s) rest fit count few));
    }

-- of a tuple, from the laws of its parts
pub three_trips : {X Y Z : Type 0}
    {f1 c1 : X → Type 0} {p1 : X → List ℕ} {u1 : List ℕ → Result (X × ℕ) PupError}
    {f2 c2 : Y → Type 0} {p2 : Y → List ℕ} {u2 : List ℕ → Result (Y × ℕ) PupError}
    {f3 c3 : Z → Type 0} {p3 : Z → List ℕ} {u3 : List ℕ → Result (Z × ℕ) PupError}
    → RoundTrip f1 c1 p1 u1 → RoundTrip f2 c2 p2 u2 → RoundTrip f3 c3 p3 u3
    → RoundTrip {T = X × Y × Z}
    (λ s. f1 s.0 × (f2 s.1 × f3 s.2))
    (λ s. c1 s.0 × (c2 s.1 × c3 s.2))
    (λ s. p1 s.0 ++ (p2 s.1 ++ p3 s.2))
    (λ bytes. made three_of (unpack_pair u1 (unpack_pair u2 u3) bytes))
three_trips first second third = struct_trips pairs_of_three three_of (λ _. refl) (pair_trips first (pair_trips second third))

pub four_trips : {W X Y Z : Type 0}
    {f1 c1 : W → Type 0} {p1 : W → List ℕ} {u1 : List ℕ → Result (W × ℕ) PupError}
    {f2 c2 : X → Type 0} {p2 : X → List ℕ} {u2 : List ℕ → Result (X × ℕ) PupError}
    {f3 c3 : Y → Type 0} {p3 : Y → List ℕ} {u3 : List ℕ → Result (Y × ℕ) PupError}
    {f4 c4 : Z → Type 0} {p4 : Z → List ℕ} {u4 : List ℕ → Result (Z × ℕ) PupError}
    → RoundTrip f1 c1 p1 u1 → RoundTrip f2 c2 p2 u2 → RoundTrip f3 c3 p3 u3 → RoundTrip f4 c4 p4 u4
    → RoundTrip {T = W × X × Y × Z}
    (λ s. f1 s.0 × (f2 s.1 × (f3 s.2 × f4 s.3)))
    (λ s. c1 s.0 × (c2 s.1 × (c3 s.2 × c4 s.3)))
    (λ s. p1 s.0 ++ (p2 s.1 ++ (p3 s.2 ++ p4 s.3)))
    (λ bytes. made four_of (unpack_pair u1 (unpack_pair u2 (unpack_pair u3 u4)) bytes))
four_trips first second third fourth = struct_trips pairs_of_four four_of (λ _. refl) (pair_trips first (pair_trips second (pair_trips third fourth)))

pub five_trips : {V W X Y Z : Type 0}
    {f1 c1 : V → Type 0} {p1 : V → List ℕ} {u1 : List ℕ → Result (V × ℕ) PupError}
    {f2 c2 : W → Type 0} {p2 : W → List ℕ} {u2 : List ℕ → Result (W × ℕ) PupError}
    {f3 c3 : X → Type 0} {p3 : X → List ℕ} {u3 : List ℕ → Result (X × ℕ) PupError}
    {f4 c4 : Y → Type 0} {p4 : Y → List ℕ} {u4 : List ℕ → Result (Y × ℕ) PupError}
    {f5 c5 : Z → Type 0} {p5 : Z → List ℕ} {u5 : List ℕ → Result (Z × ℕ) PupError}
    → RoundTrip f1 c1 p1 u1 → RoundTrip f2 c2 p2 u2 → RoundTrip f3 c3 p3 u3 → RoundTrip f4 c4 p4 u4 → RoundTrip f5 c5 p5 u5
    → RoundTrip {T = V × W × X × Y × Z}
    (λ s. f1 s.0 × (f2 s.1 × (f3 s.2 × (f4 s.3 × f5 s.4))))
    (λ s. c1 s.0 × (c2 s.1 × (c3 s.2 × (c4 s.3 × c5 s.4))))
    (λ s. p1 s.0 ++ (p2 s.1 ++ (p3 s.2 ++ (p4 s.3 ++ p5 s.4))))
    (λ bytes. made five_of (unpack_pair u1 (unpack_pair u2 (unpack_pair u3 (unpack_pair u4 u5))) bytes))
five_trips first second third fourth fifth = struct_trips pairs_of_five five_of (λ _. refl) (pair_trips first (pair_trips second (pair_trips third (pair_trips fourth fifth))))

pub six_trips : {U V W X Y Z : Type 0}
    {f1 c1 : U → Type 0} {p1 : U → List ℕ} {u1 : List ℕ → Result (U × ℕ) PupError}
    {f2 c2 : V → Type 0} {p2 : V → List ℕ} {u2 : List ℕ → Result (V × ℕ) PupError}
    {f3 c3 : W → Type 0} {p3 : W → List ℕ} {u3 : List ℕ → Result (W × ℕ) PupError}
    {f4 c4 : X → Type 0} {p4 : X → List ℕ} {u4 : List ℕ → Result (X × ℕ) PupError}
    {f5 c5 : Y → Type 0} {p5 : Y → List ℕ} {u5 : List ℕ → Result (Y × ℕ) PupError}
    {f6 c6 : Z → Type 0} {p6 : Z → List ℕ} {u6 : List ℕ → Result (Z × ℕ) PupError}
    → RoundTrip f1 c1 p1 u1 → RoundTrip f2 c2 p2 u2 → RoundTrip f3 c3 p3 u3 → RoundTrip f4 c4 p4 u4 → RoundTrip f5 c5 p5 u5 → RoundTrip f6 c6 p6 u6
    → RoundTrip {T = U × V × W × X × Y × Z}
    (λ s. f1 s.0 × (f2 s.1 × (f3 s.2 × (f4 s.3 × (f5 s.4 × f6 s.5)))))
    (λ s. c1 s.0 × (c2 s.1 × (c3 s.2 × (c4 s.3 × (c5 s.4 × c6 s.5)))))
    (λ s. p1 s.0 ++ (p2 s.1 ++ (p3 s.2 ++ (p4 s.3 ++ (p5 s.4 ++ p6 s.5)))))
    (λ bytes. made six_of (unpack_pair u1 (unpack_pair u2 (unpack_pair u3 (unpack_pair u4 (unpack_pair u5 u6)))) bytes))
six_trips first second third fourth fifth sixth = struct_trips pairs_of_six six_of (λ _. refl)
    (pair_trips first (pair_trips second (pair_trips third (pair_trips fourth (pair_trips fifth sixth)))))

-- of a type with a test that each of its values passes
pub judged_trips : {S : Type 0} {f c : S → Type 0} {p : S → List ℕ} {u : List ℕ → Result (S × ℕ) PupError} (test : S → Bool)
    → RoundTrip f c p u → RoundTrip (λ s. f s × (test s ≡ true)) c p (λ bytes. judged test (u bytes))
judged_trips {p = p} {u = u} test whole =
    record { trip = λ s rest fit count few. judged_round_trip test (u (p s ++ rest)) s (length (p s)) fit.1 (whole.trip s rest fit.0 count few) }

-- of a type whose values are made again from what each is written as
pub coded_trips : {F S : Type 0} {f c : F → Type 0} {p : F → List ℕ} {u : List ℕ → Result (F × ℕ) PupError} (fits : S → Type 0) (code : S → F) (make : F → S)
    → ((s : S) → fits s → make (code s) ≡ s) → ((s : S) → fits s → f (code s))
    → RoundTrip f c p u → RoundTrip fits (λ s. c (code s)) (λ s. p (code s)) (λ bytes. made make (u bytes))
coded_trips {p = p} {u = u} fits code make same fitting whole =
    record {
      trip = λ s rest fit count few. subst (λ t. made make (u (p (code s) ++ rest)) ≡ Ok (t, length (p (code s)))) (same s fit)
          (made_round_trip make (u (p (code s) ++ rest)) (code s) (length (p (code s))) (whole.trip (code s) rest (fitting s fit) count few));
    }

pub signed_trips : (w : Width) {p : ℕ → List ℕ} {u : List ℕ → Result (ℕ × ℕ) PupError} → RoundTrip (λ n. n < 2 ^ bits w) (λ _. Unit {0}) p u
    → RoundTrip (FitsSigned w) (λ _. Unit {0}) (pack_signed w p) (unpack_signed w u)
signed_trips w whole = coded_trips (FitsSigned w) (cast_unsigned w) (cast_signed w) (λ z fit. to_z-of_z w z fit) (λ z fit. Fits-lt-pow (Fits-of_z fit)) whole

pub i8_trips : RoundTrip (FitsSigned w8) (λ _. Unit {0}) (pack_signed w8 pack_u8) (unpack_signed w8 unpack_u8)
i8_trips = signed_trips w8 u8_trips

pub i16_trips : RoundTrip (FitsSigned w16) (λ _. Unit {0}) (pack_signed w16 (to_be_bytes w16)) (unpack_signed w16 unpack_u16)
i16_trips = signed_trips w16 u16_trips

pub i32_trips : RoundTrip (FitsSigned w32) (λ _. Unit {0}) (pack_signed w32 (to_be_bytes w32)) (unpack_signed w32 unpack_u32)
i32_trips = signed_trips w32 u32_trips

pub i64_trips : RoundTrip (FitsSigned w64) (λ _. Unit {0}) (pack_signed w64 (to_be_bytes w64)) (unpack_signed w64 unpack_u64)
i64_trips = signed_trips w64 u64_trips

pub float_trips : (f : Format) {p : ℕ → List ℕ} {u : List ℕ → Result (ℕ × ℕ) PupError} → RoundTrip (λ n. n < 2 * top f) (λ _. Unit {0}) p u
    → RoundTrip (IsFloat f) (λ _. Unit {0}) (pack_float f p) (unpack_float f u)
float_trips f whole = coded_trips (IsFloat f) (to_bits f) (from_bits f) (λ x fit. of_bits-to_bits f x (passes _ fit)) (λ x fit. to_bits-lt f x (passes _ fit)) whole

pub f32_trips : RoundTrip (IsFloat binary32) (λ _. Unit {0}) (pack_float binary32 (to_be_bytes w32)) (unpack_float binary32 unpack_u32)
f32_trips = float_trips binary32 u32_trips

pub f64_trips : RoundTrip (IsFloat binary64) (λ _. Unit {0}) (pack_float binary64 (to_be_bytes w64)) (unpack_float binary64 unpack_u64)
f64_trips = float_trips binary64 u64_trips

pub text_trips : RoundTrip IsText IsCounted pack_bytes unpack_text
text_trips = record { trip = λ bytes rest fit count few. (judged_trips is_utf8 bytes_trips).trip bytes rest (tt, fit) count few }

-- of a type whose values are written as those of another type, and are read from these
pub decoded_trips : {F S : Type 0} {f c : F → Type 0} {p : F → List ℕ} {u : List ℕ → Result (F × ℕ) PupError} (fits : S → Type 0) (code : S → F) (read : F → Option S)
    → ((s : S) → fits s → read (code s) ≡ Some s) → ((s : S) → fits s → f (code s))
    → RoundTrip f c p u → RoundTrip fits (λ s. c (code s)) (λ s. p (code s)) (λ bytes. decoded read (u bytes))
decoded_trips {p = p} {u = u} fits code read same fitting whole =
    record {
      trip = λ s rest fit count few. decoded_round_trip read (u (p (code s) ++ rest)) (code s) s (length (p (code s))) (same s fit)
          (whole.trip (code s) rest (fitting s fit) count few);
    }

pub bool_trips : RoundTrip (λ _. Unit {0}) (λ _. Unit {0}) pack_bool unpack_bool
bool_trips = record { trip = λ b rest _ _ _. decoded_round_trip bool_of (unpack_u8 (pack_bool b ++ rest)) (bool_code b) b 1 (bool_again b) refl }

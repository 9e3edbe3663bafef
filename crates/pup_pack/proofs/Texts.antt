-- Texts, which are unpacked as bytes and then tested.
use Rattle.std.proofs.Common.{◌≡◌, ℕ, List, Bool, true, false, Result, Ok, Err, refl, sym, ap, ◌∙◌}
use Rattle.std.proofs.lemmas.Str.{is_utf8-from_IsUtf8, IsUtf8-from_is_utf8}
use Rattle.std.specs.Str.{IsUtf8, is_utf8}
use Rattle.pup_pack.specs.declared.error.PupError.{PupError}
use Rattle.pup_pack.specs.declared.error.PupError.TheVariants.{Bad}
use Rattle.pup_pack.specs.Structs.{judged, judged_round_trip}

pub text_read : (whole : Result (List ℕ × ℕ) PupError) (bytes text : List ℕ) (n : ℕ) → whole ≡ Ok (bytes, n) → text ≡ bytes → IsUtf8 text → judged is_utf8 whole ≡ Ok (text, n)
text_read whole bytes text n unpacked same utf8 = judged_round_trip is_utf8 whole text n (is_utf8-from_IsUtf8 text utf8) (unpacked ∙ ap (λ t. Ok (t, n)) (sym same))

false_where : (b : Bool) → (b ≡ true → false ≡ true) → b ≡ false
false_where true same = sym (same refl)
false_where false same = refl

pub text_bad : (whole : Result (List ℕ × ℕ) PupError) (bytes : List ℕ) (n : ℕ) → whole ≡ Ok (bytes, n) → (IsUtf8 bytes → false ≡ true) → judged is_utf8 whole ≡ Err Bad
text_bad whole bytes n unpacked refused =
    let test : is_utf8 bytes ≡ false = false_where (is_utf8 bytes) (λ yes. refused (IsUtf8-from_is_utf8 bytes yes)) in
    rw (unpacked, test) refl

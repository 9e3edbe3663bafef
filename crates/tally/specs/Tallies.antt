-- A chare that sends its amounts to its neighbor, one in each round, and adds up those that it gets.
use Rattle.std.specs.Prelude.{◌≡◌, ℕ, ◌+◌, ◌<◌, ◌≤◌, ◌%◌, ◌*◌, min, List, [], ◌∷◌, ◌++◌, length, flat_map, All, slice_index, Bool, true, false, not, ◌&&◌, ◌==◌, if◌then◌else◌, nat_lt}
use Rattle.std.specs.Int.{w32, w64, to_be_bytes, from_be_bytes}
use Rattle.std.proofs.Common.{refl, arith, length-append}
use Rattle.std.proofs.lemmas.Bool.Decides.{nat_tests}
use Rattle.std.proofs.lemmas.List.Concat.{flat_map-cons}
use Rattle.chare_index.specs.declared.limits.TheConstants.Limits.{LETTERS, STATE_BYTES}
use Rattle.chares.specs.declared.entry.Entry.{Entry}
use Rattle.chares.specs.declared.entry.Entry.TheVariants.{Letter, Resumption}
use Rattle.chares.specs.declared.sends.SendError.{SendError}
use Rattle.chares.specs.declared.sends.SendError.TheVariants.{Worn}
use Rattle.chares.specs.Steps.{Outcome}
use Rattle.pup_pack.specs.Lists.{IsCounted, pack_list, pack_bytes}
use Rattle.tally.specs.declared.tally_limits.TheConstants.TallyLimits.{AMOUNTS, PAD_BYTES}

-- how many amounts it has posted and got, the sum of those that it got, its amounts, and padding
pub record TallyView : Type 0 where
  pub posted : ℕ
  pub got : ℕ
  pub sum : ℕ
  pub amounts : List ℕ
  pub pad : List ℕ

-- the fields, as they are packed
abbrev pub Parts : Type 0
Parts = ℕ × (ℕ × (ℕ × (List ℕ × List ℕ)))

abbrev pub parts : TallyView → Parts
parts t = (t.posted, (t.got, (t.sum, (t.amounts, t.pad))))

abbrev pub of_parts : Parts → TallyView
of_parts x = record { posted = x.0; got = x.1.0; sum = x.1.1.0; amounts = x.1.1.1.0; pad = x.1.1.1.1 }

-- the amounts are no fewer than those posted and within their limit, and the bytes of padding are within theirs
abbrev pub are_within : ℕ → ℕ → ℕ → Bool
are_within posted amounts pad = not (nat_lt amounts posted) && (not (nat_lt AMOUNTS amounts) && not (nat_lt PAD_BYTES pad))

-- it has not posted more amounts than it has, and keeps to the limits of amounts and of bytes of padding
abbrev pub is_tally : TallyView → Bool
is_tally t = are_within t.posted (length t.amounts) (length t.pad)

-- the amount in a body: its number, or 0 where it is not four bytes
abbrev pub amount_in : List ℕ → ℕ
amount_in body = if length body == 4 then from_be_bytes w32 body else 0

-- on a letter it adds the amount, which is its work, and is ready once it has got as many as it has posted
abbrev pub on_letter : TallyView → List ℕ → Outcome TallyView
on_letter t body =
    let got = min 4294967295 (t.got + 1) in
    record {
      state = record { posted = t.posted; got = got; sum = min 18446744073709551615 (t.sum + amount_in body); amounts = t.amounts; pad = t.pad };
      effect = record { units = amount_in body; at_sync = got == t.posted; finished = false };
      sends = [];
    }

-- as a round begins it sends its next amount to its neighbor, and is ready if it has got as many; with none left it has
-- finished
abbrev pub on_resume : TallyView → ℕ → ℕ → Outcome TallyView
on_resume t me n =
    if nat_lt t.posted (length t.amounts)
    then record {
      state = record { posted = t.posted + 1; got = t.got; sum = t.sum; amounts = t.amounts; pad = t.pad };
      effect = record { units = 0; at_sync = not (nat_lt t.got (t.posted + 1)); finished = false };
      sends = ((me + 1) % n, to_be_bytes w32 (slice_index t.amounts t.posted)) ∷ [];
    }
    else record {
      state = t;
      effect = record { units = 0; at_sync = false; finished = true };
      sends = [];
    }

abbrev pub tally_step : TallyView → ℕ → ℕ → Entry (List ℕ) → Outcome TallyView
tally_step t me n (Letter body) = on_letter t body
tally_step t me n (Resumption round) = on_resume t me n

-- it returns an error only where no letter number is left for its amount
abbrev pub TallyRefuses : TallyView → ℕ → ℕ → ℕ → Entry (List ℕ) → SendError → Type 0
TallyRefuses t me n count (Resumption round) Worn = (t.posted < length t.amounts) × (count ≡ LETTERS)
TallyRefuses t me n count _ _ = ⊥

-- what a tally packs into
abbrev pub tally_pack : TallyView → List ℕ
tally_pack t =
    to_be_bytes w32 t.posted ++ (to_be_bytes w32 t.got ++ (to_be_bytes w64 t.sum ++ (pack_list (to_be_bytes w32) t.amounts ++ pack_bytes t.pad)))

abbrev pub AreCounted : TallyView → Type 0
AreCounted t = Unit {0} × (Unit {0} × (Unit {0} × ((IsCounted t.amounts × All (λ _. Unit {0}) t.amounts) × IsCounted t.pad)))

all_units : (xs : List ℕ) → All (λ _. Unit {0}) xs
all_units xs = λ k d inside. tt

words_len : (xs : List ℕ) → length (flat_map (to_be_bytes w32) xs) ≡ 4 * length xs
words_len [] = refl
words_len (x ∷ xs) = grind (arith, flat_map-cons, length-append, words_len xs)

-- that is 24 bytes, 4 for each amount, and its padding
pub tally_len : (t : TallyView) → length (tally_pack t) ≡ 24 + 4 * length t.amounts + length t.pad
tally_len t = grind (arith, length-append, words_len t.amounts)

-- so every tally packs
pub tally_packs : (t : TallyView) → is_tally t ≡ true → AreCounted t × (length (tally_pack t) ≤ STATE_BYTES)
tally_packs t right =
    let amounts : length t.amounts ≤ AMOUNTS = grind (arith, nat_tests, right) in
    let pad : length t.pad ≤ PAD_BYTES = grind (arith, nat_tests, right) in
    ((tt, (tt, (tt, ((omega (arith, amounts), all_units t.amounts), omega (arith, pad))))), grind (arith, length-append, words_len t.amounts, amounts, pad))

-- What a letter is read as.
use Rattle.std.proofs.Common.{◌≡◌, ℕ, ◌≤◌, ◌++◌, List, [], length, Some, Result, Ok, ap, ◌∙◌, sym, arith}
use Rattle.std.proofs.lemmas.Bool.Decides.{nat_tests}
use Rattle.std.proofs.lemmas.List.{append-nil}
use Rattle.chare_index.specs.declared.limits.TheConstants.Limits.{STATE_BYTES}
use Rattle.chares.specs.declared.entry.Entry.TheVariants.{Letter}
use Rattle.messages.specs.Messages.{MessageStep, as_letters, message_in, on_message, typed_step, whole}
use Rattle.pup_pack.specs.declared.error.PupError.{PupError}

-- what was unpacked of all bytes is the message
all_read : {M : Type 0} (m : M) (n : ℕ) → whole n (Ok (m, n)) ≡ Some m
all_read m n = grind (arith, nat_tests)

module _ {M : Type 0} (fits counted : M → Type 0) (pack : M → List ℕ) (unpack : List ℕ → Result (M × ℕ) PupError)
    (trip : (x : M) (rest : List ℕ) → fits x → counted x → length (pack x) ≤ STATE_BYTES → unpack (pack x ++ rest) ≡ Ok (x, length (pack x))) where
  pub read : (m : M) → fits m → counted m → length (pack m) ≤ STATE_BYTES → message_in unpack (pack m) ≡ Some m
  read m fit count short =
      let unpacks : unpack (pack m) ≡ Ok (m, length (pack m)) = ap unpack (sym (append-nil (pack m))) ∙ trip m [] fit count short in
      ap (whole (length (pack m))) unpacks ∙ all_read m (length (pack m))

  pub handled : {S : Type 0} (step : MessageStep S M) (s : S) (me n : ℕ) (m : M) → fits m → counted m → length (pack m) ≤ STATE_BYTES
      → typed_step pack unpack step s me n (Letter (pack m)) ≡ as_letters pack unpack step (step s me n (Letter m))
  handled step s me n m fit count short = ap (on_message pack unpack step s me n) (read m fit count short)

-- The packs of what goes between the elements: a byte for the kind of the message, and then what it says.
use Rattle.std.specs.Prelude.{◌≡◌, ℕ, zero, suc, ◌+◌, ◌<◌, ◌≤◌, ◌^◌, List, [], ◌∷◌, ◌++◌, length, Result, Ok, Err}
use Rattle.std.proofs.Common.{arith, ap, ◌∙◌}
use Rattle.chare_index.specs.declared.limits.TheConstants.Limits.{STATE_BYTES}
use Rattle.pup_pack.specs.declared.error.PupError.{PupError}
use Rattle.pup_pack.specs.declared.error.PupError.TheVariants.{Short, Bad}
use Rattle.pup_pack.specs.Numbers.{pack_u8, unpack_u8}
use Rattle.pup_pack.specs.Options.{one_more}
use Rattle.pup_pack.specs.Packing.{RoundTrip, and_then, within}
use Rattle.pup_pack.specs.Pairs.{unpack_pair, within-few}
use Rattle.pup_pack.specs.Trips.{pair_trips, u8_trips}
use Rattle.reductions.specs.declared.tree_message.TreeMessage.{TreeMessage}
use Rattle.reductions.specs.declared.tree_message.TreeMessage.TheVariants.{User, Part, Whole}

-- a user's message
abbrev pub user_pack : {M : Type 0} → (M → List ℕ) → M → List ℕ
user_pack pack message = 0 ∷ pack message

module _ {M V : Type 0} where
  abbrev pub tree_fits : (M → Type 0) → (V → Type 0) → TreeMessage M V → Type 0
  tree_fits fits value_fits (User message) = fits message
  tree_fits fits value_fits (Part slot value) = (slot < 2 ^ 8) × value_fits value
  tree_fits fits value_fits (Whole value) = value_fits value

  abbrev pub tree_counted : (M → Type 0) → (V → Type 0) → TreeMessage M V → Type 0
  tree_counted counted value_counted (User message) = counted message
  tree_counted counted value_counted (Part slot value) = Unit {0} × value_counted value
  tree_counted counted value_counted (Whole value) = value_counted value

  abbrev pub tree_pack : (M → List ℕ) → (V → List ℕ) → TreeMessage M V → List ℕ
  tree_pack pack value_pack (User message) = user_pack pack message
  tree_pack pack value_pack (Part slot value) = 1 ∷ (pack_u8 slot ++ value_pack value)
  tree_pack pack value_pack (Whole value) = 2 ∷ value_pack value

  -- what follows the byte that says which kind it is
  abbrev pub unpack_kind : (List ℕ → Result (M × ℕ) PupError) → (List ℕ → Result (V × ℕ) PupError) → ℕ → List ℕ → Result (TreeMessage M V × ℕ) PupError
  unpack_kind message value zero rest = and_then (message rest) (λ x. within (User x.0) (1 + x.1))
  unpack_kind message value (suc zero) rest = and_then (unpack_pair unpack_u8 value rest) (λ x. within (Part x.0.0 x.0.1) (1 + x.1))
  unpack_kind message value (suc (suc zero)) rest = and_then (value rest) (λ x. within (Whole x.0) (1 + x.1))
  unpack_kind message value (suc (suc (suc _))) rest = Err Bad

  abbrev pub tree_unpack : (List ℕ → Result (M × ℕ) PupError) → (List ℕ → Result (V × ℕ) PupError) → List ℕ → Result (TreeMessage M V × ℕ) PupError
  tree_unpack message value [] = Err Short
  tree_unpack message value (kind ∷ rest) = unpack_kind message value kind rest

  pub tree_round_trip : {f c : M → Type 0} {p : M → List ℕ} {u : List ℕ → Result (M × ℕ) PupError} {g d : V → Type 0} {q : V → List ℕ} {v : List ℕ → Result (V × ℕ) PupError}
      → RoundTrip f c p u → RoundTrip g d q v
      → (t : TreeMessage M V) (rest : List ℕ) → tree_fits f g t → tree_counted c d t → length (tree_pack p q t) ≤ STATE_BYTES
      → tree_unpack u v (tree_pack p q t ++ rest) ≡ Ok (t, length (tree_pack p q t))
  tree_round_trip {p = p} law value_law (User message) rest fit count few =
      rw (law.trip message rest fit count (omega (arith, few)))
      (within-few (User message) (1 + length (p message)) (omega (arith, few)) ∙ ap (λ n. Ok (User message, n)) (one_more (length (p message))))
  tree_round_trip {q = q} law value_law (Part slot value) rest fit count few =
      rw ((pair_trips u8_trips value_law).trip (slot, value) rest fit count (omega (arith, few)))
      (within-few (Part slot value) (1 + length (pack_u8 slot ++ q value)) (omega (arith, few)) ∙ ap (λ n. Ok (Part slot value, n)) (one_more (length (pack_u8 slot ++ q value))))
  tree_round_trip {q = q} law value_law (Whole value) rest fit count few =
      rw (value_law.trip value rest fit count (omega (arith, few)))
      (within-few (Whole value) (1 + length (q value)) (omega (arith, few)) ∙ ap (λ n. Ok (Whole value, n)) (one_more (length (q value))))

  pub tree_trips : {f c : M → Type 0} {p : M → List ℕ} {u : List ℕ → Result (M × ℕ) PupError} {g d : V → Type 0} {q : V → List ℕ} {v : List ℕ → Result (V × ℕ) PupError}
      → RoundTrip f c p u → RoundTrip g d q v → RoundTrip (tree_fits f g) (tree_counted c d) (tree_pack p q) (tree_unpack u v)
  tree_trips law value_law = record { trip = λ t rest fit count few. tree_round_trip law value_law t rest fit count few }

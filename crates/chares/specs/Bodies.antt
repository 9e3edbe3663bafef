-- What a letter says, wherever its bytes are.
use Rattle.std.specs.Prelude.{ℕ, List, take, ◌≤◌}
use Rattle.chares.specs.declared.body.Bytes.{Bytes}
use Rattle.chares.specs.declared.body.Bytes.TheVariants.{Short, Long}

module _ {A : Type 0} where
  -- the bytes: the first of those in the letter itself, or those on the heap
  abbrev pub bytes_of : Bytes A → List ℕ
  bytes_of (Short bytes len) = take len bytes
  bytes_of (Long bytes) = bytes.value.items

  -- a short body has no more than 15 bytes, the capacity within a letter
  abbrev pub IsBody : Bytes A → Type 0
  IsBody (Short bytes len) = len ≤ 15
  IsBody (Long bytes) = Unit {0}

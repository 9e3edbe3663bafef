-- What contracts see of the words that say where elements are.
use Rattle.std.specs.Prelude.{ℕ}

-- how many elements have a word, and how many PEs a word may name
pub record Whereabouts : Type 0 where
  pub elements : ℕ
  pub pes : ℕ

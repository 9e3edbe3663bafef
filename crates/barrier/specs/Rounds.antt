-- The rounds that a board has decided, where it began with some that were decided before.
use Rattle.std.specs.Prelude.{◌≡◌, List, length, take}

-- these are the first of them, as they were
abbrev pub BeginWith : {X : Type 0} → List X → List X → Type 0
BeginWith earlier rounds = take (length earlier) rounds ≡ earlier

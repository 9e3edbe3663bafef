-- What an event leaves of the parts of a world, whether it is enabled or not.
use Rattle.std.specs.Prelude.{Option, None, Some}

-- the new value after a change, or the old one where there is none
abbrev pub or_same : {X : Type 0} → X → Option X → X
or_same x None = x
or_same x (Some y) = y

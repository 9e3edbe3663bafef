-- That each element executes the letters that were posted to it, and no others. Source: the Charm++ manual, where an
-- entry method that is invoked on the proxy of an array element is executed by that element, wherever it is.
use Rattle.std.specs.Prelude.{◌≡◌, All}
use Rattle.rts_core.specs.Places.{Life, letters_of_life, lives}
use Rattle.rts_core.specs.Worlds.{WorldView}

-- every letter in the journal of an element was posted to that element
abbrev pub IsOwn : Life → Type 0
IsOwn life = All (λ l. l.to ≡ life.0) (letters_of_life life)

-- this holds of every element of a world, wherever it is
abbrev pub AreOwn : {C A : Type 0} → WorldView C A → Type 0
AreOwn w = All IsOwn (lives w)

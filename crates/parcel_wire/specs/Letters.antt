-- A letter, as it is sent.
use Rattle.std.specs.Prelude.{ℕ, List, Bool, ◌&&◌, nat_lt}
use Rattle.chare_index.specs.declared.limits.TheConstants.Limits.{ELEMENTS, PES}
use Rattle.chares.specs.Letters.{LetterView}

-- its fields, in the order in which they are packed
abbrev pub Parts : Type 0
Parts = ℕ × (ℕ × (ℕ × (ℕ × List ℕ)))

abbrev pub letter_parts : LetterView → Parts
letter_parts l = (l.id.0, (l.id.1, (l.to, (l.hops, l.body))))

abbrev pub letter_of : Parts → LetterView
letter_of x = record { id = (x.0, x.1.0); to = x.1.1.0; body = x.1.1.1.1; hops = x.1.1.1.0 }

-- within the limits of PEs and of elements
abbrev pub is_letter : LetterView → Bool
is_letter l = nat_lt l.id.0 PES && nat_lt l.to ELEMENTS

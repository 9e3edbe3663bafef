-- Where a run opens its elements.
use Rattle.std.proofs.Common.{◌≡◌, ℕ, length}
use Rattle.std.proofs.lemmas.List.FromFn.{length-map-range_with_len}
use Rattle.rts_core.specs.Worlds.{home, opening_words}

-- as many as there are elements
pub counted : (n pes : ℕ) → length (opening_words n pes) ≡ n
counted n pes = length-map-range_with_len (λ e. home e n pes) 0 n

-- The PEs of a run whose elements open on given PEs.
use Rattle.std.specs.Prelude.{ℕ, ◌+◌, List, [], ◌∷◌, length, map, slice_get}
use Rattle.std.specs.List.{range_with_len}
use Rattle.pe_state.specs.Pes.{PeView, new_pe}
use Rattle.rts_core.specs.Worlds.{placed_on}

-- each of these chares, the first as element e, is placed on the PE that is given for it
abbrev pub each_placed : {C : Type 0} → List (PeView C) → ℕ → List C → List ℕ → List (PeView C)
each_placed pes e [] places = pes
each_placed pes e (chare ∷ chares) [] = pes
each_placed pes e (chare ∷ chares) (q ∷ places) = each_placed (placed_on pes q e chare (slice_get pes q)) (e + 1) chares places

-- the PEs as such a run opens: each element is on the PE that is given for it, not started
abbrev pub placed_pes : {C : Type 0} → ℕ → List ℕ → List C → List (PeView C)
placed_pes pes places chares = each_placed (map (λ q. new_pe q (length chares)) (range_with_len 0 pes)) 0 chares places

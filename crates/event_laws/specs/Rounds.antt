-- What an element does for a round: the entries of its journal after the one with which it reached AtSync for the round
-- before, up to the one with which it reaches AtSync for this round. Source: the Charm++ manual on load balancing, where
-- the load of an object is what it did since it was balanced last. That what it does after AtSync counts for the next
-- round is this project's choice.
use Rattle.std.specs.Prelude.{◌≡◌, ℕ, ◌+◌, ◌-◌, ◌≤◌, min, List, length, map, take, sum, Contains, Some, slice_get, ◌⊎◌}
use Rattle.std.specs.List.{range_with_len}
use Rattle.std.specs.Option.{option_map_or}
use Rattle.chare_index.specs.declared.limits.TheConstants.Limits.{LOAD}
use Rattle.chares.specs.declared.note.Mark.TheVariants.{Synced}
use Rattle.chares.specs.declared.note.Note.TheVariants.{Sync}
use Rattle.chares.specs.declared.progress.Ending.TheVariants.{Syncs}
use Rattle.chares.specs.Elements.{ElementView, opening_element, outcome_of, worked, ending_of, lived}
use Rattle.chares.specs.Letters.{Done}
use Rattle.chares.specs.Steps.{Step}

-- of element e of n, which opens as this chare and has this journal
module _ {C : Type 0} (step : Step C) (pack : C → List ℕ) (n e : ℕ) (chare : C) (journal : List Done) where
  -- the element after the first k entries of its journal; the PEs on which it handled them show only in its marks, so
  -- each is taken as 0
  abbrev pub stage : ℕ → ElementView C
  stage k = lived step pack (opening_element e chare) n (map (λ done. (done, 0)) (take k journal))

  -- the units of entry k, counted from 0, and of the entries from first up to, but not including, end
  abbrev pub units_at : ℕ → ℕ
  units_at k = option_map_or (λ done. (outcome_of step pack (stage k) n done).effect.units) (slice_get journal k) 0

  abbrev pub units_between : ℕ → ℕ → ℕ
  units_between first end = sum (map units_at (range_with_len first (end - first)))

  -- with entry k the element reaches AtSync for a round
  pub record HasReached (k round : ℕ) : Type 0 where
    pub done : Done
    pub is_entry : slice_get journal k ≡ Some done
    pub syncs : ending_of step pack (stage k) n done ≡ Syncs
    pub for_round : (worked step pack (stage k) n done).round + 1 ≡ round

  -- the entry with which what counts for a round begins: for round 1 the first of all, for a later round the one after
  -- that with which the element reached AtSync for the round before
  abbrev pub Begins : ℕ → ℕ → Type 0
  Begins round first =
      ((round ≡ 1) × (first ≡ 0))
      ⊎ ((before : ℕ) × HasReached before (round - 1) × (first ≡ before + 1))

  -- what the element did for a round: its load is the units of the entries for it, counted up to the limit of a load, and
  -- its size is the packed length of its chare after the last of them
  pub record IsPhase (round load bytes : ℕ) : Type 0 where
    pub first : ℕ
    pub last : ℕ
    pub begins : Begins round first
    pub within : first ≤ last
    pub ends : HasReached last round
    pub loaded : load ≡ min (units_between first (last + 1)) LOAD
    pub sized : bytes ≡ length (pack (stage (last + 1)).chare)

module _ {C : Type 0} (step : Step C) (pack : C → List ℕ) (opened : List C) (el : ElementView C) where
  -- each mark by which the element reached AtSync is its own, and has what it did for that round
  abbrev pub MarksArePhases : Type 0
  MarksArePhases =
      (e round load bytes pe : ℕ) → Contains el.marks (Synced (Sync e round load bytes pe))
      → (chare : C) × (slice_get opened el.index ≡ Some chare) × (e ≡ el.index) × IsPhase step pack (length opened) el.index chare el.journal round load bytes

  -- what the element did for a round has one load and one size
  abbrev pub HasOnePhase : Type 0
  HasOnePhase =
      (chare : C) → slice_get opened el.index ≡ Some chare
      → (round load bytes other_load other_bytes : ℕ)
      → IsPhase step pack (length opened) el.index chare el.journal round load bytes
      → IsPhase step pack (length opened) el.index chare el.journal round other_load other_bytes
      → (load ≡ other_load) × (bytes ≡ other_bytes)

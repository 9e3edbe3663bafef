-- The rows of a room: each has the elements whose indices lie in its own range of 64, in the order of these.
use Rattle.std.specs.Prelude.{◌≡◌, ◌<◌, ◌≤◌, ◌+◌, ◌/◌, ℕ, List, [], ◌∷◌, length, slice_index_or, slice_set, Some, None, IsSome}
use Rattle.std.specs.List.{flat_map, insert, remove}
use Rattle.chares.specs.Elements.{ElementView}
use Rattle.pe_state.specs.Rooms.{found, changed, joined, without}

-- how many indices belong to a row
abbrev pub row_width : ℕ
row_width = 64

-- the row of an index
abbrev pub row_of : ℕ → ℕ
row_of e = e / row_width

-- as many rows as an array of the greatest length has
abbrev pub row_count : ℕ
row_count = 1024

module _ {X : Type 0} where
  -- the indices rise, and lie in low..high
  abbrev pub IsWithin : ℕ → ℕ → List (ℕ × X) → Type 0
  IsWithin low high [] = low ≤ high
  IsWithin low high (x ∷ row) = (low ≤ x.0) × IsWithin (x.0 + 1) high row

  -- the first row begins with the index low, and each other row where the one before it ends
  abbrev pub AreRows : ℕ → List (List (ℕ × X)) → Type 0
  AreRows low [] = Unit {0}
  AreRows low (row ∷ rows) = IsWithin low (low + row_width) row × AreRows (low + row_width) rows

  -- all elements of these rows
  abbrev pub entries_of : List (List (ℕ × X)) → List (ℕ × X)
  entries_of rows = flat_map (λ row. row) rows

  -- the element with this index stands at this place of the row
  abbrev pub IsPlace : ℕ → List (ℕ × X) → ℕ → Type 0
  IsPlace e row i = (i < length row) × ((d : ℕ × X) → (slice_index_or row i d).0 ≡ e)

  -- the indices before this place are less than that one, and the others are greater
  abbrev pub IsGap : ℕ → List (ℕ × X) → ℕ → Type 0
  IsGap e row i = (i ≤ length row) × ((k : ℕ) (d : ℕ × X) → k < i → (slice_index_or row k d).0 < e)
      × ((k : ℕ) (d : ℕ × X) → i ≤ k → k < length row → e < (slice_index_or row k d).0)

  -- where an element stands, and what an edit at its place is
  pub record StandsAt (e : ℕ) (row : List (ℕ × X)) (i : ℕ) : Type 0 where
    pub inside : i < length row
    pub stands : IsSome (found e row)
    pub index : (d : ℕ × X) → (slice_index_or row i d).0 ≡ e
    pub here : (d : ℕ × X) → found e row ≡ Some (slice_index_or row i d).1
    pub edited : (x : X) → slice_set row i (e, x) ≡ changed e x row
    pub removed : remove row i ≡ without e row

  -- where an element belongs that does not stand here, and what an edit at its place is
  pub record BelongsAt (e : ℕ) (row : List (ℕ × X)) (i : ℕ) : Type 0 where
    pub inside : i ≤ length row
    pub lacks : found e row ≡ None
    pub inserted : (x : X) → insert row i (e, x) ≡ joined e x row

module _ {C : Type 0} where
  -- each element of these stands beside its own index
  abbrev pub AreKeyed : List (ℕ × ElementView C) → Type 0
  AreKeyed [] = Unit {0}
  AreKeyed (x ∷ room) = (x.1.index ≡ x.0) × AreKeyed room

  -- the rows of a room
  pub record IsRoom (rows : List (List (ℕ × ElementView C))) : Type 0 where
    pub keyed : AreKeyed (entries_of rows)
    pub in_rows : AreRows 0 rows
    pub few : length rows ≤ row_count

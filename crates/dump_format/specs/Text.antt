-- The text of a dump. Numbers are written with the highest byte first.
use Rattle.std.specs.Prelude.{◌≡◌, ◌⊎◌, ℕ, ◌^◌, ◌<◌, List, [], ◌∷◌, ◌++◌, length, flat_map, All, ℤ, Option, Some, None}
use Rattle.std.specs.Int.{Width, w32, w64, to_be_bytes, cast_unsigned}
use Rattle.lb_snapshot.specs.Measured.{Taken}
use Rattle.lb_certificates.specs.declared.division.Floor.{Floor}
use Rattle.lb_certificates.specs.declared.division.Floor.TheVariants.{Zero, Fence}
use Rattle.dump_format.specs.declared.recorded.Recorded.{Recorded}
use Rattle.dump_format.specs.Dumps.{Dumped, IsDump, IsSnapshot}

-- a number of four bytes, and one of eight
abbrev pub word : ℕ → List ℕ
word n = to_be_bytes w32 n

abbrev pub long : ℕ → List ℕ
long n = to_be_bytes w64 n

-- a price: eight bytes, in two's complement
abbrev pub price : ℤ → List ℕ
price z = to_be_bytes w64 (cast_unsigned w64 z)

-- the magic of each format: the bytes LBD1, and LBD2
abbrev pub magic_1 : List ℕ
magic_1 = 76 ∷ 66 ∷ 68 ∷ 49 ∷ []

abbrev pub magic_2 : List ℕ
magic_2 = 76 ∷ 66 ∷ 68 ∷ 50 ∷ []

-- the step, the number of PEs and the number of elements
abbrev pub head_text : Taken → List ℕ
head_text s = word s.step ++ (word s.procs ++ word (length s.loads))

-- an element: its load, in a number of this width, its packed size and its PE
abbrev pub element_text : Width → ℕ → ℕ × ℕ → List ℕ
element_text w load size = to_be_bytes w load ++ (word size.0 ++ word size.1)

-- the elements, in order of index
unfoldable pub elements_text : Width → List ℕ → List (ℕ × ℕ) → List ℕ
elements_text w [] sizes = []
elements_text w (load ∷ loads) [] = []
elements_text w (load ∷ loads) (size ∷ sizes) = element_text w load size ++ elements_text w loads sizes

-- a floor: 0, or 1 and the stops of the fence
abbrev pub floor_text : {A : Type 0} → Floor A → List ℕ
floor_text Zero = word 0
floor_text (Fence stops) = word 1 ++ flat_map word stops

-- a move: the index of the element, the PE that it is on and the one on which it is to run
abbrev pub move_text : ℕ × ℕ × ℕ → List ℕ
move_text move = word move.0 ++ (word move.1 ++ word move.2)

-- A decision up to its moves: the number of PEs, the bottleneck, the cuts, the floor, the names, the prices of the
-- blocks and of the PEs, the bytes moved and the number of moves.
unfoldable pub plan_text : {A : Type 0} → Recorded A → List ℕ
plan_text r =
    word r.target ++ (long r.decision.division.bottleneck ++ (flat_map word r.decision.division.cuts
    ++ (floor_text r.decision.division.floor ++ (flat_map word r.decision.naming
    ++ (flat_map price r.decision.prices.u ++ (flat_map price r.decision.prices.v
    ++ (long r.decision.moved ++ word (length r.decision.moves))))))))

-- what follows the elements of LBD2: 0, or 1 and a decision
abbrev pub ending_text : {A : Type 0} → Option (Recorded A) → List ℕ
ending_text None = word 0
ending_text (Some r) = word 1 ++ (plan_text r ++ flat_map move_text r.decision.moves)

-- the text of a snapshot in the format LBD1, whose loads have four bytes
abbrev pub lbd1_text : Taken → List ℕ
lbd1_text s = magic_1 ++ (head_text s ++ elements_text w32 s.loads s.sizes)

-- the text of a dump in the format LBD2, whose loads have eight bytes
abbrev pub lbd2_text : {A : Type 0} → Dumped A → List ℕ
lbd2_text d =
    magic_2 ++ (head_text d.snapshot ++ (elements_text w64 d.snapshot.loads d.snapshot.sizes ++ ending_text d.recorded))

-- these bytes are the text of this snapshot in the format LBD1, none of whose loads is too great for it
pub record IsLbd1 (s : Taken) (text : List ℕ) : Type 0 where
  pub snapshot : IsSnapshot s
  pub step : s.step < 2 ^ 32
  pub narrow : All (λ load. load < 2 ^ 32) s.loads
  pub spelled : text ≡ lbd1_text s

-- these bytes are the text of this dump in the format LBD2
pub record IsLbd2 {A : Type 0} (d : Dumped A) (text : List ℕ) : Type 0 where
  pub dump : IsDump d
  pub spelled : text ≡ lbd2_text d

-- These bytes are a text of this dump, in either format. A text of LBD1 has only a snapshot.
abbrev pub IsText : {A : Type 0} → Dumped A → List ℕ → Type 0
IsText d text = ((d.recorded ≡ None) × IsLbd1 d.snapshot text) ⊎ IsLbd2 d text

-- The fields of a dump, in order, and the fault of each that breaks its rule.
use Rattle.std.specs.Prelude.{ℕ, zero, suc, ◌+◌, ◌==◌, ◌&&◌, ◌||◌, Bool, nat_lt, nat_le, Option, Some, None, if◌then◌else◌}
use Rattle.std.specs.Int.{Width, w8, w32, w64}
use Rattle.chare_index.specs.declared.limits.TheConstants.Limits.{ELEMENTS, LOAD, PES, STATE_BYTES}
use Rattle.dump_format.specs.Layout.{Layout, End, Field}
use Rattle.dump_format.specs.declared.error.DumpError.{DumpError}
use Rattle.dump_format.specs.declared.error.DumpError.TheVariants.{Magic, Procs, Count, Size, Place, Load, Flag, Target, Floor, MoveCount, Move}

-- the fault where a rule is broken
abbrev pub unless : Bool → DumpError → Option DumpError
unless kept fault = if kept then None else Some fault

-- a field without a rule, and this number of them
abbrev pub any : Width → (ℕ → Layout) → Layout
any w next = Field w (λ _. None) next

unfoldable pub numbers : Width → ℕ → Layout → Layout
numbers w zero next = next
numbers w (suc n) next = any w (λ _. numbers w n next)

-- one of the first three bytes, the magic
abbrev pub magic_byte : ℕ → Layout → Layout
magic_byte code next = Field w8 (λ byte. unless (byte == code) Magic) (λ _. next)

-- a number of PEs
abbrev pub pes : DumpError → (ℕ → Layout) → Layout
pes fault next = Field w32 (λ n. unless (nat_lt 0 n && nat_le n PES) fault) next

-- the load of element i, in a number of this width, its packed size, and its PE, which is one of this number of PEs
abbrev pub element : Width → ℕ → ℕ → Layout → Layout
element w procs i next =
    Field w (λ load. unless (nat_le load LOAD) (Load i)) (λ _.
    Field w32 (λ size. unless (nat_le size STATE_BYTES) (Size i)) (λ _.
    Field w32 (λ place. unless (nat_lt place procs) (Place i)) (λ _. next)))

-- n elements, from element i on
unfoldable pub elements : Width → ℕ → ℕ → ℕ → Layout → Layout
elements w procs i zero next = next
elements w procs i (suc n) next = element w procs i (elements w procs (i + 1) n next)

-- move k: the index of an element, and two PEs
abbrev pub move : ℕ → ℕ → Layout → Layout
move count k next =
    Field w32 (λ index. unless (nat_lt index count) (Move k)) (λ _.
    Field w32 (λ present. unless (nat_lt present PES) (Move k)) (λ _.
    Field w32 (λ planned. unless (nat_lt planned PES) (Move k)) (λ _. next)))

-- n moves, from move k on
unfoldable pub moves : ℕ → ℕ → ℕ → Layout
moves count k zero = End
moves count k (suc n) = move count k (moves count (k + 1) n)

-- what follows the kind of the floor: its stops, the names, the prices of blocks and PEs, the bytes moved, and the moves
abbrev pub after_floor : ℕ → ℕ → ℕ → Layout
after_floor count target kind =
    numbers w32 (if kind == 0 then 0 else target + 1)
    (numbers w32 target (numbers w64 target (numbers w64 target
    (any w64 (λ _. Field w32 (λ n. unless (nat_le n count) MoveCount) (λ n. moves count 0 n))))))

-- a decision on this number of elements: its target, its bottleneck, its cuts, its floor, and what follows it
abbrev pub decision : ℕ → Layout
decision count =
    pes Target (λ target. any w64 (λ _. numbers w32 (target + 1)
    (Field w32 (λ kind. unless (nat_le kind 1) Floor) (λ kind. after_floor count target kind))))

-- what follows the elements of LBD2: a flag 0, or 1 and a decision
abbrev pub ending : ℕ → Layout
ending count = Field w32 (λ flag. unless (nat_le flag 1) Flag) (λ flag. if flag == 0 then End else decision count)

-- the step, the number of PEs, the number of elements, the elements, and what follows them
abbrev pub body : Width → (ℕ → Layout) → Layout
body w behind =
    any w32 (λ _. pes Procs (λ procs.
    Field w32 (λ count. unless (nat_le count ELEMENTS) Count) (λ count. elements w procs 0 count (behind count))))

-- LBD and a 1 or a 2. The loads of LBD1 have four bytes, so each keeps its rule, and nothing follows its elements.
abbrev pub dump : Layout
dump =
    magic_byte 76 (magic_byte 66 (magic_byte 68
    (Field w8 (λ byte. unless ((byte == 49) || (byte == 50)) Magic) (λ byte.
    if byte == 49 then body w32 (λ _. End) else body w64 ending))))

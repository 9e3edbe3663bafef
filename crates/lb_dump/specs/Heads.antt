-- The head of a text: its magic and the three numbers after it.
use Rattle.std.specs.Prelude.{◌≡◌, ◌⊎◌, ℕ, ◌^◌, ◌<◌, ◌≤◌, List, ◌++◌, length, slice_index}
use Rattle.std.specs.Int.{Width, w32, w64}
use Rattle.chare_index.specs.declared.limits.TheConstants.Limits.{ELEMENTS, PES}
use Rattle.dump_format.specs.Text.{word, magic_1, magic_2}
use Rattle.lb_dump.specs.declared.head.Format.{Format}
use Rattle.lb_dump.specs.declared.head.Format.TheVariants.{Lbd1, Lbd2}
use Rattle.lb_dump.specs.declared.head.Head.{Head}

-- the magic of a format, and its fourth byte
abbrev pub magic_of : Format → List ℕ
magic_of Lbd1 = magic_1
magic_of Lbd2 = magic_2

abbrev pub fourth_byte : Format → ℕ
fourth_byte Lbd1 = 49
fourth_byte Lbd2 = 50

-- the width of a load, and the length of an element
abbrev pub load_width : Format → Width
load_width Lbd1 = w32
load_width Lbd2 = w64

abbrev pub element_len : Format → ℕ
element_len Lbd1 = 12
element_len Lbd2 = 16

-- the numbers keep their rules
pub record IsHead (h : Head) : Type 0 where
  pub step : h.step < 2 ^ 32
  pub some_pe : 0 < h.procs
  pub few_pes : h.procs ≤ PES
  pub few : h.count ≤ ELEMENTS

-- the bytes of a head
abbrev pub head_text : Head → List ℕ
head_text h = magic_of h.format ++ (word h.step ++ (word h.procs ++ word h.count))

-- the first bytes are those of the magic of a format, as far as they have come
pub record HasMagic (text : List ℕ) : Type 0 where
  pub first : 0 < length text → slice_index text 0 ≡ 76
  pub second : 1 < length text → slice_index text 1 ≡ 66
  pub third : 2 < length text → slice_index text 2 ≡ 68
  pub fourth : 3 < length text → (slice_index text 3 ≡ 49) ⊎ (slice_index text 3 ≡ 50)

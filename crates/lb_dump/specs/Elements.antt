-- Elements that come in pieces.
use Rattle.std.specs.Prelude.{◌≡◌, ◌⊎◌, ℕ, ◌<◌, ◌≤◌, List}
use Rattle.chare_index.specs.declared.limits.TheConstants.Limits.{LOAD, STATE_BYTES}
use Rattle.dump_format.specs.Layout.{Layout, End, Broken, judge}
use Rattle.dump_format.specs.Fields.{element, elements, ending}
use Rattle.dump_format.specs.Kept.{AreKept}
use Rattle.dump_format.specs.Text.{elements_text}
use Rattle.dump_format.specs.declared.error.DumpError.{DumpError}
use Rattle.dump_format.specs.declared.error.DumpError.TheVariants.{Load, Size, Place}
use Rattle.lb_dump.specs.declared.head.Format.{Format}
use Rattle.lb_dump.specs.declared.head.Format.TheVariants.{Lbd1, Lbd2}
use Rattle.lb_dump.specs.declared.head.Head.{Head}
use Rattle.lb_dump.specs.Heads.{load_width}

-- the fields after the elements
abbrev pub behind : Format → ℕ → Layout
behind Lbd1 count = End
behind Lbd2 count = ending count

-- the fields after the head
abbrev pub body_of : Head → Layout
body_of h = elements (load_width h.format) h.procs 0 h.count (behind h.format h.count)

-- the bytes of elements after this head
abbrev pub elements_of : Head → List ℕ → List (ℕ × ℕ) → List ℕ
elements_of h loads sizes = elements_text (load_width h.format) loads sizes

-- elements that a text with this head may have
abbrev pub AreOf : Head → List ℕ → List (ℕ × ℕ) → Type 0
AreOf h loads sizes = AreKept (load_width h.format) h.procs loads sizes

-- an element that begins with these bytes breaks a rule, whatever fields follow it
abbrev pub BreaksElement : Format → ℕ → ℕ → List ℕ → DumpError → Type 0
BreaksElement format procs i bytes e = (next : Layout) → judge (element (load_width format) procs i next) bytes ≡ Broken e

-- the numbers of an element are within their limits
pub record AreWithin (procs load size place : ℕ) : Type 0 where
  pub load_fits : load ≤ LOAD
  pub size_fits : size ≤ STATE_BYTES
  pub place_fits : place < procs

-- the first of them that is not, with its fault
abbrev pub IsFirst : ℕ → ℕ → ℕ → ℕ → ℕ → DumpError → Type 0
IsFirst procs i load size place e =
    ((e ≡ Load i) × (LOAD < load))
    ⊎ (((e ≡ Size i) × (load ≤ LOAD) × (STATE_BYTES < size))
    ⊎ ((e ≡ Place i) × (load ≤ LOAD) × (size ≤ STATE_BYTES) × (procs ≤ place)))

-- What a handle to a box owns.
use Rattle.std.specs.Prelude.{Bool, true, false}
use mir.Syntax.{Ty}
use base.Fml.{Fml, ftrue}
use denote.RattleType.{RattleType}
use denote.RawPtr.{Ptr}
use Rattle.std.specs.Box.Ownership.{box_owns}
use Rattle.std_heap.specs.contracts.GlobalAllocator.TheImpl.{ghosts}

-- the right to free a block of the C library's heap; every handle to it gives the same
abbrev pub may_free : Ty → Ptr → Fml
may_free = ghosts.dealloc_token (record { memory = record { seal = tt } })

-- an open handle owns a box's memory, with this value in it; a closed one owns nothing
abbrev pub boxed_if : (R : RattleType) → Ptr → Bool → R.Denot → Fml
boxed_if R p true x = box_owns may_free R p x
boxed_if R p false x = ftrue

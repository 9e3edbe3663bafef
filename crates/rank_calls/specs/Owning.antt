-- What a handle owns.
use Rattle.std.specs.Prelude.{Bool}
use mathlib.Core.List.{[]}
use mir.Syntax.{ty_struct, tnil}
use base.Fml.{Fml}
use denote.Exit.{no}
use denote.Param.{param, arg}
use denote.RattleType.{RattleType}
use denote.RawPtr.{Ptr}
use Rattle.core.specs.contracts.marker.Brand as brand
use Rattle.foreign_chare.specs.Scripts.{Stamp}
use Rattle.loose_box.specs.Owning.{boxed_if}
use Rattle.pe_state.specs.Pes.{PeView, new_pe}
use Rattle.rank_calls.specs.Runs.{Run}
use Rattle.rank_calls.specs.declared.run.RunName.{Ghosts}
use Rattle.rank_calls.specs.contracts.rank.Rank as rank

-- a PE, and one to name where there is none
abbrev pub PeOf : Type 0
PeOf = PeView Stamp

abbrev pub no_pe : PeOf
no_pe = new_pe 0 0

-- an open lodge owns a box's memory, with this PE in it; a closed one owns nothing
abbrev pub lodged : (R : RattleType) → Ghosts R.Denot → Ptr → Bool → PeOf → Fml
lodged R g p is_open pe = boxed_if (rank.the_row R g) p is_open pe

-- the type argument `Brand`, as a call hands it over
abbrev pub marker : RattleType
marker = arg (ty_struct [] tnil) no brand.the_row

-- so does a handle, with a PE of this run
abbrev pub held : Ptr → Bool → Run → PeOf → Fml
held p is_open run pe = lodged (param 0 marker) (record { run = run }) p is_open pe

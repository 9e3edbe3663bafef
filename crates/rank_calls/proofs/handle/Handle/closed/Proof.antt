-- `closed` makes a handle that owns nothing.
use Rattle.std.proofs.Common.{[], ◌∷◌, refl, lit<}
use mir.Val.{Val, vbool}
use types.Kit.{‵, raw, ◌⊛◌, ◌$◌, ◌∵◌, !, qed, by, keep, drop, use0}
use types.Run.{lit, false_lit, no_more, and_then, returns, enter}
use types.ByLocal.{alloc_all, pass_all, free_all, look_at, sets}
use types.Part.{agg}
use base.Fml.{ftrue}
use contract.Monad.{fact, fact_i}
use contract.Running.{tables}
use base.Logic.{emp}
use denote.RawPtr.{null_ptr, ptr_val}
use denote.Steps.{nothing}
use denote.Triple.Walked.{Stays, walk_of}
use Rattle.std.proofs.raw_atomic.Walks.{proved, leaves}
use Rattle.std.specs.Prelude.{false, ◌≡◌}
use Rattle.loose_box.proofs.Values.{both}
use Rattle.rank_calls.proofs.Fields.{handle_in}
use Rattle.rank_calls.specs.Owning.{no_pe}
use Rattle.rank_calls.specs.Runs.{no_run}
use Rattle.rank_calls.specs.contracts.handle.Handle.closed as f
use Rattle.rank_calls.proofs.handle.Handle.closed.Statement.{statement}
use Rattle.rank_calls.proofs.handle.Handle.closed.Code as code

pub closed_spec : {M : Type 1} → statement M
closed_spec 𝓤 𝓛 𝓜 𝓡 wired =
    let c = f.clauses 𝓛 𝓜.mem 𝓡.returns in let hs : Stays (f.ended).signature.params (f.ended).kept = tt in let 𝓣 = tables 𝓤 𝓛.H 𝓜 𝓡 𝓡.env in
    proved 𝓛 f.ended hs c 𝓜 𝓡 tt f.Key.name code.function (code.unfolded 𝓤 𝓛.H 𝓜 𝓡 wired) (λ κs. tt) (λ κs. tt) (λ κs qs bounds a _ are.
    let z : (walk_of 𝓛 f.ended hs c).Ghost = ((κs, qs, bounds, tt, tt), tt) in let v : Val = both (ptr_val null_ptr) (vbool false) in
    qed 𝓛 ((‵ ftrue ⊛ ‵ ftrue) ∷ ‵ ftrue ∷ []) ∵ drop ! $ drop ! $
    enter ! _ _ _ _ _ $ alloc_all ! (λ l. pass_all ! refl tt $
    sets ! (agg ! (and_then ! (lit ! tt) (and_then ! (false_lit !) (no_more !)))) refl (tt, (record { fits = lit< tt }, (tt, tt))) $
    nothing ! $ handle_in ! null_ptr false no_run no_pe $
    use0 𝓛 (raw (fact 𝓤 (false ≡ false))) (fact_i 𝓤 (false ≡ false) (emp 𝓤) refl) $ nothing ! $ nothing ! $
    returns ! (look_at ! 0 refl) $ free_all ! refl $ keep ! (0 ∷ 1 ∷ 3 ∷ 2 ∷ []) $ by ! (leaves 𝓛 f.ended hs c z v
    (record { at = null_ptr; is_open = false; run = no_run; pe = no_pe }) tt tt)))

-- `into_loose` gives the box of an open lodge back as its pointer.
use Rattle.std.proofs.Common.{◌≡◌, List, [], ◌∷◌, ◌++◌, refl, sym, ap, subst, lit<}
use mathlib.Core.Bool.{Bool, true, false}
use mir.Syntax.{a_type, dcons, dnil}
use mir.Val.{Val, vptr, vbool, vcons, vnil}
use mir.Raw.{raw as bare}
use mir.MapTy.{inst_fn}
use base.Logic.{SProp, ent, emp, id⊢, never, fst∗}
use base.Fml.{ftrue, flft}
use prog.Wp.{WpFn}
use types.Logic.{sem}
use types.Kit.{‵, raw, ◌⊛◌, at_ret, ◌$◌, ◌∵◌, !, qed, by, move, keep, split, fsplit, fjoin, suffices, rewrite, use0, use1}
use types.Run.{stop, fld, lit, un, of_opd, no_more, and_then, first, branches, skips, exec, returns, returns_within, enter}
use types.ByLocal.{alloc_all, pass_all, free_all, look_at, get, get_in, sets, is as is_val, env}
use types.Part.{agg, sub, whole}
use types.Match.{live}
use contract.Monad.{fact, fact_i}
use contract.Running.{tables}
use denote.Exit.{yes, no}
use denote.RattleType.{RattleType, owns}
use denote.Signature.{types_at, type_at, plain}
use denote.Memory.{lone}
use denote.RawPtr.{Ptr, block_ptr, null_ptr, ptr_val, in_a_block}
use denote.Steps.{nothing}
use denote.Param.{param, bounded, layout}
use denote.Triple.Walked.{Stays, stay_dropped, walk_of, Goes-dropped}
use Rattle.core.specs.declared.option.Option.TheVariants.{None, Some}
use Rattle.core.proofs.atomic.Steps.{Ptr-Good}
use Rattle.core.proofs.option.Made.{Some-of, none_of}
use Rattle.core.proofs.alloc.Calls.{handle_tells, Goes-blank}
use Rattle.core.proofs.alloc.Shapes.{after}
use Rattle.core.proofs.cell.Inside.{Good}
use Rattle.std_alloc.specs.Box.Ownership.{box_owns}
use Rattle.std_alloc.proofs.Flags.{T_back}
use Rattle.std_alloc.proofs.ResultValues.{and_tt}
use Rattle.std.proofs.raw_atomic.Walks.{proved_at, leaves}
use Rattle.std_heap.specs.contracts.Global as heap
use Rattle.std_heap.specs.contracts.GlobalAllocator.TheImpl.{ghosts}
use Rattle.std_heap.proofs.Calls.{T_false}
use Rattle.std_heap.proofs.Global.TheLaws as heap_laws
use Rattle.loose_box.specs.Owning.{may_free}
use Rattle.rank_calls.specs.Owning.{lodged}
use Rattle.rank_calls.specs.contracts.rank.Rank as rank
use Rattle.rank_calls.specs.contracts.lodge.Lodge as lodge
use Rattle.loose_box.proofs.Values.{both, Loose, loose_good, loose_in, al}
use Rattle.rank_calls.proofs.Fields.{lodge_out}
use Rattle.rank_calls.specs.contracts.lodge.Lodge.into_loose.{ended, clauses}
use Rattle.rank_calls.specs.contracts.lodge.Lodge.into_loose.Key.{name as #self}
use Rattle.rank_calls.proofs.lodge.Lodge.into_loose.Statement.{statement}
use Rattle.rank_calls.proofs.lodge.Lodge.into_loose.Code as code

pub into_loose_spec : {M : Type 1} → statement M
into_loose_spec 𝓤 𝓛 𝓜 𝓡 wired T L g d met =
    let H = 𝓛.H in let 𝓣 = tables 𝓤 H 𝓜 𝓡 𝓡.env in let P : RattleType = param 0 T in let R : RattleType = rank.the_row P g in let Z = heap.the_row in
    let LZ = heap_laws.the_row_laws in let Lr = Loose R Z LZ ghosts in
    let En = ended T g d in let c = clauses T g d 𝓛 𝓜.mem 𝓡.returns in let inst = bounded (a_type ∷ []) (T, tt) (dcons d dnil) in let fn = inst_fn inst code.function in
    let hs : Stays En.signature.params En.kept = (stay_dropped (plain (λ _. lodge.the_row P g)) no, (stay_dropped (plain (λ _. Z)) yes, tt)) in
    proved_at 𝓛 En hs c 𝓜 𝓡 (Goes-blank 𝓛 1 (plain (λ _. lodge.the_row P g)) no (λ κs x f. tt), (Goes-dropped 𝓛 1 (plain (λ _. Z)) yes (λ κs x w. refl), tt))
    (#self inst) fn (code.unfolded 𝓤 H 𝓜 𝓡 wired (T, tt) d) (λ z are.
    let κs = z.0.0 in let qs = z.0.1 in let v = z.0.3.0 in let a = z.0.3.1.0 in let Post : Val → SProp 𝓤 = (walk_of 𝓛 En hs c).post z in
    let Run : List Val → SProp 𝓤 = λ ws. WpFn 𝓤 H 𝓣.C 𝓣.Λ fn ws Post in
    let Out : RattleType = type_at En.signature.result κs in let toks = ‵ (flft κs.0 qs.0) ⊛ ‵ ftrue in
    qed 𝓛 ((toks ⊛ ‵ (owns (types_at En.signature.params κs) z.0.3 z.0.4)) ∷ raw ((c κs z.0.3).requires z.1) ∷ []) ∵ split ! $ move ! (1 ∷ []) $ fsplit ! $
    lodge_out P g ! v z.0.4.0 (λ ws. move ! (1 ∷ []) $ fsplit ! $ handle_tells (al R Z LZ ghosts) ! a z.0.4.1.0 (λ h ea fits.
    let w : Val = both (ptr_val v.at) (vbool v.is_open) in let none : Val = live 0 vnil in
    suffices ! (Run (w ∷ h ∷ [])) (subst (λ (us : List Val). ent 𝓤 (Run (w ∷ h ∷ [])) (Run us)) (sym (λ i. ws i ++ (ea i ++ []))) (id⊢ 𝓤 (Run (w ∷ h ∷ [])))) $
    enter ! 𝓣.C 𝓣.Λ fn (w ∷ h ∷ []) Post $ alloc_all ! (λ l. pass_all ! refl ((and_tt _ (Ptr-Good v.at).0, ((Ptr-Good v.at).1, (tt, tt))), (fits, tt)) $ let Ev = env fn.locals l in
    sets ! (of_opd ! (get_in ! (fld ! refl (stop !)) (sub ! 0 refl (whole !)))) refl (Ptr-Good v.at) $
    sets ! (of_opd ! (get_in ! (fld ! refl (stop !)) (sub ! 1 refl (whole !)))) refl (tt, tt) $
    sets ! (un ! (get ! refl) tt) refl (tt, tt) $
    -- [the handle to the allocator; the rest; what the lodge owns; the tokens]
    first ! $ branches ! (get ! refl)
    (λ closed. sets ! (agg ! (and_then ! (lit ! tt) (no_more !))) refl (tt, (record { fits = lit< tt }, tt)) $
    use0 𝓛 (‵ (Out.own_val None (none ∷ []))) (none_of 𝓛 Lr) $
    let Told : Type 0 = v.is_open ≡ false in use0 𝓛 (raw (fact 𝓤 Told)) (fact_i 𝓤 Told (emp 𝓤) (T_false v.is_open closed)) $ nothing ! $ nothing ! $ fjoin ! $ nothing ! $ fjoin ! $
    returns_within ! Post refl (look_at ! 0 refl) $ free_all ! refl $ keep ! (6 ∷ 0 ∷ 2 ∷ 1 ∷ []) $ by ! (leaves 𝓛 En hs c z none None (tt, (tt, tt)) (tt, (tt, tt))))
    (λ opened. skips ! $ exec ! 𝓣.C 𝓣.Λ Ev (after 4 fn.body) (at_ret Ev Post) $ let is : v.is_open ≡ true = T_back v.is_open opened in
    rewrite ! 2 (λ (b : Bool). ‵ (lodged P g v.at b v.pe)) is refl $ move ! (2 ∷ []) $
    in_a_block ! v.at (λ p. box_owns may_free R p v.pe) (fst∗ 𝓤 (never 𝓤) (sem 𝓛 (ghosts.dealloc_token a (bare (lone R.mir)) null_ptr))) (λ b o e.
    let typed = loose_good R Z LZ ghosts b o h fits in let made : Val = both (vptr b o) h in let some : Val = live 1 (vcons made vnil) in
    let d' : Lr.Denot = record { at = block_ptr b o; alloc = a; value = v.pe } in
    let good : Good (layout Out) some = (and_tt _ typed.0, (record { fits = lit< tt }, (typed.1, tt))) in
    sets ! (is_val ! (agg ! (and_then ! (get ! refl) (and_then ! (get ! refl) (no_more !)))) (ap (λ (p : Ptr). both (ptr_val p) h) e)) refl typed $
    sets ! (agg ! (and_then ! (lit ! tt) (and_then ! (get ! refl) (no_more !)))) refl good $
    loose_in R Z LZ ghosts ! b o h a v.pe $ use1 𝓛 (‵ (Out.own_val (Some d') (some ∷ []))) (Some-of 𝓛 Lr d' made) $
    let Told : Type 0 = (v.is_open ≡ true) × (d'.value ≡ v.pe) in use0 𝓛 (raw (fact 𝓤 Told)) (fact_i 𝓤 Told (emp 𝓤) (is, refl)) $ nothing ! $ nothing ! $ fjoin ! $
    nothing ! $ fjoin ! $
    -- [the last values; the facts; the box; the rest; the tokens]
    returns ! (look_at ! 0 refl) $ free_all ! refl $ keep ! (4 ∷ 0 ∷ 2 ∷ 1 ∷ []) $ by ! (leaves 𝓛 En hs c z some (Some d') (tt, (tt, tt)) (tt, (tt, tt)))))))))

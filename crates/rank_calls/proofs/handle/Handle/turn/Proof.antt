-- `turn` calls `serve` at the run that the handle's ghost field names.
use Rattle.std.proofs.Common.{◌≡◌, List, [], ◌∷◌, ◌++◌, refl, sym, ap, ◌∙◌, subst}
use mir.Syntax.{Dict, impl, tnil, dnil, ty_struct}
use mir.Val.{Val, vbool, vstruct, of_list, has_ty}
use base.Fraction.{full_share}
use base.Logic.{SProp, ent, emp, id⊢}
use base.Fml.{ftrue, flft}
use prog.Wp.{WpFn}
use types.Kit.{‵, raw, ◌⊛◌, some, later, ◌$◌, ◌∵◌, !, qed, by, move, keep, drop, split, join, fsplit, fjoin, fpick, pick, suffices, use0, use1, await, feq_l}
use types.Run.{stop, fld, of_opd, no_more, and_then, returns, enter}
use types.ByLocal.{alloc_all, pass_all, free_all, look_at, get, get_in, sets, lands_as, env}
use types.Part.{agg, sub, whole}
use contract.BorrowLft.{◌⊑◌, ⊑_static}
use contract.Monad.{fact, fact_i}
use contract.Running.{tables}
use denote.Exit.{yes, no}
use denote.RattleType.{RattleType, owns}
use denote.Signature.{types_at, plain}
use denote.Param.{param, layout}
use denote.Param.Laws.{Laws, arg_laws}
use denote.RawPtr.{ptr_val}
use denote.Steps.{nothing, only, heard}
use denote.Struct.Tuple.{Tuple}
use denote.Triple.Clauses.{Lasts, lasts}
use denote.Triple.Spec.{triple_of}
use denote.Triple.Call.{calls_at}
use denote.Triple.Walked.{Stays, stay_dropped, walk_of, Goes-dropped}
use Rattle.core.specs.contracts.marker.Brand as brand
use Rattle.core.proofs.marker.Brand.TheLaws as brand_laws
use Rattle.core.proofs.alloc.Calls.{handle_tells, Goes-blank}
use Rattle.core.proofs.atomic.Steps.{fm, Ptr-Good}
use Rattle.core.proofs.cell.Inside.{Good}
use Rattle.std_alloc.proofs.ResultValues.{and_tt}
use Rattle.std.proofs.raw_atomic.Walks.{proved_at, leaves}
use Rattle.std_heap.specs.contracts.Global as heap
use Rattle.std_heap.specs.contracts.GlobalAllocator.TheImpl.{ghosts}
use Rattle.std_heap.proofs.Global.TheLaws as heap_laws
use Rattle.rank_calls.specs.declared.run.RunName
use Rattle.rank_calls.specs.contracts.lodge.Lodge as lodge
use Rattle.rank_calls.specs.contracts.handle.Handle as handle
use Rattle.rank_calls.specs.contracts.serving.serve as callee
use Rattle.rank_calls.proofs.serving.serve.Met.{met}
use Rattle.rank_calls.specs.Owning.{marker}
use Rattle.rank_calls.specs.Calls.{IsServed}
use Rattle.rank_calls.specs.contracts.request.Request as request
use Rattle.rank_calls.proofs.request.Request.TheLaws as request_laws
use Rattle.rank_calls.specs.contracts.request.Reply as reply
use Rattle.rank_calls.proofs.request.Reply.TheLaws as reply_laws
use Rattle.rank_calls.proofs.Spent.{blank_request, gone}
use Rattle.loose_box.proofs.Values.{both, al}
use Rattle.rank_calls.proofs.Values.{both_tt, pair_in}
use Rattle.rank_calls.proofs.Fields.{handle_in, handle_out, lodge_in, lodge_out}
use Rattle.rank_calls.specs.contracts.handle.Handle.turn.{ended, clauses}
use Rattle.rank_calls.specs.contracts.handle.Handle.turn.Key.{name as #self}
use Rattle.rank_calls.proofs.handle.Handle.turn.Statement.{statement}
use Rattle.rank_calls.proofs.handle.Handle.turn.Code as code

marker_laws : Laws marker
marker_laws = arg_laws (ty_struct [] tnil) no brand.the_row brand_laws.the_row_laws refl

abbrev dict : Dict
dict = impl [] tnil dnil

pub turn_spec : {M : Type 1} → statement M
turn_spec 𝓤 𝓛 𝓜 𝓡 wired =
    let H = 𝓛.H in let 𝓣 = tables 𝓤 H 𝓜 𝓡 𝓡.env in let fn = code.function in let c = clauses 𝓛 𝓜.mem 𝓡.returns in
    let Z = heap.the_row in let LZ = heap_laws.the_row_laws in let Q = request.the_row in let LQ = request_laws.the_row_laws in let S = reply.the_row in
    let LS = reply_laws.the_row_laws in
    let hs : Stays ended.signature.params ended.kept = (
      stay_dropped (plain (λ _. handle.the_row)) yes,
      (
        stay_dropped (plain (λ _. Z)) yes,
        (
          stay_dropped (plain
              (λ _. Q)) yes,
          tt,
        ),
      ),
    ) in
    proved_at 𝓛 ended hs c 𝓜 𝓡 (
      Goes-dropped 𝓛 0 (plain (λ _. handle.the_row)) yes (λ κs x w. refl),
      (
        Goes-dropped 𝓛 0 (plain (λ _. Z)) yes (λ κs x w. refl),
        (
          Goes-blank 𝓛 0 (plain (λ _. Q)) yes (λ κs x w. blank_request x w),
          tt,
        ),
      ),
    ) #self fn (code.unfolded 𝓤 H 𝓜 𝓡 wired) (λ z are.
    let v = z.0.3.0 in let a = z.0.3.1.0 in let x = z.0.3.1.1.0 in let Post : Val → SProp 𝓤 = (walk_of 𝓛 ended hs c).post z in
    let Run : List Val → SProp 𝓤 = λ ws. WpFn 𝓤 H 𝓣.C 𝓣.Λ fn ws Post in
    let P : RattleType = param 0 marker in let g : RunName.Ghosts P.Denot = record { run = v.run } in let Lr : RattleType = lodge.the_row P g in
    let k = triple_of 𝓛 (callee.signature marker (record { run = v.run }) dict) (callee.spec marker (record { run = v.run }) dict 𝓛 𝓜.mem 𝓡.returns) in
    qed 𝓛 ((‵ ftrue ⊛ ‵ (owns (types_at ended.signature.params z.0.0) z.0.3 z.0.4)) ∷ raw ((c z.0.0 z.0.3).requires z.1) ∷ []) ∵ split ! $ drop ! $ fsplit ! $
    handle_out ! v z.0.4.0 (λ ws. move ! (1 ∷ []) $ fsplit ! $ handle_tells (al P Z LZ ghosts) ! a z.0.4.1.0 (λ h ea fits.
    move ! (1 ∷ []) $ fsplit ! $ handle_tells (al P Q LQ (record { dealloc_token = λ a' σ p. ftrue })) ! x z.0.4.1.1.0 (λ xs ex fits₂. fjoin ! $ move ! (1 ∷ 0 ∷ []) $ fjoin ! $
    -- [the handle to the allocator and the request; what the handle owns; what is asked]
    let w : Val = both (ptr_val v.at) (vbool v.is_open) in let typed : Good (layout Lr) w = (and_tt _ (Ptr-Good v.at).0, ((Ptr-Good v.at).1, (tt, tt))) in
    let d : Lr.Denot = record { at = v.at; is_open = v.is_open; pe = v.pe } in
    let y : k.Ghost = ((([], tt), (full_share, tt), tt, (d, (a, (x, tt))), (w ∷ [], (h ∷ [], (xs ∷ [], tt)))), tt) in
    let Pair : RattleType = Tuple (Lr ∷ S ∷ []) in
    suffices ! (Run (w ∷ h ∷ xs ∷ [])) (subst (λ (us : List Val). ent 𝓤 (Run (w ∷ h ∷ xs ∷ [])) (Run us)) (sym (λ i. ws i ++ (ea i ++ (ex i ++ [])))) (id⊢ 𝓤 (Run (w ∷ h
    ∷ xs ∷ [])))) $
    enter ! 𝓣.C 𝓣.Λ fn (w ∷ h ∷ xs ∷ []) Post $ alloc_all ! (λ l. pass_all ! refl (typed, (fits, (fits₂, tt))) $ let Ev = env fn.locals l in
    sets ! (of_opd ! (get_in ! (fld ! refl (stop !)) (sub ! 0 refl (whole !)))) refl (Ptr-Good v.at) $
    sets ! (of_opd ! (get_in ! (fld ! refl (stop !)) (sub ! 1 refl (whole !)))) refl (tt, tt) $
    sets ! (of_opd ! (get ! refl)) refl (Ptr-Good v.at) $
    sets ! (agg ! (and_then ! (get ! refl) (and_then ! (get ! refl) (no_more !)))) refl typed $
    sets ! (of_opd ! (get ! refl)) refl typed $
    sets ! (of_opd ! (get ! refl)) refl fits₂ $
    -- serve(lodge, alloc, request)
    move ! (1 ∷ []) $ lodge_in P g ! v.at v.is_open v.pe $ fjoin ! $ nothing ! $ use0 𝓛 (‵ (flft [] full_share)) (𝓛.lfts.lft-nil full_share) $ join ! $ join ! $
    move ! (1 ∷ []) $ use0 𝓛 (raw (fact 𝓤 ([] ⊑ []))) (fact_i 𝓤 ([] ⊑ []) (emp 𝓤) (⊑_static [])) $ join ! $ move ! (1 ∷ 0 ∷ []) $ join ! $ use1 𝓛 (raw (k.pre y)) (id⊢ 𝓤 _) $
    calls_at ! (fm 𝓛 𝓜 𝓡) k (met 𝓤 𝓛 𝓜 𝓡 (code.calls-rank_calls::serving::serve 𝓡.env wired) marker marker_laws g dict (record {})) y (and_then ! (get ! refl) (and_then !
    (get ! refl) (and_then ! (get ! refl) (no_more !)))) (λ u.
    let Done : Pair.Denot → Type 0 = λ r. IsServed v.run v.is_open v.pe x r.1 r.0.is_open r.0.pe in
    use1 𝓛 (later (some (λ (r : Pair.Denot). ((‵ (flft [] full_share) ⊛ ‵ ftrue) ⊛ ‵ (Pair.own_val r (u ∷ [])))
    ⊛ some (λ (ls : Lasts (callee.ended marker g dict) y.0.0 y.0.3). ‵ (lasts (callee.ended marker g dict) y.0.0 y.0.3 ls) ⊛ raw (fact 𝓤 (Done r)))))) (id⊢ 𝓤 (k.post y u)) $
    await ! tt $ pick ! (λ r. split ! $ move ! (1 ∷ []) $ pick ! (λ _. split ! $ drop ! $ heard ! (Done r) (λ done. split ! $ drop ! $
    fpick ! (λ vss. fsplit ! $ feq_l ! (λ eu. fsplit ! $ lodge_out P g ! r.0 vss.0 (λ ws'. move ! (1 ∷ []) $ fsplit ! $
    handle_tells (al P S LS (record { dealloc_token = λ a' σ p. ftrue })) ! r.1 vss.1.0 (λ sv es fits₃.
    -- [the reply; the rest; what the lodge owns]
    let one : Val = both (ptr_val r.0.at) (vbool r.0.is_open) in let typed' : Good (layout Lr) one = (and_tt _ (Ptr-Good r.0.at).0, ((Ptr-Good r.0.at).1, (tt, tt))) in
    let good : Good (layout Pair) (both one sv) = (both_tt (has_ty (layout Lr) one) (has_ty (layout S) sv) typed'.0 fits₃.0, (typed'.1, (fits₃.1, tt))) in
    let kept' : (handle.the_row).Denot = record { at = r.0.at; is_open = r.0.is_open; run = v.run; pe = r.0.pe } in
    lands_as ! (ap only (eu ∙ (λ i. vstruct (of_list (ws' i ++ (es i ++ []))) ∷ []))) refl good $
    sets ! (of_opd ! (get_in ! (fld ! refl (stop !)) (sub ! 0 refl (whole !)))) refl typed' $
    sets ! (of_opd ! (get_in ! (fld ! refl (stop !)) (sub ! 1 refl (whole !)))) refl fits₃ $
    sets ! (of_opd ! (get_in ! (fld ! refl (stop !)) (sub ! 0 refl (whole !)))) refl (Ptr-Good r.0.at) $
    sets ! (of_opd ! (get_in ! (fld ! refl (stop !)) (sub ! 1 refl (whole !)))) refl (tt, tt) $
    sets ! (of_opd ! (get ! refl)) refl (Ptr-Good r.0.at) $
    sets ! (agg ! (and_then ! (get ! refl) (and_then ! (get ! refl) (no_more !)))) refl typed' $
    sets ! (of_opd ! (get ! refl)) refl fits₃ $
    sets ! (agg ! (and_then ! (get ! refl) (and_then ! (get ! refl) (no_more !)))) refl good $
    move ! (2 ∷ []) $ handle_in ! r.0.at r.0.is_open v.run r.0.pe $ pair_in handle.the_row S ! kept' r.1 one sv $
    let Same : Type 0 = v.run ≡ v.run in
    use0 𝓛 (raw (fact 𝓤 (Done r))) (fact_i 𝓤 (Done r) (emp 𝓤) done) $ use0 𝓛 (raw (fact 𝓤 Same)) (fact_i 𝓤 Same (emp 𝓤) refl) $ join ! $
    nothing ! $ nothing ! $ fjoin ! $ nothing ! $ fjoin ! $ nothing ! $ fjoin ! $ nothing ! $
    returns ! (look_at ! 0 refl) $ free_all ! refl $ keep ! (0 ∷ 1 ∷ 3 ∷ 2 ∷ []) $ by ! (leaves 𝓛 ended hs c z (both one sv) (kept', r.1) (tt, (tt, (gone x, tt))) (
      tt,
      (tt, (tt, tt)),
    )))))))))))))))

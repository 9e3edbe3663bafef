-- Where a letter waits on a shelf, its element is on the way there.
use Rattle.std.proofs.Common.{◌≡◌, ℕ, zero, suc, ◌+◌, ◌<◌, ◌≤◌, List, length, Some, Bool, true, false, sum_by, arith, refl, sym, ap, subst}
use Rattle.std.specs.Prelude.{Any, Contains, slice_get, nat_eq, if◌then◌else◌}
use Rattle.std.proofs.lemmas.Bool.Decides.{nat_tests}
use Rattle.std.proofs.lemmas.Option.{slice_get_within}
use Rattle.chares.specs.declared.trace_entry.TraceEntry.{TraceEntry}
use Rattle.chares.specs.Letters.{LetterView}
use Rattle.pe_state.specs.Pes.{PeView}
use Rattle.rts_core.specs.Worlds.{WorldView}
use Rattle.event_laws.specs.Bound.{IsBoundFor}
use Rattle.event_laws.proofs.Alone.{any_le}
use Rattle.event_laws.proofs.BoundWeights.{bound_at, weighs_bound}
use Rattle.event_laws.proofs.Moves.{in_room, waits_at, room_itself}
use Rattle.event_laws.proofs.LocationWords.{misnamed, at_index, room_named, bound_named}
use Rattle.event_laws.proofs.Placed.{IsPlaced}
use Rattle.event_laws.proofs.Sites.{Site, LetterWeight, ElementWeight, no_letters, no_elements, pe_at, world_at, world_zeros, letter_in, sum_from, member_from_le}
use Rattle.event_laws.proofs.Sites.Site.{Fresh, Bound, Chasing, Waiting, Room}
use Rattle.event_laws.proofs.Chasing.{AreChasing}
use Rattle.event_laws.proofs.Lags.{strays, right_is}

-- a letter on a shelf weighs in its world
shelf_weighs : {C A : Type 0} (w : WorldView C A) (g : LetterWeight) (p : ℕ) (pe : PeView C) (l : LetterView) → slice_get w.pes p ≡ Some pe
    → Contains pe.shelf l → letter_in g no_elements (Waiting p) l ≤ world_at g no_elements w
shelf_weighs {C} w g p pe l at (k, lt, is) =
    let any : Any (λ x. x ≡ l) pe.shelf = (k, l, lt, is, refl) in
    let a : letter_in g no_elements (Waiting p) l ≤ sum_by (letter_in g no_elements (Waiting p)) pe.shelf = any_le
    (letter_in g no_elements (Waiting p)) (λ x. x ≡ l) (letter_in g no_elements (Waiting p) l) pe.shelf (λ x e. same x e) any in
    let b : pe_at g no_elements p pe ≤ sum_from (λ q (x : PeView C). pe_at g no_elements q x) w.pes = member_from_le (λ q (x : PeView C). pe_at g no_elements q x) w.pes p pe at in
    omega (arith, a, b)
  where
    same : (x : LetterView) → x ≡ l → letter_in g no_elements (Waiting p) l ≤ letter_in g no_elements (Waiting p) x
    same x e = let a : letter_in g no_elements (Waiting p) x ≡ letter_in g no_elements (Waiting p) l = ap (letter_in g no_elements (Waiting p)) e in omega (arith, a)

waits_itself : (p e : ℕ) (id : ℕ × ℕ) → waits_at p e (Waiting p) id e ≡ 1
waits_itself p e id = grind (arith, nat_tests)

bound_itself : (p e : ℕ) → bound_at p e (Bound p) e ≡ 1
bound_itself p e = grind (arith, nat_tests)

-- 1 at an element on a PE, and at one that is bound for it
abbrev pub on_or_for : ℕ → ℕ → ElementWeight
on_or_for p e s i = in_room p e s i + bound_at p e s i

module _ (words : List ℕ) (p e : ℕ) (word : slice_get words e ≡ Some p) where
  -- an element whose location word is a PE is on it or is bound for it
  there : (s : Site) → misnamed words s e ≡ 0 → on_or_for p e s e ≡ 0 → ⊥
  there Fresh a b = omega (arith, a)
  there (Bound q) a b =
      let k = bound_named words q e a in
      let same : p ≡ q = cc in
      let x : bound_at p e (Bound q) e ≡ 1 = subst (λ (v : ℕ). bound_at p e (Bound v) e ≡ 1) same (bound_itself p e) in
      omega (arith, b, x)
  there (Chasing q) a b = omega (arith, a)
  there (Waiting q) a b = omega (arith, a)
  there (Room q key) a b =
      let k = room_named words q key e a in
      let w : slice_get words e ≡ Some q = k.1 in
      let same : p ≡ q = cc in
      let x : in_room p e (Room q key) e ≡ 1 = subst (λ (u : ℕ). in_room p e (Room q u) e ≡ 1) (sym k.0)
      (subst (λ (v : ℕ). in_room p e (Room v e) e ≡ 1) same (room_itself p e e)) in
      omega (arith, b, x)

  nowhere : (s : Site) (i : ℕ) (b : Bool) → nat_eq i e ≡ b → misnamed words s i ≡ 0 → on_or_for p e s i ≡ 0 → at_index e s i ≡ 0
  nowhere s i true t x y =
      let same : i ≡ e = grind (arith, nat_tests) in
      absurd (there s (subst (λ (v : ℕ). misnamed words s v ≡ 0) same x) (subst (λ (v : ℕ). on_or_for p e s v ≡ 0) same y))
  nowhere s i false t x y = ap (λ (v : Bool). if v then 1 else 0) t

module _ {C A : Type 0} (n : ℕ) (w : WorldView C A) (trace : List TraceEntry) (placed : IsPlaced n w) (h : AreChasing w trace) where
  pub shelved_bound : (p : ℕ) (pe : PeView C) (l : LetterView) → slice_get w.pes p ≡ Some pe → Contains pe.shelf l → IsBoundFor w l.to p
  shelved_bound p pe l at on =
      let a : letter_in (strays w.words trace) no_elements (Waiting p) l ≤ world_at (strays w.words trace) no_elements w = shelf_weighs w (strays w.words trace) p pe l at on in
      let b : letter_in (waits_at p l.to) no_elements (Waiting p) l ≤ world_at (waits_at p l.to) no_elements w = shelf_weighs w (waits_at p l.to) p pe l at on in
      let k = h.lag in
      let r = right_is w.words trace (Waiting p) l.id l.to (omega (arith, a, k)) in
      let word : slice_get w.words l.to ≡ Some p = r.2 in
      let one = waits_itself p l.to l.id in
      let away : world_at no_letters (in_room p l.to) w ≡ 0 = h.away p l.to (omega (arith, b, one)) in
      let lt : l.to < length w.words = slice_get_within w.words l.to p word in
      let once = placed.once l.to (subst (λ (v : ℕ). l.to < v) placed.counted lt) in
      by word away once (world_at no_letters (bound_at p l.to) w) refl
    where
      by : slice_get w.words l.to ≡ Some p → world_at no_letters (in_room p l.to) w ≡ 0 → world_at no_letters (at_index l.to) w ≡ 1 → (m : ℕ)
          → world_at no_letters (bound_at p l.to) w ≡ m → IsBoundFor w l.to p
      by word away once zero z =
          let x = world_zeros no_letters (in_room p l.to) no_letters (bound_at p l.to) no_letters (on_or_for p l.to) (λ s id to u v. refl)
          (λ s i u v. omega (arith, u, v)) w away z in
          let y = world_zeros no_letters (misnamed w.words) no_letters (on_or_for p l.to) no_letters (at_index l.to) (λ s id to u v. refl)
          (λ s i u v. nowhere w.words p l.to word s i (nat_eq i l.to) refl u v) w placed.named x in
          absurd (omega (arith, y, once))
      by word away once (suc m) z = weighs_bound p l.to w (omega (arith, z))

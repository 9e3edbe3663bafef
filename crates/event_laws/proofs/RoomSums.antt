-- Sums over the entries of a room, as an element of it comes, leaves and runs.
use Rattle.std.proofs.Common.{◌≡◌, ℕ, ◌+◌, List, [], ◌∷◌, Some, None, Bool, true, false, sum_by, arith, refl, sym, ap, subst}
use Rattle.std.specs.Prelude.{cond, ◌==◌, if◌then◌else◌}
use Rattle.std.specs.BTreeMap.{is_at, insert_entry}
use Rattle.std.specs.Map.{lookup, set_value, remove_entry}
use Rattle.std.specs.Ordering.{nat_cmp, is_eq, match_ordering}
use Rattle.std.specs.declared.cmp.Ordering.{Ordering}
use Rattle.std.specs.declared.cmp.Ordering.TheVariants.{Less, Equal, Greater}
use Rattle.std.proofs.lemmas.Bool.Decides.{nat_tests}
use Rattle.std.proofs.lemmas.List.Sums.{sum_by-cons}
use Rattle.std.proofs.lemmas.Option.{none-some}
use Rattle.pe_state.specs.Rooms.{found, changed, joined, without}
use Rattle.event_laws.proofs.Rooms.{same_is}

key_differs : (e q : ℕ) → is_eq (nat_cmp e q) ≡ false → ◌≡◌ {A = ℕ} (if q == e then 1 else 0) 0
key_differs e q f = grind (arith, nat_tests)

module _ {X : Type 0} where
  pub room_changed : (f : ℕ × X → ℕ) (room : List (ℕ × X)) (e : ℕ) (v x : X) → found e room ≡ Some v → ((key : ℕ) → f (key, x) ≡ f (key, v))
      → sum_by f (changed e x room) ≡ sum_by f room
  room_changed f [] e v x h same = cc
  room_changed f (p ∷ ps) e v x h same = by (is_eq (nat_cmp e p.0)) h (λ later. room_changed f ps e v x later same)
    where
      by : (b : Bool) → cond b (Some p.1) (lookup (is_at (nat_cmp e)) ps) ≡ Some v → (found e ps ≡ Some v → sum_by f (changed e x ps) ≡ sum_by f ps)
          → sum_by f (cond b ((p.0, x) ∷ ps) (p ∷ set_value (is_at (nat_cmp e)) ps x)) ≡ sum_by f (p ∷ ps)
      by true is rest =
          let s : p.1 ≡ v = cc in
          let a : f (p.0, x) ≡ f (p.0, p.1) = subst (λ (u : X). f (p.0, x) ≡ f (p.0, u)) (sym s) (same p.0) in
          let b : sum_by f ((p.0, x) ∷ ps) ≡ f (p.0, x) + sum_by f ps = sum_by-cons f (p.0, x) ps in
          let c : sum_by f (p ∷ ps) ≡ f (p.0, p.1) + sum_by f ps = sum_by-cons f p ps in
          omega (arith, a, b, c)
      by false is rest =
          let a : sum_by f (changed e x ps) ≡ sum_by f ps = rest is in
          let b : sum_by f (p ∷ changed e x ps) ≡ f p + sum_by f (changed e x ps) = sum_by-cons f p (changed e x ps) in
          let c : sum_by f (p ∷ ps) ≡ f p + sum_by f ps = sum_by-cons f p ps in
          omega (arith, a, b, c)

  pub room_joined : (f : ℕ × X → ℕ) (room : List (ℕ × X)) (e : ℕ) (x : X) → found e room ≡ None → sum_by f (joined e x room) ≡ sum_by f room + f (e, x)
  room_joined f [] e x n =
      let a : sum_by f ((e, x) ∷ []) ≡ f (e, x) + sum_by f [] = sum_by-cons f (e, x) [] in
      omega (arith, a)
  room_joined f (p ∷ ps) e x n = by (nat_cmp e p.0) n (room_joined f ps e x)
    where
      by : (r : Ordering) → cond (is_eq r) (Some p.1) (lookup (is_at (nat_cmp e)) ps) ≡ None → (found e ps ≡ None → sum_by f (joined e x ps) ≡ sum_by f ps + f (e, x))
          → sum_by f (match_ordering r ((e, x) ∷ p ∷ ps) ((p.0, x) ∷ ps) (p ∷ insert_entry nat_cmp ps e x)) ≡ sum_by f (p ∷ ps) + f (e, x)
      by Less m later =
          let a : sum_by f ((e, x) ∷ p ∷ ps) ≡ f (e, x) + sum_by f (p ∷ ps) = sum_by-cons f (e, x) (p ∷ ps) in
          omega (arith, a)
      by Equal m later = absurd (none-some p.1 (sym m))
      by Greater m later =
          let a : sum_by f (joined e x ps) ≡ sum_by f ps + f (e, x) = later m in
          let b : sum_by f (p ∷ joined e x ps) ≡ f p + sum_by f (joined e x ps) = sum_by-cons f p (joined e x ps) in
          let c : sum_by f (p ∷ ps) ≡ f p + sum_by f ps = sum_by-cons f p ps in
          omega (arith, a, b, c)

  pub room_without : (f : ℕ × X → ℕ) (room : List (ℕ × X)) (e : ℕ) (v : X) → found e room ≡ Some v → sum_by f room ≡ f (e, v) + sum_by f (without e room)
  room_without f [] e v h = cc
  room_without f (p ∷ ps) e v h = by (is_eq (nat_cmp e p.0)) refl h (room_without f ps e v)
    where
      by : (b : Bool) → is_eq (nat_cmp e p.0) ≡ b → cond b (Some p.1) (lookup (is_at (nat_cmp e)) ps) ≡ Some v
          → (found e ps ≡ Some v → sum_by f ps ≡ f (e, v) + sum_by f (without e ps))
          → sum_by f (p ∷ ps) ≡ f (e, v) + sum_by f (cond b ps (p ∷ remove_entry (is_at (nat_cmp e)) ps))
      by true t is rest =
          let s : p.1 ≡ v = cc in
          let a : f (p.0, p.1) ≡ f (p.0, v) = ap (λ (u : X). f (p.0, u)) s in
          let b : f (p.0, v) ≡ f (e, v) = ap (λ (u : ℕ). f (u, v)) (sym (same_is e p.0 t)) in
          let c : sum_by f (p ∷ ps) ≡ f (p.0, p.1) + sum_by f ps = sum_by-cons f p ps in
          omega (arith, a, b, c)
      by false t is rest =
          let a : sum_by f ps ≡ f (e, v) + sum_by f (without e ps) = rest is in
          let b : sum_by f (p ∷ without e ps) ≡ f p + sum_by f (without e ps) = sum_by-cons f p (without e ps) in
          let c : sum_by f (p ∷ ps) ≡ f p + sum_by f ps = sum_by-cons f p ps in
          omega (arith, a, b, c)

  -- an element that is not found is beside no entry
  pub room_absent : (room : List (ℕ × X)) (e : ℕ) → found e room ≡ None → sum_by (λ x. if x.0 == e then 1 else 0) room ≡ 0
  room_absent [] e h = refl
  room_absent (p ∷ ps) e h = by (is_eq (nat_cmp e p.0)) refl h (room_absent ps e)
    where
      by : (b : Bool) → is_eq (nat_cmp e p.0) ≡ b → cond b (Some p.1) (lookup (is_at (nat_cmp e)) ps) ≡ None
          → (found e ps ≡ None → sum_by (λ (x : ℕ × X). if x.0 == e then 1 else 0) ps ≡ 0)
          → sum_by (λ (x : ℕ × X). if x.0 == e then 1 else 0) (p ∷ ps) ≡ 0
      by true t is rest = absurd (none-some p.1 (sym is))
      by false t is rest =
          let a : ◌≡◌ {A = ℕ} (if p.0 == e then 1 else 0) 0 = key_differs e p.0 t in
          let b = rest is in
          let c : sum_by (λ (x : ℕ × X). if x.0 == e then 1 else 0) (p ∷ ps) ≡ (if p.0 == e then 1 else 0) + sum_by
          (λ (x : ℕ × X). if x.0 == e then 1 else 0) ps = sum_by-cons (λ (x : ℕ × X). if x.0 == e then 1 else 0) p ps in
          omega (arith, a, b, c)

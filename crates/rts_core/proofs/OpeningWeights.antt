-- What an opening world holds: each element once, and no letter.
use Rattle.std.proofs.Common.{◌≡◌, ◌≢◌, ℕ, zero, suc, ◌+◌, ◌*◌, ◌<◌, ◌≤◌, List, [], ◌∷◌, length, map, Option, Some, None, Bool, true, false, sum_by, arith, refl, sym, ◌∙◌, subst, length-set, zero-add}
use Rattle.std.specs.Prelude.{All, slice_get, replicate, nat_eq, nat_lt, ◌==◌, if◌then◌else◌}
use Rattle.std.specs.List.{range_with_len}
use Rattle.std.specs.Map.{keys_of}
use Rattle.std.specs.Ordering.{nat_cmp, is_eq}
use Rattle.std.proofs.lemmas.Bool.Decides.{nat_tests}
use Rattle.std.proofs.lemmas.List.Elements.{All-head, All-tail, All-nil}
use Rattle.std.proofs.lemmas.List.FromFn.{length-map-range_with_len}
use Rattle.std.proofs.lemmas.List.Sums.{sum_by-cons}
use Rattle.std.proofs.lemmas.Map.Views.{All-keys-insert_entry}
use Rattle.std.proofs.Math.Nat.{div-lt_iff_lt-mul}
use Rattle.chares.specs.Elements.{opening_element}
use Rattle.pe_state.specs.Pes.{PeView, new_pe, placed}
use Rattle.pe_state.specs.Rooms.{found, joined}
use Rattle.rts_core.specs.Places.{Life}
use Rattle.rts_core.specs.Worlds.{WorldView, home, placed_on, all_placed, opening_world}
use Rattle.rts_core.proofs.Weights.{Weight, of_pe, of_queue, of_room, of_element, of_world, sum_joined}
use Rattle.rts_core.proofs.WorldSteps.{AreOf, Numbered, known, sum_at, each_set}
use Rattle.sync_board.specs.declared.strategy.Strategy.{Strategy}

-- an element with a lower index is not in the room
pub absent_step : (e i : ℕ) → i < e → is_eq (nat_cmp e i) ≡ false
absent_step e i lt = grind (arith, nat_tests)

pub absent_above : {X : Type 0} (e : ℕ) (room : List (ℕ × X)) → All (λ i. i < e) (keys_of room) → found e room ≡ None
absent_above e [] all = refl
absent_above {X} e (x ∷ room) all =
    let a : is_eq (nat_cmp e x.0) ≡ false = absent_step e x.0 (All-head (λ i. i < e) x.0 (keys_of room) all) in
    let b : found e room ≡ None = absent_above e room (All-tail (λ i. i < e) x.0 (keys_of room) all) in
    rw a b

pub all_below_next : (e : ℕ) (xs : List ℕ) → All (λ i. i < e) xs → All (λ i. i < e + 1) xs
all_below_next e xs all = λ i x lt. let k = all i x lt in omega (arith, k)

-- PE q before element e is placed
pub record Opens {C : Type 0} (n e q : ℕ) (pe : PeView C) : Type 0 where
  pub numbered : pe.me ≡ q
  pub same_array : pe.n ≡ n
  pub posted_none : pe.count ≡ 0
  pub lower : All (λ i. i < e) (keys_of pe.room)

abbrev pub AllOpen : {C : Type 0} → ℕ → ℕ → List (PeView C) → Type 0
AllOpen {C} n e pes = (q : ℕ) (pe : PeView C) → slice_get pes q ≡ Some pe → Opens n e q pe

pub open_next : {C : Type 0} (n e q : ℕ) (pe : PeView C) → Opens n e q pe → Opens n (e + 1) q pe
open_next n e q pe h = record { numbered = h.numbered; same_array = h.same_array; posted_none = h.posted_none; lower = all_below_next e (keys_of pe.room) h.lower }

pub open_placed : {C : Type 0} (n e q : ℕ) (pe : PeView C) (chare : C) → Opens n e q pe → Opens n (e + 1) q (placed pe e chare)
open_placed n e q pe chare h =
    record {
      numbered = h.numbered;
      same_array = h.same_array;
      posted_none = h.posted_none;
      lower = All-keys-insert_entry nat_cmp e (opening_element e chare) (λ i. i < e + 1) pe.room (all_below_next e (keys_of pe.room) h.lower) (omega arith);
    }

pub placed_open : {C : Type 0} (n e : ℕ) (pes : List (PeView C)) (q : ℕ) (chare : C) (o : Option (PeView C)) → slice_get pes q ≡ o → AllOpen n e pes
    → AllOpen n (e + 1) (placed_on pes q e chare o)
placed_open n e pes q chare None at h = λ i x is. open_next n e i x (h i x is)
placed_open n e pes q chare (Some pe) at h = λ i x. each_set pes q pe (placed pe e chare) at (λ j v. Opens n (e + 1) j v)
    (λ j v is. open_next n e j v (h j v is)) (open_placed n e q pe chare (h q pe at)) i x (nat_eq i q) refl

pub settled_open : {C : Type 0} (n : ℕ) (pes : List (PeView C)) (e : ℕ) (chares : List C) → AllOpen n e pes → AllOpen n (e + length chares) (all_placed n pes e chares)
settled_open {C} n pes e [] h = subst (λ (v : ℕ). AllOpen n v pes) (let k : e ≡ e + length {A = C} [] = omega arith in k) h
settled_open {C} n pes e (chare ∷ chares) h =
    let q = home e n (length pes) in
    let next : List (PeView C) = placed_on pes q e chare (slice_get pes q) in
    let k : (e + 1) + length chares ≡ e + length (chare ∷ chares) = omega arith in
    subst (λ (v : ℕ). AllOpen n v (all_placed n next (e + 1) chares)) k
    (settled_open n next (e + 1) chares (placed_open n e pes q chare (slice_get pes q) refl h))

-- ---- weights

-- the elements of these chares, from number e on, as they open
abbrev pub opened_lives : {C : Type 0} → ℕ → List C → List Life
opened_lives e [] = []
opened_lives e (chare ∷ chares) = (e, []) ∷ opened_lives (e + 1) chares

pub get_there : {X : Type 0} (xs : List X) (i : ℕ) → i < length xs → slice_get xs i ≡ None → ⊥
get_there [] i lt h = omega arith
get_there (x ∷ xs) zero lt h = cc
get_there (x ∷ xs) (suc i) lt h = get_there xs i (omega arith) h

module _ {C : Type 0} (g : Weight) (k : Life → ℕ) where
  pub placed_weighs : (n e : ℕ) (pes : List (PeView C)) (q : ℕ) (chare : C) (o : Option (PeView C)) → slice_get pes q ≡ o → q < length pes → AllOpen n e pes
      → sum_by (of_pe g k) (placed_on pes q e chare o) ≡ sum_by (of_pe g k) pes + k (e, [])
  placed_weighs n e pes q chare None at lt h = absurd (get_there pes q lt at)
  placed_weighs n e pes q chare (Some pe) at lt h =
      let a = sum_at (of_pe g k) pes q pe (placed pe e chare) at in
      let b : of_room g k (joined e (opening_element e chare) pe.room) ≡ of_room g k pe.room + k (e, []) = sum_joined (of_element g k)
      pe.room e (opening_element e chare) (absent_above e pe.room (h q pe at).lower) in
      omega (arith, a, b)

  pub placed_length : (pes : List (PeView C)) (q e : ℕ) (chare : C) (o : Option (PeView C)) → length (placed_on pes q e chare o) ≡ length pes
  placed_length pes q e chare None = refl
  placed_length pes q e chare (Some pe) = length-set {A = PeView C} pes q (placed pe e chare)

  pub settled_weighs : (n m : ℕ) (pes : List (PeView C)) (e : ℕ) (chares : List C) → length pes ≡ m → AllOpen n e pes → ((i : ℕ) → i < n → home i n m < m) → e + length chares ≤ n
      → sum_by (of_pe g k) (all_placed n pes e chares) ≡ sum_by (of_pe g k) pes + sum_by k (opened_lives e chares)
  settled_weighs n m pes e [] len h homes le = let z : sum_by k (opened_lives {C = C} e []) ≡ 0 = refl in omega (arith, z)
  settled_weighs n m pes e (chare ∷ chares) len h homes le =
      let q = home e n (length pes) in
      let next : List (PeView C) = placed_on pes q e chare (slice_get pes q) in
      let below : e < n = omega (arith, le) in
      let lt : home e n (length pes) < length pes = subst (λ (v : ℕ). home e n v < v) (sym len) (homes e below) in
      let rest : (e + 1) + length chares ≤ n = omega (arith, le) in
      let a = placed_weighs n e pes q chare (slice_get pes q) refl lt h in
      let b = settled_weighs n m next (e + 1) chares (placed_length pes q e chare (slice_get pes q) ∙ len) (placed_open n e pes q chare (slice_get pes q) refl h) homes rest in
      let c : sum_by k ((e, []) ∷ opened_lives (e + 1) chares) ≡ k (e, []) + sum_by k (opened_lives (e + 1) chares) = sum_by-cons k (e, []) (opened_lives (e + 1) chares) in
      omega (arith, a, b, c)

pub new_weigh : (C : Type 0) (g : Weight) (k : Life → ℕ) (n : ℕ) (xs : List ℕ) → sum_by (λ (x : PeView C). of_pe g k x) (map (λ q. new_pe q n) xs) ≡ 0
new_weigh C g k n [] = refl
new_weigh C g k n (x ∷ xs) =
    let a : sum_by (λ (y : PeView C). of_pe g k y) (new_pe x n ∷ map (λ q. new_pe q n) xs) ≡ 0 + sum_by (λ (y : PeView C). of_pe g k y)
    (map (λ q. new_pe q n) xs) = sum_by-cons (λ (y : PeView C). of_pe g k y) (new_pe x n) (map (λ q. new_pe q n) xs) in
    omega (arith, a, new_weigh C g k n xs)

pub empty_weigh : (g : Weight) (k : Life → ℕ) (pes : ℕ) → sum_by (of_queue g k) (replicate pes []) ≡ 0
empty_weigh g k zero = refl
empty_weigh g k (suc pes) =
    let a : sum_by (of_queue g k) ([] ∷ replicate pes []) ≡ 0 + sum_by (of_queue g k) (replicate pes []) = sum_by-cons (of_queue g k) [] (replicate pes []) in
    omega (arith, a, empty_weigh g k pes)

-- an element opens on one of the PEs
pub home_below : (pes n e : ℕ) → 1 ≤ pes → e < n → home e n pes < pes
home_below pes n e some lt =
    let k : 0 < n = omega (arith, lt) in
    let m : e * pes < pes * n = grind arith in
    (div-lt_iff_lt-mul k).1 m

pub new_open : {C : Type 0} (n a pes q : ℕ) (pe : PeView C) → slice_get (map (λ i. new_pe i n) (range_with_len a pes)) q ≡ Some pe → Opens n 0 (a + q) pe
new_open n a zero q pe h = cc
new_open {C} n a (suc pes) zero pe h =
    let s : new_pe {C = C} a n ≡ pe = cc in
    subst (λ (v : PeView C). Opens n 0 (a + zero) v) s (record { numbered = omega arith; same_array = refl; posted_none = refl; lower = All-nil (λ i. i < 0) })
new_open {C} n a (suc pes) (suc q) pe h =
    let e : (a + 1) + q ≡ a + suc q = omega arith in
    subst (λ (v : ℕ). Opens n 0 v pe) e (new_open n (a + 1) pes q pe h)

module _ {C : Type 0} (A : Type 0) (pes : ℕ) (chares : List C) (strategy : Strategy) (some : 1 ≤ pes) where
  abbrev pub n : ℕ
  n = length chares

  abbrev pub opening : WorldView C A
  opening = opening_world pes chares strategy

  pub opening_open : AllOpen n (0 + n) opening.pes
  opening_open = settled_open n (map (λ q. new_pe q n) (range_with_len 0 pes)) 0 chares
      (λ q pe at. subst (λ (v : ℕ). Opens n 0 v pe) (zero-add q) (new_open n 0 pes q pe at))

  pub opening_of : AreOf n opening
  opening_of p pe at = (opening_open p pe at).same_array

  pub opening_numbered : Numbered opening
  opening_numbered p pe at = (opening_open p pe at).numbered

  pub opening_knows : (q j : ℕ) (o : Option (PeView C)) → slice_get opening.pes q ≡ o → known j o ≡ 0
  opening_knows q j None at = refl
  opening_knows q j (Some pe) at =
      let c : pe.count ≡ 0 = (opening_open q pe at).posted_none in
      rw c (below_none j)
    where
      below_none : (i : ℕ) → ◌≡◌ {A = ℕ} (if nat_lt i 0 then 1 else 0) 0
      below_none i = grind (arith, nat_tests)

  pub opening_weighs : (g : Weight) (k : Life → ℕ) → of_world g k opening ≡ sum_by k (opened_lives 0 chares)
  opening_weighs g k =
      let a = settled_weighs g k n pes (map (λ q. new_pe q n) (range_with_len 0 pes)) 0 chares (length-map-range_with_len (λ q. new_pe {C = C} q n) 0 pes)
      (λ q pe at. subst (λ (v : ℕ). Opens n 0 v pe) (zero-add q) (new_open n 0 pes q pe at)) (λ i lt. home_below pes n i some lt) (omega arith) in
      let b = new_weigh C g k n (range_with_len 0 pes) in
      let c = empty_weigh g k pes in
      omega (arith, a, b, c)

  pub opening_counts : sum_by (λ pe. pe.count) opening.pes ≡ 0
  opening_counts = all_none opening.pes (λ q pe at. (opening_open q pe at).posted_none)
    where
      all_none : (xs : List (PeView C)) → ((q : ℕ) (pe : PeView C) → slice_get xs q ≡ Some pe → pe.count ≡ 0) → sum_by (λ pe. pe.count) xs ≡ 0
      all_none [] h = refl
      all_none (x ∷ xs) h =
          let a : sum_by (λ (pe : PeView C). pe.count) (x ∷ xs) ≡ x.count + sum_by (λ (pe : PeView C). pe.count) xs = sum_by-cons (λ (pe : PeView C). pe.count) x xs in
          let b : x.count ≡ 0 = h 0 x refl in
          let c = all_none xs (λ q. h (suc q)) in
          omega (arith, a, b, c)

-- each index once
abbrev pub one_at : ℕ → ℕ → ℕ
one_at e i = if i == e then 1 else 0

pub one_there : (e : ℕ) → one_at e e ≡ 1
one_there e = grind (arith, nat_tests)

pub one_elsewhere : (e i : ℕ) → e ≢ i → one_at e i ≡ 0
one_elsewhere e i ne = grind (arith, nat_tests)

pub opened_later : {C : Type 0} (e i : ℕ) (chares : List C) → e < i → sum_by (λ x. one_at e x.0) (opened_lives i chares) ≡ 0
opened_later e i [] lt = refl
opened_later e i (chare ∷ chares) lt =
    let a : sum_by (λ (x : Life). one_at e x.0) ((i, []) ∷ opened_lives (i + 1) chares) ≡ one_at e i + sum_by (λ (x : Life). one_at e x.0)
    (opened_lives (i + 1) chares) = sum_by-cons (λ (x : Life). one_at e x.0) (i, []) (opened_lives (i + 1) chares) in
    let z : one_at e i ≡ 0 = one_elsewhere e i (λ q. let k : e < e = subst (λ (v : ℕ). e < v) (sym q) lt in omega (arith, k)) in
    omega (arith, a, z, opened_later e (i + 1) chares (omega (arith, lt)))

pub opened_once : {C : Type 0} (e i : ℕ) (chares : List C) → i ≤ e → e < i + length chares → sum_by (λ x. one_at e x.0) (opened_lives i chares) ≡ 1
opened_once {C} e i [] le lt = let z : length {A = C} [] ≡ 0 = refl in absurd (omega (arith, le, lt, z))
opened_once {C} e i (chare ∷ chares) le lt = by (nat_eq i e) refl (λ next. opened_once e (i + 1) chares next (omega (arith, lt)))
  where
    by : (b : Bool) → nat_eq i e ≡ b → (i + 1 ≤ e → sum_by (λ (x : Life). one_at e x.0) (opened_lives (i + 1) chares) ≡ 1)
        → sum_by (λ (x : Life). one_at e x.0) ((i, []) ∷ opened_lives (i + 1) chares) ≡ 1
    by true t rest =
        let s : i ≡ e = grind (arith, nat_tests) in
        let o : one_at e i ≡ 1 = subst (λ (v : ℕ). one_at e v ≡ 1) (sym s) (one_there e) in
        let a = sum_by-cons (λ (x : Life). one_at e x.0) (i, []) (opened_lives (i + 1) chares) in
        omega (arith, a, o, opened_later e (i + 1) chares (omega (arith, s)))
    by false t rest =
        let s : e ≢ i = grind (arith, nat_tests) in
        let next : i + 1 ≤ e = grind (arith, nat_tests) in
        let z : one_at e i ≡ 0 = one_elsewhere e i s in
        let a = sum_by-cons (λ (x : Life). one_at e x.0) (i, []) (opened_lives (i + 1) chares) in
        omega (arith, a, z, rest next)

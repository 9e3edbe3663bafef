-- Where the elements of an opening world are: each on its home, which is its location word.
use Rattle.std.proofs.Common.{◌≡◌, ℕ, zero, suc, ◌+◌, ◌<◌, ◌≤◌, List, [], ◌∷◌, length, map, Option, Some, None, sum_by, arith, refl, sym, ◌∙◌, subst, zero-add, length-set}
use Rattle.std.specs.Prelude.{slice_get, replicate}
use Rattle.std.specs.List.{range_with_len}
use Rattle.std.proofs.lemmas.List.FromFn.{length-map-range_with_len}
use Rattle.chares.specs.Elements.{ElementView, opening_element}
use Rattle.pe_state.specs.Pes.{PeView, Parcel, new_pe, placed}
use Rattle.pe_state.specs.Rooms.{joined}
use Rattle.rts_core.specs.Worlds.{home, placed_on, all_placed, opening_world}
use Rattle.rts_core.proofs.OpeningWeights.{AllOpen, Opens, new_open, placed_open, absent_above, get_there, home_below}
use Rattle.event_laws.proofs.RoomSums.{room_joined}
use Rattle.event_laws.proofs.Sites.{LetterWeight, ElementWeight, entry_at, pe_at, queue_at, world_at, sum_from, sum_from-set}
use Rattle.event_laws.proofs.Sites.Site.{Room}
use Rattle.sync_board.specs.declared.strategy.Strategy.{Strategy}

-- the elements of these chares, from number e on, each on its home
abbrev pub opened_sites : {C : Type 0} → ElementWeight → ℕ → ℕ → ℕ → List C → ℕ
opened_sites k n m e [] = 0
opened_sites k n m e (chare ∷ chares) = k (Room (home e n m) e) e + opened_sites k n m (e + 1) chares

empty_sites : (f : ℕ → List Parcel → ℕ) → ((i : ℕ) → f i [] ≡ 0) → (pes : ℕ) → sum_from f (replicate pes []) ≡ 0
empty_sites f none zero = refl
empty_sites f none (suc pes) =
    let a : sum_from f ([] ∷ replicate pes []) ≡ f 0 [] + sum_from (λ i. f (suc i)) (replicate pes []) = refl in
    let b : f 0 [] ≡ 0 = none 0 in
    let c = empty_sites (λ i. f (suc i)) (λ i. none (suc i)) pes in
    omega (arith, a, b, c)

-- placing a chare adds no PE
pub placed_length : {C : Type 0} (pes : List (PeView C)) (q e : ℕ) (chare : C) (o : Option (PeView C)) → length (placed_on pes q e chare o) ≡ length pes
placed_length pes q e chare None = refl
placed_length {C} pes q e chare (Some pe) = length-set {A = PeView C} pes q (placed pe e chare)

module _ {C : Type 0} (g : LetterWeight) (k : ElementWeight) where
  placed_sites : (n e : ℕ) (pes : List (PeView C)) (q : ℕ) (chare : C) (o : Option (PeView C)) → slice_get pes q ≡ o → q < length pes → AllOpen n e pes
      → sum_from (λ p (pe : PeView C). pe_at g k p pe) (placed_on pes q e chare o) ≡ sum_from (λ p (pe : PeView C). pe_at g k p pe) pes + k (Room q e) e
  placed_sites n e pes q chare None at lt h = absurd (get_there pes q lt at)
  placed_sites n e pes q chare (Some pe) at lt h =
      let a = sum_from-set (λ p (x : PeView C). pe_at g k p x) pes q pe (placed pe e chare) at in
      let b : sum_by (λ (x : ℕ × ElementView C). entry_at g k q x) (joined e (opening_element e chare) pe.room) ≡ sum_by
      (λ (x : ℕ × ElementView C). entry_at g k q x) pe.room + k (Room q e) e = room_joined (λ (x : ℕ × ElementView C). entry_at g k q x)
      pe.room e (opening_element e chare) (absent_above e pe.room (h q pe at).lower) in
      omega (arith, a, b)

  settled_sites : (n m : ℕ) (pes : List (PeView C)) (e : ℕ) (chares : List C) → length pes ≡ m → AllOpen n e pes → ((i : ℕ) → i < n → home i n m < m) → e + length chares ≤ n
      → sum_from (λ p (pe : PeView C). pe_at g k p pe) (all_placed n pes e chares) ≡ sum_from (λ p (pe : PeView C). pe_at g k p pe) pes + opened_sites k n m e chares
  settled_sites n m pes e [] len h homes le = omega arith
  settled_sites n m pes e (chare ∷ chares) len h homes le =
      let q = home e n (length pes) in
      let next : List (PeView C) = placed_on pes q e chare (slice_get pes q) in
      let below : e < n = omega (arith, le) in
      let lt : home e n (length pes) < length pes = subst (λ (v : ℕ). home e n v < v) (sym len) (homes e below) in
      let rest : (e + 1) + length chares ≤ n = omega (arith, le) in
      let a = placed_sites n e pes q chare (slice_get pes q) refl lt h in
      let b = settled_sites n m next (e + 1) chares (placed_length pes q e chare (slice_get pes q) ∙ len) (placed_open n e pes q chare (slice_get pes q) refl h) homes rest in
      let c : k (Room q e) e ≡ k (Room (home e n m) e) e = subst (λ (v : ℕ). k (Room q e) e ≡ k (Room (home e n v) e) e) len refl in
      let d : opened_sites k n m e (chare ∷ chares) ≡ k (Room (home e n m) e) e + opened_sites k n m (e + 1) chares = refl in
      omega (arith, a, b, c, d)

  new_sites : (f : ℕ → PeView C → ℕ) (n : ℕ) → ((i q : ℕ) → f i (new_pe q n) ≡ 0) → (xs : List ℕ) → sum_from f (map (λ q. new_pe q n) xs) ≡ 0
  new_sites f n none [] = refl
  new_sites f n none (x ∷ xs) =
      let a : sum_from f (new_pe x n ∷ map (λ q. new_pe q n) xs) ≡ f 0 (new_pe x n) + sum_from (λ i. f (suc i)) (map (λ q. new_pe q n) xs) = refl in
      let b : f 0 (new_pe x n) ≡ 0 = none 0 x in
      let c = new_sites (λ i. f (suc i)) n (λ i. none (suc i)) xs in
      omega (arith, a, b, c)

  -- what an opening world weighs
  pub opening_sites : (A : Type 0) (pes : ℕ) (chares : List C) (strategy : Strategy) → 1 ≤ pes
      → world_at g k (opening_world {A = A} pes chares strategy) ≡ opened_sites k (length chares) pes 0 chares
  opening_sites A pes chares strategy some =
      let n : ℕ = length chares in
      let new : List (PeView C) = map (λ q. new_pe q n) (range_with_len 0 pes) in
      let a = settled_sites n pes new 0 chares (length-map-range_with_len (λ q. new_pe {C = C} q n) 0 pes)
      (λ q pe at. subst (λ (v : ℕ). Opens n 0 v pe) (zero-add q) (new_open n 0 pes q pe at)) (λ i lt. home_below pes n i some lt) (omega arith) in
      let b = new_sites (λ p (pe : PeView C). pe_at g k p pe) n (λ i q. refl) (range_with_len 0 pes) in
      let c = empty_sites (queue_at g k) (λ i. refl) pes in
      omega (arith, a, b, c)

-- the location word of an element, as it opens
pub word_from : (f : ℕ → ℕ) (a n i : ℕ) → i < n → slice_get (map f (range_with_len a n)) i ≡ Some (f (a + i))
word_from f a zero i lt = absurd (omega (arith, lt))
word_from f a (suc n) zero lt = let e : a ≡ a + zero = omega arith in subst (λ (v : ℕ). Some (f a) ≡ Some (f v)) e refl
word_from f a (suc n) (suc i) lt =
    let e : (a + 1) + i ≡ a + suc i = omega arith in
    subst (λ (v : ℕ). slice_get (map f (range_with_len (a + 1) n)) i ≡ Some (f v)) e (word_from f (a + 1) n i (omega (arith, lt)))

pub word_at : (f : ℕ → ℕ) (n i : ℕ) → i < n → slice_get (map f (range_with_len 0 n)) i ≡ Some (f i)
word_at f n i lt = subst (λ (v : ℕ). slice_get (map f (range_with_len 0 n)) i ≡ Some (f v)) (zero-add i) (word_from f 0 n i lt)

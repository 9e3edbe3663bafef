-- Where elements open.
use Rattle.std.proofs.Common.{◌≡◌, ℕ, zero, suc, ◌+◌, ◌*◌, ◌<◌, ◌≤◌, List, [], ◌∷◌, ◌++◌, length, map, drop, Option, Some, None, Result, Ok, Err, cond, refl, sym, ap, subst, ◌∙◌, get_or, replicate, add-one, zero-add, arith}
use Rattle.std.proofs.Math.Nat.{div-lt_iff_lt-mul, mul_comm, mul-lt-mul_of_pos_left}
use Rattle.std.specs.Prelude.{All, IfOk, OnOk, slice_get, slice_set}
use Rattle.std.specs.Result.{IsErr}
use Rattle.std.specs.List.{range_with_len}
use Rattle.std.specs.Map.{keys_of}
use Rattle.std.specs.Ordering.{nat_cmp, is_eq}
use Rattle.std.specs.declared.cmp.Ordering.{Ordering}
use Rattle.std.specs.declared.cmp.Ordering.TheVariants.{Less, Equal, Greater}
use Rattle.std.proofs.lemmas.List.Elements.{All-nil, All-head, All-tail, All-set, All-weaker, All-map, All-replicate}
use Rattle.std.proofs.lemmas.List.FromFn.{map-range_with_len_more, length-map-range_with_len}
use Rattle.std.proofs.lemmas.List.{length-replicate}
use Rattle.std.proofs.lemmas.Map.Lookups.{exact_unsigned}
use Rattle.std.proofs.lemmas.Map.Views.{All-keys-insert_entry}
use Rattle.chares.specs.Elements.{opening_element}
use Rattle.chares.specs.Steps.{Step}
use Rattle.pe_state.specs.Pes.{PeView, new_pe, placed}
use Rattle.pe_state.specs.Rooms.{found}
use Rattle.sync_board.specs.Boards.{BoardState, new_board}
use Rattle.chare_index.specs.declared.limits.TheConstants.Limits.{ELEMENTS, PES}
use Rattle.pe_state.specs.Histories.{HasHistories, IsParcelHistory}
use Rattle.pe_state.proofs.Histories.{new_holds, placed_holds}
use Rattle.rts_core.specs.Histories.{AreHistories}
use Rattle.rts_core.specs.Worlds.{IsWorld, home, placed_on, all_placed}
use Rattle.sync_board.specs.declared.strategy.Strategy.{Strategy}

-- each element opens on one of the PEs
pub home_below : (e n pes : ℕ) → e < n → 1 ≤ pes → home e n pes < pes
home_below e n pes inside some =
    let some_element : 0 < n = omega arith in
    let some_pe : 0 < pes = omega arith in
    let k : pes * e < pes * n = mul-lt-mul_of_pos_left {m = e} {n = n} {k = pes} inside some_pe in
    let h : e * pes < pes * n = rw (mul_comm e pes) k in
    (div-lt_iff_lt-mul {k = n} {x = e * pes} {y = pes} some_element).1 h

-- one more of a list that is made number by number
pub list_more : {X : Type 0} (f : ℕ → X) (n : ℕ) → map f (range_with_len 0 (n + 1)) ≡ map f (range_with_len 0 n) ++ f n ∷ []
list_more f n = map-range_with_len_more f 0 n n (zero-add n)

-- the front of what is left of a list, and the rest
pub drop_next : {X : Type 0} (zs : List X) (e : ℕ) (x : X) (ys : List X) → x ∷ ys ≡ drop e zs → (ys ≡ drop (e + 1) zs) × (slice_get zs e ≡ Some x)
drop_next [] zero x ys h = absurd (cc)
drop_next [] (suc e) x ys h = absurd (cc)
drop_next (z ∷ zs) zero x ys h = let a : ys ≡ zs = cc in let b : z ≡ x = cc in (a, ap Some b)
drop_next (z ∷ zs) (suc e) x ys h =
    let r = drop_next zs e x ys h in
    let a : ys ≡ drop (suc e) zs = rw add-one at r.0 in
    (rw add-one a, r.1)

-- where all keys are below a number no member has it
lacks_by : {X : Type 0} (e key : ℕ) (x : X) (rest : Option X) (r : Ordering) → nat_cmp e key ≡ r → key < e → rest ≡ None → cond (is_eq r) (Some x) rest ≡ None
lacks_by e key x rest Less m below later = later
lacks_by e key x rest Equal m below later = let same : e ≡ key = exact_unsigned e key m in absurd (omega (arith, below, same))
lacks_by e key x rest Greater m below later = later

pub lacks_at : {X : Type 0} (e : ℕ) (room : List (ℕ × X)) → All (λ k. k < e) (keys_of room) → found e room ≡ None
lacks_at e [] all = refl
lacks_at {X} e (p ∷ ps) all =
    lacks_by e p.0 p.1 (found e ps) (nat_cmp e p.0) refl (All-head (λ (k : ℕ). k < e) p.0 (keys_of ps) all)
    (lacks_at e ps (All-tail (λ (k : ℕ). k < e) p.0 (keys_of ps) all))

-- one more PE of those that are made
pub pes_more : {C : Type 0} (n q me : ℕ) (made made' : List (PeView C)) (pe : PeView C) → made' ≡ made ++ pe ∷ []
    → made ≡ map (λ k. new_pe k n) (range_with_len 0 q) → pe ≡ new_pe me n → me ≡ q → made' ≡ map (λ k. new_pe k n) (range_with_len 0 (q + 1))
pes_more {C} n q me made made' pe pushed all made_pe same =
    pushed ∙ (rw (all, made_pe, same, list_more (λ (k : ℕ). new_pe {C = C} k n) q) refl)

-- one more chare is placed
pub place_all_step : {C : Type 0} (n e i : ℕ) (pes pes' : List (PeView C)) (chare : C) (left left' : List C) (last : List (PeView C))
    → i ≡ e → left ≡ chare ∷ left' → pes' ≡ placed_on pes (home i n (length pes)) i chare (slice_get pes (home i n (length pes)))
    → all_placed n pes e left ≡ last → all_placed n pes' (e + 1) left' ≡ last
place_all_step n e i pes pes' chare left left' last same items placed inv = rw (placed, same) (rw items at inv)

module _ {C : Type 0} (step : Step C) (fits : C → Type 0) (pack : C → List ℕ) (opened : List C) where
  -- after a call that places it, unless it is refused
  pub placed_ok : {V E : Type 0} (pes : List (PeView C)) (q e : ℕ) (chare : C) (pe pe' : PeView C) (r : Result V E) → slice_get pes q ≡ Some pe
      → OnOk r (pe' ≡ placed pe e chare) → OnOk r (slice_set pes q pe' ≡ placed_on pes q e chare (slice_get pes q))
  placed_ok pes q e chare pe pe' (Ok v) at ok = rw at (ap (slice_set pes q) ok)
  placed_ok pes q e chare pe pe' (Err error) at ok = tt

  pub placed_histories : {V E : Type 0} (pes : List (PeView C)) (q e : ℕ) (chare : C) (pe pe' : PeView C) (r : Result V E)
      → HasHistories step fits pack opened pe → slice_get opened e ≡ Some chare → All (HasHistories step fits pack opened) pes
      → OnOk r (pe' ≡ placed pe e chare) → OnOk r (All (HasHistories step fits pack opened) (slice_set pes q pe'))
  placed_histories pes q e chare pe pe' (Ok v) h at all ok =
      All-set (HasHistories step fits pack opened) pes q pe' (subst (HasHistories step fits pack opened) (sym ok) (placed_holds step fits pack opened pe e chare h at)) all
  placed_histories pes q e chare pe pe' (Err error) h at all ok = tt

-- all keys of a PE's room are below a number
abbrev pub KeysBelow : {C : Type 0} → ℕ → PeView C → Type 0
KeysBelow e pe = All (λ k. k < e) (keys_of pe.room)

keys_more : {C : Type 0} (e : ℕ) (pe : PeView C) → KeysBelow e pe → KeysBelow (e + 1) pe
keys_more e pe h = All-weaker (λ (k : ℕ). k < e) (λ (k : ℕ). k < e + 1) (λ k below. omega (arith, below)) (keys_of pe.room) h

pub placed_before : {C V E : Type 0} (pes : List (PeView C)) (q e : ℕ) (chare : C) (pe pe' : PeView C) (r : Result V E) → KeysBelow e pe
    → All (KeysBelow e) pes → OnOk r (pe' ≡ placed pe e chare) → OnOk r (All (KeysBelow (e + 1)) (slice_set pes q pe'))
placed_before {C} pes q e chare pe pe' (Ok v) h all ok =
    All-set (KeysBelow (e + 1)) pes q pe'
    (subst (KeysBelow (e + 1)) (sym ok) (All-keys-insert_entry nat_cmp e (opening_element e chare) (λ (k : ℕ). k < e + 1) pe.room (keys_more e pe h) (omega arith)))
    (All-weaker (KeysBelow {C = C} e) (KeysBelow (e + 1)) (keys_more e) pes all)
placed_before pes q e chare pe pe' (Err error) h all ok = tt

-- the PEs as they open, before any element is placed
pub opening_keys : (C : Type 0) (n pes : ℕ) → All (KeysBelow {C = C} 0) (map (λ (q : ℕ). new_pe q n) (range_with_len 0 pes))
opening_keys C n pes =
    All-map (KeysBelow {C = C} 0) (λ (q : ℕ). new_pe {C = C} q n) (range_with_len 0 pes) (λ k d inside. All-nil (λ (e : ℕ). e < 0))

pub opening_histories : {C : Type 0} (step : Step C) (fits : C → Type 0) (pack : C → List ℕ) (opened : List C) (n pes : ℕ) → n ≡ length opened
    → All (HasHistories step fits pack opened) (map (λ (q : ℕ). new_pe q n) (range_with_len 0 pes))
opening_histories {C} step fits pack opened n pes same =
    All-map (HasHistories step fits pack opened) (λ (q : ℕ). new_pe {C = C} q n) (range_with_len 0 pes)
    (λ k d inside. new_holds step fits pack opened (get_or (range_with_len 0 pes) k d) n same)

-- the opening is a world, and of the run that it opens
pub opening_is_world : {C A : Type 0} (n pes : ℕ) (strategy : Strategy) (states : List (PeView C)) (words : List ℕ) → 1 ≤ pes → pes ≤ PES
    → n ≤ ELEMENTS → length states ≡ pes → words ≡ map (λ e. home e n pes) (range_with_len 0 n) → All (λ q. q < pes) words
    → IsWorld {C = C} {A = A} n pes (record { pes = states; queues = replicate pes []; words = words; board = new_board n pes strategy })
opening_is_world n pes strategy states words some few_pes few counted made named =
    record {
      some_pe = some;
      few_pes = few_pes;
      few = few;
      pes_counted = counted;
      queues_counted = length-replicate pes [];
      words_counted = ap length made ∙ length-map-range_with_len (λ (e : ℕ). home e n pes) 0 n;
      words_name = named;
      board_counted = length-replicate n 0;
      board_pes = refl;
    }

pub opening_run : {C A : Type 0} (step : Step C) (fits : C → Type 0) (pack : C → List ℕ) (opened : List C) (pes : ℕ) (states : List (PeView C)) (words : List ℕ) (b : BoardState A)
    → All (HasHistories step fits pack opened) states
    → AreHistories step fits pack opened (record { pes = states; queues = replicate pes []; words = words; board = b })
opening_run step fits pack opened pes states words b h =
    record {
      pes = h;
      queues = All-replicate (All (IsParcelHistory step fits pack opened)) pes [] (All-nil (IsParcelHistory step fits pack opened));
    }

-- a list of equal members, and one more
pub replicate_more : {X : Type 0} (k : ℕ) (x : List X) (made after : List (List X)) → made ≡ replicate k [] → x ≡ [] → after ≡ made ++ x ∷ [] → after ≡ replicate (k + 1) []
replicate_more {X} k x made after e none more =
    more ∙ ap (λ v. v ++ x ∷ []) e ∙ ap (λ v. replicate k [] ++ v ∷ []) none ∙ at_end k ∙ ap (λ n. replicate n []) (sym (add-one k))
  where
    at_end : (k : ℕ) → ◌≡◌ {A = List (List X)} (replicate k [] ++ [] ∷ []) (replicate (suc k) [])
    at_end zero = refl
    at_end (suc k) = ap (λ v. [] ∷ v) (at_end k)

-- nothing is owed for what was not made
pub none_made : {T E : Type 0} (r : Result T E) (P : T → Type 0) → IsErr r → IfOk r P
none_made (Ok x) P h = cc
none_made (Err e) P h = tt

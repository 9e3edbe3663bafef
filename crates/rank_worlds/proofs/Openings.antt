-- The PEs that handles open are those of the opening world.
use Rattle.std.proofs.Common.{◌≡◌, ◌≢◌, ℕ, zero, suc, ◌+◌, ◌*◌, ◌/◌, ◌<◌, List, [], ◌∷◌, length, map, Option, Some, None, Bool, true, false, not, is_some, if◌then◌else◌, refl, sym, ap, subst, ◌∙◌, zero-add, add-zero, arith}
use Rattle.std.specs.Prelude.{◌&&◌, ◌==◌, replicate, slice_get}
use Rattle.std.specs.List.{range_with_len}
use Rattle.std.specs.Map.{keys_of}
use Rattle.std.specs.Ordering.{nat_cmp}
use Rattle.std.proofs.lemmas.Bool.Decides.{nat_tests}
use Rattle.std.proofs.lemmas.List.Elements.{All-nil, All-weaker}
use Rattle.std.proofs.lemmas.List.FromFn.{length-map-range_with_len}
use Rattle.std.proofs.lemmas.Map.Views.{All-keys-insert_entry}
use Rattle.sync_board.specs.Boards.{new_board}
use Rattle.sync_board.specs.declared.strategy.Strategy.{Strategy}
use Rattle.chares.specs.Elements.{ElementView, opening_element}
use Rattle.foreign_chare.specs.Scripts.{Stamp, new_stamp}
use Rattle.pe_state.specs.Pes.{PeView, new_pe, placed}
use Rattle.pe_state.specs.Rooms.{found}
use Rattle.rank_calls.specs.Runs.{Run, begins_on, opened, opened_to, opening, stamps_from}
use Rattle.rank_calls.proofs.Openings.{opening_length}
use Rattle.rank_worlds.specs.RankRuns.{opening_ranks}
use Rattle.rts_core.specs.Worlds.{all_placed, home, opening_pes, opening_words, opening_world, placed_on}
use Rattle.rts_core.proofs.Openings.{KeysBelow, lacks_at}

-- ---- one PE of a list is edited

module _ (e : ℕ) (chare : Stamp) where
  behind_first : (x : PeView Stamp) (xs : List (PeView Stamp)) (i : ℕ) (o : Option (PeView Stamp)) → placed_on (x ∷ xs) (suc i) e chare o ≡ x ∷ placed_on xs i e chare o
  behind_first x xs i None = refl
  behind_first x xs i (Some pe) = refl

  module _ (g h : ℕ → PeView Stamp) (q : ℕ) (here : h q ≡ placed (g q) e chare) (others : (me : ℕ) → me ≢ q → h me ≡ g me) where
    same_from : (a m : ℕ) → q < a → map g (range_with_len a m) ≡ map h (range_with_len a m)
    same_from a zero less = refl
    same_from a (suc m) less =
        ap (λ (v : PeView Stamp). v ∷ map g (range_with_len (a + 1) m)) (sym (others a (λ same. omega (arith, same, less))))
        ∙ ap (λ (v : List (PeView Stamp)). h a ∷ v) (same_from (a + 1) m (omega (arith, less)))

    edited : (a m i : ℕ) → a + i ≡ q
        → placed_on (map g (range_with_len a m)) i e chare (slice_get (map g (range_with_len a m)) i) ≡ map h (range_with_len a m)
    edited a zero i at = refl
    edited a (suc m) zero at =
        let same : a ≡ q = omega (arith, at) in
        let first : placed (g a) e chare ≡ h a = subst (λ (v : ℕ). placed (g v) e chare ≡ h v) (sym same) (sym here) in
        ap (λ (v : PeView Stamp). v ∷ map g (range_with_len (a + 1) m)) first
        ∙ ap (λ (v : List (PeView Stamp)). h a ∷ v) (same_from (a + 1) m (omega (arith, same)))
    edited a (suc m) (suc i) at =
        behind_first (g a) (map g (range_with_len (a + 1) m)) i (slice_get (map g (range_with_len (a + 1) m)) i)
        ∙ ap (λ (v : PeView Stamp). v ∷ placed_on (map g (range_with_len (a + 1) m)) i e chare (slice_get (map g (range_with_len (a + 1) m)) i))
        (sym (others a (λ same. omega (arith, same, at))))
        ∙ ap (λ (v : List (PeView Stamp)). h a ∷ v) (edited (a + 1) m i (omega (arith, at)))

-- ---- a PE as it opens, once the first this many elements were asked after

pub either : (P : PeView Stamp → Type 0) (b : Bool) (x y : PeView Stamp) → P x → P y → P (if b then x else y)
either P true x y px py = px
either P false x y px py = py

module _ (pes n : ℕ) where
  number_of : (me k : ℕ) → (opened_to pes n me k).me ≡ me
  number_of me zero = refl
  number_of me (suc i) =
      let before = opened_to pes n me i in
      either (λ (v : PeView Stamp). v.me ≡ me) (begins_on pes n before i) (placed before i (new_stamp i)) before (number_of me i) (number_of me i)

  below_next : (me k : ℕ) → KeysBelow k (opened_to pes n me k) → KeysBelow (suc k) (opened_to pes n me k)
  below_next me k below =
      All-weaker (λ (i : ℕ). i < k) (λ (i : ℕ). i < suc k) (λ i less. omega (arith, less)) (keys_of (opened_to pes n me k).room) below

  keys_below : (me k : ℕ) → KeysBelow k (opened_to pes n me k)
  keys_below me zero = All-nil (λ (i : ℕ). i < 0)
  keys_below me (suc i) =
      let before = opened_to pes n me i in
      let less = below_next me i (keys_below me i) in
      either (KeysBelow (suc i)) (begins_on pes n before i) (placed before i (new_stamp i)) before
      (All-keys-insert_entry nat_cmp i (opening_element i (new_stamp i)) (λ (j : ℕ). j < suc i) before.room less (omega arith)) less

  is_here : (x y : ℕ) (o : Option (ElementView Stamp)) → x ≡ y → o ≡ None → ((x == y) && not (is_some o)) ≡ true
  is_here x y None same none = grind (arith, nat_tests)
  is_here x y (Some el) same none = absurd (cc none)

  is_elsewhere : (x y : ℕ) (b : Bool) → x ≢ y → ((x == y) && b) ≡ false
  is_elsewhere x y b apart = grind (arith, nat_tests)

  -- element k is placed on its home, and on no other PE
  module _ (k : ℕ) where
    placed_here : opened_to pes n (home k n pes) (suc k) ≡ placed (opened_to pes n (home k n pes) k) k (new_stamp k)
    placed_here =
        let before = opened_to pes n (home k n pes) k in
        let test : begins_on pes n before k ≡ true = is_here (k * pes / n) before.me (found k before.room) (sym (number_of (home k n pes) k))
        (lacks_at k before.room (keys_below (home k n pes) k)) in
        subst (λ (b : Bool). (if b then placed before k (new_stamp k) else before) ≡ placed before k (new_stamp k)) (sym test) refl

    as_before : (me : ℕ) → me ≢ home k n pes → opened_to pes n me (suc k) ≡ opened_to pes n me k
    as_before me apart =
        let before = opened_to pes n me k in
        let test : begins_on pes n before k ≡ false = is_elsewhere (k * pes / n) before.me (not (is_some (found k before.room)))
        (λ same. apart (sym (number_of me k) ∙ sym same)) in
        subst (λ (b : Bool). (if b then placed before k (new_stamp k) else before) ≡ before) (sym test) refl

  -- ---- all PEs

  abbrev pes_at : ℕ → List (PeView Stamp)
  pes_at k = map (λ (me : ℕ). opened_to pes n me k) (range_with_len 0 pes)

  one_more : (k : ℕ) → placed_on (pes_at k) (home k n (length (pes_at k))) k (new_stamp k) (slice_get (pes_at k) (home k n (length (pes_at k)))) ≡ pes_at (suc k)
  one_more k =
      subst (λ (l : ℕ). placed_on (pes_at k) (home k n l) k (new_stamp k) (slice_get (pes_at k) (home k n l)) ≡ pes_at (suc k))
      (sym (length-map-range_with_len (λ (me : ℕ). opened_to pes n me k) 0 pes))
      (edited k (new_stamp k) (λ (me : ℕ). opened_to pes n me k) (λ (me : ℕ). opened_to pes n me (suc k)) (home k n pes) (placed_here k) (as_before k) 0 pes
      (home k n pes) (zero-add (home k n pes)))

  all_at : (m k : ℕ) → all_placed n (pes_at k) k (stamps_from k m) ≡ pes_at (k + m)
  all_at zero k = ap pes_at (sym (add-zero k))
  all_at (suc m) k =
      let more : k + 1 ≡ suc k = omega arith in
      let sum : (k + 1) + m ≡ k + suc m = omega arith in
      ap (λ (xs : List (PeView Stamp)). all_placed n xs (k + 1) (stamps_from (k + 1) m)) (one_more k ∙ ap pes_at (sym more))
      ∙ all_at m (k + 1) ∙ ap pes_at sum

pub opened_pes : (run : Run) → map (λ (me : ℕ). opened run.pes run.n me) (range_with_len 0 run.pes) ≡ opening_pes run.pes (opening run)
opened_pes run =
    subst (λ (n : ℕ). map (λ (me : ℕ). opened run.pes run.n me) (range_with_len 0 run.pes)
    ≡ all_placed n (map (λ (q : ℕ). new_pe q n) (range_with_len 0 run.pes)) 0 (opening run)) (sym (opening_length run))
    (ap (pes_at run.pes run.n) (sym (zero-add run.n)) ∙ sym (all_at run.pes run.n run.n 0))

pub opens : (A : Type 0) (run : Run) (strategy : Strategy) → opening_ranks {A = A} run strategy ≡ opening_world run.pes (opening run) strategy
opens A run strategy =
    ap (λ (states : List (PeView Stamp)).
    record {
      pes = states;
      queues = replicate run.pes [];
      words = opening_words run.n run.pes;
      board = new_board run.n run.pes strategy;
    }) (opened_pes run)
    ∙ ap (λ (n : ℕ). record {
      pes = opening_pes run.pes (opening run);
      queues = replicate run.pes [];
      words = opening_words n run.pes;
      board = new_board n run.pes strategy;
    }) (sym (opening_length run))

-- What an element has done, over one more entry, and over a pack.
use Rattle.std.proofs.Common.{◌≡◌, ℕ, ◌<◌, ◌≤◌, List, [], ◌∷◌, ◌++◌, length, Some, Ok, IsOk, Result, refl, sym, ◌∙◌, ap, subst, append-nil}
use Rattle.std.specs.Prelude.{slice_get}
use Rattle.std.proofs.lemmas.List.{map-append}
use Rattle.std.proofs.lemmas.Option.{slice_get_within}
use Rattle.chares.specs.Elements.{ElementView, PackedView, ran, lived, unpacked, opening_element, IsHistory, IsPackedHistory}
use Rattle.chares.specs.Letters.{Done}
use Rattle.chares.specs.Orders.{MayHandle}
use Rattle.chares.specs.Progressing.{ended}
use Rattle.chares.specs.declared.progress.Ending.{Ending}
use Rattle.chares.specs.declared.progress.Ending.TheVariants.{Runs, Syncs, Finishes}
use Rattle.chares.specs.declared.progress.Progress.{Progress}
use Rattle.chares.specs.Steps.{Step}
use Rattle.chares.proofs.Orders.{in_order_opening, in_order_ran}
use Rattle.chare_index.specs.declared.limits.TheConstants.Limits.{STATE_BYTES}
use Rattle.pup_pack.specs.declared.error.PupError.{PupError}

-- one more entry is lived after the others
pub lived-push : {C : Type 0} (step : Step C) (pack : C → List ℕ) (el : ElementView C) (n : ℕ) (xs : List (Done × ℕ)) (done : Done) (pe : ℕ)
    → lived step pack el n (xs ++ (done, pe) ∷ []) ≡ ran step pack (lived step pack el n xs) n pe done
lived-push step pack el n [] done pe = refl
lived-push step pack el n (x ∷ xs) done pe = lived-push step pack (ran step pack el n x.1 x.0) n xs done pe

-- an element with one more entry that it may handle is again what its journal says
pub history_ran : {C : Type 0} (step : Step C) (pack : C → List ℕ) (opened : List C) (el : ElementView C) (pe : ℕ) (done : Done)
    → IsHistory step pack opened el → MayHandle el.progress done → IsHistory step pack opened (ran step pack el (length opened) pe done)
history_ran {C} step pack opened el pe done h may =
    record {
      opening = h.opening;
      opens = h.opens;
      entries = h.entries ++ (done, pe) ∷ [];
      is_lived =
          lived-push step pack (opening_element el.index h.opening) (length opened) h.entries done pe
          ∙ ap (λ (v : ElementView C). ran step pack v (length opened) pe done) h.is_lived;
      is_journal = rw (map-append, h.is_journal) refl;
      in_order = in_order_ran step pack el (length opened) pe done h.in_order may;
    }

-- as an element opens
pub history_opening : {C : Type 0} (step : Step C) (pack : C → List ℕ) (opened : List C) (index : ℕ) (chare : C)
    → slice_get opened index ≡ Some chare → IsHistory step pack opened (opening_element index chare)
history_opening step pack opened index chare at =
    record { opening = chare; opens = at; entries = []; is_lived = refl; is_journal = refl; in_order = in_order_opening index chare }

-- an element is one of its array
pub history_within : {C : Type 0} (step : Step C) (pack : C → List ℕ) (opened : List C) (el : ElementView C) → IsHistory step pack opened el → el.index < length opened
history_within step pack opened el h = slice_get_within opened el.index h.opening h.opens

-- an answer does not change the round
pub ended_before : (r p : Progress) (e : Ending) (k : ℕ) → r ≡ ended p e → p.round < k → r.round < k
ended_before r p Runs k h lt = rw h lt
ended_before r p Syncs k h lt = rw h lt
ended_before r p Finishes k h lt = rw h lt

pub same_value : {C : Type 0} {x y : C} {m n : ℕ} → ◌≡◌ {A = Result (C × ℕ) PupError} (Ok (x, m)) (Ok (y, n)) → x ≡ y
same_value {C} {x} {y} {m} {n} h = let e : ◌≡◌ {A = C × ℕ} (x, m) (y, n) = cc in ap (λ (v : C × ℕ). v.0) e

-- what bytes of a packed element unpack to is the chare that was packed
pub history_unpacked : {C : Type 0} (step : Step C) (fits counted : C → Type 0) (pack : C → List ℕ)
    (unpack : List ℕ → Result (C × ℕ) PupError) (opened : List C) (p : PackedView) (chare : C) (k : ℕ)
    → ((s : C) (rest : List ℕ) → fits s → counted s → length (pack s) ≤ STATE_BYTES → unpack (pack s ++ rest) ≡ Ok (s, length (pack s)))
    → ((s : C) → fits s → counted s × (length (pack s) ≤ STATE_BYTES))
    → IsPackedHistory step fits pack opened p
    → unpack p.bytes ≡ Ok (chare, k)
    → IsHistory step pack opened (unpacked p chare)
history_unpacked {C} step fits counted pack unpack opened p chare k trip packs h u =
    let law = packs h.chare h.is_value in
    let e : unpack (pack h.chare ++ []) ≡ Ok (h.chare, length (pack h.chare)) = trip h.chare [] h.is_value law.0 law.1 in
    let b : pack h.chare ++ [] ≡ p.bytes = append-nil (pack h.chare) ∙ h.is_pack in
    let f : unpack p.bytes ≡ Ok (h.chare, length (pack h.chare)) = subst (λ (v : List ℕ). unpack v ≡ Ok (h.chare, length (pack h.chare))) b e in
    let s : h.chare ≡ chare = same_value (sym f ∙ u) in
    subst (λ (v : C). IsHistory step pack opened (unpacked p v)) s h.is_history

-- the bytes of a packed element unpack
pub packed_whole : {C : Type 0} (step : Step C) (fits counted : C → Type 0) (pack : C → List ℕ) (unpack : List ℕ → Result (C × ℕ) PupError) (opened : List C) (p : PackedView)
    → ((s : C) (rest : List ℕ) → fits s → counted s → length (pack s) ≤ STATE_BYTES → unpack (pack s ++ rest) ≡ Ok (s, length (pack s)))
    → ((s : C) → fits s → counted s × (length (pack s) ≤ STATE_BYTES))
    → IsPackedHistory step fits pack opened p
    → IsOk (unpack p.bytes)
packed_whole {C} step fits counted pack unpack opened p trip packs h =
    let law = packs h.chare h.is_value in
    let e : unpack (pack h.chare ++ []) ≡ Ok (h.chare, length (pack h.chare)) = trip h.chare [] h.is_value law.0 law.1 in
    let b : pack h.chare ++ [] ≡ p.bytes = append-nil (pack h.chare) ∙ h.is_pack in
    let f : unpack p.bytes ≡ Ok (h.chare, length (pack h.chare)) = subst (λ (v : List ℕ). unpack v ≡ Ok (h.chare, length (pack h.chare))) b e in
    subst (λ (v : Result (C × ℕ) PupError). IsOk v) (sym f) refl

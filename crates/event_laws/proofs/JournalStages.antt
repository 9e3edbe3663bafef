-- An element after the first entries of its journal, and the next one.
use Rattle.std.proofs.Common.{◌≡◌, ℕ, zero, suc, ◌+◌, ◌-◌, ◌≤◌, List, [], ◌∷◌, ◌++◌, map, take, drop, Option, Some, arith, sym, ◌∙◌, ap, subst}
use Rattle.std.specs.Prelude.{sum, slice_get}
use Rattle.std.specs.List.{range_with_len}
use Rattle.std.specs.Option.{option_map_or}
use Rattle.std.proofs.lemmas.List.{map-append}
use Rattle.std.proofs.lemmas.List.FromFn.{sum_by-map-range_with_len_more}
use Rattle.std.proofs.lemmas.Option.{same_Some}
use Rattle.chares.specs.declared.note.Mark.{Mark}
use Rattle.chares.specs.declared.progress.Ending.TheVariants.{Syncs}
use Rattle.chares.specs.Elements.{ElementView, opening_element, outcome_of, worked, ending_of, ran, lived}
use Rattle.chares.specs.Letters.{Done}
use Rattle.chares.specs.Steps.{Step}
use Rattle.chares.proofs.Histories.{lived-push}
use Rattle.event_laws.specs.Rounds.{stage, units_at, units_between, HasReached}

-- a list up to an entry, that entry, and what is left after it
cut : {X : Type 0} (xs : List X) (k : ℕ) (x : X) (rest : List X) → drop k xs ≡ x ∷ rest
    → (slice_get xs k ≡ Some x) × (drop (suc k) xs ≡ rest) × (take (suc k) xs ≡ take k xs ++ x ∷ [])
cut [] zero x rest h = absurd (cc)
cut [] (suc k) x rest h = absurd (cc)
cut (y ∷ ys) zero x rest h = (cc, cc, cc)
cut {X} (y ∷ ys) (suc k) x rest h =
    let a = cut ys k x rest h in
    (a.0, a.1, ap (λ (v : List X). y ∷ v) a.2)

pub cut_at : {X : Type 0} (xs : List X) (k : ℕ) (x : X) (rest : List X) → drop k xs ≡ x ∷ rest
    → (slice_get xs k ≡ Some x) × (drop (k + 1) xs ≡ rest) × (take (k + 1) xs ≡ take k xs ++ x ∷ [])
cut_at {X} xs k x rest h =
    let e : suc k ≡ k + 1 = omega arith in
    subst (λ (j : ℕ). (slice_get xs k ≡ Some x) × (drop j xs ≡ rest) × (take j xs ≡ take k xs ++ x ∷ [])) e (cut xs k x rest h)

module _ {C : Type 0} (step : Step C) (pack : C → List ℕ) (n e : ℕ) (chare : C) (journal : List Done) where
  -- the element at hand is the stage after k entries, except for its marks
  abbrev pub IsAt : ElementView C → List Mark → ℕ → Type 0
  IsAt el others k = stage step pack n e chare journal k ≡ record el { marks = others }

  abbrev pub Reached : ℕ → ℕ → Type 0
  Reached k round = HasReached step pack n e chare journal k round

  abbrev pub units : ℕ → ℕ → ℕ
  units first end = units_between step pack n e chare journal first end

  pub stage_next : (k : ℕ) (done : Done) → take (k + 1) journal ≡ take k journal ++ done ∷ []
      → stage step pack n e chare journal (k + 1) ≡ ran step pack (stage step pack n e chare journal k) n 0 done
  stage_next k done t =
      let f : Done → Done × ℕ = λ d. (d, 0) in
      let a : map f (take (k + 1) journal) ≡ map f (take k journal) ++ (done, 0) ∷ [] = ap (map f) t ∙ map-append f (take k journal) (done ∷ []) in
      ap (λ (v : List (Done × ℕ)). lived step pack (opening_element e chare) n v) a
      ∙ lived-push step pack (opening_element e chare) n (map f (take k journal)) done 0

  pub units_here : (k : ℕ) (done : Done) (el : ElementView C) (others : List Mark) → slice_get journal k ≡ Some done → IsAt el others k
      → units_at step pack n e chare journal k ≡ (outcome_of step pack el n done).effect.units
  units_here k done el others is at =
      ap (λ (o : Option Done). option_map_or (λ d. (outcome_of step pack (stage step pack n e chare journal k) n d).effect.units) o 0) is
      ∙ ap (λ (v : ElementView C). (outcome_of step pack v n done).effect.units) at

  pub units_none : (k : ℕ) → units k k ≡ 0
  units_none k =
      let z : k - k ≡ 0 = omega arith in
      ap (λ (m : ℕ). sum (map (units_at step pack n e chare journal) (range_with_len k m))) z

  pub units_more : (first k : ℕ) → first ≤ k → units first (k + 1) ≡ units first k + units_at step pack n e chare journal k
  units_more first k h =
      let a : (k + 1) - first ≡ (k - first) + 1 = omega arith in
      ap (λ (m : ℕ). sum (map (units_at step pack n e chare journal) (range_with_len first m))) a
      ∙ sum_by-map-range_with_len_more (λ (x : ℕ). x) (units_at step pack n e chare journal) first (k - first) k (omega arith)

  -- that it reaches AtSync with entry k, said of the element at hand
  pub reached_here : (k : ℕ) (done : Done) (el : ElementView C) (others : List Mark) → slice_get journal k ≡ Some done → IsAt el others k
      → ending_of step pack el n done ≡ Syncs → Reached k ((worked step pack el n done).round + 1)
  reached_here k done el others is at syncs =
      record {
        done = done;
        is_entry = is;
        syncs = subst (λ (v : ElementView C). ending_of step pack v n done ≡ Syncs) (sym at) syncs;
        for_round = ap (λ (v : ElementView C). (worked step pack v n done).round + 1) at;
      }

  pub syncs_here : (k round : ℕ) (done : Done) (el : ElementView C) (others : List Mark) → slice_get journal k ≡ Some done → IsAt el others k
      → Reached k round → (ending_of step pack el n done ≡ Syncs) × (round ≡ (worked step pack el n done).round + 1)
  syncs_here k round done el others is at h =
      let here : ElementView C = stage step pack n e chare journal k in
      let same : h.done ≡ done = same_Some h.done done (sym h.is_entry ∙ is) in
      let a : ending_of step pack here n done ≡ Syncs = subst (λ (d : Done). ending_of step pack here n d ≡ Syncs) same h.syncs in
      let b : (worked step pack here n done).round + 1 ≡ round = subst (λ (d : Done). (worked step pack here n d).round + 1 ≡ round) same h.for_round in (
        subst (λ (v : ElementView C). ending_of step pack v n done ≡ Syncs) at a,
        sym b ∙ ap (λ (v : ElementView C). (worked step pack v n done).round + 1) at,
      )

-- The dump that a whole text is the text of.
use Rattle.std.proofs.Common.{◌≡◌, inl, inr, ℕ, ◌^◌, ◌<◌, ◌≤◌, List, [], ◌++◌, length, All, Option, Some, None, refl, ap, sym, ◌∙◌, subst, append_assoc, arith}
use Rattle.std.proofs.lemmas.List.{append-nil}
use Rattle.std.specs.Int.{w64}
use Rattle.std.specs.Prelude.{SomeIff}
use Rattle.dump_format.specs.Dumps.{AreFields, IsRecorded, IsSnapshot, MayRecord}
use Rattle.dump_format.specs.Faults.{IsWhole}
use Rattle.dump_format.specs.Text.{IsLbd1, IsLbd2, IsText, elements_text, head_text as snapshot_head, magic_2, plan_text, word}
use Rattle.dump_format.specs.declared.recorded.Recorded.{Recorded}
use Rattle.lb_dump.specs.Elements.{elements_of}
use Rattle.lb_dump.specs.Heads.{head_text, magic_of, load_width}
use Rattle.lb_dump.specs.Moves.{moves_text}
use Rattle.lb_dump.specs.declared.head.Format.{Format}
use Rattle.lb_dump.specs.declared.head.Format.TheVariants.{Lbd1, Lbd2}
use Rattle.lb_dump.specs.declared.head.Head.{Head}
use Rattle.lb_dump.specs.Plans.{plan_bytes}
use Rattle.lb_dump.specs.declared.plan.DecisionPart.{DecisionPart}
use Rattle.lb_dump.specs.declared.plan.DecisionPart.TheVariants.{Begun, Nothing, Made}
use Rattle.lb_dump.specs.Held.{AreSome, IsAt, IsAtElements, IsAtMoves, IsAtNothing, front_text}
use Rattle.lb_dump.specs.Made.{recorded_with, taken_of, with_moves}
use Rattle.lb_dump.proofs.Standing.{element_found, front_elements, head_found, move_found, plan_found}
use Rattle.lb_dump.proofs.Steps.{narrow_bytes}
use Rattle.std.proofs.lemmas.Bool.{cases_lt}
use mir.Val.{bits}

pub snapshot_kept : (h : Head) (loads : List ℕ) (sizes : List (ℕ × ℕ)) → AreSome h loads sizes → IsSnapshot (taken_of h loads sizes)
snapshot_kept h loads sizes some =
    record {
      placed = record { some_pe = some.head.some_pe; few_pes = some.head.few_pes; paired = sym some.kept.paired; placed = some.kept.places_fit };
      loads = record { few = omega (arith, some.few, some.head.few); small = some.kept.loads_fit };
      sizes = record { few = omega (arith, some.few, some.head.few, some.kept.paired); small = some.kept.sizes_fit };
    }

module _ {A : Type 0} where
  -- a decision with its moves may be recorded beside its snapshot
  pub moves_recorded : (h : Head) (loads : List ℕ) (sizes : List (ℕ × ℕ)) (r : Recorded A) (all : ℕ) (list : List (ℕ × ℕ × ℕ))
      (begun : List ℕ) → IsAtMoves h loads sizes r all list begun
      → IsRecorded (length loads) (with_moves r list)
  moves_recorded h loads sizes r all list begun at =
      record {
        some_target = at.recorded.some_target;
        few_targets = at.recorded.few_targets;
        cuts = at.recorded.cuts;
        stops = at.recorded.stops;
        names = at.recorded.names;
        block_prices = at.recorded.block_prices;
        pe_prices = at.recorded.pe_prices;
        few_moves = omega (arith, at.few_moves, at.few_told, at.all);
        moved_elements = subst (λ n. All (λ (move : ℕ × ℕ × ℕ). move.0 < n) list) (sym at.all) at.kept.elements;
      }

  moves_fit : (h : Head) (loads : List ℕ) (sizes : List (ℕ × ℕ)) (r : Recorded A) (all : ℕ) (list : List (ℕ × ℕ × ℕ)) (begun : List ℕ) → IsAtMoves h loads sizes r all list begun
      → AreFields (with_moves r list)
  moves_fit h loads sizes r all list begun at =
      record {
        bottleneck = at.fields.bottleneck;
        cuts = at.fields.cuts;
        stops = at.fields.stops;
        names = at.fields.names;
        block_prices = at.fields.block_prices;
        pe_prices = at.fields.pe_prices;
        moved = at.fields.moved;
        present = at.kept.present;
        planned = at.kept.planned;
      }

-- the head of a text whose elements are all whole
head_spelled : (h : Head) (loads : List ℕ) (sizes : List (ℕ × ℕ)) (rest : List ℕ) → length loads ≡ h.count → head_text h
    ++ rest ≡ magic_of h.format ++ (snapshot_head (taken_of h loads sizes) ++ rest)
head_spelled h loads sizes rest all =
    ap (λ n. (magic_of h.format ++ (word h.step ++ (word h.procs ++ word n))) ++ rest) (sym all) ∙ append_assoc (magic_of h.format) (snapshot_head (taken_of h loads sizes)) rest

-- a text of LBD1
pub narrow_text : (A : Type 0) (h : Head) (loads : List ℕ) (sizes : List (ℕ × ℕ)) (list : List (ℕ × ℕ × ℕ)) (begun : List ℕ)
    → IsAtElements h loads sizes list begun → length loads ≡ h.count → h.format ≡ Lbd1
    → IsLbd1 (taken_of h loads sizes) (front_text {A = A} (Some h) loads sizes Begun list ++ begun)
narrow_text A h loads sizes list begun at all narrow =
    record {
      snapshot = snapshot_kept h loads sizes at.some;
      step = at.some.head.step;
      narrow = subst (λ f. All (λ load. load < 2 ^ bits (load_width f)) loads) narrow at.some.kept.loads_spelled;
      spelled =
          rw (at.no_moves, narrow_bytes h.format h.count begun narrow (at.plan all), append-nil (front_text {A = A} (Some h) loads sizes Begun []))
          (front_elements A h loads sizes ∙ head_spelled h loads sizes (elements_of h loads sizes) all
          ∙ ap (λ f. magic_of f ++ (snapshot_head (taken_of h loads sizes) ++ elements_text (load_width f) loads sizes)) narrow);
    }

-- the text of LBD2 up to what follows its elements
wide_front : (h : Head) (loads : List ℕ) (sizes : List (ℕ × ℕ)) (rest : List ℕ) → length loads ≡ h.count → h.format ≡ Lbd2
    → head_text h ++ (elements_of h loads sizes ++ rest) ≡ magic_2 ++ (snapshot_head (taken_of h loads sizes) ++ (elements_text w64 loads sizes ++ rest))
wide_front h loads sizes rest all wide =
    head_spelled h loads sizes (elements_of h loads sizes ++ rest) all
    ∙ ap (λ f. magic_of f ++ (snapshot_head (taken_of h loads sizes) ++ (elements_text (load_width f) loads sizes ++ rest))) wide

module _ {A : Type 0} where
  -- a text of LBD2 without a decision
  pub bare_text : (h : Head) (loads : List ℕ) (sizes : List (ℕ × ℕ)) (list : List (ℕ × ℕ × ℕ)) (begun : List ℕ) → IsAtNothing h loads sizes list begun
      → IsLbd2 {A = A} (record { snapshot = taken_of h loads sizes; recorded = None }) (front_text {A = A} (Some h) loads sizes Nothing list ++ begun)
  unfolding front_text
  bare_text h loads sizes list begun at =
      record {
        dump = record { snapshot = snapshot_kept h loads sizes at.some; step = at.some.head.step; recorded = tt; fields = tt };
        spelled =
            rw (at.no_bytes, append-nil (front_text {A = A} (Some h) loads sizes Nothing list), at.no_moves)
            (ap (λ (t : List ℕ). head_text h ++ (elements_of h loads sizes ++ t)) (append-nil (word 0)) ∙ wide_front h loads sizes (word 0) at.all at.wide);
      }

  -- the plan of a decision, with its moves
  plan_spelled : (r : Recorded A) (all : ℕ) (list : List (ℕ × ℕ × ℕ)) → length list ≡ all → plan_bytes r all ≡ plan_text (with_moves r list)
  unfolding plan_text
  plan_spelled r all list whole = ap (λ n. plan_bytes r n) (sym whole)

  -- a text of LBD2 with a decision
  pub decided_text : (h : Head) (loads : List ℕ) (sizes : List (ℕ × ℕ)) (r : Recorded A) (all : ℕ) (list : List (ℕ × ℕ × ℕ))
      (begun : List ℕ) → IsAtMoves h loads sizes r all list begun → length list ≡ all
      → IsLbd2 (record { snapshot = taken_of h loads sizes; recorded = Some (with_moves r list) }) (front_text (Some h) loads sizes (Made r all) list ++ begun)
  unfolding front_text
  decided_text h loads sizes r all list begun at whole =
      record {
        dump = record {
          snapshot = snapshot_kept h loads sizes at.some;
          step = at.some.head.step;
          recorded = moves_recorded h loads sizes r all list begun at;
          fields = moves_fit h loads sizes r all list begun at;
        };
        spelled =
            rw (at.no_bytes whole, append-nil (front_text (Some h) loads sizes (Made r all) list))
            (ap (λ (t : List ℕ). head_text h ++ (elements_of h loads sizes ++ t))
            (append_assoc (word 1) (plan_bytes r all) (moves_text list)
            ∙ ap (λ (t : List ℕ). word 1 ++ (t ++ moves_text list)) (plan_spelled r all list whole))
            ∙ wide_front h loads sizes (word 1 ++ (plan_text (with_moves r list) ++ moves_text list)) at.all at.wide);
      }

  -- a text that is whole has all its elements and all its moves
  all_elements : (h : Head) (loads : List ℕ) (sizes : List (ℕ × ℕ)) (plan : DecisionPart A) (list : List (ℕ × ℕ × ℕ)) (begun : List ℕ)
      → IsAt (Some h) loads sizes plan list begun → length loads ≤ h.count
      → IsWhole (front_text (Some h) loads sizes plan list ++ begun) → length loads ≡ h.count
  all_elements h loads sizes plan list begun at few whole =
      elim (cases_lt (length loads) h.count) [
        | inl missing ↦ absurd (let found = element_found A h loads sizes plan list begun at missing in cc)
        | inr enough ↦ omega arith
      ]

  -- the text is that of the dump that is made of it
  pub text_made : (head : Option Head) (loads : List ℕ) (sizes : List (ℕ × ℕ)) (plan : DecisionPart A) (list : List (ℕ × ℕ × ℕ)) (begun : List ℕ) → IsAt head loads sizes plan list begun
      → IsWhole (front_text head loads sizes plan list ++ begun)
      → (h : Head) × (head ≡ Some h) × AreSome h loads sizes × MayRecord (length loads) (recorded_with plan list)
      × IsText {A = A} (record { snapshot = taken_of h loads sizes; recorded = recorded_with plan list }) (front_text head loads sizes plan list ++ begun)
  text_made None loads sizes plan list begun at whole = absurd (let found = head_found A loads sizes plan list begun at in cc)
  text_made (Some h) loads sizes Begun list begun at whole =
      let all = all_elements h loads sizes Begun list begun at at.some.few whole in
      (h, refl, at.some, tt, inl (refl, narrow_text A h loads sizes list begun at all (is_narrow h.format refl)))
    where
      is_narrow : (format : Format) → h.format ≡ format → h.format ≡ Lbd1
      is_narrow Lbd1 is = is
      is_narrow Lbd2 is = absurd (let found = plan_found A h loads sizes list begun at (all_elements h loads sizes Begun list begun at at.some.few whole) is in cc)
  text_made (Some h) loads sizes Nothing list begun at whole = (h, refl, at.some, tt, inr (bare_text h loads sizes list begun at))
  text_made (Some h) loads sizes (Made r all) list begun at whole =
      let told : length list ≡ all = elim (cases_lt (length list) all) [
        | inl missing ↦ absurd (let found = move_found A h loads sizes r all list begun at missing in cc)
        | inr enough ↦ omega (arith, at.few_moves)
      ] in
      (h, refl, at.some, moves_recorded h loads sizes r all list begun at, inr (decided_text h loads sizes r all list begun at told))

-- the value that was made
pub value_of : {T : Type 0} (made : Option T) (kept : Type 0) (value result : T) → SomeIff made kept value → made ≡ Some result → result ≡ value
value_of made kept value result iff is = (subst (λ o. SomeIff o kept value) is iff).1

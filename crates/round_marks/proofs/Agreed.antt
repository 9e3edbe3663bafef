-- Where all elements of a run are what their journals say and agree with the rounds of a board of as many elements, all their marks are as
-- the check asks.
use Rattle.std.proofs.Common.{◌≡◌, ℕ, ◌<◌, List, [], ◌∷◌, length, map, Option, None, Some, subst, sym}
use Rattle.std.specs.Prelude.{All, IfSome, IsSomeAnd, slice_get}
use Rattle.std.specs.Map.{values_of}
use Rattle.std.proofs.lemmas.List.Elements.{All-nil, All-cons, All-head, All-tail}
use Rattle.std.proofs.lemmas.Option.{slice_get_within}
use Rattle.sync_board.specs.Boards.{BoardState}
use Rattle.lb_database.specs.Measuring.{elements}
use Rattle.chares.specs.declared.carried.Carried.TheVariants.{Letter, Element}
use Rattle.chares.specs.Elements.{ElementView, IsHistory}
use Rattle.chares.specs.Steps.{Step}
use Rattle.pe_state.specs.Histories.{HasHistories, IsParcelHistory}
use Rattle.pe_state.specs.Pes.{Item, Parcel, PeView}
use Rattle.round_marks.specs.Agreeing.{Agrees, AgreesParcel, AgreesPe, AgreesWith, DoAllAgree}
use Rattle.round_marks.specs.Marked.{AreMarked}
use Rattle.round_marks.specs.Runs.{AreAllMarked, IsMarked, IsMarkedOn, IsMarkedParcel, IsMarkedPe}
use Rattle.round_marks.proofs.Following.{marked_of}
use Rattle.round_marks.proofs.Own.{marks_own}

-- what follows from two facts of each
all_both : {X : Type 0} (P Q R : X → Type 0) → ((x : X) → P x → Q x → R x) → (xs : List X) → All P xs → All Q xs → All R xs
all_both P Q R f [] p q = All-nil R
all_both P Q R f (x ∷ xs) p q =
    All-cons R x xs (f x (All-head P x xs p) (All-head Q x xs q)) (all_both P Q R f xs (All-tail P x xs p) (All-tail Q x xs q))

-- what holds of each value of a map
each_value : {X Y : Type 0} (P : Y → Type 0) (xs : List (X × Y)) → All P (values_of xs) → All (λ x. P x.1) xs
each_value P [] h = All-nil (λ x. P x.1)
each_value P (x ∷ xs) h = All-cons (λ x. P x.1) x xs (All-head P x.1 (values_of xs) h) (each_value P xs (All-tail P x.1 (values_of xs) h))

at_home : (o : Option ℕ) (P Q : ℕ → Type 0) → ((x : ℕ) → P x → Q x) → IsSomeAnd o P → IsSomeAnd o Q
at_home None P Q f h = h
at_home (Some x) P Q f h = f x h

module _ {C A : Type 0} (step : Step C) (fits : C → Type 0) (pack : C → List ℕ) (opened : List C) (b : BoardState A) (homes : List ℕ)
    (counted : elements b.database ≡ length opened) where
  -- of one element
  element_marked : (place : Option ℕ) (el : ElementView C) → IsHistory step pack opened el → Agrees b homes el.index place el.marks
      → IsMarked b homes el.index place el.marks
  element_marked place el is h =
      let member : el.index < elements b.database = subst (λ (v : ℕ). el.index < v) (sym counted) (slice_get_within opened el.index is.opening is.opens) in
      at_home (slice_get homes el.index) (λ home. AgreesWith b el.index home place el.marks) (λ home. AreMarked b el.index home place el.marks)
      (λ home. marked_of b el.index home place el.journal el.progress el.marks is.in_order (marks_own step pack opened el is) member) h

  parcel_marked : (parcel : Parcel) → IsParcelHistory step fits pack opened parcel → AgreesParcel b homes parcel → IsMarkedParcel b homes parcel
  parcel_marked (Letter l) is h = tt
  parcel_marked (Element p) is h = element_marked None _ is.is_history h

  item_marked : (o : Option Item) → IfSome o (λ x. IsParcelHistory step fits pack opened x.parcel) → IfSome o (λ x. AgreesParcel b homes x.parcel)
      → IfSome o (λ x. IsMarkedParcel b homes x.parcel)
  item_marked None is h = tt
  item_marked (Some x) is h = parcel_marked x.parcel is h

  pe_marked : (pe : PeView C) → HasHistories step fits pack opened pe → AgreesPe b homes pe → IsMarkedPe b homes pe
  pe_marked pe is h =
      record {
        room = all_both (λ x. IsHistory step pack opened x.1) (λ x. Agrees b homes x.1.index (Some pe.me) x.1.marks) (λ x. IsMarkedOn b homes pe.me x.1)
            (λ x. element_marked (Some pe.me) x.1) pe.room (each_value (IsHistory step pack opened) pe.room is.room) h.room;
        hand = item_marked pe.hand is.hand h.hand;
        outbox = all_both (λ x. IsParcelHistory step fits pack opened x.parcel) (λ x. AgreesParcel b homes x.parcel) (λ x. IsMarkedParcel b homes x.parcel)
            (λ x. parcel_marked x.parcel) pe.outbox is.outbox h.outbox;
      }

  -- of all elements of a run
  pub all_marked : (ends : List (PeView C)) (left : List (List Parcel)) → All (HasHistories step fits pack opened) ends
      → All (All (IsParcelHistory step fits pack opened)) left → DoAllAgree b homes ends left → AreAllMarked b homes ends left
  all_marked ends left pes queues h =
      record {
        at_pes = all_both (HasHistories step fits pack opened) (AgreesPe b homes) (IsMarkedPe b homes) pe_marked ends pes h.at_pes;
        in_queues = all_both (All (IsParcelHistory step fits pack opened)) (All (AgreesParcel b homes)) (All (IsMarkedParcel b homes))
            (all_both (IsParcelHistory step fits pack opened) (AgreesParcel b homes) (IsMarkedParcel b homes) parcel_marked) left queues h.in_queues;
      }

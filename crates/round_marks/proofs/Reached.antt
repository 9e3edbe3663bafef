-- The marks of an element, one after the other: each that it reached AtSync is for the round after those before.
use Rattle.std.proofs.Common.{◌≡◌, ◌↔◌, ℕ, ◌+◌, ◌≤◌, ◌==◌, List, [], ◌∷◌, length, count_by, Some, None, nat_eq, refl, ap, ◌∙◌, inl, inr, arith}
use Rattle.std.specs.List.{All, range_with_len}
use Rattle.std.specs.Prelude.{IsTrue}
use Rattle.std.proofs.lemmas.Bool.{cases_lt, eq-eqb, eqb-true}
use Rattle.std.proofs.lemmas.List.Elements.{All-nil, All-cons, All-head, All-tail}
use Rattle.sync_board.specs.Boards.{BoardState, kept_of}
use Rattle.chares.specs.declared.note.Mark.{Mark}
use Rattle.chares.specs.declared.note.Mark.TheVariants.{Synced, Resumed}
use Rattle.chares.specs.declared.note.Note.TheVariants.{Sync, Finish}
use Rattle.round_marks.specs.Marked.{AreSynced, IsSyncMark, IsSyncOf, round_reached, rounds_reached}
use Rattle.round_marks.proofs.Counts.{once, once_at_most, past}

module _ {A : Type 0} (b : BoardState A) (e : ℕ) where
  -- the marks go on so after the element has reached AtSync for this many rounds
  abbrev pub GoesOn : ℕ → List Mark → Type 0
  GoesOn reached [] = length b.rounds ≤ reached
  GoesOn reached (Synced note ∷ marks) =
      IsSyncOf b e note × (round_reached (Synced note) ≡ Some (reached + 1)) × GoesOn (reached + 1) marks
  GoesOn reached (Resumed round pe ∷ marks) = GoesOn reached marks

  -- what that says of all of them together
  pub record GoesOnInOrder (reached : ℕ) (marks : List Mark) : Type 0 where
    pub synced : All (IsSyncMark b e) marks
    pub in_order : rounds_reached marks ≡ range_with_len (reached + 1) (length (rounds_reached marks))
    pub all_decided : length b.rounds ≤ reached + length (rounds_reached marks)

  pub in_order_from : (reached : ℕ) (marks : List Mark) → GoesOn reached marks → GoesOnInOrder reached marks
  in_order_from reached [] h = record { synced = All-nil (IsSyncMark b e); in_order = refl; all_decided = omega arith }
  in_order_from reached (Synced (Sync i round units bytes pe) ∷ marks) h =
      let rest = in_order_from (reached + 1) marks h.2 in
      let next : round ≡ reached + 1 = cc (h.1) in
      record {
        synced = All-cons (IsSyncMark b e) _ _ h.0 rest.synced;
        in_order = let order = rest.in_order in cc;
        all_decided = omega (arith, rest.all_decided);
      }
  in_order_from reached (Synced (Finish i) ∷ marks) h = absurd h.0
  in_order_from reached (Resumed round pe ∷ marks) h =
      let rest = in_order_from reached marks h in
      record {
        synced = All-cons (IsSyncMark b e) _ _ tt rest.synced;
        in_order = rest.in_order;
        all_decided = rest.all_decided;
      }

  pub goes_on_from : (reached : ℕ) (marks : List Mark) → GoesOnInOrder reached marks → GoesOn reached marks
  goes_on_from reached [] h = omega (arith, h.all_decided)
  goes_on_from reached (Synced (Sync i round units bytes pe) ∷ marks) h =
      let order = h.in_order in
      let first : round ≡ reached + 1 = cc in
      let rest : rounds_reached marks ≡ range_with_len (reached + 1 + 1) (length (rounds_reached marks)) = cc in (
        All-head (IsSyncMark b e) _ _ h.synced,
        cc,
        goes_on_from (reached + 1) marks (record {
          synced = All-tail (IsSyncMark b e) _ _ h.synced;
          in_order = rest;
          all_decided = omega (arith, h.all_decided);
        }),
      )
  goes_on_from reached (Synced (Finish i) ∷ marks) h = absurd (All-head (IsSyncMark b e) _ _ h.synced)
  goes_on_from reached (Resumed round pe ∷ marks) h =
      goes_on_from reached marks (record {
        synced = All-tail (IsSyncMark b e) _ _ h.synced;
        in_order = h.in_order;
        all_decided = h.all_decided;
      })

  -- from the first mark on, it says the same as the definition
  pub synced_from : (marks : List Mark) → GoesOn 0 marks → AreSynced b e marks
  synced_from marks h =
      let all = in_order_from 0 marks h in
      record {
        told = all.synced;
        once = λ round low high. ap (count_by (λ q. q == round)) all.in_order ∙ once round 1 (length (rounds_reached marks)) low (omega (arith, all.all_decided));
        once_at_most = rw (all.in_order) (once_at_most (length b.rounds + 1) 1 (length (rounds_reached marks)));
        in_order = all.in_order;
      }

  -- were the rounds that it reached fewer than those decided, the last decided one would not be among them
  all_decided_from : (marks : List Mark) → AreSynced b e marks → length b.rounds ≤ length (rounds_reached marks)
  all_decided_from marks h =
      elim (cases_lt (length (rounds_reached marks)) (length b.rounds)) [
        | inl less ↦
            let never = ap (count_by (λ q. q == length b.rounds)) h.in_order ∙ past (length b.rounds) 1 (length (rounds_reached marks)) (omega arith) in
            absurd (omega (arith, never, h.once (length b.rounds) (omega arith) (omega arith)))
        | inr more ↦ more
      ]

  pub goes_on_from_synced : (marks : List Mark) → AreSynced b e marks → GoesOn 0 marks
  goes_on_from_synced marks h =
      goes_on_from 0 marks (record {
        synced = h.told;
        in_order = h.in_order;
        all_decided = omega (arith, all_decided_from marks h);
      })

  -- a note for a round that is not decided is right where that is the one under way
  pub under_way : (reached n i round units bytes pe : ℕ) → kept_of b.rounds round ≡ None → i ≡ e → round ≡ reached + 1 → n ≡ length b.rounds
      → IsTrue (nat_eq reached n) ↔ (IsSyncOf b e (Sync i round units bytes pe) × (round_reached (Synced (Sync i round units bytes pe)) ≡ Some (reached + 1)))
  under_way reached n i round units bytes pe none own next count =
      let last : IsTrue (nat_eq reached n) → round ≡ length b.rounds + 1 = λ t. omega (arith, eqb-true reached n t) in (
        λ t. ((own, rw none (last t)), ap Some next),
        λ h. let now = rw none at h.0.1 in eq-eqb reached n (omega (arith, now)),
      )

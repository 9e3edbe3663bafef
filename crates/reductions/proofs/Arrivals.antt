-- A part and a result that come keep what holds of every exchange.
use Rattle.std.proofs.Common.{◌≡◌, ◌≢◌, ◌⊎◌, inl, inr, ℕ, suc, ◌+◌, ◌<◌, ◌==◌, List, [], ◌∷◌, ◌++◌, length, ap, ◌∙◌, refl, sym, subst, arith, length-append, Bool, true, false, Option, None, Some, if◌then◌else◌}
use Rattle.std.specs.Prelude.{slice_get}
use Rattle.std.proofs.lemmas.Bool.Decides.{nat_tests}
use Rattle.std.proofs.lemmas.Option.{slice_get_within}
use Rattle.reductions.specs.declared.tree_message.TreeMessage.TheVariants.{User, Part, Whole}
use Rattle.reductions.specs.Exchanges.{Exchange, Member, Way, hears, keeps}
use Rattle.reductions.specs.Nodes.{part_in, with_part, with_waits}
use Rattle.reductions.specs.Trees.{slot}
use Rattle.reductions.proofs.Nodes.{part_first, part_later}
use Rattle.reductions.proofs.Exchanges.{Differs, all_map₂, at_by, get_more}
use Rattle.reductions.proofs.Fairness.{Grows, IsFair, IsMember, IsPart, IsWay, differ, fold_stays, others, part_stays}

-- the part in a slot of a list with one part
one_part : {V : Type 0} (j j2 : ℕ) (v w : V) → part_in j2 ((j, v) ∷ []) ≡ Some w → (j ≡ j2) × (v ≡ w)
one_part j j2 v w e = by (j == j2) refl e
  where
    by : (b : Bool) → (j == j2) ≡ b → (if b then Some v else None) ≡ Some w → (j ≡ j2) × (v ≡ w)
    by true t e = (grind (arith, nat_tests), cc)
    by false t e = cc

no_part : {V : Type 0} (j j2 : ℕ) (v : V) → j2 ≢ j → part_in j2 ((j, v) ∷ []) ≡ None
no_part j j2 v ne = by (j == j2) refl
  where
    by : (b : Bool) → (j == j2) ≡ b → (if b then Some v else None) ≡ None
    by true t = let same : j ≡ j2 = grind (arith, nat_tests) in absurd (ne (sym same))
    by false t = refl

module _ {V : Type 0} (combined : V → V → V) (n : ℕ) (outs : List V) (gone : ℕ → Bool) (x : Exchange V) (fair : IsFair combined n outs gone x) where
  -- ---- a part comes

  module _ (i j : ℕ) (v : V) (before after : List (Way V)) (is : x.ways ≡ before ++ (i, Part j v) ∷ after) where
    abbrev kept : Exchange V
    kept = keeps x i (j, v) (before ++ after)

    abbrev keeper : Member V
    keeper = record { node = with_part (x.members i).node (j, v); gave = (x.members i).gave; got = (x.members i).got }

    letter : IsWay combined n outs gone x (i, Part j v)
    letter = (others combined n outs gone x fair (i, Part j v) before after is).0

    keeper_is : IsMember combined n outs (gone i) keeper
    keeper_is =
        let h : IsMember combined n outs (gone i) (x.members i) = fair.member i letter.0 in
        record { few = h.few; least = h.least; full = h.full; own = h.own; idle = h.idle; busy = h.busy; heard = h.heard; got_few = h.got_few }

    kept_grows : Grows combined n x kept
    kept_grows m k w e = at_by (λ y. slice_get y.gave k ≡ Some w) x.members i keeper m (λ same. subst (λ t. slice_get (x.members t).gave k ≡ Some w) same e) (λ other. e)

    kept_got : (p : ℕ) → (kept.members p).got ≡ (x.members p).got
    kept_got p = at_by (λ y. y.got ≡ (x.members p).got) x.members i keeper p (λ same. ap (λ t. (x.members t).got) (sym same)) (λ other. refl)

    -- a part that is there now was there, or is the one that came
    now_there : (j2 : ℕ) (w : V) (o : Option V) → part_in j2 (x.members i).node.parts ≡ o
        → part_in j2 ((x.members i).node.parts ++ (j, v) ∷ []) ≡ Some w → IsPart combined n outs gone x i j2 w
    now_there j2 w (Some w2) there e =
        let first : part_in j2 ((x.members i).node.parts ++ (j, v) ∷ []) ≡ Some w2 = part_first j2 (x.members i).node.parts ((j, v) ∷ []) w2 there in
        let same : w2 ≡ w = cc in
        fair.held i j2 w letter.0 (there ∙ ap Some same)
    now_there j2 w None there e =
        let same : (j ≡ j2) × (v ≡ w) = one_part j j2 v w (sym (part_later j2 (x.members i).node.parts ((j, v) ∷ []) there) ∙ e) in
        subst (λ t. IsPart combined n outs gone x i t w) same.0 (subst (λ t. IsPart combined n outs gone x i j t) same.1 letter.2)

    kept_held : (p j2 : ℕ) (w : V) → p < n → part_in j2 (kept.members p).node.parts ≡ Some w → IsPart combined n outs gone x p j2 w
    kept_held p j2 w below =
        at_by (λ y. part_in j2 y.node.parts ≡ Some w → IsPart combined n outs gone x p j2 w) x.members i keeper p
        (λ same e. subst (λ t. IsPart combined n outs gone x t j2 w) (sym same) (now_there j2 w (part_in j2 (x.members i).node.parts) refl e))
        (λ other e. fair.held p j2 w below e)

    kept_way : (way : Way V) → IsWay combined n outs gone x way → Differs (i, Part j v) way → IsWay combined n outs gone kept way
    kept_way (p, Part j2 w) is differs = (
      is.0,
      at_by (λ y. part_in j2 y.node.parts ≡ None) x.members i keeper p
          (λ same.
          let there : part_in j2 (x.members i).node.parts ≡ None = subst (λ t. part_in j2 (x.members t).node.parts ≡ None) same is.1 in
          let ne : j2 ≢ j = λ e. differs (ap (λ t. (t, suc j2)) same ∙ ap (λ t. (i, suc t)) e) in
          part_later j2 (x.members i).node.parts ((j, v) ∷ []) there ∙ no_part j j2 v ne)
          (λ other. is.1),
      part_stays combined n outs gone x kept p j2 w kept_grows is.2,
    )
    kept_way (p, Whole w) is differs = (is.0, ap (λ l. slice_get outs (length l)) (kept_got p) ∙ is.1)
    kept_way (p, User none) is differs = is

    pub kept_fair : IsFair combined n outs gone kept
    kept_fair =
        record {
          member = λ m below.
              at_by (IsMember combined n outs (gone m)) x.members i keeper m
              (λ same. subst (λ t. IsMember combined n outs (gone t) keeper) (sym same) keeper_is)
              (λ other. fair.member m below);
          held = λ p j2 w below e. part_stays combined n outs gone x kept p j2 w kept_grows (kept_held p j2 w below e);
          ways = all_map₂ (IsWay combined n outs gone x) (Differs (i, Part j v)) (IsWay combined n outs gone kept) kept_way (before ++ after)
              (others combined n outs gone x fair (i, Part j v) before after is).1 (differ combined n outs gone x fair (i, Part j v) before after is).0;
          distinct = (differ combined n outs gone x fair (i, Part j v) before after is).1;
          closed = fair.closed;
          root = fair.root;
          right = λ k w e. fold_stays combined n x kept k w 0 (slot 0) kept_grows (fair.right k w e);
        }

  -- ---- a result comes

  module _ (i : ℕ) (v : V) (before after : List (Way V)) (is : x.ways ≡ before ++ (i, Whole v) ∷ after) where
    abbrev heard : Exchange V
    heard = hears x i v (before ++ after)

    abbrev hearer : Member V
    hearer = record { node = with_waits (x.members i).node false; gave = (x.members i).gave; got = (x.members i).got ++ v ∷ [] }

    result : IsWay combined n outs gone x (i, Whole v)
    result = (others combined n outs gone x fair (i, Whole v) before after is).0

    h : IsMember combined n outs (gone i) (x.members i)
    h = fair.member i result.0

    behind : length (x.members i).got < length outs
    behind = slice_get_within outs (length (x.members i).got) v result.1

    waited : (b : Bool) → (x.members i).node.waits ≡ b → length (x.members i).gave ≡ length (x.members i).got + 1
    waited true e = h.busy e
    waited false e = let l = h.idle e in absurd (omega (arith, l, behind, h.least))

    hearer_is : IsMember combined n outs (gone i) hearer
    hearer_is =
        let len : length ((x.members i).got ++ v ∷ []) ≡ length (x.members i).got + 1 = length-append (x.members i).got (v ∷ []) in
        record {
          few = h.few;
          least = h.least;
          full = h.full;
          own = h.own;
          idle = λ e. waited (x.members i).node.waits refl ∙ sym len;
          busy = λ e. cc;
          heard = λ k w e. by k w (get_more (x.members i).got v k w e);
          got_few = omega (arith, len, behind);
        }
      where
        by : (k : ℕ) (w : V) → (slice_get (x.members i).got k ≡ Some w) ⊎ ((k ≡ length (x.members i).got) × (w ≡ v)) → slice_get outs k ≡ Some w
        by k w (inl front) = h.heard k w front
        by k w (inr last) = ap (slice_get outs) last.0 ∙ result.1 ∙ ap Some (sym last.1)

    heard_grows : Grows combined n x heard
    heard_grows m k w e = at_by (λ y. slice_get y.gave k ≡ Some w) x.members i hearer m (λ same. subst (λ t. slice_get (x.members t).gave k ≡ Some w) same e) (λ other. e)

    heard_parts : (p : ℕ) → (heard.members p).node.parts ≡ (x.members p).node.parts
    heard_parts p = at_by (λ y. y.node.parts ≡ (x.members p).node.parts) x.members i hearer p (λ same. ap (λ t. (x.members t).node.parts) (sym same)) (λ other. refl)

    heard_way : (way : Way V) → IsWay combined n outs gone x way → Differs (i, Whole v) way → IsWay combined n outs gone heard way
    heard_way (p, Part j w) is differs = (is.0, ap (part_in j) (heard_parts p) ∙ is.1, part_stays combined n outs gone x heard p j w heard_grows is.2)
    heard_way (p, Whole w) is differs = (
      is.0,
      at_by (λ y. slice_get outs (length y.got) ≡ Some w) x.members i hearer p
          (λ same. absurd (differs (ap (λ t. (t, 0)) same)))
          (λ other. is.1),
    )
    heard_way (p, User none) is differs = is

    pub heard_fair : IsFair combined n outs gone heard
    heard_fair =
        record {
          member = λ m below.
              at_by (IsMember combined n outs (gone m)) x.members i hearer m
              (λ same. subst (λ t. IsMember combined n outs (gone t) hearer) (sym same) hearer_is)
              (λ other. fair.member m below);
          held = λ p j w below e. part_stays combined n outs gone x heard p j w heard_grows (fair.held p j w below (ap (part_in j) (sym (heard_parts p)) ∙ e));
          ways = all_map₂ (IsWay combined n outs gone x) (Differs (i, Whole v)) (IsWay combined n outs gone heard) heard_way (before ++ after)
              (others combined n outs gone x fair (i, Whole v) before after is).1 (differ combined n outs gone x fair (i, Whole v) before after is).0;
          distinct = (differ combined n outs gone x fair (i, Whole v) before after is).1;
          closed = fair.closed;
          root = fair.root;
          right = λ k w e. fold_stays combined n x heard k w 0 (slot 0) heard_grows (fair.right k w e);
        }

-- What holds of every exchange: in the reduction that is under way each part is the fold of its subtree, whatever is still contributed.
use Rattle.std.proofs.Common.{◌≡◌, ℕ, ◌+◌, ◌<◌, ◌≤◌, List, [], ◌∷◌, ◌++◌, length, ap, ◌∙◌, refl, sym, subst, arith, length-append, Bool, true, false, None, Some}
use Rattle.std.specs.Prelude.{slice_get}
use Rattle.reductions.specs.declared.tree_message.TreeMessage.TheVariants.{User, Part, Whole}
use Rattle.reductions.specs.Exchanges.{Exchange, Member, Way, gives, opening_exchange}
use Rattle.reductions.specs.Nodes.{part_in, with_own}
use Rattle.reductions.specs.Trees.{child, has_child, slot, tree_fold}
use Rattle.reductions.proofs.Exchanges.{AllOf, AreDistinct, Differs, all_map, all_split, at_by, distinct_split, get_front, get_last}

module _ {V : Type 0} (combined : V → V → V) (n : ℕ) where
  -- values that agree with what was contributed as number k
  abbrev pub Agrees : Exchange V → ℕ → (ℕ → V) → Type 0
  Agrees x k c = (j : ℕ) (w : V) → j < n → slice_get (x.members j).gave k ≡ Some w → w ≡ c j

  abbrev pub IsFold : Exchange V → ℕ → V → ℕ → ℕ → Type 0
  IsFold x k v i s = (c : ℕ → V) → Agrees x k c → v ≡ tree_fold combined n c i s

  -- an element, where these are the results so far: it has contributed to all of these, and perhaps to the next; and then its value is there,
  -- or has gone on
  pub record IsMember (outs : List V) (gone : Bool) (m : Member V) : Type 0 where
    pub few : length m.gave ≤ length outs + 1
    pub least : length outs ≤ length m.gave
    pub full : gone ≡ true → length m.gave ≡ length outs + 1
    pub own : (w : V) → m.node.own ≡ Some w → (slice_get m.gave (length outs) ≡ Some w) × (gone ≡ false)
    pub idle : m.node.waits ≡ false → length m.gave ≡ length m.got
    pub busy : m.node.waits ≡ true → length m.gave ≡ length m.got + 1
    pub heard : (k : ℕ) (v : V) → slice_get m.got k ≡ Some v → slice_get outs k ≡ Some v
    pub got_few : length m.got ≤ length outs

  -- a part of the reduction that is under way, of a child whose value has gone on
  pub record IsPart (outs : List V) (gone : ℕ → Bool) (x : Exchange V) (p j : ℕ) (v : V) : Type 0 where
    pub has : has_child n p j ≡ true
    pub child_gone : gone (child p j) ≡ true
    pub not_gone : gone p ≡ false
    pub fold : IsFold x (length outs) v (child p j) j

  abbrev pub IsWay : List V → (ℕ → Bool) → Exchange V → Way V → Type 0
  IsWay outs gone x (p, Part j v) = (p < n) × (part_in j (x.members p).node.parts ≡ None) × IsPart outs gone x p j v
  IsWay outs gone x (i, Whole v) = (i < n) × (slice_get outs (length (x.members i).got) ≡ Some v)
  IsWay outs gone x (i, User none) = ⊥

  pub record IsFair (outs : List V) (gone : ℕ → Bool) (x : Exchange V) : Type 0 where
    pub member : (i : ℕ) → i < n → IsMember outs (gone i) (x.members i)
    pub held : (p j : ℕ) (v : V) → p < n → part_in j (x.members p).node.parts ≡ Some v → IsPart outs gone x p j v
    pub ways : AllOf (IsWay outs gone x) x.ways
    pub distinct : AreDistinct x.ways
    pub closed : (p j : ℕ) → p < n → gone p ≡ true → has_child n p j ≡ true → gone (child p j) ≡ true
    pub root : gone 0 ≡ false
    pub right : (k : ℕ) (v : V) → slice_get outs k ≡ Some v → IsFold x k v 0 (slot 0)

  -- ---- as it opens

  pub opening_fair : IsFair [] (λ _. false) opening_exchange
  opening_fair =
      record {
        member = λ i within. record {
          few = omega arith;
          least = omega arith;
          full = λ e. cc;
          own = λ w e. cc;
          idle = λ e. refl;
          busy = λ e. cc;
          heard = λ k v e. cc;
          got_few = omega arith;
        };
        held = λ p j v within e. cc;
        ways = tt;
        distinct = tt;
        closed = λ p j within e has. cc;
        root = refl;
        right = λ k v e. cc;
      }

  -- ---- what was contributed stays

  abbrev pub Grows : Exchange V → Exchange V → Type 0
  Grows x y = (j k : ℕ) (w : V) → slice_get (x.members j).gave k ≡ Some w → slice_get (y.members j).gave k ≡ Some w

  pub fold_stays : (x y : Exchange V) (k : ℕ) (v : V) (i s : ℕ) → Grows x y → IsFold x k v i s → IsFold y k v i s
  fold_stays x y k v i s grows fold c agrees = fold c (λ j w within e. agrees j w within (grows j k w e))

  pub part_stays : (outs : List V) (gone : ℕ → Bool) (x y : Exchange V) (p j : ℕ) (v : V) → Grows x y → IsPart outs gone x p j v → IsPart outs gone y p j v
  part_stays outs gone x y p j v grows part =
      record { has = part.has; child_gone = part.child_gone; not_gone = part.not_gone; fold = fold_stays x y (length outs) v (child p j) j grows part.fold }

  -- ---- an element contributes

  module _ (outs : List V) (gone : ℕ → Bool) (x : Exchange V) (fair : IsFair outs gone x) where
    module _ (i : ℕ) (value : V) (within : i < n) (idle : (x.members i).node.waits ≡ false) where
      abbrev given : Exchange V
      given = gives x i value

      h : IsMember outs (gone i) (x.members i)
      h = fair.member i within

      so_far : length (x.members i).gave ≡ length outs
      so_far = let e = h.idle idle in omega (arith, e, h.got_few, h.least)

      not_yet : (b : Bool) → gone i ≡ b → gone i ≡ false
      not_yet true e = let l = h.full e in absurd (omega (arith, l, so_far))
      not_yet false e = e

      more : length ((x.members i).gave ++ value ∷ []) ≡ length outs + 1
      more = omega (arith, length-append (x.members i).gave (value ∷ []), so_far)

      giver : IsMember outs (gone i) (record { node = with_own (x.members i).node value; gave = (x.members i).gave ++ value ∷ []; got = (x.members i).got })
      giver =
          record {
            few = omega (arith, more);
            least = omega (arith, more);
            full = λ e. more;
            own = λ w e. (ap (slice_get ((x.members i).gave ++ value ∷ [])) (sym so_far) ∙ get_last (x.members i).gave value ∙ e, not_yet (gone i) refl);
            idle = λ e. cc;
            busy = λ e. let l = h.idle idle in omega (arith, more, so_far, l);
            heard = h.heard;
            got_few = h.got_few;
          }

      given_grows : Grows x given
      given_grows j k w e =
          at_by (λ y. slice_get y.gave k ≡ Some w) x.members i
          (record { node = with_own (x.members i).node value; gave = (x.members i).gave ++ value ∷ []; got = (x.members i).got }) j
          (λ same. get_front (x.members i).gave (value ∷ []) k w (subst (λ t. slice_get (x.members t).gave k ≡ Some w) same e))
          (λ other. e)

      given_parts : (p : ℕ) → (given.members p).node.parts ≡ (x.members p).node.parts
      given_parts p =
          at_by (λ y. y.node.parts ≡ (x.members p).node.parts) x.members i
          (record { node = with_own (x.members i).node value; gave = (x.members i).gave ++ value ∷ []; got = (x.members i).got }) p
          (λ same. ap (λ t. (x.members t).node.parts) (sym same)) (λ other. refl)

      given_got : (p : ℕ) → (given.members p).got ≡ (x.members p).got
      given_got p =
          at_by (λ y. y.got ≡ (x.members p).got) x.members i
          (record { node = with_own (x.members i).node value; gave = (x.members i).gave ++ value ∷ []; got = (x.members i).got }) p
          (λ same. ap (λ t. (x.members t).got) (sym same)) (λ other. refl)

      given_way : (way : Way V) → IsWay outs gone x way → IsWay outs gone given way
      given_way (p, Part j v) is = (is.0, ap (part_in j) (given_parts p) ∙ is.1, part_stays outs gone x given p j v given_grows is.2)
      given_way (p, Whole v) is = (is.0, ap (λ l. slice_get outs (length l)) (given_got p) ∙ is.1)
      given_way (p, User none) is = is

      pub given_fair : IsFair outs gone given
      given_fair =
          record {
            member = λ j below.
                at_by (IsMember outs (gone j)) x.members i (record { node = with_own (x.members i).node value; gave = (x.members i).gave ++ value ∷ []; got = (x.members i).got }) j
                (λ same. subst (λ t. IsMember outs (gone t) (record
                { node = with_own (x.members i).node value; gave = (x.members i).gave ++ value ∷ []; got = (x.members i).got })) (sym same) giver)
                (λ other. fair.member j below);
            held = λ p j v below e. part_stays outs gone x given p j v given_grows (fair.held p j v below (ap (part_in j) (sym (given_parts p)) ∙ e));
            ways = all_map (IsWay outs gone x) (IsWay outs gone given) given_way x.ways fair.ways;
            distinct = fair.distinct;
            closed = fair.closed;
            root = fair.root;
            right = λ k v e. fold_stays x given k v 0 (slot 0) given_grows (fair.right k v e);
          }

    -- ---- something is lost

    module _ (way : Way V) (before after : List (Way V)) (is : x.ways ≡ before ++ way ∷ after) where
      pub others : IsWay outs gone x way × AllOf (IsWay outs gone x) (before ++ after)
      others = all_split (IsWay outs gone x) before way after (subst (AllOf (IsWay outs gone x)) is fair.ways)

      pub differ : AllOf (Differs way) (before ++ after) × AreDistinct (before ++ after)
      differ = distinct_split before way after (subst AreDistinct is fair.distinct)

      lost_way : (other : Way V) → IsWay outs gone x other → IsWay outs gone (record x { ways = before ++ after }) other
      lost_way (p, Part j v) is = (is.0, is.1, part_stays outs gone x (record x { ways = before ++ after }) p j v (λ j k w e. e) is.2)
      lost_way (p, Whole v) is = is
      lost_way (p, User none) is = is

      pub lost_fair : IsFair outs gone (record x { ways = before ++ after })
      lost_fair =
          record {
            member = fair.member;
            held = λ p j v below e. part_stays outs gone x (record x { ways = before ++ after }) p j v (λ j k w e. e) (fair.held p j v below e);
            ways = all_map (IsWay outs gone x) (IsWay outs gone (record x { ways = before ++ after })) lost_way (before ++ after) others.1;
            distinct = differ.1;
            closed = fair.closed;
            root = fair.root;
            right = λ k v e. fold_stays x (record x { ways = before ++ after }) k v 0 (slot 0) (λ j k w e. e) (fair.right k v e);
          }

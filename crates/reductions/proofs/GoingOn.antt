-- A value that goes on keeps what holds of every exchange: from an element it is a part for its parent, and from element 0 the next result.
use Rattle.std.proofs.Common.{◌≡◌, ◌≢◌, ◌⊎◌, inl, inr, ℕ, zero, suc, ◌+◌, ◌<◌, ◌≤◌, ◌==◌, List, [], ◌∷◌, ◌++◌, length, ap, ◌∙◌, refl, sym, subst, arith, length-append, Bool, true, false, Option, None, Some, if◌then◌else◌}
use Rattle.std.specs.Prelude.{slice_get}
use Rattle.std.proofs.lemmas.Bool.Decides.{nat_tests}
use Rattle.std.proofs.lemmas.Option.{slice_get_within}
use Rattle.std.proofs.lemmas.Nat.{trailing_le}
use Rattle.chare_index.specs.declared.limits.TheConstants.Limits.{ELEMENTS}
use Rattle.messages.specs.Messages.{to_all}
use Rattle.reductions.specs.declared.tree_message.TreeMessage.TheVariants.{User, Part, Whole}
use Rattle.reductions.specs.Exchanges.{Exchange, Member, Way, sends_on, set_at}
use Rattle.reductions.specs.Nodes.{emptied, gathered, joined, part_in}
use Rattle.reductions.specs.Stepping.{passed_on}
use Rattle.reductions.specs.Trees.{SLOTS, child, has_child, parent, slot}
use Rattle.reductions.proofs.Exchanges.{Differs, all_join, all_map, all_none, at_by, distinct_more, get_front, get_last, get_more, same_place, set_here, set_there, wholes, wholes_all, wholes_distinct}
use Rattle.reductions.proofs.Fairness.{Grows, IsFair, IsFold, IsMember, IsPart, IsWay, fold_stays}
use Rattle.reductions.proofs.Trees.{child_below, goes_on_right, parents, some_joined}

-- ---- what is gathered is whole

module _ {V : Type 0} (combined : V → V → V) (n i : ℕ) (own : Option V) (parts : List (ℕ × V)) where
  abbrev IsWholeTo : ℕ → Type 0
  IsWholeTo s = ((w : V) × (own ≡ Some w)) × ((j : ℕ) → j < s → has_child n i j ≡ true → (w : V) × (part_in j parts ≡ Some w))

  one_slot : (s : ℕ) (b : Bool) (v : V) → has_child n i s ≡ b → ((w : V) → gathered combined n i own parts s ≡ Some w → IsWholeTo s)
      → (if b then joined combined (gathered combined n i own parts s) (part_in s parts) else gathered combined n i own parts s) ≡ Some v → IsWholeTo (suc s)
  one_slot s true v test ih e =
      let found = some_joined combined (gathered combined n i own parts s) (part_in s parts) v e in
      let before : IsWholeTo s = ih found.0 found.2 in
      (before.0, λ j below has. by j has (same_slot j below))
    where
      same_slot : (j : ℕ) → j < suc s → (j ≡ s) ⊎ (j < s)
      same_slot j below = grind arith

      by : (j : ℕ) → has_child n i j ≡ true → (j ≡ s) ⊎ (j < s) → (w : V) × (part_in j parts ≡ Some w)
      by j has (inl same) =
          let found = some_joined combined (gathered combined n i own parts s) (part_in s parts) v e in
          (found.1, ap (λ t. part_in t parts) same ∙ found.3)
      by j has (inr below) =
          let found = some_joined combined (gathered combined n i own parts s) (part_in s parts) v e in
          (ih found.0 found.2).1 j below has
  one_slot s false v test ih e =
      let before : IsWholeTo s = ih v e in
      (before.0, λ j below has. by j has (same_slot j below))
    where
      same_slot : (j : ℕ) → j < suc s → (j ≡ s) ⊎ (j < s)
      same_slot j below = grind arith

      by : (j : ℕ) → has_child n i j ≡ true → (j ≡ s) ⊎ (j < s) → (w : V) × (part_in j parts ≡ Some w)
      by j has (inl same) = let e2 : has_child n i s ≡ true = ap (has_child n i) (sym same) ∙ has in cc
      by j has (inr below) = (ih v e).1 j below has

  whole_to : (s : ℕ) (v : V) → gathered combined n i own parts s ≡ Some v → IsWholeTo s
  unfolding gathered
  whole_to zero v e = ((v, e), λ j below has. absurd (omega arith))
  whole_to (suc s) v e = one_slot s (has_child n i s) v refl (λ w. whole_to s w) e

  pub is_whole : (v : V) → gathered combined n i own parts SLOTS ≡ Some v → ((w : V) × (own ≡ Some w)) × ((j : ℕ) → has_child n i j ≡ true → (w : V) × (part_in j parts ≡ Some w))
  is_whole v e =
      let all : IsWholeTo SLOTS = whole_to SLOTS v e in
      (all.0, λ j has. all.1 j (let below = (child_below n i j has).0 in let least = trailing_le 16 i in omega (arith, below, least)) has)

module _ {V : Type 0} (combined : V → V → V) (n : ℕ) (few : n ≤ ELEMENTS) (outs : List V) (gone : ℕ → Bool) (x : Exchange V) (fair : IsFair combined n outs gone x) where
  -- ---- from element i, whose value is whole

  module _ (i : ℕ) (within : i < n) (value : V) (whole : gathered combined n i (x.members i).node.own (x.members i).node.parts SLOTS ≡ Some value) where
    abbrev sender : Member V
    sender = record { node = emptied (x.members i).node; gave = (x.members i).gave; got = (x.members i).got }

    h : IsMember combined n outs (gone i) (x.members i)
    h = fair.member i within

    parts_there : ((w : V) × ((x.members i).node.own ≡ Some w)) × ((j : ℕ) → has_child n i j ≡ true → (w : V) × (part_in j (x.members i).node.parts ≡ Some w))
    parts_there = is_whole combined n i (x.members i).node.own (x.members i).node.parts value whole

    own_is : (slice_get (x.members i).gave (length outs) ≡ Some parts_there.0.0) × (gone i ≡ false)
    own_is = h.own parts_there.0.0 parts_there.0.1

    full : length (x.members i).gave ≡ length outs + 1
    full = let l = slice_get_within (x.members i).gave (length outs) parts_there.0.0 own_is.0 in omega (arith, l, h.few)

    child_part : (j : ℕ) (has : has_child n i j ≡ true) → IsPart combined n outs gone x i j (parts_there.1 j has).0
    child_part j has = fair.held i j (parts_there.1 j has).0 within (parts_there.1 j has).1

    -- it is the fold of the subtree
    fold : IsFold combined n x (length outs) value i (slot i)
    fold c agrees =
        let same : parts_there.0.0 ≡ c i = agrees i parts_there.0.0 within own_is.0 in
        let own : (x.members i).node.own ≡ Some (c i) = parts_there.0.1 ∙ ap Some same in
        goes_on_right combined n i c (x.members i).node.parts value
        (λ j w has e. (fair.held i j w within e).fold c agrees)
        (subst (λ t. gathered combined n i t (x.members i).node.parts SLOTS ≡ Some value) own whole)

    -- no part is on its way to it
    none_comes : (j : ℕ) (v : V) → IsWay combined n outs gone x (i, Part j v) → ⊥
    none_comes j v is = let there = parts_there.1 j is.2.has in let none : Some there.0 ≡ None = sym there.1 ∙ is.1 in cc

    -- ---- to its parent

    module _ (positive : 0 < i) where
      abbrev gone_now : ℕ → Bool
      gone_now = set_at gone i true

      abbrev passed : Exchange V
      passed = record { members = set_at x.members i sender; ways = x.ways ++ (parent i, Part (slot i) value) ∷ [] }

      up : (has_child n (parent i) (slot i) ≡ true) × (child (parent i) (slot i) ≡ i) × (parent i < i)
      up = parents n i positive within few

      still_gone : (k : ℕ) → gone k ≡ true → gone_now k ≡ true
      still_gone k e = at_by (λ b. b ≡ true) gone i true k (λ same. refl) (λ other. e)

      now_gone : gone_now i ≡ true
      now_gone = set_here gone i true

      not_now : (k : ℕ) → k ≢ i → gone k ≡ false → gone_now k ≡ false
      not_now k ne e = set_there gone i true k ne ∙ e

      passed_grows : Grows combined n x passed
      passed_grows m k w e = at_by (λ y. slice_get y.gave k ≡ Some w) x.members i sender m (λ same. subst (λ t. slice_get (x.members t).gave k ≡ Some w) same e) (λ other. e)

      passed_got : (p : ℕ) → (passed.members p).got ≡ (x.members p).got
      passed_got p = at_by (λ y. y.got ≡ (x.members p).got) x.members i sender p (λ same. ap (λ t. (x.members t).got) (sym same)) (λ other. refl)

      passed_part : (p j : ℕ) (v : V) → p ≢ i → IsPart combined n outs gone x p j v → IsPart combined n outs gone_now passed p j v
      passed_part p j v ne part =
          record {
            has = part.has;
            child_gone = still_gone (child p j) part.child_gone;
            not_gone = not_now p ne part.not_gone;
            fold = fold_stays combined n x passed (length outs) v (child p j) j passed_grows part.fold;
          }

      sender_is : IsMember combined n outs true sender
      sender_is =
          record { few = h.few; least = h.least; full = λ e. full; own = λ w e. cc; idle = h.idle; busy = h.busy; heard = h.heard; got_few = h.got_few }

      passed_member : (m : ℕ) → m < n → IsMember combined n outs (gone_now m) (passed.members m)
      passed_member m below = by (same_place m i)
        where
          by : (m ≡ i) ⊎ (m ≢ i) → IsMember combined n outs (gone_now m) (passed.members m)
          by (inl same) =
              subst (λ t. IsMember combined n outs (gone_now t) (passed.members t)) (sym same)
              (subst (λ b. IsMember combined n outs b (passed.members i)) (sym now_gone)
              (subst (λ y. IsMember combined n outs true y) (sym (set_here x.members i sender)) sender_is))
          by (inr other) =
              subst (λ b. IsMember combined n outs b (passed.members m)) (sym (set_there gone i true m other))
              (subst (λ y. IsMember combined n outs (gone m) y) (sym (set_there x.members i sender m other)) (fair.member m below))

      passed_held : (p j : ℕ) (v : V) → p < n → part_in j (passed.members p).node.parts ≡ Some v → IsPart combined n outs gone_now passed p j v
      passed_held p j v below =
          at_by (λ y. part_in j y.node.parts ≡ Some v → IsPart combined n outs gone_now passed p j v) x.members i sender p
          (λ same e. cc)
          (λ other e. passed_part p j v other (fair.held p j v below e))

      passed_way : (way : Way V) → IsWay combined n outs gone x way → IsWay combined n outs gone_now passed way
      passed_way (p, Part j v) is =
          let other : p ≢ i = λ e. none_comes j v (subst (λ t. IsWay combined n outs gone x (t, Part j v)) e is) in
          (is.0, ap (λ y. part_in j y.node.parts) (set_there x.members i sender p other) ∙ is.1, passed_part p j v other is.2)
      passed_way (p, Whole v) is = (is.0, ap (λ l. slice_get outs (length l)) (passed_got p) ∙ is.1)
      passed_way (p, User none) is = is

      above : parent i ≢ i
      above e = let l = up.2 in absurd (omega (arith, l, e))

      parent_waits : (b : Bool) → gone (parent i) ≡ b → gone (parent i) ≡ false
      parent_waits true e =
          let there : gone (child (parent i) (slot i)) ≡ true = fair.closed (parent i) (slot i) (let l = up.2 in omega (arith, l, within)) e up.0 in
          let here : gone i ≡ true = ap gone (sym up.1) ∙ there in
          let not : gone i ≡ false = own_is.1 in
          cc
      parent_waits false e = e

      slot_free : (o : Option V) → part_in (slot i) (x.members (parent i)).node.parts ≡ o → part_in (slot i) (x.members (parent i)).node.parts ≡ None
      slot_free (Some w) e =
          let part = fair.held (parent i) (slot i) w (let l = up.2 in omega (arith, l, within)) e in
          let here : gone i ≡ true = ap gone (sym up.1) ∙ part.child_gone in
          let not : gone i ≡ false = own_is.1 in
          cc
      slot_free None e = e

      new_way : IsWay combined n outs gone_now passed (parent i, Part (slot i) value)
      new_way = (
        let l = up.2 in omega (arith, l, within),
        ap (λ y. part_in (slot i) y.node.parts) (set_there x.members i sender (parent i) above) ∙ slot_free (part_in (slot i) (x.members (parent i)).node.parts) refl,
        record {
          has = up.0;
          child_gone = ap gone_now up.1 ∙ now_gone;
          not_gone = not_now (parent i) above (parent_waits (gone (parent i)) refl);
          fold = subst (λ t. IsFold combined n passed (length outs) value t (slot i)) (sym up.1) (fold_stays combined n x passed (length outs) value i (slot i) passed_grows fold);
        },
      )

      -- no other part is for that slot
      alone : (way : Way V) → IsWay combined n outs gone x way → Differs (parent i, Part (slot i) value) way
      alone (p, Part j v) is e =
          let to : p ≡ parent i = ap (λ k. k.0) e in
          let in_slot : suc j ≡ suc (slot i) = ap (λ k. k.1) e in
          let same : j ≡ slot i = omega (arith, in_slot) in
          let here : gone i ≡ true = ap gone (sym up.1) ∙ ap (λ t. gone (child t (slot i))) (sym to) ∙ ap (λ t. gone (child p t)) (sym same) ∙ is.2.child_gone in
          let not : gone i ≡ false = own_is.1 in
          cc
      alone (p, Whole v) is e = let none : 0 ≡ suc (slot i) = ap (λ k. k.1) e in absurd (omega (arith, none))
      alone (p, User none) is e = is

      passed_closed : (p j : ℕ) → p < n → gone_now p ≡ true → has_child n p j ≡ true → gone_now (child p j) ≡ true
      passed_closed p j below =
          at_by (λ b. b ≡ true → has_child n p j ≡ true → gone_now (child p j) ≡ true) gone i true p
          (λ same e has. still_gone (child p j) (subst (λ t. gone (child t j) ≡ true) (sym same) (child_part j (subst (λ t. has_child n t j ≡ true) same has)).child_gone))
          (λ other e has. still_gone (child p j) (fair.closed p j below e has))

      pub passed_fair : IsFair combined n outs gone_now passed
      passed_fair =
          record {
            member = passed_member;
            held = passed_held;
            ways = all_join (IsWay combined n outs gone_now passed) x.ways ((parent i, Part (slot i) value) ∷ [])
                (all_map (IsWay combined n outs gone x) (IsWay combined n outs gone_now passed) passed_way x.ways fair.ways) (new_way, tt);
            distinct = distinct_more x.ways (parent i, Part (slot i) value)
                (all_map (IsWay combined n outs gone x) (Differs (parent i, Part (slot i) value)) alone x.ways fair.ways) fair.distinct;
            closed = passed_closed;
            root = not_now 0 (λ e. absurd (omega (arith, e, positive))) fair.root;
            right = λ k v e. fold_stays combined n x passed k v 0 (slot 0) passed_grows (fair.right k v e);
          }

    -- ---- from element 0 to all

    module _ (root : i ≡ 0) where
      up_of : (k : ℕ) → 0 < k → k < n → (has_child n (parent k) (slot k) ≡ true) × (child (parent k) (slot k) ≡ k) × (parent k < k)
      up_of k positive within_k = parents n k positive within_k few

      gone_by : (k : ℕ) → 0 < k → k < n → (parent k ≢ 0 → gone (parent k) ≡ true) → (parent k ≡ 0) ⊎ (parent k ≢ 0) → gone k ≡ true
      gone_by k positive within_k above (inl zero_is) =
          let up_k = up_of k positive within_k in
          let same : parent k ≡ i = zero_is ∙ sym root in
          let has : has_child n i (slot k) ≡ true = subst (λ t. has_child n t (slot k) ≡ true) same up_k.0 in
          ap gone (sym up_k.1) ∙ ap (λ t. gone (child t (slot k))) same ∙ (child_part (slot k) has).child_gone
      gone_by k positive within_k above (inr other) =
          let up_k = up_of k positive within_k in
          let less = up_k.2 in
          ap gone (sym up_k.1) ∙ fair.closed (parent k) (slot k) (omega (arith, less, within_k)) (above other) up_k.0

      gone_to : (m k : ℕ) → k < m → 0 < k → k < n → gone k ≡ true
      gone_to zero k below positive within_k = absurd (omega arith)
      gone_to (suc m) k below positive within_k =
          gone_by k positive within_k
          (λ other.
          let less = (up_of k positive within_k).2 in
          gone_to m (parent k) (omega (arith, less, below)) (omega (arith, other)) (omega (arith, less, within_k)))
          (same_place (parent k) 0)

      all_gone : (k : ℕ) → k ≢ i → k < n → gone k ≡ true
      all_gone k other within_k = gone_to (suc k) k (omega arith) (omega (arith, other, root)) within_k

      all_gave : (k : ℕ) → k < n → length (x.members k).gave ≡ length outs + 1
      all_gave k within_k = by (same_place k i)
        where
          by : (k ≡ i) ⊎ (k ≢ i) → length (x.members k).gave ≡ length outs + 1
          by (inl same) = ap (λ t. length (x.members t).gave) same ∙ full
          by (inr other) = (fair.member k within_k).full (all_gone k other within_k)

      all_got : (k : ℕ) → k < n → length (x.members k).got ≡ length outs
      all_got k within_k = by (x.members k).node.waits refl
        where
          m : IsMember combined n outs (gone k) (x.members k)
          m = fair.member k within_k

          by : (b : Bool) → (x.members k).node.waits ≡ b → length (x.members k).got ≡ length outs
          by true e = let l = m.busy e in let a = all_gave k within_k in omega (arith, l, a)
          by false e = let l = m.idle e in let a = all_gave k within_k in let c = m.got_few in absurd (omega (arith, l, a, c))

      nothing_comes : (way : Way V) → IsWay combined n outs gone x way → ⊥
      nothing_comes (p, Part j v) is = by (same_place p i)
        where
          by : (p ≡ i) ⊎ (p ≢ i) → ⊥
          by (inl same) = none_comes j v (subst (λ t. IsWay combined n outs gone x (t, Part j v)) same is)
          by (inr other) = let e = all_gone p other is.0 in let not = is.2.not_gone in cc
      nothing_comes (p, Whole v) is =
          let l = slice_get_within outs (length (x.members p).got) v is.1 in
          let a = all_got p is.0 in
          omega (arith, l, a)
      nothing_comes (p, User none) is = is

      pub no_ways : x.ways ≡ []
      no_ways = all_none (IsWay combined n outs gone x) nothing_comes x.ways fair.ways

      abbrev done : Exchange V
      done = record { members = set_at x.members i sender; ways = wholes 0 n value }

      abbrev outs_now : List V
      outs_now = outs ++ value ∷ []

      none_gone : ℕ → Bool
      none_gone k = false

      one_more : length outs_now ≡ length outs + 1
      one_more = length-append outs (value ∷ [])

      member_now : (g : Bool) (m : Member V) → IsMember combined n outs g m → length m.gave ≡ length outs + 1 → ((w : V) → m.node.own ≡ Some w → ⊥)
          → IsMember combined n outs_now false m
      member_now g m is gave none =
          record {
            few = omega (arith, gave, one_more);
            least = omega (arith, gave, one_more);
            full = λ e. cc;
            own = λ w e. absurd (none w e);
            idle = is.idle;
            busy = is.busy;
            heard = λ k v e. get_front outs (value ∷ []) k v (is.heard k v e);
            got_few = let l = is.got_few in omega (arith, l, one_more);
          }

      sender_is_too : IsMember combined n outs (gone i) sender
      sender_is_too =
          record { few = h.few; least = h.least; full = h.full; own = λ w e. cc; idle = h.idle; busy = h.busy; heard = h.heard; got_few = h.got_few }

      done_member : (m : ℕ) → m < n → IsMember combined n outs_now false (done.members m)
      done_member m below =
          at_by (IsMember combined n outs_now false) x.members i sender m
          (λ same. member_now (gone i) sender sender_is_too full (λ w e. cc))
          (λ other.
          member_now (gone m) (x.members m) (fair.member m below) (all_gave m below)
          (λ w e. let gone_m = all_gone m other below in let not = ((fair.member m below).own w e).1 in cc))

      done_grows : Grows combined n x done
      done_grows m k w e = at_by (λ y. slice_get y.gave k ≡ Some w) x.members i sender m (λ same. subst (λ t. slice_get (x.members t).gave k ≡ Some w) same e) (λ other. e)

      done_got : (p : ℕ) → (done.members p).got ≡ (x.members p).got
      done_got p = at_by (λ y. y.got ≡ (x.members p).got) x.members i sender p (λ same. ap (λ t. (x.members t).got) (sym same)) (λ other. refl)

      done_held : (p j : ℕ) (v : V) → p < n → part_in j (done.members p).node.parts ≡ Some v → ⊥
      done_held p j v below =
          at_by (λ y. part_in j y.node.parts ≡ Some v → ⊥) x.members i sender p
          (λ same e. cc)
          (λ other e. let gone_p = all_gone p other below in let not = (fair.held p j v below e).not_gone in cc)

      done_way : (k : ℕ) → k < n → IsWay combined n outs_now none_gone done (k, Whole value)
      done_way k below = (below, ap (λ l. slice_get outs_now (length l)) (done_got k) ∙ ap (slice_get outs_now) (all_got k below) ∙ get_last outs value)

      result_fold : IsFold combined n done (length outs) value 0 (slot 0)
      result_fold = fold_stays combined n x done (length outs) value 0 (slot 0) done_grows (subst (λ t. IsFold combined n x (length outs) value t (slot t)) root fold)

      done_right : (k : ℕ) (v : V) → (slice_get outs k ≡ Some v) ⊎ ((k ≡ length outs) × (v ≡ value)) → IsFold combined n done k v 0 (slot 0)
      done_right k v (inl front) = fold_stays combined n x done k v 0 (slot 0) done_grows (fair.right k v front)
      done_right k v (inr last) = subst (λ t. IsFold combined n done t v 0 (slot 0)) (sym last.0)
          (subst (λ t. IsFold combined n done (length outs) t 0 (slot 0)) (sym last.1) result_fold)

      pub done_fair : IsFair combined n outs_now (λ k. false) done
      done_fair =
          record {
            member = done_member;
            held = λ p j v below e. absurd (done_held p j v below e);
            ways = wholes_all (IsWay combined n outs_now (λ k. false) done) 0 n value (λ k below. (omega (arith, below), (done_way k (omega (arith, below))).1));
            distinct = wholes_distinct 0 n value;
            closed = λ p j below e has. cc;
            root = refl;
            right = λ k v e. done_right k v (get_more outs value k v e);
          }

  -- ---- whichever it is

  abbrev pub SomeFair : Exchange V → Type 0
  SomeFair y = (o : List V) × (g : ℕ → Bool) × IsFair combined n o g y

  on_by : (i : ℕ) → i < n → (value : Option V) → gathered combined n i (x.members i).node.own (x.members i).node.parts SLOTS ≡ value → SomeFair (sends_on n x i value)
  on_by i within None e = (outs, gone, fair)
  on_by i within (Some value) e = by (same_place i 0)
    where
      by : (i ≡ 0) ⊎ (i ≢ 0) → SomeFair (sends_on n x i (Some value))
      by (inl root) =
          let test : (i == 0) ≡ true = grind (arith, nat_tests) in
          let to : wholes 0 n value ≡ x.ways ++ passed_on n i (Some value) =
          ap (λ b. if b then wholes 0 n value else (parent i, Part (slot i) value) ∷ []) (sym test)
          ∙ ap (λ w. w ++ passed_on n i (Some value)) (sym (no_ways i within value e root)) in (
            outs ++ value ∷ [],
            (λ k. false),
            subst (λ w. IsFair combined n (outs ++ value ∷ []) (λ k. false)
                (record { members = set_at x.members i (sender i within value e); ways = w })) to (done_fair i within value e root),
          )
      by (inr other) =
          let test : (i == 0) ≡ false = grind (arith, nat_tests) in
          let to : x.ways ++ (parent i, Part (slot i) value) ∷ [] ≡ x.ways ++ passed_on n i (Some value) =
          ap (λ b. x.ways ++ (if b then to_all n (Whole value) else (parent i, Part (slot i) value) ∷ [])) (sym test) in (
            outs,
            set_at gone i true,
            subst (λ w. IsFair combined n outs (set_at gone i true)
                (record { members = set_at x.members i (sender i within value e); ways = w })) to (passed_fair i within value e (omega (arith, other))),
          )

  pub on_fair : (i : ℕ) → i < n → SomeFair (sends_on n x i (gathered combined n i (x.members i).node.own (x.members i).node.parts SLOTS))
  on_fair i within = on_by i within (gathered combined n i (x.members i).node.own (x.members i).node.parts SLOTS) refl

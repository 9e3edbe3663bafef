-- The sums of the elements are where the elements are: place by place in both lists.
use Rattle.std.proofs.Common.{◌≡◌, ℕ, ◌+◌, ◌==◌, List, [], ◌∷◌, ◌++◌, All, IfSome, map, if◌then◌else◌, Option, None, Some, refl, sym, ◌∙◌, ap}
use Rattle.std.specs.List.{AllZip, flat_map}
use Rattle.std.specs.Map.{values_of}
use Rattle.std.specs.Option.{option_to_list}
use Rattle.std.proofs.lemmas.List.Elements.{All-head, All-tail}
use Rattle.std.proofs.lemmas.List.Sums.{sum_by-cons}
use Rattle.chares.specs.declared.carried.Carried.TheVariants.{Letter, Element}
use Rattle.pe_state.specs.Pes.{PeView, Parcel, Item}
use Rattle.rts_core.specs.Accounts.{times}
use Rattle.rts_core.specs.Places.{Life, items_at, life_of, lives, lives_at, lives_in}
use Rattle.rts_run.specs.Outcomes.{OutcomeView}
use Rattle.run_account.specs.RunAccounts.{left_world}
use Rattle.tally.specs.Tallies.{TallyView}
use Rattle.run_text.specs.Sums.{all_sums, standing_sum, sums_at, sums_in}

module _ {X Y : Type 0} (R : X → Y → Type 0) where
  zip_append : (us ws : List X) (vs xs : List Y) → AllZip R us vs → AllZip R ws xs → AllZip R (us ++ ws) (vs ++ xs)
  zip_append [] ws [] xs first second = second
  zip_append [] ws (v ∷ vs) xs first second = absurd first
  zip_append (u ∷ us) ws [] xs first second = absurd first
  zip_append (u ∷ us) ws (v ∷ vs) xs first second = (first.0, zip_append us ws vs xs first.1 second)

  zip_flat : {Z : Type 0} (f : Z → List X) (g : Z → List Y) (zs : List Z) → All (λ z. AllZip R (f z) (g z)) zs → AllZip R (flat_map f zs) (flat_map g zs)
  zip_flat f g [] each = tt
  zip_flat f g (z ∷ zs) each =
      zip_append (f z) (flat_map f zs) (g z) (flat_map g zs) (All-head (λ v. AllZip R (f v) (g v)) z zs each) (zip_flat f g zs (All-tail (λ v. AllZip R (f v) (g v)) z zs each))

  zip_map : {Z : Type 0} (f : Z → X) (g : Z → Y) (zs : List Z) → All (λ z. R (f z) (g z)) zs → AllZip R (map f zs) (map g zs)
  zip_map f g [] each = tt
  zip_map f g (z ∷ zs) each = (
    All-head (λ v. R (f v) (g v)) z zs each,
    zip_map f g zs (All-tail (λ v. R (f v) (g v)) z zs each),
  )

-- what is said of the life of an element and of its sum
abbrev pub Tie : Type 1
Tie = Life → ℕ × ℕ → Type 0

-- what is said of the element of a parcel
abbrev pub TiesIn : Tie → Parcel → Type 0
TiesIn R parcel = AllZip R (lives_in parcel) (sums_in parcel)

-- and of all elements of a PE
pub record TiesAt (R : Tie) (pe : PeView TallyView) : Type 0 where
  pub hand : IfSome pe.hand (λ x. TiesIn R x.parcel)
  pub outbox : All (λ x. TiesIn R x.parcel) pe.outbox
  pub room : All (λ el. R (life_of el) (standing_sum el)) (values_of pe.room)

module _ (R : Tie) where
  -- of those in the hand and the outbox of a PE
  zip_items : (hand : Option Item) (outbox : List Item) → IfSome hand (λ x. TiesIn R x.parcel) → All (λ x. TiesIn R x.parcel) outbox
      → AllZip R (flat_map (λ x. lives_in x.parcel) (option_to_list hand ++ outbox)) (flat_map (λ x. sums_in x.parcel) (option_to_list hand ++ outbox))
  zip_items None outbox tied each = zip_flat R (λ x. lives_in x.parcel) (λ x. sums_in x.parcel) outbox each
  zip_items (Some x) outbox tied each =
      let rest = zip_flat R (λ (y : Item). lives_in y.parcel) (λ (y : Item). sums_in y.parcel) outbox each in
      zip_append R (lives_in x.parcel) (flat_map (λ y. lives_in y.parcel) outbox) (sums_in x.parcel) (flat_map (λ y. sums_in y.parcel) outbox) tied rest

  -- of all elements of a PE
  pub zip_pe : (pe : PeView TallyView) → TiesAt R pe → AllZip R (lives_at pe) (sums_at pe)
  zip_pe pe ties =
      let lives_here = flat_map (λ (x : Item). lives_in x.parcel) (items_at pe) in
      let sums_here = flat_map (λ (x : Item). sums_in x.parcel) (items_at pe) in
      let items = zip_items pe.hand pe.outbox ties.hand ties.outbox in
      let room = zip_map R life_of standing_sum (values_of pe.room) ties.room in
      zip_append R lives_here (map life_of (values_of pe.room)) sums_here (map standing_sum (values_of pe.room)) items room

  -- of all elements that a run left
  pub zip_all : {A : Type 0} (o : OutcomeView TallyView A) → All (λ pe. TiesAt R pe) o.ends → All (All (TiesIn R)) o.left → AllZip R (lives (left_world o.ends o.left)) (all_sums o)
  zip_all o at_pes in_queues =
      zip_append R (flat_map lives_at o.ends) (flat_map (flat_map lives_in) o.left) (flat_map sums_at o.ends) (flat_map (flat_map sums_in) o.left)
      (zip_flat R lives_at sums_at o.ends (λ k d inside. zip_pe _ (at_pes k d inside)))
      (zip_flat R (flat_map lives_in) (flat_map sums_in) o.left (λ k d inside. zip_flat R lives_in sums_in _ (in_queues k d inside)))

-- both have the same index
abbrev pub SameIndex : Tie
SameIndex life sum = life.0 ≡ sum.0

same_in : (parcel : Parcel) → TiesIn SameIndex parcel
same_in (Letter l) = tt
same_in (Element p) = (refl, tt)

same_hand : (hand : Option Item) → IfSome hand (λ x. TiesIn SameIndex x.parcel)
same_hand None = tt
same_hand (Some x) = same_in x.parcel

same_at : (pe : PeView TallyView) → TiesAt SameIndex pe
same_at pe = record {
  hand = same_hand pe.hand;
  outbox = λ k d inside. same_in _;
  room = λ k d inside. refl;
}

pub same_all : {A : Type 0} (o : OutcomeView TallyView A) → AllZip SameIndex (lives (left_world o.ends o.left)) (all_sums o)
same_all o = zip_all SameIndex o (λ k d inside. same_at _) (λ k d inside. λ j e within. same_in _)

-- so an element is named as often in both lists
pub named_alike : (e : ℕ) (us : List Life) (vs : List (ℕ × ℕ)) → AllZip SameIndex us vs → times (λ x. x.0 == e) us ≡ times (λ x. x.0 == e) vs
named_alike e [] [] same = refl
named_alike e [] (v ∷ vs) same = absurd same
named_alike e (u ∷ us) [] same = absurd same
named_alike e (u ∷ us) (v ∷ vs) same =
    sum_by-cons (λ (x : Life). if x.0 == e then 1 else 0) u us
    ∙ ap (λ n. (if u.0 == e then 1 else 0) + n) (named_alike e us vs same.1)
    ∙ ap (λ i. (if i == e then 1 else 0) + times (λ (x : ℕ × ℕ). x.0 == e) vs) same.0
    ∙ sym (sum_by-cons (λ (x : ℕ × ℕ). if x.0 == e then 1 else 0) v vs)

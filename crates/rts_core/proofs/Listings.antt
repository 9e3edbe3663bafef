-- The lists of a world's letters and elements weigh what the world does.
use Rattle.std.proofs.Common.{◌≡◌, ℕ, ◌+◌, List, [], ◌∷◌, ◌++◌, map, Option, Some, None, sum_by, arith, refl, ◌∙◌}
use Rattle.std.specs.List.{flat_map}
use Rattle.std.specs.Map.{values_of}
use Rattle.std.specs.Option.{option_to_list}
use Rattle.std.proofs.lemmas.List.Sums.{sum_by-cons, sum_by-append}
use Rattle.chares.specs.declared.carried.Carried.TheVariants.{Letter, Element}
use Rattle.chares.specs.Elements.{ElementView}
use Rattle.pe_state.specs.Pes.{PeView, Parcel, Item}
use Rattle.rts_core.specs.Places.{Life, life_of, letters_in, lives_in, letters_at, lives_at, letters, lives, letters_of_life, journaled}
use Rattle.rts_core.specs.Worlds.{WorldView}
use Rattle.rts_core.proofs.Moves.{Work, before, after}
use Rattle.rts_core.proofs.Weights.{Weight, weigh, of_parcel, of_item, of_hand, of_room, of_pe, of_queue, of_world, sum_by-flat_map, sum_by-map, sum_by-same}

abbrev pub no_life : Life → ℕ
no_life x = 0

abbrev pub no_letter : Weight
no_letter id to body = 0

pub before_none : {C : Type 0} (work : Option (Work C)) → before no_life work ≡ 0
before_none None = refl
before_none (Some x) = refl

pub after_none : {C : Type 0} (work : Option (Work C)) → after no_life work ≡ 0
after_none None = refl
after_none (Some x) = refl

pub sum_zero : {X : Type 0} (xs : List X) → sum_by (λ x. 0) xs ≡ 0
sum_zero [] = refl
sum_zero {X} (x ∷ xs) =
    let a : sum_by (λ (y : X). 0) (x ∷ xs) ≡ 0 + sum_by (λ (y : X). 0) xs = sum_by-cons (λ (y : X). 0) x xs in
    omega (arith, a, sum_zero xs)

pub parcel_letters : (g : Weight) (parcel : Parcel) → sum_by (weigh g) (letters_in parcel) ≡ of_parcel g no_life parcel
parcel_letters g (Letter l) = omega (arith, sum_by-cons (weigh g) l [])
parcel_letters g (Element p) = refl

pub parcel_lives : (k : Life → ℕ) (parcel : Parcel) → sum_by k (lives_in parcel) ≡ of_parcel no_letter k parcel
parcel_lives k (Letter l) = refl
parcel_lives k (Element p) = omega (arith, sum_by-cons k (p.index, p.journal) [])

pub hand_list : (g : Weight) (k : Life → ℕ) (hand : Option Item) → sum_by (of_item g k) (option_to_list hand) ≡ of_hand g k hand
hand_list g k None = refl
hand_list g k (Some x) = omega (arith, sum_by-cons (of_item g k) x [])

pub pe_letters : {C : Type 0} (g : Weight) (pe : PeView C) → sum_by (weigh g) (letters_at pe) ≡ of_pe g no_life pe
pe_letters g pe =
    let items : List Item = option_to_list pe.hand ++ pe.outbox in
    let a : sum_by (weigh g) (letters_at pe) ≡ sum_by (weigh g) (flat_map (λ x. letters_in x.parcel) items) + sum_by (weigh g)
    pe.shelf = sum_by-append (weigh g) (flat_map (λ x. letters_in x.parcel) items) pe.shelf in
    let b : sum_by (weigh g) (flat_map (λ x. letters_in x.parcel) items) ≡ sum_by (λ x. sum_by (weigh g) (letters_in x.parcel))
    items = sum_by-flat_map (weigh g) (λ (x : Item). letters_in x.parcel) items in
    let c : sum_by (λ x. sum_by (weigh g) (letters_in x.parcel)) items ≡ sum_by (of_item g no_life) items = sum_by-same
    (λ (x : Item). sum_by (weigh g) (letters_in x.parcel)) (of_item g no_life) (λ x. parcel_letters g x.parcel) items in
    let d : sum_by (of_item g no_life) items ≡ sum_by (of_item g no_life) (option_to_list pe.hand) + sum_by (of_item g no_life)
    pe.outbox = sum_by-append (of_item g no_life) (option_to_list pe.hand) pe.outbox in
    let e = hand_list g no_life pe.hand in
    let f : of_room g no_life pe.room ≡ 0 = sum_zero (values_of pe.room) in
    omega (arith, a, b, c, d, e, f)

pub pe_lives : {C : Type 0} (k : Life → ℕ) (pe : PeView C) → sum_by k (lives_at pe) ≡ of_pe no_letter k pe
pe_lives {C} k pe =
    let items : List Item = option_to_list pe.hand ++ pe.outbox in
    let here : List Life = map life_of (values_of pe.room) in
    let a : sum_by k (lives_at pe) ≡ sum_by k (flat_map (λ x. lives_in x.parcel) items) + sum_by k here = sum_by-append k (flat_map (λ x. lives_in x.parcel) items) here in
    let b : sum_by k (flat_map (λ x. lives_in x.parcel) items) ≡ sum_by (λ x. sum_by k (lives_in x.parcel)) items = sum_by-flat_map k (λ (x : Item). lives_in x.parcel) items in
    let c : sum_by (λ x. sum_by k (lives_in x.parcel)) items ≡ sum_by (of_item no_letter k) items = sum_by-same
    (λ (x : Item). sum_by k (lives_in x.parcel)) (of_item no_letter k) (λ x. parcel_lives k x.parcel) items in
    let d : sum_by (of_item no_letter k) items ≡ sum_by (of_item no_letter k) (option_to_list pe.hand) + sum_by (of_item no_letter k)
    pe.outbox = sum_by-append (of_item no_letter k) (option_to_list pe.hand) pe.outbox in
    let e = hand_list no_letter k pe.hand in
    let f : sum_by (weigh no_letter) pe.shelf ≡ 0 = sum_zero pe.shelf in
    let m : sum_by k here ≡ of_room no_letter k pe.room = sum_by-map k (λ (el : ElementView C). life_of el) (values_of pe.room) in
    omega (arith, a, b, c, d, e, f, m)

pub queue_letters : (g : Weight) (queue : List Parcel) → sum_by (weigh g) (flat_map letters_in queue) ≡ of_queue g no_life queue
queue_letters g queue = sum_by-flat_map (weigh g) letters_in queue ∙ sum_by-same (λ x. sum_by (weigh g) (letters_in x)) (of_parcel g no_life) (parcel_letters g) queue

pub queue_lives : (k : Life → ℕ) (queue : List Parcel) → sum_by k (flat_map lives_in queue) ≡ of_queue no_letter k queue
queue_lives k queue = sum_by-flat_map k lives_in queue ∙ sum_by-same (λ x. sum_by k (lives_in x)) (of_parcel no_letter k) (parcel_lives k) queue

pub world_letters : {C A : Type 0} (g : Weight) (w : WorldView C A) → sum_by (weigh g) (letters w) ≡ of_world g no_life w
world_letters {C} g w =
    let a : sum_by (weigh g) (letters w) ≡ sum_by (weigh g) (flat_map letters_at w.pes) + sum_by (weigh g)
    (flat_map (flat_map letters_in) w.queues) = sum_by-append (weigh g) (flat_map letters_at w.pes) (flat_map (flat_map letters_in) w.queues) in
    let b : sum_by (weigh g) (flat_map letters_at w.pes) ≡ sum_by (of_pe g no_life) w.pes = sum_by-flat_map (weigh g)
    (λ (pe : PeView C). letters_at pe) w.pes ∙ sum_by-same (λ (pe : PeView C). sum_by (weigh g) (letters_at pe)) (of_pe g no_life) (pe_letters g) w.pes in
    let c : sum_by (weigh g) (flat_map (flat_map letters_in) w.queues) ≡ sum_by (of_queue g no_life) w.queues = sum_by-flat_map (weigh g)
    (flat_map letters_in) w.queues ∙ sum_by-same (λ q. sum_by (weigh g) (flat_map letters_in q)) (of_queue g no_life) (queue_letters g) w.queues in
    omega (arith, a, b, c)

pub world_lives : {C A : Type 0} (k : Life → ℕ) (w : WorldView C A) → sum_by k (lives w) ≡ of_world no_letter k w
world_lives {C} k w =
    let a : sum_by k (lives w) ≡ sum_by k (flat_map lives_at w.pes) + sum_by k (flat_map (flat_map lives_in) w.queues) = sum_by-append k
    (flat_map lives_at w.pes) (flat_map (flat_map lives_in) w.queues) in
    let b : sum_by k (flat_map lives_at w.pes) ≡ sum_by (of_pe no_letter k) w.pes = sum_by-flat_map k (λ (pe : PeView C). lives_at pe) w.pes
    ∙ sum_by-same (λ (pe : PeView C). sum_by k (lives_at pe)) (of_pe no_letter k) (pe_lives k) w.pes in
    let c : sum_by k (flat_map (flat_map lives_in) w.queues) ≡ sum_by (of_queue no_letter k) w.queues = sum_by-flat_map k
    (flat_map lives_in) w.queues ∙ sum_by-same (λ q. sum_by k (flat_map lives_in q)) (of_queue no_letter k) (queue_lives k) w.queues in
    omega (arith, a, b, c)

-- the letters in journals weigh what the journals do
pub world_journals : {C A : Type 0} (g : Weight) (w : WorldView C A) → sum_by (weigh g) (journaled w) ≡ of_world no_letter (λ x. sum_by (weigh g) (letters_of_life x)) w
world_journals g w = sum_by-flat_map (weigh g) letters_of_life (lives w) ∙ world_lives (λ x. sum_by (weigh g) (letters_of_life x)) w

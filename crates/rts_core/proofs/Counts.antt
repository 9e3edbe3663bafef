-- How many letters there are, counted PE by PE and queue by queue: at one index of the list, and after it.
use Rattle.std.proofs.Common.{◌≡◌, ℕ, ◌+◌, ◌<◌, ◌≤◌, List, [], ◌∷◌, ◌++◌, length, drop, get_or, sum_by, arith, refl, sym, ◌∙◌, ap}
use Rattle.std.specs.List.{flat_map}
use Rattle.std.proofs.lemmas.Grind.{flat_map-append}
use Rattle.std.proofs.lemmas.List.{drop_more, at_drop_all, length-append}
use Rattle.std.proofs.lemmas.List.Sums.{sum_by-cons}
use Rattle.std.specs.Option.{option_to_list}
use Rattle.chares.specs.declared.carried.Carried.TheVariants.{Letter, Element}
use Rattle.chares.specs.Letters.{LetterView}
use Rattle.pe_state.specs.Pes.{PeView, Parcel, Item}
use Rattle.rts_core.specs.Accounts.{posted_count, executed_count, held_count, IsCounted}
use Rattle.rts_core.specs.Places.{letters_in, letters_at}
use Rattle.rts_core.specs.Worlds.{WorldView}

pub rest_at : {X : Type 0} (xs : List X) (i : ℕ) (x : X) → i < length xs → x ≡ get_or xs i x → drop i xs ≡ x ∷ drop (i + 1) xs
rest_at {X} xs i x inside is = drop_more xs i x inside ∙ ap (λ (v : X). v ∷ drop (i + 1) xs) (sym is)

pub length_rest : {X Y : Type 0} (h : X → List Y) (xs : List X) (i : ℕ) (x : X) → i < length xs → x ≡ get_or xs i x
    → length (flat_map h (drop i xs)) ≡ length (h x) + length (flat_map h (drop (i + 1) xs))
length_rest {X} h xs i x inside is = ap (λ (v : List X). length (flat_map h v)) (rest_at xs i x inside is) ∙ length-append (h x) (flat_map h (drop (i + 1) xs))

module _ {C : Type 0} (pes : List (PeView C)) (i : ℕ) where
  pub posted_rest : (pe : PeView C) → i < length pes → pe ≡ get_or pes i pe → sum_by (λ x. x.count) (drop i pes) ≡ pe.count + sum_by (λ x. x.count) (drop (i + 1) pes)
  posted_rest pe inside is = ap (sum_by (λ (x : PeView C). x.count)) (rest_at pes i pe inside is) ∙ sum_by-cons (λ (x : PeView C). x.count) pe (drop (i + 1) pes)

  pub posted_end : length pes ≤ i → sum_by (λ x. x.count) (drop i pes) ≡ 0
  posted_end past = at_drop_all (sum_by (λ (x : PeView C). x.count)) pes i past

  pub held_rest : (pe : PeView C) → i < length pes → pe ≡ get_or pes i pe
      → length (flat_map letters_at (drop i pes)) ≡ length (letters_at pe) + length (flat_map letters_at (drop (i + 1) pes))
  held_rest pe inside is = length_rest (λ (x : PeView C). letters_at x) pes i pe inside is

  pub held_end : length pes ≤ i → length (flat_map letters_at (drop i pes)) ≡ 0
  held_end past = at_drop_all (λ (v : List (PeView C)). length (flat_map letters_at v)) pes i past

pub queued_rest : (queues : List (List Parcel)) (i : ℕ) (queue : List Parcel) → i < length queues → queue ≡ get_or queues i queue
    → length (flat_map (flat_map letters_in) (drop i queues)) ≡ length (flat_map letters_in queue) + length (flat_map (flat_map letters_in) (drop (i + 1) queues))
queued_rest queues i queue inside is = length_rest (flat_map letters_in) queues i queue inside is

pub queued_end : (queues : List (List Parcel)) (i : ℕ) → length queues ≤ i → length (flat_map (flat_map letters_in) (drop i queues)) ≡ 0
queued_end queues i past = at_drop_all (λ (v : List (List Parcel)). length (flat_map (flat_map letters_in) v)) queues i past

-- the letters among parcels, and among those that are addressed
pub among_rest : (parcels : List Parcel) (i : ℕ) (parcel : Parcel) → i < length parcels → parcel ≡ get_or parcels i parcel
    → length (flat_map letters_in (drop i parcels)) ≡ length (letters_in parcel) + length (flat_map letters_in (drop (i + 1) parcels))
among_rest parcels i parcel inside is = length_rest letters_in parcels i parcel inside is

pub among_end : (parcels : List Parcel) (i : ℕ) → length parcels ≤ i → length (flat_map letters_in (drop i parcels)) ≡ 0
among_end parcels i past = at_drop_all (λ (v : List Parcel). length (flat_map letters_in v)) parcels i past

pub addressed_rest : (items : List Item) (i : ℕ) (item : Item) → i < length items → item ≡ get_or items i item
    → length (flat_map (λ x. letters_in x.parcel) (drop i items)) ≡ length (letters_in item.parcel) + length (flat_map (λ x. letters_in x.parcel) (drop (i + 1) items))
addressed_rest items i item inside is = length_rest (λ (x : Item). letters_in x.parcel) items i item inside is

pub addressed_end : (items : List Item) (i : ℕ) → length items ≤ i → length (flat_map (λ x. letters_in x.parcel) (drop i items)) ≡ 0
addressed_end items i past = at_drop_all (λ (v : List Item). length (flat_map (λ (x : Item). letters_in x.parcel) v)) items i past

-- an outbox in two parts
pub outbox_parts : (front back items outbox : List Item) → front ++ back ≡ items → items ≡ outbox
    → length (flat_map (λ x. letters_in x.parcel) outbox) ≡ length (flat_map (λ x. letters_in x.parcel) front) + length (flat_map (λ x. letters_in x.parcel) back)
outbox_parts front back items outbox whole is =
    let letters : Item → List LetterView = λ x. letters_in x.parcel in
    ap (λ (v : List Item). length (flat_map letters v)) (sym (whole ∙ is))
    ∙ (ap length (flat_map-append letters front back) ∙ length-append (flat_map letters front) (flat_map letters back))

-- a queue in two parts
pub queue_parts : (front back items queue : List Parcel) → front ++ back ≡ items → items ≡ queue
    → length (flat_map letters_in queue) ≡ length (flat_map letters_in front) + length (flat_map letters_in back)
queue_parts front back items queue whole is =
    ap (λ (v : List Parcel). length (flat_map letters_in v)) (sym (whole ∙ is))
    ∙ (ap length (flat_map-append letters_in front back) ∙ length-append (flat_map letters_in front) (flat_map letters_in back))

abbrev pub letter_of : Item → List LetterView
letter_of x = letters_in x.parcel

-- what a PE holds, in its parts
pub hand_one : (x : Item) → length (flat_map (λ y. letters_in y.parcel) (x ∷ [])) ≡ length (letters_in x.parcel)
hand_one x = by x.parcel
  where
    by : (parcel : Parcel) → length (letters_in parcel ++ []) ≡ length (letters_in parcel)
    by (Letter l) = refl
    by (Element p) = refl

pub parts : {C : Type 0} (pe : PeView C)
    → length (letters_at pe) ≡ length (flat_map (λ x. letters_in x.parcel) (option_to_list pe.hand)) + length (flat_map (λ x. letters_in x.parcel) pe.outbox) + length pe.shelf
parts pe =
    let a : length (letters_at pe) ≡ length (flat_map letter_of (option_to_list pe.hand ++ pe.outbox)) + length pe.shelf = length-append
    (flat_map letter_of (option_to_list pe.hand ++ pe.outbox)) pe.shelf in
    let b : length (flat_map letter_of (option_to_list pe.hand ++ pe.outbox)) ≡ length
    (flat_map letter_of (option_to_list pe.hand)) + length (flat_map letter_of pe.outbox) = ap length
    (flat_map-append letter_of (option_to_list pe.hand) pe.outbox)
    ∙ length-append (flat_map letter_of (option_to_list pe.hand)) (flat_map letter_of pe.outbox) in
    omega (arith, a, b)

-- what a world holds, in its parts, and what its PEs have posted
module _ {C A : Type 0} (w : WorldView C A) (pes : List (PeView C)) (queues : List (List Parcel)) (p : pes ≡ w.pes) (q : queues ≡ w.queues) where
  pub held_parts : held_count w ≡ length (flat_map letters_at pes) + length (flat_map (flat_map letters_in) queues)
  held_parts =
      let a : held_count w ≡ length (flat_map letters_at w.pes) + length (flat_map (flat_map letters_in) w.queues) = length-append
      (flat_map letters_at w.pes) (flat_map (flat_map letters_in) w.queues) in
      rw (p, q) a

  pub posted_parts : sum_by (λ pe. pe.count) pes ≡ posted_count w
  posted_parts = ap (sum_by (λ (pe : PeView C). pe.count)) p

  pub all_parts : IsCounted w → sum_by (λ pe. pe.count) pes ≡ executed_count w + (length (flat_map letters_at pes) + length (flat_map (flat_map letters_in) queues))
  all_parts counted = omega (arith, posted_parts, counted, held_parts)

-- The local account of one PE is kept by each of its calls. A refused call changes nothing, and so keeps it too.
use Rattle.std.proofs.Common.{◌≡◌, ℕ, zero, suc, ◌+◌, List, [], ◌∷◌, ◌++◌, length, map, Option, Some, None, sum_by, arith, refl, sym, ◌∙◌, ap, subst, length-append}
use Rattle.std.specs.List.{flat_map, range_with_len}
use Rattle.std.proofs.lemmas.List.{map-append}
use Rattle.std.proofs.lemmas.List.Sums.{sum_by-append}
use Rattle.std.proofs.lemmas.Grind.{flat_map-append}
use Rattle.chares.specs.declared.trace_entry.TraceEntry.{TraceEntry}
use Rattle.chares.specs.Letters.{LetterView}
use Rattle.chares.specs.Steps.{Step}
use Rattle.pe_state.specs.Pes.{PeView, Parcel}
use Rattle.rts_core.specs.Ledgers.{Ledger, entered_in, all_letters_in, all_letters_at, AddsUp}
use Rattle.rts_core.specs.Places.{Life, letters_in, lives_in, letters_at, lives_at, letters_of_life}
use Rattle.rts_core.proofs.Weights.{Weight, weigh, of_parcel, of_pe, of_queue, sum_by-flat_map, sum_by-same, sum_by-both}
use Rattle.rts_core.proofs.Moves.{Work, numbered, work_letters, work_sends, before, after, posted, Moved}
use Rattle.rts_core.proofs.Listings.{no_life, no_letter, sum_zero, before_none, after_none, parcel_letters, parcel_lives, pe_letters, pe_lives}
use Rattle.rts_core.proofs.Sent.{journal_more}

abbrev pub in_journal : Weight → Life → ℕ
in_journal g x = sum_by (weigh g) (letters_of_life x)

pub work_journal : {C : Type 0} (g : Weight) (work : Option (Work C)) → after (in_journal g) work ≡ before (in_journal g) work + sum_by (weigh g) (work_letters work)
work_journal g None = refl
work_journal g (Some x) = journal_more (weigh g) x.0.index x.0.journal x.1

pub pe_all : {C : Type 0} (g : Weight) (pe : PeView C) → sum_by (weigh g) (all_letters_at pe) ≡ of_pe g no_life pe + of_pe no_letter (in_journal g) pe
pe_all g pe =
    let a : sum_by (weigh g) (letters_at pe ++ flat_map letters_of_life (lives_at pe)) ≡ sum_by (weigh g) (letters_at pe) + sum_by (weigh g)
    (flat_map letters_of_life (lives_at pe)) = sum_by-append (weigh g) (letters_at pe) (flat_map letters_of_life (lives_at pe)) in
    let b = pe_letters g pe in
    let c : sum_by (weigh g) (flat_map letters_of_life (lives_at pe)) ≡ of_pe no_letter (in_journal g) pe = sum_by-flat_map (weigh g)
    letters_of_life (lives_at pe) ∙ pe_lives (in_journal g) pe in
    omega (arith, a, b, c)

pub parcel_all : (g : Weight) (parcel : Parcel) → sum_by (weigh g) (all_letters_in parcel) ≡ of_parcel g no_life parcel + of_parcel no_letter (in_journal g) parcel
parcel_all g parcel =
    let a : sum_by (weigh g) (letters_in parcel ++ flat_map letters_of_life (lives_in parcel)) ≡ sum_by (weigh g)
    (letters_in parcel) + sum_by (weigh g) (flat_map letters_of_life (lives_in parcel)) = sum_by-append (weigh g) (letters_in parcel)
    (flat_map letters_of_life (lives_in parcel)) in
    let b = parcel_letters g parcel in
    let c : sum_by (weigh g) (flat_map letters_of_life (lives_in parcel)) ≡ of_parcel no_letter (in_journal g) parcel = sum_by-flat_map
    (weigh g) letters_of_life (lives_in parcel) ∙ parcel_lives (in_journal g) parcel in
    omega (arith, a, b, c)

pub parcels_all : (g : Weight) (parcels : List Parcel) → sum_by (weigh g) (flat_map all_letters_in parcels) ≡ of_queue g no_life parcels + of_queue no_letter (in_journal g) parcels
parcels_all g parcels =
    sum_by-flat_map (weigh g) all_letters_in parcels
    ∙ (sum_by-same (λ p. sum_by (weigh g) (all_letters_in p)) (λ p. of_parcel g no_life p + of_parcel no_letter (in_journal g) p) (parcel_all g) parcels
    ∙ sum_by-both (of_parcel g no_life) (of_parcel no_letter (in_journal g)) parcels)

pub joined_all : (g : Weight) (xs ys : List Parcel)
    → sum_by (weigh g) (flat_map all_letters_in (xs ++ ys)) ≡ sum_by (weigh g) (flat_map all_letters_in xs) + sum_by (weigh g) (flat_map all_letters_in ys)
joined_all g xs ys = ap (sum_by (weigh g)) (flat_map-append all_letters_in xs ys) ∙ sum_by-append (weigh g) (flat_map all_letters_in xs) (flat_map all_letters_in ys)

-- ---- numbers

pub range_split : (a n m : ℕ) → range_with_len a (n + m) ≡ range_with_len a n ++ range_with_len (a + n) m
range_split a zero m =
    let e : zero + m ≡ m = omega arith in
    let f : a + zero ≡ a = omega arith in
    ap (range_with_len a) e ∙ sym (ap (λ (v : ℕ). range_with_len v m) f)
range_split a (suc n) m =
    let e : suc n + m ≡ suc (n + m) = omega arith in
    let f : (a + 1) + n ≡ a + suc n = omega arith in
    ap (range_with_len a) e
    ∙ (ap (λ (v : List ℕ). a ∷ v) (range_split (a + 1) n m)
    ∙ ap (λ (v : ℕ). a ∷ (range_with_len (a + 1) n ++ range_with_len v m)) f)

pub numbered_ids : (me count : ℕ) (ss : List (ℕ × List ℕ)) → map (λ l. l.id) (numbered me count ss) ≡ map (λ k. (me, k)) (range_with_len count (length ss))
numbered_ids me count [] = refl
numbered_ids me count (s ∷ ss) = ap (λ (v : List (ℕ × ℕ)). (me, count) ∷ v) (numbered_ids me (count + 1) ss)

-- as many letters as are sent
pub numbered_length : (me count : ℕ) (ss : List (ℕ × List ℕ)) → length (numbered me count ss) ≡ length ss
numbered_length me count [] = refl
numbered_length me count (s ∷ ss) = ap suc (numbered_length me (count + 1) ss)

-- numbers go on from the count
pub ids_join : (me first count : ℕ) (old : List LetterView) (ss : List (ℕ × List ℕ)) → count ≡ first + length old
    → map (λ l. l.id) old ≡ map (λ k. (me, k)) (range_with_len first (length old))
    → map (λ l. l.id) (old ++ numbered me count ss) ≡ map (λ k. (me, k)) (range_with_len first (length (old ++ numbered me count ss)))
ids_join me first count old ss from h =
    let n : length (old ++ numbered me count ss) ≡ length old + length ss = length-append old (numbered me count ss)
    ∙ ap (λ (v : ℕ). length old + v) (numbered_length me count ss) in
    let d : range_with_len first (length old + length ss) ≡ range_with_len first (length old)
    ++ range_with_len (first + length old) (length ss) = range_split first (length old) (length ss) in
    rw (n, d, sym from) (rw (map-append, h, numbered_ids me count ss)
    (sym (map-append (λ (k : ℕ). (me, k)) (range_with_len first (length old)) (range_with_len count (length ss)))))

module _ {C : Type 0} (step : Step C) where
  -- a step of the PE keeps the account
  pub balance_moved : (start pe pe' : PeView C) (rs : List TraceEntry) (work : Option (Work C)) (came gone : List Parcel) (ledger : Ledger)
      → Moved step pe pe' rs work came gone → AddsUp start pe ledger → AddsUp start pe' (entered_in ledger came gone (posted step pe work))
  balance_moved start pe pe' rs work came gone ledger m h =
      record {
        conserved = λ g.
            let a = m.weighs g no_life in
            let b = m.weighs no_letter (in_journal g) in
            let c : after (in_journal g) work ≡ before (in_journal g) work + sum_by (weigh g) (work_letters work) = work_journal g work in
            let d : sum_by (weigh g) (all_letters_at pe) + sum_by (weigh g) (flat_map all_letters_in ledger.gone) ≡ sum_by (weigh g)
            (all_letters_at start) + sum_by (weigh g) (flat_map all_letters_in ledger.came) + sum_by (weigh g) ledger.posted = h.conserved g in
            let e = pe_all g pe in
            let f = pe_all g pe' in
            let i = parcels_all g came in
            let j = parcels_all g gone in
            let k = joined_all g ledger.came came in
            let l = joined_all g ledger.gone gone in
            let o = sum_by-append (weigh g) ledger.posted (posted step pe work) in
            let z : sum_by (weigh no_letter) (posted step pe work) ≡ 0 = sum_zero (posted step pe work) in
            let y : sum_by (weigh no_letter) (work_letters work) ≡ 0 = sum_zero (work_letters work) in
            omega (arith, a, b, c, d, e, f, i, j, k, l, o, z, y, before_none work, after_none work);
        counted =
            let a = length-append ledger.posted (posted step pe work) in
            let b : length (posted step pe work) ≡ length (work_sends step pe.n work) = numbered_length pe.me pe.count (work_sends step pe.n work) in
            omega (arith, m.counted, h.counted, a, b);
        numbered =
            subst (λ (v : ℕ). map (λ l. l.id) (ledger.posted ++ posted step pe work) ≡ map (λ k. (v, k))
            (range_with_len start.count (length (ledger.posted ++ posted step pe work)))) (sym m.same_me)
            (ids_join pe.me start.count pe.count ledger.posted (work_sends step pe.n work) h.counted h.numbered);
      }

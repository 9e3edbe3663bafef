-- What follows for the sums where every element of a run of tallies is what its journal says.
use Rattle.std.proofs.Common.{◌≡◌, ◌≢◌, ◌⊎◌, inl, inr, ℕ, ◌<◌, ◌^◌, ◌==◌, List, [], ◌∷◌, IfSome, length, map, slice_get, true, false, Option, None, Some, arith, ap, sym, ◌∙◌, refl}
use Rattle.std.specs.List.{AllZip}
use Rattle.std.specs.Map.{lookup}
use Rattle.std.proofs.lemmas.Bool.Decides.{eqb_tells}
use Rattle.std.proofs.lemmas.Map.Entries.{lookup_head, lookup_tail}
use Rattle.chares.specs.declared.carried.Carried.TheVariants.{Letter, Element}
use Rattle.chares.specs.Elements.{ElementView, PackedView, IsHistory, IsPackedHistory, lived, opening_element, ran, unpacked}
use Rattle.chares.specs.Letters.{Done}
use Rattle.chares.specs.Steps.{Step}
use Rattle.pe_state.specs.Histories.{HasHistories, IsParcelHistory}
use Rattle.pe_state.specs.Pes.{PeView, Parcel, Item}
use Rattle.rts_core.specs.Accounts.{times}
use Rattle.rts_core.specs.Histories.{AreHistories}
use Rattle.rts_core.specs.Places.{Life, life_of, lives}
use Rattle.rts_run.specs.Outcomes.{OutcomeView}
use Rattle.run_account.specs.RunAccounts.{left_world}
use Rattle.tally.specs.Tallies.{TallyView, tally_pack, tally_step}
use Rattle.run_text.specs.Laws.{IsAddedUp, IsTallyRun, chare_after}
use Rattle.run_text.specs.Sums.{AreTallies, HasTallyPacks, IsTallyPack, IsTallyParcel, all_sums, packed_sum, standing_sum}
use Rattle.run_text.proofs.Filling.{first_sum, named, named_there}
use Rattle.run_text.proofs.Packs.{sum_in_pack}
use Rattle.run_text.proofs.Places.{TiesAt, TiesIn, named_alike, same_all, zip_all}

-- the chare of an element that has lived is its chare after its entries
chare_lived : {C : Type 0} (step : Step C) (pack : C → List ℕ) (el : ElementView C) (n : ℕ) (entries : List (Done × ℕ))
    → (lived step pack el n entries).chare ≡ chare_after step el.index n el.chare (map (λ x. x.0) entries)
chare_lived step pack el n [] = refl
chare_lived step pack el n (x ∷ xs) = chare_lived step pack (ran step pack el n x.1 x.0) n xs

-- a life and a sum are those of one element, which opened with a tally and has lived so
pub record AddsUp (opened : List TallyView) (life : Life) (sum : ℕ × ℕ) : Type 0 where
  pub same : life.0 ≡ sum.0
  pub opening : TallyView
  pub opens : slice_get opened life.0 ≡ Some opening
  pub sum_is : sum.1 ≡ (chare_after tally_step life.0 (length opened) opening life.1).sum

module _ (fits : TallyView → Type 0) (numbers : (t : TallyView) → fits t → t.sum < 2 ^ 64) (opened : List TallyView) where
  -- an element in a room
  standing : (el : ElementView TallyView) → IsHistory tally_step tally_pack opened el → AddsUp opened (life_of el) (standing_sum el)
  standing el history =
      let lived_so = chare_lived tally_step tally_pack (opening_element el.index history.opening) (length opened) history.entries in
      let after = ap (λ (v : ElementView TallyView). v.chare) (sym history.is_lived) ∙ lived_so in
      record {
        same = refl;
        opening = history.opening;
        opens = history.opens;
        sum_is = ap (λ (t : TallyView). t.sum) (after ∙ ap (chare_after tally_step el.index (length opened) history.opening) history.is_journal);
      }

  -- an element that is packed
  packed : (p : PackedView) → IsPackedHistory tally_step fits tally_pack opened p → AddsUp opened (p.index, p.journal) (p.index, packed_sum p.bytes)
  packed p history =
      let one = standing (unpacked p history.chare) history.is_history in
      record {
        same = refl;
        opening = one.opening;
        opens = one.opens;
        sum_is = ap packed_sum (sym history.is_pack) ∙ sum_in_pack history.chare (numbers history.chare history.is_value) ∙ one.sum_is;
      }

  is_tally_pack : (p : PackedView) → IsPackedHistory tally_step fits tally_pack opened p → IsTallyPack p.bytes
  is_tally_pack p history =
      record { tally = history.chare; is_number = numbers history.chare history.is_value; is_pack = history.is_pack }

  -- a parcel
  ties_in : (parcel : Parcel) → IsParcelHistory tally_step fits tally_pack opened parcel → TiesIn (AddsUp opened) parcel
  ties_in (Letter l) history = tt
  ties_in (Element p) history = (packed p history, tt)

  is_tally_parcel : (parcel : Parcel) → IsParcelHistory tally_step fits tally_pack opened parcel → IsTallyParcel parcel
  is_tally_parcel (Letter l) history = tt
  is_tally_parcel (Element p) history = is_tally_pack p history

  -- a hand
  ties_hand : (hand : Option Item) → IfSome hand (λ x. IsParcelHistory tally_step fits tally_pack opened x.parcel) → IfSome hand (λ x. TiesIn (AddsUp opened) x.parcel)
  ties_hand None history = tt
  ties_hand (Some x) history = ties_in x.parcel history

  is_tally_hand : (hand : Option Item) → IfSome hand (λ x. IsParcelHistory tally_step fits tally_pack opened x.parcel) → IfSome hand (λ x. IsTallyParcel x.parcel)
  is_tally_hand None history = tt
  is_tally_hand (Some x) history = is_tally_parcel x.parcel history

  -- a PE
  ties_at : (pe : PeView TallyView) → HasHistories tally_step fits tally_pack opened pe → TiesAt (AddsUp opened) pe
  ties_at pe histories = record {
    hand = ties_hand pe.hand histories.hand;
    outbox = λ k d inside. ties_in _ (histories.outbox k d inside);
    room = λ k d inside. standing _ (histories.room k d inside);
  }

  has_tally_packs : (pe : PeView TallyView) → HasHistories tally_step fits tally_pack opened pe → HasTallyPacks pe
  has_tally_packs pe histories = record {
    hand = is_tally_hand pe.hand histories.hand;
    outbox = λ k d inside. is_tally_parcel _ (histories.outbox k d inside);
  }

  module _ {A : Type 0} (o : OutcomeView TallyView A) where
    ties_all : AreHistories tally_step fits tally_pack opened (left_world o.ends o.left) → AllZip (AddsUp opened) (lives (left_world o.ends o.left)) (all_sums o)
    ties_all histories =
        zip_all (AddsUp opened) o (λ k d inside. ties_at _ (histories.pes k d inside)) (λ k d inside. λ j e within. ties_in _ (histories.queues k d inside j e within))

    -- what is left of tallies, each in one place and what its journal says, are tallies
    pub tallies_left : ((e : ℕ) → e < length opened → times (λ x. x.0 == e) (lives (left_world o.ends o.left)) ≡ 1)
        → AreHistories tally_step fits tally_pack opened (left_world o.ends o.left)
        → AreTallies (length opened) o
    tallies_left stands histories = record {
      stands = stands;
      at_pes = λ k d inside. has_tally_packs _ (histories.pes k d inside);
      in_queues = λ k d inside. λ j e within. is_tally_parcel _ (histories.queues k d inside j e within);
    }

    -- what a run of tallies left are tallies
    pub tallies_of : IsTallyRun fits opened o → AreTallies (length opened) o
    tallies_of run = tallies_left run.account.stands run.histories

-- of an element that is named once, the first life and the first sum are those of that element
first_ties : (opened : List TallyView) (e : ℕ) (us : List Life) (vs : List (ℕ × ℕ)) → AllZip (AddsUp opened) us vs → named e vs ≡ 1
    → (journal : List Done) × (lookup (λ i. i == e) us ≡ Some journal) × AddsUp opened (e, journal) (e, first_sum e vs)
first_ties opened e [] [] ties once = absurd (omega arith)
first_ties opened e [] (v ∷ vs) ties once = absurd ties
first_ties opened e (u ∷ us) [] ties once = absurd ties
first_ties opened e (u ∷ us) (v ∷ vs) ties once = by (first_ties opened e us vs ties.1) (eqb_tells v.0 e)
  where
    by : (named e vs ≡ 1 → (journal : List Done) × (lookup (λ i. i == e) us ≡ Some journal) × AddsUp opened (e, journal) (e, first_sum e vs))
        → (((v.0 == e) ≡ true) × (v.0 ≡ e)) ⊎ (((v.0 == e) ≡ false) × (v.0 ≢ e))
        → (journal : List Done) × (lookup (λ i. i == e) (u ∷ us) ≡ Some journal) × AddsUp opened (e, journal) (e, first_sum e (v ∷ vs))
    by rest (inl here) =
        let at : u.0 ≡ e = ties.0.same ∙ here.1 in (
          u.1,
          lookup_head (λ i. i == e) u us (ap (λ i. i == e) ties.0.same ∙ here.0),
          rw (lookup_head (λ i. i == e) v vs here.0) (record {
            same = refl;
            opening = ties.0.opening;
            opens = ap (slice_get opened) (sym at) ∙ ties.0.opens;
            sum_is = ties.0.sum_is ∙ ap (λ i. (chare_after tally_step i (length opened) ties.0.opening u.1).sum) at;
          }),
        )
    by rest (inr there) =
        let found = rest (sym (named_there e v vs there.0) ∙ once) in (
          found.0,
          lookup_tail (λ i. i == e) u us (ap (λ i. i == e) ties.0.same ∙ there.0) ∙ found.1,
          rw (lookup_tail (λ i. i == e) v vs there.0) found.2,
        )

-- the sum of each element is that of the tally which it opened with, after its journal
pub added_up : (fits : TallyView → Type 0)
    → ((t : TallyView) → fits t → t.sum < 2 ^ 64)
    → {A : Type 0} (opened : List TallyView) (o : OutcomeView TallyView A) (e : ℕ)
    → IsTallyRun fits opened o
    → e < length opened
    → IsAddedUp opened o e
added_up fits numbers opened o e run inside =
    let once : named e (all_sums o) ≡ 1 = sym (named_alike e (lives (left_world o.ends o.left)) (all_sums o) (same_all o)) ∙ run.account.stands e inside in
    let found = first_ties opened e (lives (left_world o.ends o.left)) (all_sums o) (ties_all fits numbers opened o run.histories) once in
    record {
      opening = found.2.opening;
      opens = found.2.opens;
      journal = found.0;
      stands = found.1;
      sum = found.2.sum_is;
    }

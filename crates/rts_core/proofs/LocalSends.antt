-- What the elements of one PE have sent, over one of its calls: what those that it held had sent, and what it has posted.
use Rattle.std.proofs.Common.{◌≡◌, ℕ, ◌+◌, List, length, Option, Some, None, sum_by, arith, refl, sym, ◌∙◌, subst}
use Rattle.std.specs.Prelude.{IfSome}
use Rattle.std.specs.List.{flat_map}
use Rattle.chares.specs.declared.trace_entry.TraceEntry.{TraceEntry}
use Rattle.chares.specs.Elements.{IsHistory}
use Rattle.chares.specs.Steps.{Step}
use Rattle.pe_state.specs.Pes.{PeView, Parcel}
use Rattle.rts_core.specs.Accounts.{message}
use Rattle.rts_core.specs.Places.{Life, lives_in, lives_at, sends_of}
use Rattle.rts_core.proofs.Weights.{weigh, of_pe, of_queue, sum_by-flat_map}
use Rattle.rts_core.proofs.Moves.{Work, work_letters, work_sends, before, after, posted, Moved}
use Rattle.rts_core.proofs.WorldSteps.{numbered_says}
use Rattle.rts_core.proofs.Listings.{no_letter, sum_zero, pe_lives, queue_lives}
use Rattle.rts_core.proofs.Sent.{sends_weight, sends_more}

module _ {C : Type 0} (step : Step C) (pack : C → List ℕ) (opened : List C) (h : ℕ × List ℕ → ℕ) where
  -- what the elements of a PE have sent, and those of some parcels
  abbrev pub sent_at : PeView C → ℕ
  sent_at pe = sum_by h (flat_map (sends_of step opened) (lives_at pe))

  abbrev pub sent_in : List Parcel → ℕ
  sent_in parcels = sum_by h (flat_map (sends_of step opened) (flat_map lives_in parcels))

  pub work_more : (n : ℕ) (work : Option (Work C)) → n ≡ length opened → IfSome work (λ x. IsHistory step pack opened x.0)
      → after (sends_weight step opened h) work ≡ before (sends_weight step opened h) work + sum_by h (work_sends step n work)
  work_more n None same is = refl
  work_more n (Some x) same is =
      subst (λ (v : ℕ). after (sends_weight step opened h) (Some x) ≡ before (sends_weight step opened h) (Some x) + sum_by h (work_sends step v (Some x))) (sym same)
      (sends_more step pack opened h x.0 x.1 is)

  -- what is sent is posted
  pub sent_moved : (pe pe' : PeView C) (rs : List TraceEntry) (work : Option (Work C)) (came gone : List Parcel)
      → Moved step pe pe' rs work came gone → pe.n ≡ length opened → IfSome work (λ x. IsHistory step pack opened x.0)
      → sent_at pe' + sent_in gone ≡ sent_at pe + (sum_by (λ l. h (message l)) (posted step pe work) + sent_in came)
  sent_moved pe pe' rs work came gone m same is =
      let k : Life → ℕ = sends_weight step opened h in
      let a = m.weighs no_letter k in
      let b = work_more pe.n work same is in
      let c : sum_by (λ l. h (message l)) (posted step pe work) ≡ sum_by h (work_sends step pe.n work) = numbered_says h pe.me pe.count (work_sends step pe.n work) in
      let d : sent_at pe ≡ of_pe no_letter k pe = sum_by-flat_map h (sends_of step opened) (lives_at pe) ∙ pe_lives k pe in
      let e : sent_at pe' ≡ of_pe no_letter k pe' = sum_by-flat_map h (sends_of step opened) (lives_at pe') ∙ pe_lives k pe' in
      let f : sent_in came ≡ of_queue no_letter k came = sum_by-flat_map h (sends_of step opened) (flat_map lives_in came) ∙ queue_lives k came in
      let g : sent_in gone ≡ of_queue no_letter k gone = sum_by-flat_map h (sends_of step opened) (flat_map lives_in gone) ∙ queue_lives k gone in
      let z : sum_by (weigh no_letter) (posted step pe work) ≡ 0 = sum_zero (posted step pe work) in
      let y : sum_by (weigh no_letter) (work_letters work) ≡ 0 = sum_zero (work_letters work) in
      omega (arith, a, b, c, d, e, f, g, z, y)

-- The whole local account of one PE is kept by each of its calls, and holds of a PE as a run opens.
use Rattle.std.proofs.Common.{◌≡◌, ℕ, zero, suc, ◌+◌, ◌≤◌, List, [], ◌∷◌, ◌++◌, Option, Some, None, sum_by, arith, refl, sym, ◌∙◌, ap, subst}
use Rattle.std.specs.Prelude.{All, IfSome, Result, slice_get}
use Rattle.std.specs.List.{flat_map}
use Rattle.std.specs.Ordering.{nat_cmp}
use Rattle.std.specs.BTreeMap.{is_at}
use Rattle.std.proofs.lemmas.List.Elements.{All-nil, All-cons}
use Rattle.std.proofs.lemmas.List.Sums.{sum_by-append, sum_by-cons}
use Rattle.std.proofs.lemmas.Grind.{flat_map-append}
use Rattle.std.proofs.lemmas.Map.Views.{IfSome-lookup_from_All}
use Rattle.chares.specs.Elements.{ElementView, IsHistory}
use Rattle.chares.specs.Letters.{LetterView}
use Rattle.chares.specs.Steps.{Step}
use Rattle.pup_pack.specs.declared.error.PupError.{PupError}
use Rattle.pe_state.specs.Pes.{PeView, Parcel}
use Rattle.pe_state.specs.Rooms.{found, IsKeyed}
use Rattle.rts_core.specs.Accounts.{message}
use Rattle.rts_core.specs.Calls.{Call, MayCall, IsRunning, posted_as, came_in, gone_in, sent_in, after_call, with_call}
use Rattle.pe_state.specs.Histories.{HasHistories}
use Rattle.rts_core.specs.Ledgers.{Ledger, no_ledger, entered_in, IsSteady, IsLocalAccount, IsUnused}
use Rattle.rts_core.specs.Places.{Life, lives_in, lives_at, letters_of_entry, sends_of}
use Rattle.rts_core.specs.Worlds.{opening_pes}
use Rattle.rts_core.proofs.Weights.{Weight, weigh, of_pe, of_queue, sum_by-flat_map}
use Rattle.rts_core.proofs.Moves.{Work, work_letters, before, after, posted, Moved}
use Rattle.rts_core.proofs.Listings.{no_life, no_letter, sum_zero, pe_lives, queue_lives}
use Rattle.rts_core.proofs.LocalBalance.{in_journal, pe_all, balance_moved}
use Rattle.rts_core.proofs.LocalSends.{sent_moved}
use Rattle.rts_core.proofs.LocalSteps.{IsStep, call_step}
use Rattle.rts_core.proofs.LocalCalls.{step_posts, nothing_yet}
use Rattle.rts_core.proofs.OpeningWeights.{opened_lives, opening_weighs, opening_open, empty_weigh}
use Rattle.rts_core.proofs.RunAccount.{unlived}
use Rattle.rts_core.proofs.Sent.{sends_weight}
use Rattle.sync_board.specs.declared.strategy.Strategy.TheVariants.{Least}

pub lives_joined : (k : Life → ℕ) (xs ys : List Parcel) → sum_by k (flat_map lives_in (xs ++ ys)) ≡ sum_by k (flat_map lives_in xs) + sum_by k (flat_map lives_in ys)
lives_joined k xs ys = ap (sum_by k) (flat_map-append lives_in xs ys) ∙ sum_by-append k (flat_map lives_in xs) (flat_map lives_in ys)

pub sends_joined : {C : Type 0} (step : Step C) (opened : List C) (w : ℕ × List ℕ → ℕ) (xs ys : List Parcel)
    → sum_by w (flat_map (sends_of step opened) (flat_map lives_in (xs ++ ys))) ≡ sum_by w
    (flat_map (sends_of step opened) (flat_map lives_in xs)) + sum_by w (flat_map (sends_of step opened) (flat_map lives_in ys))
sends_joined step opened w xs ys =
    ap (λ (v : List Life). sum_by w (flat_map (sends_of step opened) v)) (flat_map-append lives_in xs ys)
    ∙ (ap (sum_by w) (flat_map-append (sends_of step opened) (flat_map lives_in xs) (flat_map lives_in ys))
    ∙ sum_by-append w (flat_map (sends_of step opened) (flat_map lives_in xs)) (flat_map (sends_of step opened) (flat_map lives_in ys)))

-- an element weighs the same after what it handles, by a weight that no handler changes
steady_work : {C : Type 0} (k : Life → ℕ) → IsSteady k → (pe : PeView C) → IsKeyed pe.room → (work : Option (Work C))
    → IfSome work (λ x. (e : ℕ) × (found e pe.room ≡ Some x.0) × All (λ l. l.to ≡ e) (letters_of_entry x.1)) → after k work ≡ before k work
steady_work k steady pe keyed None stood = refl
steady_work {C} k steady pe keyed (Some x) stood =
    let here : IfSome (Some x.0) (λ (el : ElementView C). el.index ≡ stood.0) = subst
    (λ (o : Option (ElementView C)). IfSome o (λ el. el.index ≡ stood.0)) stood.1 (keyed stood.0) in
    steady x.0.index x.0.journal x.1 (subst (λ (v : ℕ). All (λ (l : LetterView). l.to ≡ v) (letters_of_entry x.1)) (sym here) stood.2)

module _ {C : Type 0} (step : Step C) (fits : C → Type 0) (pack : C → List ℕ) (opened : List C) (start : PeView C) where
  work_history : (pe : PeView C) (work : Option (Work C))
      → IfSome work (λ x. (e : ℕ) × (found e pe.room ≡ Some x.0) × All (λ l. l.to ≡ e) (letters_of_entry x.1)) → HasHistories step fits pack opened pe
      → IfSome work (λ x. IsHistory step pack opened x.0)
  work_history pe None stood h = tt
  work_history pe (Some x) stood h =
      let all : IfSome (found stood.0 pe.room) (IsHistory step pack opened) = IfSome-lookup_from_All (IsHistory step pack opened) (is_at (nat_cmp stood.0)) pe.room h.room in
      subst (λ (o : Option (ElementView C)). IfSome o (IsHistory step pack opened)) stood.1 all

  local_step : (pe pe' : PeView C) (came gone : List Parcel) (sends : List (ℕ × List ℕ)) (ledger : Ledger)
      → IsStep step pe pe' came gone sends → HasHistories step fits pack opened pe → IsKeyed pe.room
      → IsLocalAccount step opened start pe ledger → IsLocalAccount step opened start pe' (entered_in ledger came gone (posted_as pe.me pe.count sends))
  local_step pe pe' came gone sends ledger s h keyed l =
      subst (λ (v : List LetterView). IsLocalAccount step opened start pe' (entered_in ledger came gone v)) (step_posts step pe pe' came gone sends s)
      (record {
        same_me = m.same_me ∙ l.same_me;
        letters = balance_moved step start pe pe' s.reports s.work came gone ledger m l.letters;
        lives = λ w steady.
            let a = m.weighs no_letter w in
            let b = steady_work w steady pe keyed s.work m.stood in
            let c = l.lives w steady in
            let d : sum_by w (lives_at pe) ≡ of_pe no_letter w pe = pe_lives w pe in
            let e : sum_by w (lives_at pe') ≡ of_pe no_letter w pe' = pe_lives w pe' in
            let f : sum_by w (flat_map lives_in came) ≡ of_queue no_letter w came = queue_lives w came in
            let g : sum_by w (flat_map lives_in gone) ≡ of_queue no_letter w gone = queue_lives w gone in
            let i = lives_joined w ledger.came came in
            let j = lives_joined w ledger.gone gone in
            let z : sum_by (weigh no_letter) (posted step pe s.work) ≡ 0 = sum_zero (posted step pe s.work) in
            let y : sum_by (weigh no_letter) (work_letters s.work) ≡ 0 = sum_zero (work_letters s.work) in
            omega (arith, a, b, c, d, e, f, g, i, j, z, y);
        sent = λ w.
            let a = sent_moved step pack opened w pe pe' s.reports s.work came gone m h.same_array (work_history pe s.work m.stood h) in
            let b = l.sent w in
            let i = sends_joined step opened w ledger.came came in
            let j = sends_joined step opened w ledger.gone gone in
            let p : sum_by (λ l. w (message l)) (ledger.posted ++ posted step pe s.work) ≡ sum_by (λ l. w (message l))
            ledger.posted + sum_by (λ l. w (message l)) (posted step pe s.work) = sum_by-append (λ (l : LetterView). w (message l))
            ledger.posted (posted step pe s.work) in
            omega (arith, a, b, i, j, p);
      })
    where
      m : Moved step pe pe' s.reports s.work came gone
      m = s.moved

  -- any call except the placing of a chare
  pub local_call : (unpack : List ℕ → Result (C × ℕ) PupError) (pe : PeView C) (ledger : Ledger) (call : Call C) → MayCall pe call
      → IsRunning call → HasHistories step fits pack opened pe → IsKeyed pe.room → IsLocalAccount step opened start pe ledger
      → IsLocalAccount step opened start (after_call step pack unpack pe call) (with_call step pack unpack ledger pe call)
  local_call unpack pe ledger call may running h keyed l =
      local_step pe (after_call step pack unpack pe call) (came_in call) (gone_in pe call) (sent_in step pack unpack pe call) ledger
      (call_step step pack pe unpack call may running) h keyed l

-- a PE has an empty ledger as it begins
pub local_beginning : {C : Type 0} (step : Step C) (opened : List C) (pe : PeView C) → IsLocalAccount step opened pe pe no_ledger
local_beginning step opened pe = record {
  same_me = refl;
  letters = nothing_yet pe;
  lives = λ w steady. refl;
  sent = λ w. let a = sum_by w (flat_map (sends_of step opened) (lives_at pe)) in omega arith;
}

-- ---- as a run opens

-- each part of a sum that is 0 is 0
zero_each : {X : Type 0} (f : X → ℕ) (xs : List X) → sum_by f xs ≡ 0 → (i : ℕ) (x : X) → slice_get xs i ≡ Some x → f x ≡ 0
zero_each f [] z i x at = cc
zero_each f (y ∷ xs) z zero x at =
    let a = sum_by-cons f y xs in
    let e : y ≡ x = cc in
    let b : f y ≡ f x = ap f e in
    omega (arith, a, b, z)
zero_each f (y ∷ xs) z (suc i) x at =
    let a = sum_by-cons f y xs in
    zero_each f xs (omega (arith, a, z)) i x at

-- what holds at each index holds of all
all_of : {X : Type 0} (P : X → Type 0) (xs : List X) → ((i : ℕ) (x : X) → slice_get xs i ≡ Some x → P x) → All P xs
all_of P [] h = All-nil P
all_of P (x ∷ xs) h = All-cons P x xs (h 0 x refl) (all_of P xs (λ i. h (suc i)))

module _ {C : Type 0} (step : Step C) (pes : ℕ) (chares : List C) (some : 1 ≤ pes) where
  abbrev pub states : List (PeView C)
  states = opening_pes pes chares

  pub states_weigh : (g : Weight) (k : Life → ℕ) → sum_by (λ (pe : PeView C). of_pe g k pe) states ≡ sum_by k (opened_lives 0 chares)
  states_weigh g k =
      let a = opening_weighs (Unit {0}) pes chares Least some g k in
      let b = empty_weigh g k pes in
      omega (arith, a, b)

  nothing_sent : (h : ℕ × List ℕ → ℕ) (i : ℕ) → sends_weight step chares h (i, []) ≡ 0
  nothing_sent h i = by (slice_get chares i) refl
    where
      by : (o : Option C) → slice_get chares i ≡ o → sends_weight step chares h (i, []) ≡ 0
      by None at = rw at refl
      by (Some chare) at = rw at refl

  -- nothing has happened on a PE as a run opens
  pub opening_unused : All (IsUnused step chares) states
  opening_unused = all_of (IsUnused step chares) states (λ i pe at. record {
    no_posts = (opening_open (Unit {0}) pes chares Least some i pe at).posted_none;
    no_letters = λ g.
        let b = zero_each (λ (x : PeView C). of_pe no_letter (in_journal g) x) states
        (states_weigh no_letter (in_journal g) ∙ unlived (in_journal g) (λ e. refl) 0 chares) i pe at in
        let c = zero_each (λ (x : PeView C). of_pe g no_life x) states (states_weigh g no_life ∙ unlived no_life (λ e. refl) 0 chares) i pe at in
        let d = pe_all g pe in
        omega (arith, b, c, d);
    no_sends = λ w.
        let k = sends_weight step chares w in
        let a = zero_each (λ (x : PeView C). of_pe no_letter k x) states (states_weigh no_letter k ∙ unlived k (nothing_sent w) 0 chares) i pe at in
        let b : sum_by w (flat_map (sends_of step chares) (lives_at pe)) ≡ of_pe no_letter k pe = sum_by-flat_map w (sends_of step chares) (lives_at pe) ∙ pe_lives k pe in
        omega (arith, a, b);
  })

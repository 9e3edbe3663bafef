-- What the trace of a run says of its board: of the reports that the board has, and of the rounds that it has decided.
use Rattle.std.proofs.Common.{◌≡◌, ◌≢◌, ℕ, zero, suc, ◌+◌, ◌<◌, ◌≤◌, ◌⊎◌, inl, inr, List, [], ◌∷◌, ◌++◌, length, get_or, Option, None, Some, Bool, true, false, arith, refl, sym, subst, ◌∙◌, length-set, replicate}
use Rattle.std.specs.Prelude.{Contains, IsSome, slice_get, nat_eq, nat_lt}
use Rattle.std.specs.Option.{option_map}
use Rattle.std.proofs.lemmas.Bool.Decides.{nat_tests}
use Rattle.std.proofs.lemmas.List.{length-replicate, get_or-replicate, get_or-set_other, length_push}
use Rattle.std.proofs.lemmas.List.Elements.{Contains-append_left, Contains-push}
use Rattle.std.proofs.lemmas.Option.{slice_get_within, same_Some}
use Rattle.std.proofs.lemmas.Bool.{and_parts}
use Rattle.chares.specs.declared.note.Note.{Note}
use Rattle.chares.specs.declared.note.Note.TheVariants.{Sync, Finish}
use Rattle.chares.specs.declared.trace_entry.TraceEntry.{TraceEntry}
use Rattle.chares.specs.declared.trace_entry.TraceEntry.TheVariants.{Synced, Decided, Resumed}
use Rattle.sync_board.specs.Boards.{BoardState, Kept, Decides, after_report, after_finish, place_in}
use Rattle.lb_database.specs.Measuring.{elements, report_of}
use Rattle.lb_strategy.specs.Moves.{planned_pe}
use Rattle.rts_core.specs.Accounts.{times}
use Rattle.rts_core.specs.Events.{board_after, note_entries}
use Rattle.rts_core.proofs.EventSteps.{where_some}
use Rattle.event_laws.specs.Barrier.{is_decided}
use Rattle.event_laws.proofs.Tallies.{one, times-append, times-cons, only_member, no_member, split_there, InFirst, InAdded, split_of}
use Rattle.rts_core.proofs.Turns.{same_number}

-- what the trace before a resumption for a round says: every element has reported in the round, and it was decided once
pub record Barred (n r : ℕ) (before : List TraceEntry) : Type 0 where
  pub synced : (x : ℕ) → x < n → Contains before (Synced x r)
  pub decided : times (is_decided r) before ≡ 1

abbrev pub AreBarred : ℕ → List TraceEntry → Type 0
AreBarred n trace = (before after : List TraceEntry) (e r : ℕ) → trace ≡ before ++ Resumed e r ∷ after → 1 ≤ r → Barred n r before

pub record Tells {A : Type 0} (n : ℕ) (b : BoardState A) (trace : List TraceEntry) : Type 0 where
  pub counted : elements b.database ≡ n
  pub reports_counted : length b.database.reports ≡ n
  pub numbered : b.database.round ≡ length b.rounds + 1
  pub never_zero : times (is_decided 0) trace ≡ 0
  pub decided : (r : ℕ) → 1 ≤ r → r < b.database.round → times (is_decided r) trace ≡ 1
  pub undecided : (r : ℕ) → b.database.round ≤ r → times (is_decided r) trace ≡ 0
  pub synced : (r x : ℕ) → 1 ≤ r → r < b.database.round → x < n → Contains trace (Synced x r)
  pub reported : (x : ℕ) → x < n → IsSome (report_of b.database x) → Contains trace (Synced x b.database.round)
  pub barred : AreBarred n trace

-- A trace is made longer: where what is added resumes an element for a round, the trace before it says what the barrier
-- requires.
pub barred_more : (n : ℕ) (trace added : List TraceEntry) → AreBarred n trace
    → ((e r : ℕ) → 1 ≤ r → Contains added (Resumed e r) → Barred n r trace × (times (is_decided r) added ≡ 0))
    → AreBarred n (trace ++ added)
barred_more n trace added old new before after e r h some = by (split_of trace added before after (Resumed e r) h)
  where
    by : InFirst trace before (Resumed e r) ⊎ InAdded trace added before after (Resumed e r) → Barred n r before
    by (inl f) = old before f.rest e r f.is some
    by (inr a) =
        let there : Contains added (Resumed e r) = subst (λ (v : List TraceEntry). Contains v (Resumed e r)) (sym a.is) (split_there a.more after (Resumed e r)) in
        let k = new e r some there in
        let none : times (is_decided r) (a.more ++ Resumed e r ∷ after) ≡ 0 = subst (λ (v : List TraceEntry). times (is_decided r) v ≡ 0) a.is k.1 in
        let parts = times-append (is_decided r) a.more (Resumed e r ∷ after) in
        let whole = times-append (is_decided r) trace a.more in
        let one = k.0.decided in
        let sum : times (is_decided r) (trace ++ a.more) ≡ 1 = omega (arith, none, parts, whole, one) in
        subst (λ (v : List TraceEntry). Barred n r v) (sym a.behind)
        (record { synced = λ x lt. Contains-append_left trace a.more (Synced x r) (k.0.synced x lt); decided = sum })

-- no round is decided twice
pub decided_at_most_once : {A : Type 0} (n : ℕ) (b : BoardState A) (trace : List TraceEntry) → Tells n b trace → (r : ℕ) → times (is_decided r) trace ≤ 1
decided_at_most_once n b trace t zero = let a = t.never_zero in omega (arith, a)
decided_at_most_once n b trace t (suc r) = by (nat_lt (suc r) b.database.round) refl
  where
    by : (c : Bool) → nat_lt (suc r) b.database.round ≡ c → times (is_decided (suc r)) trace ≤ 1
    by true at =
        let lt : suc r < b.database.round = grind (arith, nat_tests) in
        let a = t.decided (suc r) (omega arith) lt in
        omega (arith, a)
    by false at =
        let le : b.database.round ≤ suc r = grind (arith, nat_tests) in
        let a = t.undecided (suc r) le in
        omega (arith, a)

-- a round in which an element has a place is decided
pub place_decided : {A : Type 0} (b : BoardState A) (r e q : ℕ) → b.database.round ≡ length b.rounds + 1 → place_in b r e ≡ Some q → r < b.database.round
place_decided b zero e q numbered h = cc
place_decided {A} b (suc r) e q numbered h = by (slice_get b.rounds r) refl h
  where
    by : (o : Option (Kept A)) → slice_get b.rounds r ≡ o
        → option_map (λ d. planned_pe d.division.cuts d.naming e) (option_map (λ kept. kept.1) o) ≡ Some q → suc r < b.database.round
    by None at k = cc
    by (Some kept) at k = let lt = slice_get_within b.rounds r kept at in omega (arith, lt, numbered)

-- ---- what happens to a board

-- it is as before, no trace entry says that a round was decided, and an element that is resumed for a round has a place
-- in its decision
pub record Keeps {A : Type 0} (b b' : BoardState A) (rs : List TraceEntry) : Type 0 where
  pub same : b' ≡ b
  pub undecided : (r : ℕ) → times (is_decided r) rs ≡ 0
  pub placed : (e r : ℕ) → 1 ≤ r → Contains rs (Resumed e r) → (q : ℕ) × (place_in b r e ≡ Some q)

pub tells_kept : {A : Type 0} (n : ℕ) (b b' : BoardState A) (trace rs : List TraceEntry) → Tells n b trace → Keeps b b' rs → Tells n b' (trace ++ rs)
tells_kept {A} n b b' trace rs t k =
    subst (λ (v : BoardState A). Tells n v (trace ++ rs)) (sym k.same)
    (record {
      counted = t.counted;
      reports_counted = t.reports_counted;
      numbered = t.numbered;
      never_zero = let a = t.never_zero in let z = k.undecided 0 in let s = times-append (is_decided 0) trace rs in omega (arith, a, z, s);
      decided = λ r some lt. let a = t.decided r some lt in let z = k.undecided r in let s = times-append (is_decided r) trace rs in omega (arith, a, z, s);
      undecided = λ r le. let a = t.undecided r le in let z = k.undecided r in let s = times-append (is_decided r) trace rs in omega (arith, a, z, s);
      synced = λ r x some lt inside. Contains-append_left trace rs (Synced x r) (t.synced r x some lt inside);
      reported = λ x inside is. Contains-append_left trace rs (Synced x b.database.round) (t.reported x inside is);
      barred = barred_more n trace rs t.barred
          (λ e r some there.
          let place = k.placed e r some there in
          let lt = place_decided b r e place.0 t.numbered place.1 in
          (record { synced = λ x inside. t.synced r x some lt inside; decided = t.decided r some lt }, k.undecided r));
    })

pub none_there : (o : Option (ℕ × ℕ)) → o ≡ None → IsSome o → ⊥
none_there None h is = cc
none_there (Some x) h is = cc

pub unlike_synced : (x s e r : ℕ) → Synced x s ≡ Resumed e r → ⊥
unlike_synced x s e r h = cc

pub unlike_decided : (s e r : ℕ) → Decided s ≡ Resumed e r → ⊥
unlike_decided s e r h = cc

-- a report is taken of an element in the present round
pub tells_synced : {A : Type 0} (n : ℕ) (b : BoardState A) (trace : List TraceEntry) (e round units bytes pe : ℕ) → Tells n b trace → round ≡ b.database.round
    → Tells n (after_report b e units bytes pe) (trace ++ Synced e round ∷ [])
tells_synced {A} n b trace e round units bytes pe t same =
    record {
      counted = length-set {A = ℕ} b.database.loads e _ ∙ t.counted;
      reports_counted = length-set {A = Option (ℕ × ℕ)} b.database.reports e (Some (bytes, pe)) ∙ t.reports_counted;
      numbered = t.numbered;
      never_zero = let a = t.never_zero in let s = times-append (is_decided 0) trace (Synced e round ∷ []) in omega (arith, a, s, none 0);
      decided = λ r some lt. let a = t.decided r some lt in let s = times-append (is_decided r) trace (Synced e round ∷ []) in omega (arith, a, s, none r);
      undecided = λ r le. let a = t.undecided r le in let s = times-append (is_decided r) trace (Synced e round ∷ []) in omega (arith, a, s, none r);
      synced = λ r x some lt inside. Contains-append_left trace (Synced e round ∷ []) (Synced x r) (t.synced r x some lt inside);
      reported = λ x inside is. by x (nat_eq x e) refl inside is;
      barred = barred_more n trace (Synced e round ∷ []) t.barred
          (λ x r some there. absurd (unlike_synced e round x r (only_member (Synced e round) (Resumed x r) there)));
    }
  where
    none : (r : ℕ) → times (is_decided r) (Synced e round ∷ []) ≡ 0
    none r = refl

    by : (x : ℕ) (c : Bool) → nat_eq x e ≡ c → x < n → IsSome (report_of (after_report b e units bytes pe).database x)
        → Contains (trace ++ Synced e round ∷ []) (Synced x b.database.round)
    by x true at inside is =
        let here : x ≡ e = same_number x e at in
        subst (λ (v : ℕ). Contains (trace ++ Synced e round ∷ []) (Synced x v)) same
        (subst (λ (v : ℕ). Contains (trace ++ Synced e round ∷ []) (Synced v round)) (sym here) (Contains-push trace (Synced e round)))
    by x false at inside is =
        let other : x ≢ e = grind (arith, nat_tests) in
        let old : get_or (after_report b e units bytes pe).database.reports x None ≡ get_or b.database.reports x None = get_or-set_other
        b.database.reports e x (Some (bytes, pe)) None other in
        Contains-append_left trace (Synced e round ∷ []) (Synced x b.database.round)
        (t.reported x inside (subst (λ (v : Option (ℕ × ℕ)). IsSome v) old is))

-- nothing happens
pub tells_same : {A : Type 0} (n : ℕ) (b : BoardState A) (trace : List TraceEntry) → Tells n b trace → Tells n b (trace ++ [])
tells_same n b trace t = tells_kept n b b trace [] t (record { same = refl; undecided = λ r. refl; placed = λ e r some there. absurd (no_member (Resumed e r) there) })

-- an element has finished
pub tells_finished : {A : Type 0} (n : ℕ) (b : BoardState A) (trace : List TraceEntry) (e : ℕ) → Tells n b trace → Tells n (after_finish b e) (trace ++ [])
tells_finished {A} n b trace e t =
    let k : Tells n b (trace ++ []) = tells_same n b trace t in
    record {
      counted = k.counted;
      reports_counted = k.reports_counted;
      numbered = k.numbered;
      never_zero = k.never_zero;
      decided = k.decided;
      undecided = k.undecided;
      synced = k.synced;
      reported = k.reported;
      barred = k.barred;
    }

-- the board takes a note
pub tells_taken : {A : Type 0} (n : ℕ) (b b' : BoardState A) (trace : List TraceEntry) (note : Note) → Tells n b trace → board_after b note ≡ Some b'
    → Tells n b' (trace ++ note_entries note)
tells_taken {A} n b b' trace (Sync e round units bytes pe) t h =
    let both = where_some _ (Some (after_report b e units bytes pe)) b' h in
    let same : round ≡ b.database.round = same_number round b.database.round (and_parts _ _ (and_parts _ _ (and_parts _ _ both.0).1).1).0 in
    subst (λ (v : BoardState A). Tells n v (trace ++ Synced e round ∷ [])) (same_Some (after_report b e units bytes pe) b' both.1)
    (tells_synced n b trace e round units bytes pe t same)
tells_taken {A} n b b' trace (Finish e) t h =
    let both = where_some _ (Some (after_finish b e)) b' h in
    subst (λ (v : BoardState A). Tells n v (trace ++ [])) (same_Some (after_finish b e) b' both.1) (tells_finished n b trace e t)

-- the round is decided
pub tells_decided : {A : Type 0} (n : ℕ) (b b' : BoardState A) (trace : List TraceEntry) → Tells n b trace → Decides b b' → Tells n b' (trace ++ Decided b.database.round ∷ [])
tells_decided {A} n b b' trace t d =
    subst (λ (v : BoardState A). Tells n v (trace ++ Decided b.database.round ∷ [])) (sym d.next)
    (record {
      counted = length-replicate (elements b.database) 0 ∙ t.counted;
      reports_counted = length-replicate (elements b.database) None ∙ t.counted;
      numbered = let l = length_push b.rounds d.kept in let k = t.numbered in omega (arith, l, k);
      never_zero =
          let a = t.never_zero in
          let k = t.numbered in
          let z = earlier 0 (omega (arith, k)) in
          let s = times-append (is_decided 0) trace (Decided b.database.round ∷ []) in
          omega (arith, a, z, s);
      decided = λ r some lt. decided_by r some lt (nat_eq r b.database.round) refl;
      undecided = λ r le.
          let a = t.undecided r (omega (arith, le)) in
          let z = later r (omega (arith, le)) in
          let s = times-append (is_decided r) trace (Decided b.database.round ∷ []) in
          omega (arith, a, z, s);
      synced = λ r x some lt inside. synced_by r x some lt inside (nat_eq r b.database.round) refl;
      reported = λ x inside is. absurd (nothing x inside is);
      barred = barred_more n trace (Decided b.database.round ∷ []) t.barred
          (λ x r some there. absurd (unlike_decided b.database.round x r (only_member (Decided b.database.round) (Resumed x r) there)));
    })
  where
    told : (r : ℕ) → times (is_decided r) (Decided b.database.round ∷ []) ≡ one (is_decided r) (Decided b.database.round) + 0
    told r = times-cons (is_decided r) (Decided b.database.round) []

    later : (r : ℕ) → b.database.round < r → times (is_decided r) (Decided b.database.round ∷ []) ≡ 0
    later r lt =
        let a : one (is_decided r) (Decided b.database.round) ≡ 0 = grind (arith, nat_tests) in
        let s = told r in
        omega (arith, a, s)

    earlier : (r : ℕ) → r < b.database.round → times (is_decided r) (Decided b.database.round ∷ []) ≡ 0
    earlier r lt =
        let a : one (is_decided r) (Decided b.database.round) ≡ 0 = grind (arith, nat_tests) in
        let s = told r in
        omega (arith, a, s)

    now : (r : ℕ) → r ≡ b.database.round → times (is_decided r) (Decided b.database.round ∷ []) ≡ 1
    now r is =
        let a : one (is_decided r) (Decided b.database.round) ≡ 1 = grind (arith, nat_tests) in
        let s = told r in
        omega (arith, a, s)

    decided_by : (r : ℕ) → 1 ≤ r → r < b.database.round + 1 → (c : Bool) → nat_eq r b.database.round ≡ c → times (is_decided r) (trace ++ Decided b.database.round ∷ []) ≡ 1
    decided_by r some lt true at =
        let is : r ≡ b.database.round = same_number r b.database.round at in
        let a = t.undecided r (omega (arith, is)) in
        let z = now r is in
        let s = times-append (is_decided r) trace (Decided b.database.round ∷ []) in
        omega (arith, a, z, s)
    decided_by r some lt false at =
        let ne : r ≢ b.database.round = grind (arith, nat_tests) in
        let less : r < b.database.round = grind arith in
        let a = t.decided r some less in
        let z = earlier r less in
        let s = times-append (is_decided r) trace (Decided b.database.round ∷ []) in
        omega (arith, a, z, s)

    synced_by : (r x : ℕ) → 1 ≤ r → r < b.database.round + 1 → x < n → (c : Bool) → nat_eq r b.database.round ≡ c → Contains (trace ++ Decided b.database.round ∷ []) (Synced x r)
    synced_by r x some lt inside true at =
        let is : r ≡ b.database.round = same_number r b.database.round at in
        let k = t.reports_counted in
        let whole : IsSome (report_of b.database x) = d.complete x None (omega (arith, inside, k)) in
        Contains-append_left trace (Decided b.database.round ∷ []) (Synced x r)
        (subst (λ (v : ℕ). Contains trace (Synced x v)) (sym is) (t.reported x inside whole))
    synced_by r x some lt inside false at =
        let ne : r ≢ b.database.round = grind (arith, nat_tests) in
        let less : r < b.database.round = grind arith in
        Contains-append_left trace (Decided b.database.round ∷ []) (Synced x r) (t.synced r x some less inside)

    nothing : (x : ℕ) → x < n → IsSome {T = ℕ × ℕ} (get_or (replicate (elements b.database) None) x None) → ⊥
    nothing x inside is =
        let k = t.counted in
        let none : get_or (replicate (elements b.database) None) x None ≡ None = get_or-replicate (elements b.database) x None None (omega (arith, inside, k)) in
        none_there (get_or (replicate (elements b.database) None) x None) none is

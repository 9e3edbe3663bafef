-- What a list of events keeps.
use Rattle.std.proofs.Common.{◌≡◌, ℕ, ◌+◌, List, [], ◌∷◌, ◌++◌, length, Option, Some, None, sum_by, arith, refl, sym, ◌∙◌, ap, subst, zero-add, add-zero}
use Rattle.std.specs.Prelude.{Result, slice_get, if◌then◌else◌}
use Rattle.std.proofs.lemmas.List.Sums.{sum_by-append}
use Rattle.std.proofs.lemmas.Grind.{flat_map-append}
use Rattle.chares.specs.declared.trace_entry.TraceEntry.{TraceEntry}
use Rattle.chares.specs.Steps.{Step}
use Rattle.pup_pack.specs.declared.error.PupError.{PupError}
use Rattle.rts_core.specs.declared.event.Event.{Event}
use Rattle.rts_core.specs.Accounts.{Said, post_of, execution_of, posts, executions, says_number, posted_count, IsCounted}
use Rattle.rts_core.specs.Events.{After}
use Rattle.rts_core.specs.Places.{Life, letters_of_life}
use Rattle.rts_core.specs.Runs.{Reaches}
use Rattle.rts_core.specs.Worlds.{WorldView}
use Rattle.rts_core.proofs.Weights.{Weight, weigh, of_world}
use Rattle.rts_core.proofs.Moves.{Work, work_letters, before, after}
use Rattle.rts_core.proofs.WorldSteps.{AreOf, Numbered, Stepped, known, number_at}
use Rattle.rts_core.proofs.EventSteps.{happens_good}
use Rattle.rts_core.proofs.Listings.{no_life, no_letter, sum_zero, before_none, after_none}
use Rattle.rts_core.proofs.Sent.{journal_after, length_sum, counted_step}

-- each letter weighs by its number and its element
abbrev pub by_said : (Said → ℕ) → Weight
by_said r = λ id to body. r (id, to)

-- each element weighs by its index
abbrev pub by_index : (ℕ → ℕ) → Life → ℕ
by_index i = λ x. i x.0

-- each element weighs by what is said of the letters in its journal
abbrev pub by_journal : (Said → ℕ) → Life → ℕ
by_journal r = λ x. sum_by (weigh (by_said r)) (letters_of_life x)

-- 1 at what is said of a letter with a number
abbrev pub number_said : ℕ → ℕ → Said → ℕ
number_said q j x = if says_number (q, j) x then 1 else 0

-- from a world to another with a trace: in places and executed is what was in places and what was posted; the elements
-- are the same; a PE has posted each number that it has posted since or before, once; in journals is what was there and
-- what was executed; and as many letters are posted as there are posts
pub record Kept {C A : Type 0} (n : ℕ) (w w' : WorldView C A) (rs : List TraceEntry) : Type 0 where
  pub once : (r : Said → ℕ) → of_world (by_said r) no_life w' + sum_by r (executions rs) ≡ of_world (by_said r) no_life w + sum_by r (posts rs)
  pub stands : (i : ℕ → ℕ) → of_world no_letter (by_index i) w' ≡ of_world no_letter (by_index i) w
  pub numbers : Numbered w → (q j : ℕ) → sum_by (number_said q j) (posts rs) + known j (slice_get w.pes q) ≡ known j (slice_get w'.pes q)
  pub same_numbers : Numbered w → Numbered w'
  pub same_array : AreOf n w'
  pub counted : IsCounted w → IsCounted w'
  pub journals : (r : Said → ℕ) → of_world no_letter (by_journal r) w' ≡ of_world no_letter (by_journal r) w + sum_by r (executions rs)
  pub posted : posted_count w' ≡ posted_count w + length (posts rs)

pub same_index : {C : Type 0} (i : ℕ → ℕ) (work : Option (Work C)) → before (by_index i) work ≡ after (by_index i) work
same_index i None = refl
same_index i (Some x) = refl

pub step_keeps : {C A : Type 0} (step : Step C) (n : ℕ) (w w' : WorldView C A) (rs : List TraceEntry) → Stepped step n w w' rs → Kept n w w' rs
step_keeps step n w w' rs s =
    record {
      once = λ r.
          let a = s.weighs (by_said r) no_life in
          let b : sum_by r (posts rs) ≡ sum_by (weigh (by_said r)) s.new = s.tells_posts r in
          let c : sum_by r (executions rs) ≡ sum_by (weigh (by_said r)) (work_letters s.work) = s.tells_executions r in
          omega (arith, a, b, c, before_none s.work, after_none s.work);
      stands = λ i.
          let a = s.weighs no_letter (by_index i) in
          let b : sum_by (weigh no_letter) s.new ≡ 0 = sum_zero s.new in
          let c : sum_by (weigh no_letter) (work_letters s.work) ≡ 0 = sum_zero (work_letters s.work) in
          omega (arith, a, b, c, same_index i s.work);
      numbers = λ numbered q j.
          let a = s.numbers numbered q j in
          let b : sum_by (number_said q j) (posts rs) ≡ sum_by (number_at q j) s.new = s.tells_posts (number_said q j) in
          omega (arith, a, b);
      same_numbers = s.same_numbers;
      same_array = s.same_array;
      counted = counted_step step n w w' rs s;
      journals = λ r.
          let a = s.weighs no_letter (by_journal r) in
          let b : sum_by r (executions rs) ≡ sum_by (weigh (by_said r)) (work_letters s.work) = s.tells_executions r in
          let c = journal_after (by_said r) s.work in
          let d : sum_by (weigh no_letter) s.new ≡ 0 = sum_zero s.new in
          let e : sum_by (weigh no_letter) (work_letters s.work) ≡ 0 = sum_zero (work_letters s.work) in
          omega (arith, a, b, c, d, e);
      posted =
          let a = s.counts in
          let b = s.tells_posts (λ x. 1) in
          let c = length_sum (posts rs) in
          omega (arith, a, b, c);
    }

pub posts_join : (r : Said → ℕ) (xs ys : List TraceEntry) → sum_by r (posts (xs ++ ys)) ≡ sum_by r (posts xs) + sum_by r (posts ys)
posts_join r xs ys = ap (sum_by r) (flat_map-append post_of xs ys) ∙ sum_by-append r (posts xs) (posts ys)

pub executions_join : (r : Said → ℕ) (xs ys : List TraceEntry) → sum_by r (executions (xs ++ ys)) ≡ sum_by r (executions xs) + sum_by r (executions ys)
executions_join r xs ys = ap (sum_by r) (flat_map-append execution_of xs ys) ∙ sum_by-append r (executions xs) (executions ys)

pub kept_join : {C A : Type 0} (n : ℕ) (u v w : WorldView C A) (xs ys : List TraceEntry) → Kept n u v xs → Kept n v w ys → Kept n u w (xs ++ ys)
kept_join n u v w xs ys a b =
    record {
      once = λ r. omega (arith, a.once r, b.once r, posts_join r xs ys, executions_join r xs ys);
      stands = λ i. b.stands i ∙ a.stands i;
      numbers = λ numbered q j. omega (arith, a.numbers numbered q j, b.numbers (a.same_numbers numbered) q j, posts_join (number_said q j) xs ys);
      same_numbers = λ numbered. b.same_numbers (a.same_numbers numbered);
      same_array = b.same_array;
      counted = λ h. b.counted (a.counted h);
      journals = λ r. omega (arith, a.journals r, b.journals r, executions_join r xs ys);
      posted =
          let c : sum_by (λ (x : Said). 1) (posts (xs ++ ys)) ≡ sum_by (λ (x : Said). 1) (posts xs) + sum_by (λ (x : Said). 1) (posts ys) = posts_join (λ x. 1) xs ys in
          omega (arith, a.posted, b.posted, c, length_sum (posts (xs ++ ys)), length_sum (posts xs), length_sum (posts ys));
    }

pub kept_same : {C A : Type 0} (n : ℕ) (w : WorldView C A) → AreOf n w → Kept n w w []
kept_same n w are = record {
  once = λ r. refl;
  stands = λ i. refl;
  numbers = λ numbered q j. zero-add _;
  same_numbers = λ numbered. numbered;
  same_array = are;
  counted = λ h. h;
  journals = λ r. sym (add-zero _);
  posted = sym (add-zero _);
}

module _ {C A : Type 0} (step : Step C) (pack : C → List ℕ) (unpack : List ℕ → Result (C × ℕ) PupError) (n : ℕ) where
  pub run_keeps : (w : WorldView C A) (events : List Event) (last : After C A) → AreOf n w → Reaches step pack unpack w events last → Kept n w last.0 last.1
  run_keeps w [] last are run = subst (λ (v : After C A). Kept n w v.0 v.1) (sym run) (kept_same n w are)
  run_keeps w (event ∷ events) last are (first, rest, happens, leads, is) =
      let a : Kept n w first.0 first.1 = step_keeps step n w first.0 first.1 (happens_good step pack unpack n w are event first happens) in
      let b : Kept n first.0 rest.0 rest.1 = run_keeps first.0 events rest a.same_array leads in
      subst (λ (v : After C A). Kept n w v.0 v.1) (sym is) (kept_join n w first.0 rest.0 first.1 rest.1 a b)

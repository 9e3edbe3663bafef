-- What one step of a PE keeps in its world, and what an event that is not enabled does.
use Rattle.std.proofs.Common.{◌≡◌, ◌≢◌, ℕ, zero, suc, ◌+◌, ◌<◌, List, [], ◌∷◌, length, get_or, set, Option, Some, None, Bool, true, false, sum_by, arith, refl, sym, ◌∙◌, ap, subst, zero-add, add-zero}
use Rattle.std.specs.Prelude.{All, IfSome, slice_get, slice_set, nat_lt, nat_eq, if◌then◌else◌}
use Rattle.std.proofs.lemmas.Bool.Decides.{nat_tests}
use Rattle.std.proofs.lemmas.Option.{slice_get_within, get_or_from_slice_get}
use Rattle.std.proofs.lemmas.List.Sums.{sum_by-cons, sum_by-set}
use Rattle.chares.specs.declared.trace_entry.TraceEntry.{TraceEntry}
use Rattle.chares.specs.Elements.{ElementView}
use Rattle.chares.specs.Letters.{LetterView}
use Rattle.chares.specs.Posting.{letter_to}
use Rattle.chares.specs.Steps.{Step}
use Rattle.sync_board.specs.Boards.{BoardState}
use Rattle.pe_state.specs.Pes.{PeView, Parcel}
use Rattle.pe_state.specs.Rooms.{found}
use Rattle.rts_core.specs.Accounts.{Said, is_number, posts, executions, posted_count}
use Rattle.rts_core.specs.Places.{Life, letters_of_entry}
use Rattle.rts_core.specs.Worlds.{WorldView}
use Rattle.rts_core.proofs.Weights.{Weight, weigh, of_pe, of_queue, of_world}
use Rattle.rts_core.proofs.Moves.{Work, numbered, work_letters, work_sends, before, after, posted, Moved}

-- one member of a list is replaced
pub sum_at : {X : Type 0} (f : X → ℕ) (xs : List X) (i : ℕ) (x y : X) → slice_get xs i ≡ Some x → sum_by f (slice_set xs i y) + f x ≡ sum_by f xs + f y
sum_at f xs i x y h =
    let lt : i < length xs = slice_get_within xs i x h in
    let e : get_or xs i x ≡ x = get_or_from_slice_get xs i x x h in
    subst (λ (v : _). sum_by f (set xs i y) + f v ≡ sum_by f xs + f y) e (sum_by-set f xs i y x lt)

pub get_set_same : {X : Type 0} (xs : List X) (i : ℕ) (x y : X) → slice_get xs i ≡ Some x → slice_get (slice_set xs i y) i ≡ Some y
get_set_same [] i x y h = cc
get_set_same (z ∷ xs) zero x y h = refl
get_set_same (z ∷ xs) (suc i) x y h = get_set_same xs i x y h

pub get_set_other : {X : Type 0} (xs : List X) (i j : ℕ) (y : X) → j ≢ i → slice_get (slice_set xs i y) j ≡ slice_get xs j
get_set_other [] i j y h = refl
get_set_other (z ∷ xs) zero zero y h = absurd (h refl)
get_set_other (z ∷ xs) zero (suc j) y h = refl
get_set_other (z ∷ xs) (suc i) zero y h = refl
get_set_other (z ∷ xs) (suc i) (suc j) y h = get_set_other xs i j y (λ e. h (ap suc e))

-- ---- numbers

-- 1 below the count
abbrev pub below : ℕ → ℕ → ℕ
below j count = if nat_lt j count then 1 else 0

abbrev pub number_at : ℕ → ℕ → LetterView → ℕ
number_at q j l = if is_number (q, j) l.id then 1 else 0

pub number_next : (me count j to : ℕ) (body : List ℕ) → number_at me j (letter_to me count to body) + below j count ≡ below j (count + 1)
number_next me count j to body = grind (arith, nat_tests)

pub numbers_own : (me count j : ℕ) (ss : List (ℕ × List ℕ)) → sum_by (number_at me j) (numbered me count ss) + below j count ≡ below j (count + length ss)
numbers_own me count j [] = rw (zero-add, add-zero) refl
numbers_own me count j (s ∷ ss) =
    let ih = numbers_own me (count + 1) j ss in
    let one = number_next me count j s.0 s.1 in
    let e : (count + 1) + length ss ≡ count + length (s ∷ ss) = omega arith in
    let c : sum_by (number_at me j) (letter_to me count s.0 s.1 ∷ numbered me (count + 1) ss) ≡ number_at me j
    (letter_to me count s.0 s.1) + sum_by (number_at me j) (numbered me (count + 1) ss) = sum_by-cons (number_at me j)
    (letter_to me count s.0 s.1) (numbered me (count + 1) ss) in
    let r : below j ((count + 1) + length ss) ≡ below j (count + length (s ∷ ss)) = ap (below j) e in
    omega (arith, ih, one, c, r)

pub number_elsewhere : (me count q j to : ℕ) (body : List ℕ) → q ≢ me → number_at q j (letter_to me count to body) ≡ 0
number_elsewhere me count q j to body h = grind (arith, nat_tests)

pub numbers_other : (me count q j : ℕ) (ss : List (ℕ × List ℕ)) → q ≢ me → sum_by (number_at q j) (numbered me count ss) ≡ 0
numbers_other me count q j [] h = refl
numbers_other me count q j (s ∷ ss) h =
    let ih = numbers_other me (count + 1) q j ss h in
    let z = number_elsewhere me count q j s.0 s.1 h in
    let c : sum_by (number_at q j) (letter_to me count s.0 s.1 ∷ numbered me (count + 1) ss) ≡ number_at q j
    (letter_to me count s.0 s.1) + sum_by (number_at q j) (numbered me (count + 1) ss) = sum_by-cons (number_at q j)
    (letter_to me count s.0 s.1) (numbered me (count + 1) ss) in
    omega (arith, ih, z, c)

pub numbered_many : (me count : ℕ) (ss : List (ℕ × List ℕ)) → sum_by (λ l. 1) (numbered me count ss) ≡ length ss
numbered_many me count [] = refl
numbered_many me count (s ∷ ss) =
    let ih = numbered_many me (count + 1) ss in
    let c : sum_by (λ (l : LetterView). 1) (letter_to me count s.0 s.1 ∷ numbered me (count + 1) ss) ≡ 1 + sum_by (λ (l : LetterView). 1)
    (numbered me (count + 1) ss) = sum_by-cons (λ (l : LetterView). 1) (letter_to me count s.0 s.1) (numbered me (count + 1) ss) in
    omega (arith, ih, c)

pub numbered_says : (h : ℕ × List ℕ → ℕ) (me count : ℕ) (ss : List (ℕ × List ℕ)) → sum_by (λ l. h (l.to, l.body)) (numbered me count ss) ≡ sum_by h ss
numbered_says h me count [] = refl
numbered_says h me count (s ∷ ss) =
    let ih = numbered_says h me (count + 1) ss in
    let c : sum_by (λ (l : LetterView). h (l.to, l.body)) (letter_to me count s.0 s.1 ∷ numbered me (count + 1) ss) ≡ h s + sum_by
    (λ (l : LetterView). h (l.to, l.body)) (numbered me (count + 1) ss) = sum_by-cons (λ (l : LetterView). h (l.to, l.body))
    (letter_to me count s.0 s.1) (numbered me (count + 1) ss) in
    let d : sum_by h (s ∷ ss) ≡ h s + sum_by h ss = sum_by-cons h s ss in
    omega (arith, ih, c, d)

-- ---- one step of a world

-- each PE is of n elements
abbrev pub AreOf : {C A : Type 0} → ℕ → WorldView C A → Type 0
AreOf {C} n w = (p : ℕ) (pe : PeView C) → slice_get w.pes p ≡ Some pe → pe.n ≡ n

-- each PE has the number of its index
abbrev pub Numbered : {C A : Type 0} → WorldView C A → Type 0
Numbered {C} w = (p : ℕ) (pe : PeView C) → slice_get w.pes p ≡ Some pe → pe.me ≡ p

-- whether the PE, if it is there, has posted number j
abbrev pub known : {C : Type 0} → ℕ → Option (PeView C) → ℕ
known j None = 0
known j (Some pe) = below j pe.count

-- an element that is in the room of some PE
abbrev pub Stands : {C A : Type 0} → WorldView C A → ElementView C → Type 0
Stands {C} w el = (p : ℕ) × (pe : PeView C) × (e : ℕ) × (slice_get w.pes p ≡ Some pe) × (found e pe.room ≡ Some el)

-- from a world to another, with these trace entries: what it holds and what was posted weighs what it holds then
-- and what was executed, by any weight of letters and elements
pub record Stepped {C A : Type 0} (step : Step C) (n : ℕ) (w w' : WorldView C A) (rs : List TraceEntry) : Type 0 where
  pub work : Option (Work C)
  pub new : List LetterView
  pub weighs : (g : Weight) (k : Life → ℕ) → of_world g k w' + (sum_by (weigh g) (work_letters work) + before k work) ≡ of_world g k w + (sum_by (weigh g) new + after k work)
  pub stood : IfSome work (λ x. Stands w x.0)
  pub says : (h : ℕ × List ℕ → ℕ) → sum_by (λ l. h (l.to, l.body)) new ≡ sum_by h (work_sends step n work)
  pub tells_posts : (r : Said → ℕ) → sum_by r (posts rs) ≡ sum_by (λ l. r (l.id, l.to)) new
  pub tells_executions : (r : Said → ℕ) → sum_by r (executions rs) ≡ sum_by (λ l. r (l.id, l.to)) (work_letters work)
  pub same_array : AreOf n w'
  pub same_numbers : Numbered w → Numbered w'
  pub numbers : Numbered w → (q j : ℕ) → sum_by (number_at q j) new + known j (slice_get w.pes q) ≡ known j (slice_get w'.pes q)
  pub counts : posted_count w' ≡ posted_count w + sum_by (λ l. 1) new

pub stays : {C A : Type 0} (step : Step C) (n : ℕ) (w : WorldView C A) (words : List ℕ) (board : BoardState A) (rs : List TraceEntry)
    → AreOf n w → posts rs ≡ [] → executions rs ≡ []
    → Stepped step n w (record { pes = w.pes; queues = w.queues; words = words; board = board }) rs
stays step n w words board rs are p x =
    record {
      work = None;
      new = [];
      weighs = λ g k. refl;
      stood = tt;
      says = λ h. refl;
      tells_posts = λ r. rw p refl;
      tells_executions = λ r. rw x refl;
      same_array = are;
      same_numbers = λ numbered. numbered;
      numbers = λ numbered q j. zero-add _;
      counts = sym (add-zero _);
    }

module _ {C : Type 0} (pes : List (PeView C)) (p : ℕ) (pe pe' : PeView C) (at : slice_get pes p ≡ Some pe) where
  -- what holds of each PE at its index still does where it holds of the new one
  pub each_set : (P : ℕ → PeView C → Type 0) → ((q : ℕ) (x : PeView C) → slice_get pes q ≡ Some x → P q x) → P p pe'
      → (q : ℕ) (x : PeView C) (b : Bool) → nat_eq q p ≡ b → slice_get (slice_set pes p pe') q ≡ Some x → P q x
  each_set P all new q x true t h =
      let e : q ≡ p = grind (arith, nat_tests) in
      let here : slice_get (slice_set pes p pe') p ≡ Some pe' = get_set_same pes p pe pe' at in
      let s : pe' ≡ x = cc in
      subst (λ (v : PeView C). P q v) s (subst (λ (i : ℕ). P i pe') (sym e) new)
  each_set P all new q x false t h =
      let e : q ≢ p = grind (arith, nat_tests) in
      all q x (sym (get_set_other pes p q pe' e) ∙ h)

  pub numbers_set : (new : List LetterView) → pe.me ≡ p
      → ((j : ℕ) → sum_by (number_at pe.me j) new + below j pe.count ≡ below j pe'.count)
      → ((r j : ℕ) → r ≢ pe.me → sum_by (number_at r j) new ≡ 0)
      → (q j : ℕ) (b : Bool) → nat_eq q p ≡ b → sum_by (number_at q j) new + known j (slice_get pes q) ≡ known j (slice_get (slice_set pes p pe') q)
  numbers_set new me mine other q j true t =
      let e : q ≡ p = grind (arith, nat_tests) in
      let f : pe.me ≡ q = me ∙ sym e in
      let here : slice_get (slice_set pes p pe') q ≡ Some pe' = subst (λ (v : ℕ). slice_get (slice_set pes p pe') v ≡ Some pe') (sym e) (get_set_same pes p pe pe' at) in
      let there : slice_get pes q ≡ Some pe = subst (λ (v : ℕ). slice_get pes v ≡ Some pe) (sym e) at in
      rw (here, there) (subst (λ (v : ℕ). sum_by (number_at v j) new + below j pe.count ≡ below j pe'.count) f (mine j))
  numbers_set new me mine other q j false t =
      let e : q ≢ p = grind (arith, nat_tests) in
      let z : sum_by (number_at q j) new ≡ 0 = other q j (λ h. e (h ∙ me)) in
      rw (get_set_other pes p q pe' e, z, zero-add) refl

-- a step of one PE, where its parcels come from queues and go to them
pub stepped : {C A : Type 0} (step : Step C) (n : ℕ) (w : WorldView C A) (p : ℕ) (pe pe' : PeView C) (queues : List (List Parcel))
    (words : List ℕ) (board : BoardState A) (rs : List TraceEntry) (work : Option (Work C)) (came gone : List Parcel)
    → AreOf n w → slice_get w.pes p ≡ Some pe → Moved step pe pe' rs work came gone
    → ((g : Weight) (k : Life → ℕ) → sum_by (of_queue g k) queues + of_queue g k came ≡ sum_by (of_queue g k) w.queues + of_queue g k gone)
    → Stepped step n w (record { pes = slice_set w.pes p pe'; queues = queues; words = words; board = board }) rs
stepped {C} step n w p pe pe' queues words board rs work came gone are at m passes =
    record {
      work = work;
      new = posted step pe work;
      weighs = λ g k.
          let a = sum_at (of_pe g k) w.pes p pe pe' at in
          let b = m.weighs g k in
          let c = passes g k in
          omega (arith, a, b, c);
      stood = stands work m.stood;
      says = λ h. subst (λ (v : ℕ). sum_by (λ (l : LetterView). h (l.to, l.body)) (posted step pe work) ≡ sum_by h (work_sends step v work))
          (are p pe at) (numbered_says h pe.me pe.count (work_sends step pe.n work));
      tells_posts = m.tells_posts;
      tells_executions = m.tells_executions;
      same_array = λ q x. each_set w.pes p pe pe' at (λ i v. v.n ≡ n) are (m.same_n ∙ are p pe at) q x (nat_eq q p) refl;
      same_numbers = λ numbered q x. each_set w.pes p pe pe' at (λ i v. v.me ≡ i) numbered (m.same_me ∙ numbered p pe at) q x (nat_eq q p) refl;
      numbers = λ numbered q j. numbers_set w.pes p pe pe' at (posted step pe work) (numbered p pe at)
          (λ i. subst (λ (v : ℕ). sum_by (number_at pe.me i) (posted step pe work) + below i pe.count ≡ below i v) (sym m.counted)
          (numbers_own pe.me pe.count i (work_sends step pe.n work)))
          (λ r i ne. numbers_other pe.me pe.count r i (work_sends step pe.n work) ne)
          q j (nat_eq q p) refl;
      counts =
          let a = sum_at (λ (x : PeView C). x.count) w.pes p pe pe' at in
          let b = numbered_many pe.me pe.count (work_sends step pe.n work) in
          let c = m.counted in
          omega (arith, a, b, c);
    }
  where
    stands : (o : Option (Work C)) → IfSome o (λ x. (e : ℕ) × (found e pe.room ≡ Some x.0) × All (λ l. l.to ≡ e) (letters_of_entry x.1)) → IfSome o (λ x. Stands w x.0)
    stands None s = tt
    stands (Some x) s = (p, pe, s.0, at, s.1)

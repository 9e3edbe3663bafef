-- What an event keeps of the letters: of those that move, and of those that stay.
use Rattle.std.proofs.Common.{◌≡◌, ℕ, zero, suc, ◌+◌, ◌≤◌, List, [], ◌∷◌, ◌++◌, map, Some, Bool, true, false, sum_by, arith, refl, sym, ◌∙◌, ap, subst}
use Rattle.std.specs.Prelude.{slice_get, slice_set, ◌==◌, ◌&&◌, if◌then◌else◌}
use Rattle.std.proofs.lemmas.Bool.Decides.{nat_tests}
use Rattle.chares.specs.declared.trace_entry.TraceEntry.{TraceEntry}
use Rattle.chares.specs.declared.trace_entry.TraceEntry.TheVariants as Trace
use Rattle.chares.specs.Letters.{LetterView}
use Rattle.rts_core.specs.Accounts.{times, says_number, posts}
use Rattle.rts_core.specs.Worlds.{WorldView}
use Rattle.rts_core.proofs.Listings.{sum_zero}
use Rattle.event_laws.proofs.Moves.{Move, Facts, taken, put, words_after, waits_at, in_room, post_of, room_itself}
use Rattle.event_laws.proofs.Moves.Move.{Still, Runs, Looks, Addresses, Forwards, Installs, Departs}
use Rattle.event_laws.proofs.LocationWords.{misnamed, room_named}
use Rattle.event_laws.proofs.Sites.{Site, LetterWeight, ElementWeight, no_letters, no_elements, world_at, letter_in, look_site, zeros_by}
use Rattle.event_laws.proofs.Sites.Site.{Fresh, Bound, Chasing, Waiting, Room}
use Rattle.event_laws.proofs.Chasing.{AreChasing, of_number, stay_calm, stay_forwarded, stay_left, looks_right, addressed_right, unshelved_right, forwarded_right, all_fresh}
use Rattle.event_laws.proofs.Lags.{strays, stays_right}
use Rattle.event_laws.proofs.LetterTraces.{was_posted, AreCalm, calm_nil, calm_quiet, calm_all, calm_posts, posted_first}

own_number : (id : ℕ × ℕ) → of_number id Fresh id 0 ≡ 1
own_number id = grind (arith, nat_tests)

room_same : (p e q key i : ℕ) → 1 ≤ in_room p e (Room q key) i → (q ≡ p) × (key ≡ e)
room_same p e q key i le = by (q == p) refl (key == e) refl le
  where
    by : (a : Bool) → (q == p) ≡ a → (b : Bool) → (key == e) ≡ b → 1 ≤ (if a && b then 1 else 0) → (q ≡ p) × (key ≡ e)
    by true s true t le = (let x : q ≡ p = grind (arith, nat_tests) in x, let y : key ≡ e = grind (arith, nat_tests) in y)
    by true s false t le = absurd (omega (arith, le))
    by false s b t le = absurd (omega (arith, le))

wait_same : (p e q : ℕ) (id : ℕ × ℕ) (to : ℕ) → 1 ≤ waits_at p e (Waiting q) id to → (q ≡ p) × (to ≡ e)
wait_same p e q id to le = room_same p e q to 0 le

look_waits : (p e r q : ℕ) (id : ℕ × ℕ) (to : ℕ) → 1 ≤ waits_at p e (look_site r (Some q)) id to → (r ≡ p) × (to ≡ e)
look_waits p e r q id to le = by (q == r) le
  where
    by : (b : Bool) → 1 ≤ waits_at p e (if b then Waiting r else Chasing q) id to → (r ≡ p) × (to ≡ e)
    by true le = wait_same p e r id to le
    by false le = absurd (omega (arith, le))

none_wait : (p e : ℕ) (s : Site) → ((id : ℕ × ℕ) (to : ℕ) → waits_at p e s id to ≡ 0) → (ls : List LetterView) → sum_by (letter_in (waits_at p e) no_elements s) ls ≡ 0
none_wait p e s z ls = zeros_by (λ (l : LetterView). 0) (λ (l : LetterView). 0) (letter_in (waits_at p e) no_elements s) ls (λ l a b. z l.id l.to) (sum_zero ls) (sum_zero ls)

module _ {C A : Type 0} (w w' stays : WorldView C A) (rs trace : List TraceEntry) (h : AreChasing w trace)
    (one : (id : ℕ × ℕ) → times (says_number id) (posts (trace ++ rs)) ≤ 1)
    (few : (id : ℕ × ℕ) → world_at (of_number id) no_elements w ≤ 1)
    (named : world_at no_letters (misnamed w.words) w ≡ 0) where
  abbrev pub MoveTakes : Move → Type 0
  MoveTakes m = (g : LetterWeight) (k : ElementWeight) → world_at g k w ≡ taken g k m + world_at g k stays

  abbrev pub MovePuts : Move → Type 0
  MovePuts m = (g : LetterWeight) (k : ElementWeight) → world_at g k w' ≡ put g k m + world_at g k stays

  ran_calm : (first : TraceEntry) (new : List LetterView) → AreCalm (first ∷ map post_of new) → rs ≡ first ∷ map post_of new → AreCalm rs
  ran_calm first new calm is = subst AreCalm (sym is) calm

  nil_calm : rs ≡ [] → AreCalm rs
  nil_calm is = subst AreCalm (sym is) calm_nil

  -- where an element departs from, nothing waits for it
  left_word : (p e i q : ℕ) → MoveTakes (Departs p e i q) → slice_get w.words e ≡ Some p
  left_word p e i q t =
      let a = t no_letters (misnamed w.words) in
      let r = room_named w.words p e i (omega (arith, a, named)) in
      subst (λ (v : ℕ). slice_get w.words v ≡ Some p) (sym r.0) r.1

  left_none : (p e i q : ℕ) → MoveTakes (Departs p e i q) → world_at (waits_at p e) no_elements stays ≡ 0
  left_none p e i q t =
      let a = t no_letters (in_room p e) in
      let b = t (waits_at p e) no_elements in
      let c = room_itself p e i in
      by (world_at (waits_at p e) no_elements w) refl a b c
    where
      by : (n : ℕ) → world_at (waits_at p e) no_elements w ≡ n
          → world_at no_letters (in_room p e) w ≡ in_room p e (Room p e) i + world_at no_letters (in_room p e) stays
          → world_at (waits_at p e) no_elements w ≡ 0 + world_at (waits_at p e) no_elements stays → in_room p e (Room p e) i ≡ 1
          → world_at (waits_at p e) no_elements stays ≡ 0
      by zero is a b c = omega (arith, is, b)
      by (suc n) is a b c = let z = h.away p e (omega (arith, is)) in absurd (omega (arith, a, c, z))

  -- each letter lags as it should
  pub lag_after : (m : Move) → MoveTakes m → MovePuts m → Facts w stays rs m → world_at (strays (words_after m w.words) (trace ++ rs)) no_elements w' ≡ 0
  lag_after Still t p f =
      let a = t (strays w.words trace) no_elements in
      let b = p (strays w.words (trace ++ rs)) no_elements in
      let k = h.lag in
      let s = stay_calm stays w.words w.words trace rs (calm_all rs f).no_forward refl (omega (arith, a, k)) in
      omega (arith, b, s)
  lag_after (Runs ran new) t p (first, quiet, is) =
      let a = t (strays w.words trace) no_elements in
      let b = p (strays w.words (trace ++ rs)) no_elements in
      let k = h.lag in
      let calm : AreCalm rs = ran_calm first new (calm_quiet first (map post_of new) quiet (calm_posts new)) is in
      let s = stay_calm stays w.words w.words trace rs calm.no_forward refl (omega (arith, a, k)) in
      let n = all_fresh w.words trace rs one h.unposted calm.no_forward new (λ id e x. ap (was_posted id e) is ∙ (posted_first id e first (map post_of new) quiet ∙ x)) in
      omega (arith, b, s, n)
  lag_after (Looks r q l) t p (is, word, none) =
      let a = t (strays w.words trace) no_elements in
      let b = p (strays w.words (trace ++ rs)) no_elements in
      let k = h.lag in
      let calm : AreCalm rs = nil_calm is in
      let s = stay_calm stays w.words w.words trace rs calm.no_forward refl (omega (arith, a, k)) in
      let here = stays_right w.words w.words trace rs (Bound r) l.id l.to (calm.no_forward l.id) refl (omega (arith, a, k)) in
      let n = looks_right w.words (trace ++ rs) r q l word here in
      omega (arith, b, s, n)
  lag_after (Addresses q l) t p (is, word) =
      let a = t (strays w.words trace) no_elements in
      let b = p (strays w.words (trace ++ rs)) no_elements in
      let k = h.lag in
      let calm : AreCalm rs = nil_calm is in
      let s = stay_calm stays w.words w.words trace rs calm.no_forward refl (omega (arith, a, k)) in
      let here = stays_right w.words w.words trace rs Fresh l.id l.to (calm.no_forward l.id) refl (omega (arith, a, k)) in
      let n = addressed_right w.words (trace ++ rs) q l word here in
      omega (arith, b, s, n)
  lag_after (Forwards q l) t p is =
      let a = t (strays w.words trace) no_elements in
      let b = p (strays w.words (trace ++ rs)) no_elements in
      let k = h.lag in
      let c = t (of_number l.id) no_elements in
      let d = few l.id in
      let e = own_number l.id in
      let s = stay_forwarded stays w.words w.words trace rs l.id is refl (omega (arith, c, d, e)) (omega (arith, a, k)) in
      let n : letter_in (strays w.words (trace ++ rs)) no_elements (Bound q) l ≡ 0 = subst
      (λ (v : List TraceEntry). letter_in (strays w.words (trace ++ v)) no_elements (Bound q) l ≡ 0) (sym is)
      (forwarded_right w.words trace q l (omega (arith, a, k))) in
      omega (arith, b, s, n)
  lag_after (Installs r e letters) t p (is, none) =
      let a = t (strays w.words trace) no_elements in
      let b = p (strays w.words (trace ++ rs)) no_elements in
      let k = h.lag in
      let calm : AreCalm rs = subst AreCalm (sym is) (calm_quiet (Trace.Installed e) [] tt calm_nil) in
      let s = stay_calm stays w.words w.words trace rs calm.no_forward refl (omega (arith, a, k)) in
      let old : sum_by (letter_in (strays w.words trace) no_elements (Waiting r)) letters ≡ 0 = omega (arith, a, k) in
      let n = zeros_by (letter_in (strays w.words trace) no_elements (Waiting r)) (letter_in (strays w.words trace) no_elements (Waiting r))
      (letter_in (strays w.words (trace ++ rs)) no_elements (Bound r)) letters
      (λ l x y. unshelved_right w.words (trace ++ rs) r l (stays_right w.words w.words trace rs (Waiting r) l.id l.to (calm.no_forward l.id) refl x)) old old in
      omega (arith, b, s, n)
  lag_after (Departs r e i q) t p is =
      let a = t (strays w.words trace) no_elements in
      let b = p (strays (slice_set w.words e q) (trace ++ rs)) no_elements in
      let k = h.lag in
      let s : world_at (strays (slice_set w.words e q) (trace ++ rs)) no_elements stays ≡ 0 =
      subst (λ (v : List TraceEntry). world_at (strays (slice_set w.words e q) (trace ++ v)) no_elements stays ≡ 0) (sym is)
      (stay_left stays w.words trace r e q (left_word r e i q t) (left_none r e i q t) (omega (arith, a, k))) in
      omega (arith, b, s)

  -- while a letter waits, its element is not in the room
  keeps_away : (p e : ℕ) → world_at (waits_at p e) no_elements w' ≤ world_at (waits_at p e) no_elements w
      → world_at no_letters (in_room p e) w' ≤ world_at no_letters (in_room p e) w → 1 ≤ world_at (waits_at p e) no_elements w'
      → world_at no_letters (in_room p e) w' ≡ 0
  keeps_away p e fewer less le = let a = h.away p e (omega (arith, fewer, le)) in omega (arith, a, less)

  pub away_after : (m : Move) → MoveTakes m → MovePuts m → Facts w stays rs m → (p e : ℕ) → 1 ≤ world_at (waits_at p e) no_elements w' → world_at no_letters (in_room p e) w' ≡ 0
  away_after Still t u f p e le =
      let a = t (waits_at p e) no_elements in
      let b = u (waits_at p e) no_elements in
      let c = t no_letters (in_room p e) in
      let d = u no_letters (in_room p e) in
      keeps_away p e (omega (arith, a, b)) (omega (arith, c, d)) le
  away_after (Runs ran new) t u f p e le =
      let a = t (waits_at p e) no_elements in
      let b = u (waits_at p e) no_elements in
      let c = t no_letters (in_room p e) in
      let d = u no_letters (in_room p e) in
      let x = none_wait p e Fresh (λ id to. refl) new in
      let y : sum_by (letter_in no_letters (in_room p e) Fresh) new ≡ 0 = sum_zero new in
      keeps_away p e (omega (arith, a, b, x)) (omega (arith, c, d, y)) le
  away_after (Looks r q l) t u (is, word, none) p e le =
      let a = t (waits_at p e) no_elements in
      let b = u (waits_at p e) no_elements in
      let c = t no_letters (in_room p e) in
      let d = u no_letters (in_room p e) in
      by (letter_in (waits_at p e) no_elements (look_site r (Some q)) l) refl a b c d
    where
      by : (n : ℕ) → letter_in (waits_at p e) no_elements (look_site r (Some q)) l ≡ n
          → world_at (waits_at p e) no_elements w ≡ 0 + world_at (waits_at p e) no_elements stays
          → world_at (waits_at p e) no_elements w' ≡ letter_in (waits_at p e) no_elements (look_site r (Some q)) l + world_at (waits_at p e) no_elements stays
          → world_at no_letters (in_room p e) w ≡ 0 + world_at no_letters (in_room p e) stays
          → world_at no_letters (in_room p e) w' ≡ 0 + world_at no_letters (in_room p e) stays
          → world_at no_letters (in_room p e) w' ≡ 0
      by zero z a b c d = keeps_away p e (omega (arith, a, b, z)) (omega (arith, c, d)) le
      by (suc n) z a b c d =
          let s = look_waits p e r q l.id l.to (omega (arith, z)) in
          let x : world_at no_letters (in_room p e) w ≡ 0 = subst (λ (v : ℕ). world_at no_letters (in_room v e) w ≡ 0) s.0
          (subst (λ (v : ℕ). world_at no_letters (in_room r v) w ≡ 0) s.1 none) in
          omega (arith, c, d, x)
  away_after (Addresses q l) t u f p e le =
      let a = t (waits_at p e) no_elements in
      let b = u (waits_at p e) no_elements in
      let c = t no_letters (in_room p e) in
      let d = u no_letters (in_room p e) in
      keeps_away p e (omega (arith, a, b)) (omega (arith, c, d)) le
  away_after (Forwards q l) t u f p e le =
      let a = t (waits_at p e) no_elements in
      let b = u (waits_at p e) no_elements in
      let c = t no_letters (in_room p e) in
      let d = u no_letters (in_room p e) in
      keeps_away p e (omega (arith, a, b)) (omega (arith, c, d)) le
  away_after (Installs r i letters) t u (is, none) p e le =
      let a = t (waits_at p e) no_elements in
      let b = u (waits_at p e) no_elements in
      let c = t no_letters (in_room p e) in
      let d = u no_letters (in_room p e) in
      let x = none_wait p e (Bound r) (λ id to. refl) letters in
      let y : sum_by (letter_in no_letters (in_room p e) (Bound r)) letters ≡ 0 = sum_zero letters in
      let fewer : world_at (waits_at p e) no_elements w' ≡ world_at (waits_at p e) no_elements stays = omega (arith, b, x) in
      let more : world_at (waits_at p e) no_elements stays ≤ world_at (waits_at p e) no_elements w = omega (arith, a) in
      let less : world_at no_letters (in_room p e) stays ≤ world_at no_letters (in_room p e) w = omega (arith, c) in
      let new : world_at no_letters (in_room p e) w' ≡ in_room p e (Room r i) i + world_at no_letters (in_room p e) stays = omega (arith, d, y) in
      by (in_room p e (Room r i) i) refl fewer more less new
    where
      by : (n : ℕ) → in_room p e (Room r i) i ≡ n
          → world_at (waits_at p e) no_elements w' ≡ world_at (waits_at p e) no_elements stays
          → world_at (waits_at p e) no_elements stays ≤ world_at (waits_at p e) no_elements w
          → world_at no_letters (in_room p e) stays ≤ world_at no_letters (in_room p e) w
          → world_at no_letters (in_room p e) w' ≡ in_room p e (Room r i) i + world_at no_letters (in_room p e) stays
          → world_at no_letters (in_room p e) w' ≡ 0
      by zero z fewer more less new = keeps_away p e (omega (arith, fewer, more)) (omega (arith, new, z, less)) le
      by (suc n) z fewer more less new =
          let s = room_same p e r i i (omega (arith, z)) in
          let x : world_at (waits_at p e) no_elements stays ≡ 0 = subst (λ (v : ℕ). world_at (waits_at v e) no_elements stays ≡ 0) s.0
          (subst (λ (v : ℕ). world_at (waits_at r v) no_elements stays ≡ 0) s.1 none) in
          absurd (omega (arith, fewer, x, le))
  away_after (Departs r i j q) t u f p e le =
      let a = t (waits_at p e) no_elements in
      let b = u (waits_at p e) no_elements in
      let c = t no_letters (in_room p e) in
      let d = u no_letters (in_room p e) in
      keeps_away p e (omega (arith, a, b)) (omega (arith, c, d)) le

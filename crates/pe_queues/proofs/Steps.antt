-- Each kind of step on a queue keeps its rule, and what is learned of the rule by the traffic of all seats.
use Rattle.std.proofs.Common.{◌≡◌, ◌≢◌, ℕ, ◌+◌, ◌<◌, List, [], ◌∷◌, ◌++◌, length, set, sum_by, sym, refl, ap, ◌∙◌, subst, ⊎_elim, arith, append-nil, length-append, append_assoc}
use Rattle.std.proofs.lemmas.List.Sums.{sum_by-cons, sum_by-append, sum_by_push}
use mathlib.Core.Option.{some, some-ne-none}
use lib.ListN.{get_elem?}
use Rattle.crossbeam_queue.specs.Fifo.{Held, Pushes, Pops, Forks, Merges, Learns}
use Rattle.crossbeam_queue.proofs.Lists.{at_set, at_snoc}
use Rattle.chare_index.specs.declared.limits.TheConstants.Limits.{SEATS}
use Rattle.pe_queues.specs.declared.traffic.Traffic.{Traffic}
use Rattle.pe_queues.specs.Conservation.{Conserved, Balances, Seen, IsShare, traffic, all_traffic, no_traffic, with_put, with_take, without_one, of_one, of_both}
use Rattle.pe_queues.proofs.Totals.{changed_there, sum_changed, one_of_sum, all_in_one, sum_of_ones, sum_of_none}

module _ {T : Type 0} where
  -- a pass that is no seat has no traffic
  abbrev AreSpent : List (Traffic T) → Type 0
  AreSpent passes = (pass : ℕ) (v : Traffic T) → get_elem? passes pass ≡ some v → v.seats ≡ 0 → v ≡ no_traffic

  spent_changed : (passes : List (Traffic T)) (pass : ℕ) (w : Traffic T) → (w.seats ≡ 0 → w ≡ no_traffic) → AreSpent passes → AreSpent (set passes pass w)
  spent_changed passes pass w mine others j u at none = ⊎_elim
      (λ (x : (j ≡ pass) × (w ≡ u)). subst (λ (y : Traffic T). y.seats ≡ 0 → y ≡ no_traffic) x.1 mine none)
      (λ (x : (j ≢ pass) × (get_elem? passes j ≡ some u)). others j u x.1 none) (at_set passes pass j w u at)

  spent_pushed : (passes : List (Traffic T)) (w : Traffic T) → (w.seats ≡ 0 → w ≡ no_traffic) → AreSpent passes → AreSpent (passes ++ w ∷ [])
  spent_pushed passes w mine others j u at none = ⊎_elim
      (λ (x : get_elem? passes j ≡ some u). others j u x none)
      (λ (is : w ≡ u). subst (λ (y : Traffic T). y.seats ≡ 0 → y ≡ no_traffic) is mine none) (at_snoc passes w u j at)

  abbrev seats_in : Traffic T → ℕ
  seats_in v = v.seats

  abbrev rooms_in : Traffic T → ℕ
  rooms_in v = v.rooms

  abbrev put_in : (T → ℕ) → Traffic T → ℕ
  put_in weight v = sum_by weight v.puts

  abbrev taken_in : (T → ℕ) → Traffic T → ℕ
  taken_in weight v = sum_by weight v.takes

  -- an empty queue whose seats are all one pass
  pub begins : Conserved {T = T} [] (all_traffic ∷ [])
  begins = record {
    seats = refl;
    rooms = refl;
    balance = λ weight. refl;
    spent = spent_pushed [] all_traffic (λ none. absurd (omega arith)) (λ j u at. absurd (some-ne-none u (sym at)));
  }

  pub pushes : (n pass : ℕ) (v : Traffic T) (x : T) → 0 < v.seats → Pushes Conserved n pass v x (λ w. w ≡ with_put v x)
  pushes n pass v x seated items passes room b at =
      let w : Traffic T = with_put v x in (
        w,
        record {
          seats = (let s = sum_changed seats_in passes pass v w at in let b = b.seats in omega arith);
          rooms = (let s = sum_changed rooms_in passes pass v w at in let b = b.rooms in omega arith);
          balance = λ weight.
              let p = sum_changed (put_in weight) passes pass v w at in
              let t = sum_changed (taken_in weight) passes pass v w at in
              let b = b.balance weight in
              omega (arith, sum_by_push weight v.puts x, sum_by_push weight items x);
          spent = spent_changed passes pass w (λ none. absurd (omega arith)) b.spent;
        },
        refl,
      )

  pub pops : (pass : ℕ) (v : Traffic T) → 0 < v.seats → Pops Conserved pass v (λ x w. (w ≡ with_take v x) × ((items : List T) × Seen w items))
  pops pass v seated x items passes b at =
      let w : Traffic T = with_take v x in
      let kept : Conserved items (set passes pass w) = record {
        seats = (let s = sum_changed seats_in passes pass v w at in let b = b.seats in omega arith);
        rooms = (let s = sum_changed rooms_in passes pass v w at in let b = b.rooms in omega arith);
        balance = λ weight.
            let p = sum_changed (put_in weight) passes pass v w at in
            let t = sum_changed (taken_in weight) passes pass v w at in
            let b = b.balance weight in
            omega (arith, sum_by_push weight v.takes x, sum_by-cons weight x items);
        spent = spent_changed passes pass w (λ none. absurd (omega arith)) b.spent;
      } in
      (w, kept, (refl, (items, record { passes = set passes pass w; pass = pass; rule = kept; at = changed_there passes pass v w at })))

  pub splits : (pass : ℕ) (v : Traffic T) → 1 < v.seats → Forks Conserved pass v (without_one v) of_one
  splits pass v two items passes b at =
      let l : Traffic T = without_one v in
      let r : Traffic T = of_one in
      let ps = set passes pass l in
      record {
        seats = (let s = sum_changed seats_in passes pass v l at in let b = b.seats in omega (arith, sum_by_push seats_in ps r));
        rooms = (let s = sum_changed rooms_in passes pass v l at in let b = b.rooms in omega (arith, sum_by_push rooms_in ps r));
        balance = λ weight.
            let p = sum_changed (put_in weight) passes pass v l at in
            let t = sum_changed (taken_in weight) passes pass v l at in
            let b = b.balance weight in
            omega (arith, sum_by_push (put_in weight) ps r, sum_by_push (taken_in weight) ps r);
        spent = spent_pushed ps r (λ none. absurd (omega arith)) (spent_changed passes pass l (λ none. absurd (omega arith)) b.spent);
      }

  pub joins : (pass : ℕ) (v : Traffic T) (other : ℕ) (u : Traffic T) → 0 < v.seats → Merges Conserved pass v other u (of_both v u) no_traffic
  joins pass v other u seated items passes b at two at' =
      let w : Traffic T = of_both v u in
      let z : Traffic T = no_traffic in
      let ps = set passes pass w in
      record {
        seats = (let s = sum_changed seats_in passes pass v w at in let t = sum_changed seats_in ps other u z at' in let b = b.seats in omega arith);
        rooms = (let s = sum_changed rooms_in passes pass v w at in let t = sum_changed rooms_in ps other u z at' in let b = b.rooms in omega arith);
        balance = λ weight.
            let p = sum_changed (put_in weight) passes pass v w at in
            let p' = sum_changed (put_in weight) ps other u z at' in
            let t = sum_changed (taken_in weight) passes pass v w at in
            let t' = sum_changed (taken_in weight) ps other u z at' in
            let b = b.balance weight in
            omega (arith, sum_by-append weight v.puts u.puts, sum_by-append weight v.takes u.takes);
        spent = spent_changed ps other z (λ none. refl) (spent_changed passes pass w (λ none. absurd (omega arith)) b.spent);
      }

  pub looks : (pass : ℕ) (v : Traffic T) → Learns Conserved pass v (Seen v)
  looks pass v items passes b at = record { passes = passes; pass = pass; rule = b; at = at }

  -- the traffic of all seats is all that went through the queue
  pub all_balanced : (v : Traffic T) (items : List T) → Seen v items → v.seats ≡ SEATS → Balances v.puts v.takes items
  all_balanced v items seen all weight =
      let b = seen.rule in
      let whole : sum_by seats_in seen.passes ≡ v.seats = b.seats ∙ sym all in
      let p = all_in_one seats_in (put_in weight) seen.passes seen.pass v seen.at whole (λ j u at none. ap (put_in weight) (b.spent j u at none)) in
      let t = all_in_one seats_in (taken_in weight) seen.passes seen.pass v seen.at whole (λ j u at none. ap (taken_in weight) (b.spent j u at none)) in
      let q = b.balance weight in
      omega arith

  pub all_counted : (v : Traffic T) (items : List T) → Seen v items → v.seats ≡ SEATS → length v.puts ≡ length v.takes + length items
  all_counted v items seen all =
      let b = all_balanced v items seen all (λ _. 1) in
      omega (arith, sum_of_ones v.puts, sum_of_ones v.takes, sum_of_ones items)

  -- no pass is more than all seats, and the one that is all seats has the room
  pub shares : (v : Traffic T) (items : List T) → Seen v items → IsShare v
  shares v items seen =
      let b = seen.rule in
      record {
        few = (let s = b.seats in let m = one_of_sum seats_in seen.passes seen.pass v seen.at in omega arith);
        whole = λ all.
            let whole : sum_by seats_in seen.passes ≡ v.seats = b.seats ∙ sym all in
            let r = all_in_one seats_in rooms_in seen.passes seen.pass v seen.at whole (λ j u at none. ap rooms_in (b.spent j u at none)) in
            sym r ∙ b.rooms;
      }

  pub held_counts : (v : Traffic T) (n : ℕ) → Held n (Seen v) → v.seats ≡ SEATS → length v.puts ≡ length v.takes + n
  held_counts v n held all = let c = all_counted v held.0 held.2 all in let e = held.1 in omega arith

  -- the traffic after so much more was taken
  abbrev pub drained : Traffic T → List T → Traffic T
  drained v left = traffic v.seats v.rooms v.puts (v.takes ++ left)

  pub drained_none : (v : Traffic T) (left : List T) → left ≡ [] → v ≡ drained v left
  drained_none v left none =
      let same : v.takes ≡ v.takes ++ left = sym (append-nil v.takes) ∙ ap (λ l. v.takes ++ l) (sym none) in
      λ i. traffic v.seats v.rooms v.puts (same i)

  pub drained_more : (v w u : Traffic T) (left : List T) (x : T) → w ≡ drained v left → u ≡ with_take w x → u ≡ drained v (left ++ x ∷ [])
  drained_more v w u left x before after =
      after ∙ ap (λ y. with_take y x) before ∙ ap (λ l. traffic v.seats v.rooms v.puts l) (append_assoc v.takes left (x ∷ []))

  -- what is left is what was counted, less what was taken since
  pub drained_counts : (v w : Traffic T) (left items : List T) (n : ℕ) → w ≡ drained v left → v.seats ≡ SEATS → length v.puts ≡ length v.takes + n
      → Seen w items → length left + length items ≡ n
  drained_counts v w left items n is all count seen =
      let c = all_counted w items seen (ap seats_in is ∙ all) in
      let p : length w.puts ≡ length v.puts = ap (λ (u : Traffic T). length u.puts) is in
      let t : length w.takes ≡ length (v.takes ++ left) = ap (λ (u : Traffic T). length u.takes) is in
      omega (arith, length-append v.takes left)

  pub drained_all : (v w : Traffic T) (left : List T) → w ≡ drained v left → v.seats ≡ SEATS → Held 0 (Seen w) → Balances v.puts v.takes left
  drained_all v w left is all held weight =
      let b = all_balanced w held.0 held.2 (ap seats_in is ∙ all) weight in
      let none = sum_of_none weight held.0 held.1 in
      let p : sum_by weight w.puts ≡ sum_by weight v.puts = ap (put_in weight) is in
      let t : sum_by weight w.takes ≡ sum_by weight (v.takes ++ left) = ap (taken_in weight) is in
      omega (arith, sum_by-append weight v.takes left)

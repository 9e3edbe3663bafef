-- An element that handles its journal in order, entry by entry: what it has done so far for the round that it works for.
use Rattle.std.proofs.Common.{◌≡◌, ℕ, ◌+◌, ◌-◌, ◌≤◌, min, List, [], ◌∷◌, ◌++◌, length, map, drop, Some, true, false, ◌⊎◌, inl, inr, append_assoc, arith, refl, sym, ◌∙◌, ap, subst}
use Rattle.std.specs.Prelude.{if◌then◌else◌, slice_get}
use Rattle.chare_index.specs.declared.limits.TheConstants.Limits.{LOAD}
use Rattle.chares.specs.declared.entry.Entry.TheVariants.{Letter, Resumption}
use Rattle.chares.specs.declared.note.Mark.{Mark}
use Rattle.chares.specs.declared.progress.Ending.{Ending}
use Rattle.chares.specs.declared.progress.Ending.TheVariants.{Runs, Syncs, Finishes}
use Rattle.chares.specs.declared.progress.Progress.{Progress}
use Rattle.chares.specs.Elements.{ElementView, opening_element, outcome_of, worked, ending_of, note_of, ran, IsHistory}
use Rattle.chares.specs.Letters.{Done}
use Rattle.chares.specs.Progressing.{entered, charged, ended, note_at, resumed_mark, synced_mark}
use Rattle.chares.specs.Steps.{Step}
use Rattle.chares.specs.Orders.{stop_of, stops_by, IsInOrder}
use Rattle.event_laws.specs.Rounds.{units_at, Begins}
use Rattle.event_laws.proofs.JournalMarks.{marks_over, lived_marks}
use Rattle.event_laws.proofs.JournalStages.{cut_at, IsAt, Reached, units, stage_next, units_here, units_none, units_more, reached_here}
use Rattle.event_laws.proofs.StopOrder.{InTurn, Follow, by_turn}

-- a load that counts more units, up to a limit
min_more : (x y z u limit : ℕ) → x ≡ min y limit → z ≡ y + u → min (x + u) limit ≡ min z limit
min_more x y z u limit h e = omega arith

-- the round that an element works for: the next one, and while it waits for that the one after
abbrev pub due : Progress → ℕ
due p = if p.synced then p.round + 2 else p.round + 1

pub due_runs : (p : Progress) → p.synced ≡ false → due p ≡ p.round + 1
due_runs p h = rw h refl

due_waits : (p : Progress) → p.synced ≡ true → due p ≡ p.round + 2
due_waits p h = rw h refl

module _ {C : Type 0} (step : Step C) (pack : C → List ℕ) (n e : ℕ) (chare : C) (journal : List Done) where
  -- what an element with this progress has done in its first k entries for the round that it works for
  pub record Works (p : Progress) (k : ℕ) : Type 0 where
    pub first : ℕ
    pub within : first ≤ k
    pub begins : Begins step pack n e chare journal (due p) first
    pub loaded : p.load ≡ min (units step pack n e chare journal first k) LOAD
    pub fresh : p.started ≡ false → (p.round ≡ 0) × (p.synced ≡ false)

  -- ---- one entry: it is entered, charged, and ended

  pub due_begun : (p : Progress) (k round : ℕ) → Works p k → ((p.started ≡ false) × (round ≡ 0)) ⊎ ((p.synced ≡ true) × (round ≡ p.round + 1)) → due p ≡ round + 1
  due_begun p k round w (inl h) =
      let f = w.fresh h.0 in
      let a = due_runs p f.1 in
      omega (arith, a, f.0, h.1)
  due_begun p k round w (inr h) =
      let a = due_waits p h.0 in
      omega (arith, a, h.1)

  works_entered : (p : Progress) (k pe : ℕ) (done : Done) (xs : List Mark) → Works p k → Follow p (map stop_of (resumed_mark pe done ++ xs))
      → Works (entered p done) k × Follow (entered p done) (map stop_of xs)
  works_entered p k pe (Letter l) xs w turn = (w, turn)
  works_entered p k pe (Resumption round) xs w turn =
      let b : Begins step pack n e chare journal (round + 1) w.first = subst (λ (r : ℕ). Begins step pack n e chare journal r w.first) (due_begun p k round w turn.0) w.begins in
      (record { first = w.first; within = w.within; begins = b; loaded = w.loaded; fresh = λ is. absurd (cc) }, turn.1)

  works_charged : (p : Progress) (k new : ℕ) → Works p k → units_at step pack n e chare journal k ≡ new → (after : Works (charged p new) (k + 1)) × (after.first ≤ k)
  works_charged p k new w is =
      let a : units step pack n e chare journal w.first (k + 1) ≡ units step pack n e chare journal w.first k + new =
      units_more step pack n e chare journal w.first k w.within ∙ ap (λ (u : ℕ). units step pack n e chare journal w.first k + u) is in
      let b : p.load ≡ min (units step pack n e chare journal w.first k) LOAD = w.loaded in
      let c = min_more p.load (units step pack n e chare journal w.first k) (units step pack n e chare journal w.first (k + 1)) new LOAD b a in
      (record { first = w.first; within = omega (arith, w.within); begins = w.begins; loaded = c; fresh = w.fresh }, w.within)

  works_synced : (k : ℕ) (p : Progress) → p.started ≡ true → Reached step pack n e chare journal k (p.round + 1) → Works (ended p Syncs) (k + 1)
  works_synced k p started reached =
      let r : p.round + 1 ≡ (p.round + 2) - 1 = omega arith in
      let a = units_none step pack n e chare journal (k + 1) in
      let b : Reached step pack n e chare journal k ((p.round + 2) - 1) = subst (λ (m : ℕ). Reached step pack n e chare journal k m) r reached in
      record {
        first = k + 1;
        within = omega arith;
        begins = inr (k, b, refl);
        loaded = omega (arith, a);
        fresh = λ is. absurd (cc);
      }

  works_ended : (k index bytes pe : ℕ) (p : Progress) (en : Ending) (more : List Mark) → Works p (k + 1)
      → (en ≡ Syncs → Reached step pack n e chare journal k (p.round + 1))
      → Follow p (map stop_of (synced_mark (note_at p index bytes pe en) ++ more))
      → Works (ended p en) (k + 1) × Follow (ended p en) (map stop_of more)
  works_ended k index bytes pe p Runs more w reached turn = (w, turn)
  works_ended k index bytes pe p Finishes more w reached turn = (record { first = w.first; within = w.within; begins = w.begins; loaded = w.loaded; fresh = w.fresh }, turn)
  works_ended k index bytes pe p Syncs more w reached turn = (works_synced k p turn.0 (reached refl), turn.3)

  -- ---- the walk

  -- an element that has handled k entries of the journal in order, and is to handle these next
  pub record Walks (el : ElementView C) (rest : List (Done × ℕ)) (k : ℕ) : Type 0 where
    pub others : List Mark
    pub at : IsAt step pack n e chare journal el others k
    pub same : el.index ≡ e
    pub left : drop k journal ≡ map (λ x. x.0) rest
    pub works : Works el.progress k
    pub turn : Follow el.progress (map stop_of (marks_over step pack el n rest))

  -- an element as it handles the first of these: the entry, the stage after it, what was done with its units, and the stops
  -- from its effect on
  pub record Handles (el : ElementView C) (x : Done × ℕ) (rest : List (Done × ℕ)) (k : ℕ) : Type 0 where
    pub is_entry : slice_get journal k ≡ Some x.0
    pub others : List Mark
    pub at : IsAt step pack n e chare journal (ran step pack el n x.1 x.0) others (k + 1)
    pub left : drop (k + 1) journal ≡ map (λ y. y.0) rest
    pub reached : ending_of step pack el n x.0 ≡ Syncs → Reached step pack n e chare journal k ((worked step pack el n x.0).round + 1)
    pub resumed : Follow el.progress (map stop_of (resumed_mark x.1 x.0
        ++ (synced_mark (note_of step pack el n x.1 x.0) ++ marks_over step pack (ran step pack el n x.1 x.0) n rest)))
    pub works : Works (worked step pack el n x.0) (k + 1)
    pub within : works.first ≤ k
    pub turn : Follow (worked step pack el n x.0) (map stop_of (synced_mark (note_of step pack el n x.1 x.0) ++ marks_over step pack (ran step pack el n x.1 x.0) n rest))

  pub handles : (el : ElementView C) (x : Done × ℕ) (rest : List (Done × ℕ)) (k : ℕ) → Walks el (x ∷ rest) k → Handles el x rest k
  handles el x rest k w =
      let here = cut_at journal k x.0 (map (λ (y : Done × ℕ). y.0) rest) w.left in
      let sync = synced_mark (note_of step pack el n x.1 x.0) in
      let more = marks_over step pack (ran step pack el n x.1 x.0) n rest in
      let turns = subst (λ (v : List Mark). Follow el.progress (map stop_of v)) (append_assoc (resumed_mark x.1 x.0) sync more) w.turn in
      let one = works_entered el.progress k x.1 x.0 (sync ++ more) w.works turns in
      let two = works_charged (entered el.progress x.0) k (outcome_of step pack el n x.0).effect.units one.0
      (units_here step pack n e chare journal k x.0 el w.others here.0 w.at) in
      record {
        is_entry = here.0;
        others = w.others ++ (resumed_mark 0 x.0 ++ synced_mark (note_of step pack el n 0 x.0));
        at = stage_next step pack n e chare journal k x.0 here.2 ∙ ap (λ (v : ElementView C). ran step pack v n 0 x.0) w.at;
        left = here.1;
        reached = reached_here step pack n e chare journal k x.0 el w.others here.0 w.at;
        resumed = turns;
        works = two.0;
        within = two.1;
        turn = one.1;
      }

  pub walks_on : (el : ElementView C) (x : Done × ℕ) (rest : List (Done × ℕ)) (k : ℕ) → Walks el (x ∷ rest) k → Walks (ran step pack el n x.1 x.0) rest (k + 1)
  walks_on el x rest k w =
      let h = handles el x rest k w in
      let a =
      works_ended k el.index (length (pack (outcome_of step pack el n x.0).state)) x.1 (worked step pack el n x.0) (ending_of step pack el n x.0)
      (marks_over step pack (ran step pack el n x.1 x.0) n rest) h.works h.reached h.turn in
      record { others = h.others; at = h.at; same = w.same; left = h.left; works = a.0; turn = a.1 }

  works_opening : Works (opening_element e chare).progress 0
  works_opening =
      let a = units_none step pack n e chare journal 0 in
      record { first = 0; within = omega arith; begins = inl (refl, refl); loaded = omega (arith, a); fresh = λ is. (refl, refl) }

-- the marks of an element are those that its entries leave
pub all_marks : {C : Type 0} (step : Step C) (pack : C → List ℕ) (opened : List C) (el : ElementView C) (h : IsHistory step pack opened el)
    → marks_over step pack (opening_element el.index h.opening) (length opened) h.entries ≡ el.marks
all_marks {C} step pack opened el h =
    sym (lived_marks step pack (opening_element el.index h.opening) (length opened) h.entries) ∙ ap (λ (v : ElementView C). v.marks) h.is_lived

-- an element that is in order has handled its journal so
pub all_walks : {C : Type 0} (step : Step C) (pack : C → List ℕ) (opened : List C) (el : ElementView C) (h : IsHistory step pack opened el)
    → IsInOrder el.journal el.progress el.marks
    → Walks step pack (length opened) el.index h.opening el.journal (opening_element el.index h.opening) h.entries 0
all_walks {C} step pack opened el h order =
    let stops : map stop_of (marks_over step pack (opening_element el.index h.opening) (length opened) h.entries) ≡ stops_by el.progress =
    ap (map stop_of) (all_marks step pack opened el h) ∙ order.stops in
    record {
      others = [];
      at = refl;
      same = refl;
      left = sym h.is_journal;
      works = works_opening step pack (length opened) el.index h.opening el.journal;
      turn = subst (InTurn false 0 false) (sym stops) (by_turn el.progress);
    }

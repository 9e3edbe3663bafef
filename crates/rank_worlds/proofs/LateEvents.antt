-- A run of ranks whose notes come late is a list of events of a world in which the PE of each rank still owes the notes that are under way.
use Rattle.std.proofs.Common.{◌≡◌, ℕ, zero, suc, ◌+◌, List, [], ◌∷◌, ◌++◌, Option, Some, None, refl, sym, ap, subst, ◌∙◌, inl, append_assoc}
use Rattle.std.specs.Prelude.{All, IfSome, IsSome, MatchOption, drop, map, slice_get, slice_set, take}
use Rattle.std.specs.List.{range_with_len}
use Rattle.sync_board.specs.Boards.{BoardState}
use Rattle.sync_board.specs.declared.strategy.Strategy.{Strategy}
use Rattle.chares.specs.declared.note.Note.{Note}
use Rattle.chares.specs.declared.trace_entry.TraceEntry.{TraceEntry}
use Rattle.event_laws.specs.Agreement.{AllTaken}
use Rattle.foreign_chare.specs.Scripts.{Stamp}
use Rattle.overtaking_laws.specs.FreeRuns.{HappensUnordered}
use Rattle.overtaking_laws.specs.StaleRuns.{ReachesByCopies, with_words}
use Rattle.pe_state.specs.Pes.{Parcel, PeView, noted}
use Rattle.rank_calls.specs.Runs.{Run, opened, opening, stamp_pack, stamp_unpack, step_in}
use Rattle.rank_calls.specs.declared.request.Reply.{Reply}
use Rattle.rank_calls.specs.declared.request.Request.{Request}
use Rattle.rank_ledgers.specs.Ranks.{done_by}
use Rattle.rank_ledgers.proofs.Ledgers.{called}
use Rattle.rank_worlds.specs.LateNotes.{ArePesOf, IsAnsweredLate, IsDecidedLate, IsPeOf, BoardTakes, IsWorldOf, LateStep, NotingRank, Ranks, ReachesLate, late_entries, notes_after, opening_late}
use Rattle.rank_worlds.specs.LateNotes.LateStep.{Asks, Takes, Decides}
use Rattle.rank_worlds.specs.LateRuns.{IsLedTo, events_in, late_event, with_copy}
use Rattle.rank_worlds.specs.RankRuns.{opening_ranks}
use Rattle.rank_worlds.specs.Worlds.{Follows, IsCarried, IsNoted, entries_of, event_of}
use Rattle.rank_worlds.proofs.CallEvents.{IsReady, is_event, left, ready, set_back}
use Rattle.rank_worlds.proofs.Openings.{opens}
use Rattle.rank_worlds.proofs.OwingPes.{Owes, acts_owing, looks_owing, owing, resumes_owing}
use Rattle.rank_worlds.proofs.RankEvents.{one_before}
use Rattle.rts_core.specs.Calls.{Call, Place, Receive, HandBack, Look, Send, NoteDone, Act, Depart, Resume, Refused, after_call}
use Rattle.rts_core.specs.Events.{After, IsDecision, board_after}
use Rattle.rts_core.specs.Worlds.{WorldView, opening_world}
use Rattle.rts_core.proofs.Histories.{one_of_all}
use Rattle.rts_core.proofs.Sent.{all_at}
use Rattle.rts_core.specs.declared.event.Event.{Event}
use Rattle.rts_core.specs.declared.event.Event.TheVariants.{Decide, Report}

-- ---- the PEs of a world of ranks

pub pe_at : (ranks : List NotingRank) (pes : List (PeView Stamp)) (p : ℕ) (rank : NotingRank) → ArePesOf ranks pes → slice_get ranks p ≡ Some rank
    → (pe : PeView Stamp) × (slice_get pes p ≡ Some pe) × IsPeOf rank pe
pe_at [] [] p rank are there = absurd (cc there)
pe_at [] (pe ∷ pes) p rank are there = absurd are
pe_at (r ∷ ranks) [] p rank are there = absurd are
pe_at (r ∷ ranks) (pe ∷ pes) zero rank are there = let same : r ≡ rank = cc in (pe, refl, subst (λ (v : NotingRank). IsPeOf v pe) same are.0)
pe_at (r ∷ ranks) (pe ∷ pes) (suc p) rank are there = pe_at ranks pes p rank are.1 there

pub pe_set : (ranks : List NotingRank) (pes : List (PeView Stamp)) (p : ℕ) (rank : NotingRank) (pe : PeView Stamp) → ArePesOf ranks pes → IsPeOf rank pe
    → ArePesOf (slice_set ranks p rank) (slice_set pes p pe)
pe_set [] [] p rank pe are is = tt
pe_set [] (x ∷ pes) p rank pe are is = absurd are
pe_set (r ∷ ranks) [] p rank pe are is = absurd are
pe_set (r ∷ ranks) (x ∷ pes) zero rank pe are is = (is, are.1)
pe_set (r ∷ ranks) (x ∷ pes) (suc p) rank pe are is = (are.0, pe_set ranks pes p rank pe are.1 is)

pub all_open : (f : ℕ → PeView Stamp) (a m : ℕ) → ArePesOf (map (λ (me : ℕ). record { pe = f me; notes = [] }) (range_with_len a m)) (map f (range_with_len a m))
all_open f a zero = tt
all_open f a (suc m) = (refl, all_open f (a + 1) m)

opening_of : (A : Type 0) (run : Run) (strategy : Strategy) → IsWorldOf {A = A} (opening_late run strategy) (opening_ranks run strategy)
opening_of A run strategy = record { pes = all_open (λ (me : ℕ). opened run.pes run.n me) 0 run.pes; queues = refl; board = refl }

-- ---- a PE that owes more notes makes the same calls, except for the one that says that a note is done

pub split : (ns : List Note) → take 1 ns ++ drop 1 ns ≡ ns
split [] = refl
split (n ∷ ns) = refl

abbrev pub IsQuiet : Call Stamp → Type 0
IsQuiet NoteDone = ⊥
IsQuiet call = Unit {0}

module _ (run : Run) (h : PeView Stamp) (notes : List Note) (kept : Option ℕ) where
  abbrev pub pe_owing : PeView Stamp
  pe_owing = owing h notes kept

  -- a call that a PE with fewer notes makes too, from what the handle has
  pub record IsSameCall {A : Type 0} (p : ℕ) (b : BoardState A) (words : List ℕ) (queues next : List (List Parcel)) (call : Call Stamp) : Type 0 where
    pub is_ready : IsReady pe_owing call
    pub follows : Follows p pe_owing b words call
    pub carried : IsCarried p pe_owing queues call next
    pub noted_so : IsNoted p pe_owing b call b
    pub leads : Owes notes (after_call (step_in run) stamp_pack stamp_unpack h call) (after_call (step_in run) stamp_pack stamp_unpack pe_owing call)
    pub entries : entries_of run pe_owing call ≡ late_entries run h call

  module _ {A : Type 0} (p : ℕ) (b : BoardState A) (words : List ℕ) (queues next : List (List Parcel)) where
    pub same_call : (call : Call Stamp) → IsQuiet call → IsReady h call → Follows p h b words call → IsCarried p h queues call next → IsSameCall p b words queues next call
    same_call (Place e chare) quiet may follows carried = absurd may
    same_call (HandBack parcel) quiet may follows carried = absurd may
    same_call (Receive parcel) quiet may follows carried =
        record { is_ready = may; follows = follows; carried = carried; noted_so = refl; leads = refl; entries = refl }
    same_call (Look q) quiet may follows carried =
        record { is_ready = may; follows = follows; carried = carried; noted_so = refl; leads = looks_owing (step_in run) stamp_pack h notes kept q; entries = refl }
    same_call Send quiet may follows carried = record { is_ready = may; follows = follows; carried = carried; noted_so = refl; leads = refl; entries = refl }
    same_call NoteDone quiet may follows carried = absurd quiet
    same_call Act quiet may follows carried =
        let act = acts_owing (step_in run) stamp_pack h notes kept stamp_unpack in
        record { is_ready = may; follows = follows; carried = carried; noted_so = refl; leads = act.0; entries = act.1 }
    same_call (Depart e q) quiet may follows carried =
        record { is_ready = may; follows = follows; carried = carried; noted_so = refl; leads = refl; entries = refl }
    same_call (Resume e zero) quiet may follows carried =
        record { is_ready = may; follows = follows; carried = carried; noted_so = refl; leads = resumes_owing (step_in run) stamp_pack h notes kept e 0; entries = refl }
    same_call (Resume e (suc r)) quiet may follows carried =
        record { is_ready = may; follows = follows; carried = carried; noted_so = refl; leads = resumes_owing (step_in run) stamp_pack h notes kept e (suc r); entries = refl }
    same_call Refused quiet may follows carried =
        record { is_ready = may; follows = follows; carried = carried; noted_so = refl; leads = refl; entries = refl }

-- ---- one step of ranks

module _ {A : Type 0} (run : Run) (r : Ranks A) (w : WorldView Stamp A) (of : IsWorldOf r w) where
  -- what a step comes to in the world: this event, or nothing, to a world of what the ranks have then, with its trace entries
  pub record IsOne (words : List ℕ) (event : Option Event) (next : Ranks A × List TraceEntry) : Type 0 where
    pub led : After Stamp A
    pub happens : MatchOption event (led ≡ (w, [])) (λ it. HappensUnordered (step_in run) stamp_pack stamp_unpack (with_words w words) it led)
    pub of_next : IsWorldOf next.0 led.0
    pub entries : led.1 ≡ next.1

  module _ (words : List ℕ) (p : ℕ) (before : NotingRank) (there : slice_get r.ranks p ≡ Some before) where
    -- what the ranks have then
    abbrev ranks_then : Call Stamp → List (List Parcel) → Ranks A × List TraceEntry
    ranks_then call queues = (
      record {
        ranks = slice_set r.ranks p (record { pe = after_call (step_in run) stamp_pack stamp_unpack before.pe call; notes = notes_after before call });
        queues = queues;
        board = r.board;
      },
      late_entries run before.pe call,
    )

    -- a note that is done is still owed in the world
    says : (queues : List (List Parcel)) → queues ≡ r.queues → IsOne words None (ranks_then NoteDone queues)
    says queues same =
        let at = pe_at r.ranks w.pes p before of.pes there in
        let owes : IsPeOf (record { pe = noted before.pe; notes = notes_after before NoteDone }) at.0 =
        at.2 ∙ ap (λ (v : List Note). record (before.pe) { notes = v; kept = (at.0).kept })
        (sym (append_assoc before.notes (take 1 before.pe.notes) (drop 1 before.pe.notes) ∙ ap (λ (v : List Note). before.notes ++ v) (split before.pe.notes))) in
        record {
          led = (w, []);
          happens = refl;
          of_next = record {
            pes = subst (λ (v : List (PeView Stamp)). ArePesOf (slice_set r.ranks p (record { pe = noted before.pe; notes = notes_after before NoteDone })) v)
                (set_back w.pes p at.0 at.1)
                (pe_set r.ranks w.pes p (record { pe = noted before.pe; notes = notes_after before NoteDone }) at.0 of.pes owes);
            queues = of.queues ∙ sym same;
            board = of.board;
          };
          entries = refl;
        }

    notes_same : (call : Call Stamp) → IsQuiet call → notes_after before call ≡ before.notes
    notes_same (Place e chare) quiet = refl
    notes_same (Receive parcel) quiet = refl
    notes_same (HandBack parcel) quiet = refl
    notes_same (Look q) quiet = refl
    notes_same Send quiet = refl
    notes_same NoteDone quiet = absurd quiet
    notes_same Act quiet = refl
    notes_same (Depart e q) quiet = refl
    notes_same (Resume e round) quiet = refl
    notes_same Refused quiet = refl

    -- every other call is its event
    does : (call : Call Stamp) (queues : List (List Parcel)) → IsQuiet call → IsReady before.pe call → Follows p before.pe r.board words call
        → IsCarried p before.pe r.queues call queues → IsOne words (event_of p call) (ranks_then call queues)
    does call queues quiet may follows carried =
        let at = pe_at r.ranks w.pes p before of.pes there in
        let kept = (at.0).kept in
        let pe = owing before.pe before.notes kept in
        let is_there : slice_get w.pes p ≡ Some pe = at.1 ∙ ap Some at.2 in
        let same = same_call run before.pe before.notes kept p w.board words w.queues queues call quiet may
        (subst (λ (v : BoardState A). Follows p before.pe v words call) (sym of.board) follows)
        (subst (λ (v : List (List Parcel)). IsCarried p before.pe v call queues) (sym of.queues) carried) in
        record {
          led = left run w words p pe is_there call queues w.board (after_call (step_in run) stamp_pack stamp_unpack pe call);
          happens = is_event run w words p pe is_there call queues w.board same.is_ready same.follows same.carried same.noted_so;
          of_next = record {
            pes = pe_set r.ranks w.pes p (record { pe = after_call (step_in run) stamp_pack stamp_unpack before.pe call; notes = notes_after before call })
                (after_call (step_in run) stamp_pack stamp_unpack pe call) of.pes
                (subst (λ (v : List Note). IsPeOf (record { pe = after_call (step_in run) stamp_pack stamp_unpack before.pe call; notes = v })
                (after_call (step_in run) stamp_pack stamp_unpack pe call)) (sym (notes_same call quiet)) same.leads);
            queues = refl;
            board = of.board;
          };
          entries = same.entries;
        }

    one_call : (call : Call Stamp) (queues : List (List Parcel)) → IsReady before.pe call → Follows p before.pe r.board words call
        → IsCarried p before.pe r.queues call queues → IsOne words (late_event p call) (ranks_then call queues)
    one_call (Place e chare) queues may follows carried = absurd may
    one_call (HandBack parcel) queues may follows carried = absurd may
    one_call (Receive parcel) queues may follows carried = does (Receive parcel) queues tt may follows carried
    one_call (Look q) queues may follows carried = does (Look q) queues tt may follows carried
    one_call Send queues may follows carried = does Send queues tt may follows carried
    one_call NoteDone queues may follows carried = says queues carried
    one_call Act queues may follows carried = does Act queues tt may follows carried
    one_call (Depart e q) queues may follows carried = does (Depart e q) queues tt may follows carried
    one_call (Resume e round) queues may follows carried = does (Resume e round) queues tt may follows carried
    one_call Refused queues may follows carried = does Refused queues tt may follows carried

  asks : (words : List ℕ) (p : ℕ) (request : Request) (reply : Reply) (next : Ranks A × List TraceEntry) → IsAnsweredLate run words p request reply r next
      → IsOne words (late_event p (done_by request reply)) next
  asks words p request reply next a =
      let call = done_by request reply in
      let so = called run a.before.pe a.after request reply a.served in
      subst (IsOne words (late_event p call)) (sym a.leads)
      (subst (λ (after : PeView Stamp). IsOne words (late_event p call) (
        record { ranks = slice_set r.ranks p (record { pe = after; notes = notes_after a.before call }); queues = a.queues; board = r.board },
        late_entries run a.before.pe call,
      )) (sym so.1)
      (one_call words p a.before a.there call a.queues (ready run a.before.pe a.after request reply a.served) a.follows a.carried))

  -- the board takes the first note that is under way, which is the first that the PE owes
  takes : (p : ℕ) (next : Ranks A × List TraceEntry) → BoardTakes p r next → IsOne [] (Some (Report p)) next
  takes p next t =
      let at = pe_at r.ranks w.pes p t.rank of.pes t.there in
      let owed = t.rank.pe.notes in
      let pe : PeView Stamp = record (t.rank.pe) { notes = t.note ∷ t.rest ++ owed; kept = (at.0).kept } in
      let is_there : slice_get w.pes p ≡ Some pe = at.1
      ∙ ap Some (at.2 ∙ ap (λ (v : List Note). record (t.rank.pe) { notes = v ++ owed; kept = (at.0).kept }) t.first) in
      subst (IsOne [] (Some (Report p))) (sym t.leads) (record {
        led = left run w [] p pe is_there NoteDone w.queues t.board (noted pe);
        happens = is_event run w [] p pe is_there NoteDone w.queues t.board tt tt refl
            (subst (λ (v : BoardState A). board_after v t.note ≡ Some t.board) (sym of.board) t.takes);
        of_next = record {
          pes = pe_set r.ranks w.pes p (record { pe = t.rank.pe; notes = t.rest }) (noted pe) of.pes refl;
          queues = of.queues;
          board = refl;
        };
        entries = refl;
      })

  decides : (next : Ranks A × List TraceEntry) → IsDecidedLate r next → IsOne [] (Some Decide) next
  decides next d =
      record {
        led = (record w { words = []; board = next.0.board }, next.1);
        happens = inl (inl (subst (λ (v : BoardState A). IsDecision v next.0.board next.1) (sym of.board) d.decides), refl);
        of_next = subst (λ (v : Ranks A). IsWorldOf v (record w { words = []; board = next.0.board })) (sym d.leads)
            (record { pes = of.pes; queues = of.queues; board = refl });
        entries = refl;
      }

-- ---- a run of ranks

module _ {A : Type 0} (run : Run) where
  -- what a run comes to, from this world on: these events lead to a world of what the ranks have then, with its trace
  pub record IsRun (w : WorldView Stamp A) (events : List (List ℕ × Event)) (last : Ranks A × List TraceEntry) : Type 0 where
    pub led : WorldView Stamp A
    pub reaches : ReachesByCopies (step_in run) stamp_pack stamp_unpack w events (led, last.1)
    pub of_last : IsWorldOf last.0 led

  one_more : (r : Ranks A) (w : WorldView Stamp A) (of : IsWorldOf r w) (words : List ℕ) (event : Option Event) (events : List (List ℕ × Event))
      (first rest last : Ranks A × List TraceEntry) (one : IsOne run r w of words event first)
      → IsRun (one.led).0 events rest → last ≡ (rest.0, first.1 ++ rest.1) → IsRun w (with_copy words event ++ events) last
  one_more r w of words event events first rest last one later is =
      subst (IsRun w (with_copy words event ++ events)) (sym is) (record {
        led = later.led;
        reaches = one_before run w words one.led (later.led, rest.1) (later.led, first.1 ++ rest.1) event events one.happens later.reaches
            (ap (λ (v : List TraceEntry). (later.led, v ++ rest.1)) (sym one.entries));
        of_last = later.of_last;
      })

  pub by_late : (r : Ranks A) (w : WorldView Stamp A) → IsWorldOf r w → (steps : List LateStep) (last : Ranks A × List TraceEntry) → ReachesLate run r steps last
      → IsRun w (events_in steps) last
  by_late r w of [] last reached = subst (IsRun w []) (sym reached) (record { led = w; reaches = refl; of_last = of })
  by_late r w of (Asks words p request reply ∷ steps) last (first, rest, answered, leads, is) =
      let one = asks run r w of words p request reply first answered in
      one_more r w of words (late_event p (done_by request reply)) (events_in steps) first rest last one (by_late first.0 (one.led).0 one.of_next steps rest leads) is
  by_late r w of (Takes p ∷ steps) last (first, rest, taken, leads, is) =
      let one = takes run r w of p first taken in
      one_more r w of [] (Some (Report p)) (events_in steps) first rest last one (by_late first.0 (one.led).0 one.of_next steps rest leads) is
  by_late r w of (Decides ∷ steps) last (first, rest, decided, leads, is) =
      let one = decides run r w of first decided in
      one_more r w of [] (Some Decide) (events_in steps) first rest last one (by_late first.0 (one.led).0 one.of_next steps rest leads) is

  pub opening_led : (strategy : Strategy) → IsWorldOf {A = A} (opening_late run strategy) (opening_world run.pes (opening run) strategy)
  opening_led strategy = subst (IsWorldOf (opening_late run strategy)) (opens A run strategy) (opening_of A run strategy)

  -- from the opening on
  pub led_to : (strategy : Strategy) (steps : List LateStep) (last : Ranks A × List TraceEntry) → ReachesLate run (opening_late run strategy) steps last
      → (w : WorldView Stamp A) × IsLedTo run strategy steps last w
  led_to strategy steps last reached =
      let all = by_late (opening_late run strategy) (opening_world run.pes (opening run) strategy) (opening_led strategy) steps last reached in
      (all.led, record { of_last = all.of_last; reaches = all.reaches })

-- where the board takes every note that is owed in the world, it takes the first that is under way from a rank, or is owed there
pub first_taken : {A : Type 0} (r : Ranks A) (w : WorldView Stamp A) → IsWorldOf r w → AllTaken w → (p : ℕ) (rank : NotingRank) → slice_get r.ranks p ≡ Some rank
    → IfSome (slice_get (rank.notes ++ rank.pe.notes) 0) (λ note. IsSome (board_after r.board note))
first_taken {A} r w of taken p rank there =
    let at = pe_at r.ranks w.pes p rank of.pes there in
    let owed : (at.0).notes ≡ rank.notes ++ rank.pe.notes = ap (λ (v : PeView Stamp). v.notes) at.2 in
    let here : All (λ (note : Note). IsSome (board_after w.board note)) (at.0).notes =
    all_at (λ (pe : PeView Stamp). All (λ (note : Note). IsSome (board_after w.board note)) pe.notes) w.pes p at.0 taken at.1 in
    subst (λ (v : List Note). IfSome (slice_get v 0) (λ note. IsSome (board_after r.board note))) owed
    (subst (λ (v : BoardState A). IfSome (slice_get (at.0).notes 0) (λ note. IsSome (board_after v note))) of.board
    (one_of_all (λ (note : Note). IsSome (board_after w.board note)) (at.0).notes 0 here))

-- A run of ranks that keep the rules of stamped runs is a stamped run, in which the PE of each rank still owes the notes that are under way.
use Rattle.std.proofs.Common.{◌≡◌, ℕ, zero, suc, ◌≤◌, List, [], ◌∷◌, ◌++◌, length, Option, Some, None, refl, sym, ap, subst, ◌∙◌, inl, inr, append_assoc}
use Rattle.std.specs.Prelude.{IfSome, IsSomeAnd, MatchOption, drop, map, nat_eq, if◌then◌else◌, option_map, replicate, slice_get, slice_set, take}
use Rattle.std.specs.List.{range_with_len}
use Rattle.std.proofs.lemmas.Option.{same_Some, slice_get-map}
use Rattle.sync_board.specs.Boards.{BoardState, new_board}
use Rattle.sync_board.specs.declared.strategy.Strategy.{Strategy}
use Rattle.chares.specs.declared.note.Note.{Note}
use Rattle.chares.specs.declared.trace_entry.TraceEntry.{TraceEntry}
use Rattle.foreign_chare.specs.Scripts.{Stamp}
use Rattle.overtaking_laws.specs.FreeRuns.{HappensUnordered}
use Rattle.overtaking_laws.specs.Hops.{IsStampedChase}
use Rattle.overtaking_laws.specs.StampedRuns.{AfterStamped, IsInformed, KeepsQueues, KnowsTheRound, ReachesStamped, Stamped, StampedStep, StampedView, StepsTo, maker, opening_stamped, place_after, seen_by, seen_words, stands_on, world_with}
use Rattle.overtaking_laws.specs.StampedRuns.StampedStep.{Makes as MadeEvent, Sends as MadeSend, Takes as MadeTake, Learns as MadeLearn}
use Rattle.overtaking_laws.proofs.StampedHops.{chase_of}
use Rattle.pe_state.specs.Pes.{Parcel, PeView, front_address, front_parcel, gave_up, noted, received, waits_at}
use Rattle.rank_calls.specs.Runs.{Run, opened, opening, stamp_pack, stamp_unpack, step_in}
use Rattle.rank_calls.specs.declared.request.Reply.{Reply}
use Rattle.rank_calls.specs.declared.request.Request.{Request}
use Rattle.rank_calls.proofs.Openings.{opening_length}
use Rattle.rank_ledgers.specs.Ranks.{done_by}
use Rattle.rank_ledgers.proofs.Ledgers.{called}
use Rattle.rank_worlds.specs.LateNotes.{ArePesOf, BoardTakes, IsDecidedLate, IsPeOf, LateStep, NotingRank, Ranks, ReachesLate, late_entries, notes_after, opening_late}
use Rattle.rank_worlds.specs.LateNotes.LateStep.{Asks as LateAsks, Takes as LateTakes, Decides as LateDecides}
use Rattle.rank_worlds.specs.StampedRanks.{AfterRanks, ComesToKnow, InTimeStep, IsAnsweredInTime, IsCarriedInTime, IsStampedOf, KeepsRounds, KnowsRoundOf, LeadsInTime, LeavesStamped, ReachesInTime, StampedRanks, handles_of, late_after, opening_in_time, without_rounds}
use Rattle.rank_worlds.specs.StampedRanks.InTimeStep.{Asks, Takes, Decides, Learns}
use Rattle.rank_worlds.specs.Worlds.{Follows, IsCarried, event_of}
use Rattle.rank_worlds.proofs.CallEvents.{IsReady, is_event, left, ready, set_back, some_and}
use Rattle.rank_worlds.proofs.LateEvents.{IsQuiet, all_open, pe_at, pe_set, same_call, split}
use Rattle.rank_worlds.proofs.Openings.{opened_pes}
use Rattle.rank_worlds.proofs.OwingPes.{owing}
use Rattle.rts_core.specs.Calls.{Call, Place, Receive, HandBack, Look, Send, NoteDone, Act, Depart, Resume, Refused, after_call}
use Rattle.rts_core.specs.Events.{After, Happens, IsDecision, board_after, note_entries}
use Rattle.rts_core.specs.Worlds.{WorldView}
use Rattle.rts_core.specs.declared.event.Event.{Event}

abbrev parcel_of : Stamped → Parcel
parcel_of x = x.1

-- queues that are empty
none_queued : (count : ℕ) → map (map parcel_of) (replicate count []) ≡ replicate count []
none_queued zero = refl
none_queued (suc count) = ap (λ (v : List (List Parcel)). [] ∷ v) (none_queued count)

-- an event that leaves the queues alone is no delivery
keeping : {A : Type 0} (run : Run) (w : WorldView Stamp A) (event : Event) (led : After Stamp A) → KeepsQueues event
    → HappensUnordered (step_in run) stamp_pack stamp_unpack w event led → Happens (step_in run) stamp_pack stamp_unpack w event led
keeping run w event led keeps (inl happens) = happens
keeping run w event led keeps (inr (p, is, takes, quiet)) = absurd (subst KeepsQueues is keeps)

-- ---- one step

module _ {A : Type 0} (run : Run) (s : StampedRanks A) (t : StampedView Stamp A) (of : IsStampedOf s t) where
  -- what a step of ranks comes to: one of a stamped run, or nothing, to what is that of the ranks then, with its trace entries
  pub record IsOne (next : AfterRanks A) : Type 0 where
    pub made : Option StampedStep
    pub led : AfterStamped Stamp A
    pub leads : MatchOption made (led ≡ (t, [])) (λ it. StepsTo (step_in run) stamp_pack stamp_unpack run.n run.pes t it led)
    pub of_next : IsStampedOf next.0 led.0
    pub entries : led.1 ≡ next.1

  module _ (p : ℕ) (before : NotingRank) (there : slice_get s.ranks p ≡ Some before) where
    found_pe : (pe : PeView Stamp) × (slice_get t.pes p ≡ Some pe) × IsPeOf before pe
    found_pe = pe_at s.ranks t.pes p before of.pes there

    abbrev pe : PeView Stamp
    pe = owing before.pe before.notes (found_pe.0).kept

    is_there : slice_get t.pes p ≡ Some pe
    is_there = found_pe.1 ∙ ap Some found_pe.2

    -- both look at the same places
    abbrev words : List ℕ
    words = seen_words run.n run.pes t p

    handle_there : slice_get (handles_of s).pes p ≡ Some before.pe
    handle_there = slice_get-map (λ (rank : NotingRank). rank.pe) s.ranks p ∙ ap (option_map (λ (rank : NotingRank). rank.pe)) there

    abbrev words_where : Option (PeView Stamp) → BoardState A → (ℕ → ℕ) → List ℕ
    words_where o b known = map (λ e. if stands_on o e then p else place_after run.n run.pes b e (known p)) (range_with_len 0 run.n)

    same_words : seen_words run.n run.pes (handles_of s) p ≡ words
    same_words =
        ap (λ (o : Option (PeView Stamp)). words_where o s.board s.known) handle_there
        ∙ (ap (λ (b : BoardState A). words_where (Some pe) b s.known) (sym of.board)
        ∙ (ap (λ (known : ℕ → ℕ). words_where (Some pe) t.board known) (sym of.known)
        ∙ ap (λ (o : Option (PeView Stamp)). words_where o t.board t.known) (sym is_there)))

    same_known : s.known p ≡ t.known p
    same_known = ap (λ (known : ℕ → ℕ). known p) (sym of.known)

    -- what the ranks have then
    abbrev ranks_then : Call Stamp → List (List Stamped) → AfterRanks A
    ranks_then call queues = (
      record {
        ranks = slice_set s.ranks p (record { pe = after_call (step_in run) stamp_pack stamp_unpack before.pe call; notes = notes_after before call });
        queues = queues;
        known = s.known;
        board = s.board;
      },
      late_entries run before.pe call,
    )

    -- the round for whose end an element waits
    knows : (e : ℕ) → IfSome (waits_at before.pe e) (λ round. round ≤ s.known p) → KnowsTheRound t p e
    knows e informed x round at waits =
        let same : x ≡ pe = same_Some x pe (sym at ∙ is_there) in
        let it : waits_at before.pe e ≡ Some round = subst (λ (v : PeView Stamp). waits_at v e ≡ Some round) same waits in
        subst (λ (v : ℕ). round ≤ v) same_known (subst (λ (o : Option ℕ). IfSome o (λ (r : ℕ). r ≤ s.known p)) it informed)

    -- a call that is an event which leaves the queues alone
    makes : (call : Call Stamp) (event : Event) → event_of p call ≡ Some event → maker event ≡ p → KeepsQueues event → IsInformed t event → IsQuiet call
        → notes_after before call ≡ before.notes
        → ((queues : List (List Parcel)) → IsCarried p before.pe queues call queues) → IsReady before.pe call
        → Follows p before.pe s.board (seen_words run.n run.pes (handles_of s) p) call → (queues : List (List Stamped)) → queues ≡ s.queues → IsOne (ranks_then call queues)
    makes call event is of_rank keeps informed quiet notes carried may follows queues kept =
        let w : WorldView Stamp A = world_with t words in
        let same = same_call run before.pe before.notes (found_pe.0).kept p t.board words w.queues w.queues call quiet may
        (subst (λ (v : List ℕ). Follows p before.pe t.board v call) same_words
        (subst (λ (v : BoardState A). Follows p before.pe v (seen_words run.n run.pes (handles_of s) p) call) (sym of.board) follows))
        (carried w.queues) in
        let after : PeView Stamp = after_call (step_in run) stamp_pack stamp_unpack pe call in
        let led : After Stamp A = left run w words p pe is_there call w.queues t.board after in
        let happens : HappensUnordered (step_in run) stamp_pack stamp_unpack w event led =
        subst (λ (o : Option Event). MatchOption o (led ≡ (w, [])) (λ it. HappensUnordered (step_in run) stamp_pack stamp_unpack w it led)) is
        (is_event run w words p pe is_there call w.queues t.board same.is_ready same.follows same.carried same.noted_so) in
        let seen : Happens (step_in run) stamp_pack stamp_unpack (seen_by run.n run.pes t (maker event)) event led =
        subst (λ (v : ℕ). Happens (step_in run) stamp_pack stamp_unpack (seen_by run.n run.pes t v) event led) (sym of_rank) (keeping run w event led keeps happens) in
        record {
          made = Some (MadeEvent event);
          led = (record t { pes = slice_set t.pes p after; board = t.board }, led.1);
          leads = (keeps, informed, led, seen, refl);
          of_next = record {
            pes = pe_set s.ranks t.pes p (record { pe = after_call (step_in run) stamp_pack stamp_unpack before.pe call; notes = notes_after before call }) after of.pes
                (subst (λ (v : List Note). IsPeOf (record { pe = after_call (step_in run) stamp_pack stamp_unpack before.pe call; notes = v }) after) (sym notes) same.leads);
            queues = of.queues ∙ sym kept;
            known = of.known;
            board = of.board;
          };
          entries = same.entries;
        }

    -- a parcel comes, and one is given up
    comes : (parcel : Parcel) (queues : List (List Stamped)) → before.pe.hand ≡ None → IsCarriedInTime p (s.known p) before.pe s.queues (Receive parcel) queues
        → IsOne (ranks_then (Receive parcel) queues)
    comes parcel queues free c =
        record {
          made = Some (MadeTake p);
          led = (record t { pes = slice_set t.pes p (received pe parcel); queues = slice_set t.queues p (c.before ++ c.after) }, []);
          leads = (
            record {
              pe = pe;
              there = is_there;
              free = free;
              before = c.before;
              parcel = (c.stamp, parcel);
              after = c.after;
              queued = ap (λ (v : List (List Stamped)). slice_get v p) of.queues ∙ c.queued;
              in_time = subst (λ (v : ℕ). c.stamp ≤ v) same_known c.in_time;
              leads = refl;
            },
            refl,
          );
          of_next = record {
            pes = pe_set s.ranks t.pes p (record { pe = received before.pe parcel; notes = before.notes }) (received pe parcel) of.pes refl;
            queues = ap (λ (v : List (List Stamped)). slice_set v p (c.before ++ c.after)) of.queues ∙ sym c.leads;
            known = of.known;
            board = of.board;
          };
          entries = refl;
        }

    goes_to : (q : ℕ) (parcel : Parcel) (queues : List (List Stamped)) → front_address before.pe.outbox ≡ Some q → front_parcel before.pe.outbox ≡ Some parcel
        → LeavesStamped p (s.known p) before.pe s.queues q parcel queues → IsOne (ranks_then Send queues)
    goes_to q parcel queues to what c =
        record {
          made = Some (MadeSend p);
          led = (record t { pes = slice_set t.pes p (gave_up pe); queues = slice_set t.queues q (c.queue ++ (t.known p, parcel) ∷ []) }, []);
          leads = (
            record {
              pe = pe;
              there = is_there;
              parcel = parcel;
              front = what;
              q = q;
              goes_to = to;
              queue = c.queue;
              queued = ap (λ (v : List (List Stamped)). slice_get v q) of.queues ∙ c.queued;
              leads = refl;
            },
            refl,
          );
          of_next = record {
            pes = pe_set s.ranks t.pes p (record { pe = gave_up before.pe; notes = before.notes }) (gave_up pe) of.pes refl;
            queues = ap (λ (v : List (List Stamped)). slice_set v q (c.queue ++ (t.known p, parcel) ∷ [])) of.queues
                ∙ (ap (λ (v : ℕ). slice_set s.queues q (c.queue ++ (v, parcel) ∷ [])) (sym same_known) ∙ sym c.leads);
            known = of.known;
            board = of.board;
          };
          entries = refl;
        }

    goes : (queues : List (List Stamped)) → IsCarriedInTime p (s.known p) before.pe s.queues Send queues → IsOne (ranks_then Send queues)
    goes queues carried =
        let to = some_and (front_address before.pe.outbox)
        (λ (q : ℕ). IsSomeAnd (front_parcel before.pe.outbox) (λ (parcel : Parcel). LeavesStamped p (s.known p) before.pe s.queues q parcel queues)) carried in
        let what = some_and (front_parcel before.pe.outbox) (λ (parcel : Parcel). LeavesStamped p (s.known p) before.pe s.queues to.0 parcel queues) to.2 in
        goes_to to.0 what.0 queues to.1 what.1 what.2

    -- a call that is no event leaves what the PE is, with the notes that it owes
    stays : (call : Call Stamp) (queues : List (List Stamped)) → queues ≡ s.queues
        → IsPeOf (record { pe = after_call (step_in run) stamp_pack stamp_unpack before.pe call; notes = notes_after before call }) pe
        → late_entries run before.pe call ≡ [] → IsOne (ranks_then call queues)
    stays call queues same owes quiet =
        record {
          made = None;
          led = (t, []);
          leads = refl;
          of_next = record {
            pes = subst (λ (v : List (PeView Stamp)). ArePesOf
                (slice_set s.ranks p (record { pe = after_call (step_in run) stamp_pack stamp_unpack before.pe call; notes = notes_after before call })) v)
                (set_back t.pes p pe is_there)
                (pe_set s.ranks t.pes p (record { pe = after_call (step_in run) stamp_pack stamp_unpack before.pe call; notes = notes_after before call }) pe of.pes owes);
            queues = of.queues ∙ sym same;
            known = of.known;
            board = of.board;
          };
          entries = sym quiet;
        }

    still_owed : IsPeOf (record { pe = noted before.pe; notes = notes_after before NoteDone }) pe
    still_owed =
        ap (λ (v : List Note). record (before.pe) { notes = v; kept = pe.kept })
        (sym (append_assoc before.notes (take 1 before.pe.notes) (drop 1 before.pe.notes) ∙ ap (λ (v : List Note). before.notes ++ v) (split before.pe.notes)))

    one_call : (call : Call Stamp) (queues : List (List Stamped)) → IsReady before.pe call → Follows p before.pe s.board (seen_words run.n run.pes (handles_of s) p) call
        → KnowsRoundOf p (s.known p) before.pe call → IsCarriedInTime p (s.known p) before.pe s.queues call queues → IsOne (ranks_then call queues)
    one_call (Place e chare) queues may follows informed carried = absurd may
    one_call (HandBack parcel) queues may follows informed carried = absurd may
    one_call (Receive parcel) queues may follows informed carried = comes parcel queues may carried
    one_call (Look q) queues may follows informed carried =
        makes (Look q) (Event.Look p) refl refl tt tt tt refl (λ v. refl) may follows queues carried
    one_call Send queues may follows informed carried = goes queues carried
    one_call NoteDone queues may follows informed carried = stays NoteDone queues carried still_owed refl
    one_call Act queues may follows informed carried = makes Act (Event.Act p) refl refl tt tt tt refl (λ v. refl) may follows queues carried
    one_call (Depart e q) queues may follows informed carried =
        makes (Depart e q) (Event.Depart p e) refl refl tt (knows e informed) tt refl (λ v. refl) may follows queues carried
    one_call (Resume e zero) queues may follows informed carried =
        makes (Resume e zero) (Event.Start p e) refl refl tt tt tt refl (λ v. refl) may follows queues carried
    one_call (Resume e (suc r)) queues may follows informed carried =
        makes (Resume e (suc r)) (Event.Resume p e) refl refl tt (knows e informed) tt refl (λ v. refl) may follows queues carried
    one_call Refused queues may follows informed carried = stays Refused queues carried refl refl

  -- what the ranks have then, of its parts
  whole : (next : AfterRanks A) (ranks : List NotingRank) (queues : List (List Stamped)) (known : ℕ → ℕ) (board : BoardState A) (trace : List TraceEntry)
      → next.0.ranks ≡ ranks → next.0.queues ≡ queues → next.0.known ≡ known → next.0.board ≡ board → next.1 ≡ trace
      → IsOne (record { ranks = ranks; queues = queues; known = known; board = board }, trace) → IsOne next
  whole next ranks queues known board trace a b c d e one =
      subst (λ (v : List NotingRank). IsOne (record { ranks = v; queues = next.0.queues; known = next.0.known; board = next.0.board }, next.1)) (sym a)
      (subst (λ (v : List (List Stamped)). IsOne (record { ranks = ranks; queues = v; known = next.0.known; board = next.0.board }, next.1)) (sym b)
      (subst (λ (v : ℕ → ℕ). IsOne (record { ranks = ranks; queues = queues; known = v; board = next.0.board }, next.1)) (sym c)
      (subst (λ (v : BoardState A). IsOne (record { ranks = ranks; queues = queues; known = known; board = v }, next.1)) (sym d)
      (subst (λ (v : List TraceEntry). IsOne (record { ranks = ranks; queues = queues; known = known; board = board }, v)) (sym e) one))))

  asks : (p : ℕ) (request : Request) (reply : Reply) (next : AfterRanks A) → IsAnsweredInTime run p request reply s next → IsOne next
  asks p request reply next k =
      let a = k.answered in
      let call = done_by request reply in
      let so = called run a.before.pe a.after request reply a.served in
      whole next (slice_set s.ranks p (record { pe = a.after; notes = notes_after a.before call })) next.0.queues s.known s.board (late_entries run a.before.pe call)
      (ap (λ (v : Ranks A × List TraceEntry). v.0.ranks) a.leads) refl k.known (ap (λ (v : Ranks A × List TraceEntry). v.0.board) a.leads)
      (ap (λ (v : Ranks A × List TraceEntry). v.1) a.leads)
      (subst (λ (after : PeView Stamp). IsOne (
        record { ranks = slice_set s.ranks p (record { pe = after; notes = notes_after a.before call }); queues = next.0.queues; known = s.known; board = s.board },
        late_entries run a.before.pe call,
      )) (sym so.1)
      (one_call p a.before a.there call next.0.queues (ready run a.before.pe a.after request reply a.served) a.follows k.informed k.carried))

  -- the board takes the first note that is under way, which is the first that the PE owes
  takes : (p : ℕ) (next : AfterRanks A) → BoardTakes p (without_rounds s) (late_after next) → KeepsRounds s next.0 → IsOne next
  takes p next k keeps =
      let at = pe_at s.ranks t.pes p k.rank of.pes k.there in
      let owed = k.rank.pe.notes in
      let pe : PeView Stamp = record (k.rank.pe) { notes = k.note ∷ k.rest ++ owed; kept = (at.0).kept } in
      let is_there : slice_get t.pes p ≡ Some pe = at.1
      ∙ ap Some (at.2 ∙ ap (λ (v : List Note). record (k.rank.pe) { notes = v ++ owed; kept = (at.0).kept }) k.first) in
      let words : List ℕ = seen_words run.n run.pes t p in
      let w : WorldView Stamp A = world_with t words in
      let led : After Stamp A = left run w words p pe is_there NoteDone w.queues k.board (noted pe) in
      let happens : Happens (step_in run) stamp_pack stamp_unpack w (Event.Report p) led =
      keeping run w (Event.Report p) led tt (is_event run w words p pe is_there NoteDone w.queues k.board tt tt refl
      (subst (λ (v : BoardState A). board_after v k.note ≡ Some k.board) (sym of.board) k.takes)) in
      whole next (slice_set s.ranks p (record { pe = k.rank.pe; notes = k.rest })) s.queues s.known k.board (note_entries k.note)
      (ap (λ (v : Ranks A × List TraceEntry). v.0.ranks) k.leads) keeps.queues keeps.known (ap (λ (v : Ranks A × List TraceEntry). v.0.board) k.leads)
      (ap (λ (v : Ranks A × List TraceEntry). v.1) k.leads)
      (record {
        made = Some (MadeEvent (Event.Report p));
        led = (record t { pes = slice_set t.pes p (noted pe); board = k.board }, note_entries k.note);
        leads = (tt, tt, led, happens, refl);
        of_next = record {
          pes = pe_set s.ranks t.pes p (record { pe = k.rank.pe; notes = k.rest }) (noted pe) of.pes refl;
          queues = of.queues;
          known = of.known;
          board = refl;
        };
        entries = refl;
      })

  decides : (next : AfterRanks A) → IsDecidedLate (without_rounds s) (late_after next) → KeepsRounds s next.0 → IsOne next
  decides next d keeps =
      let seen : WorldView Stamp A = seen_by run.n run.pes t 0 in
      let is : IsDecision t.board next.0.board next.1 = subst (λ (v : BoardState A). IsDecision v next.0.board next.1) (sym of.board) d.decides in
      whole next s.ranks s.queues s.known next.0.board next.1 (ap (λ (v : Ranks A). v.ranks) d.leads) keeps.queues keeps.known refl refl
      (record {
        made = Some (MadeEvent Event.Decide);
        led = (record t { board = next.0.board }, next.1);
        leads = (tt, tt, (record seen { board = next.0.board }, next.1), (inl is, refl), refl);
        of_next = record { pes = of.pes; queues = of.queues; known = of.known; board = refl };
        entries = refl;
      })

  learns : (p : ℕ) (next : AfterRanks A) → ComesToKnow p s next → IsOne next
  learns p next k =
      subst IsOne (sym k.leads)
      (record {
        made = Some (MadeLearn p);
        led = (record t { known = λ q. if nat_eq q p then k.round else t.known q }, []);
        leads = (
          record {
            round = k.round;
            later = subst (λ (v : ℕ → ℕ). v p ≤ k.round) (sym of.known) k.later;
            decided = subst (λ (v : BoardState A). k.round ≤ length v.rounds) (sym of.board) k.decided;
            leads = refl;
          },
          refl,
        );
        of_next = record {
          pes = of.pes;
          queues = of.queues;
          known = ap (λ (known : ℕ → ℕ). λ (q : ℕ). if nat_eq q p then k.round else known q) of.known;
          board = of.board;
        };
        entries = refl;
      })

  pub one_step : (made : InTimeStep) (next : AfterRanks A) → LeadsInTime run s made next → IsOne next
  one_step (Asks p request reply) next k = asks p request reply next k
  one_step (Takes p) next k = takes p next k.0 k.1
  one_step Decides next k = decides next k.0 k.1
  one_step (Learns p) next k = learns p next k

-- ---- a run

module _ {A : Type 0} (run : Run) where
  -- what a run comes to, from here on: a stamped run, which leads to what is that of the ranks then, with its trace
  pub record IsRun (t : StampedView Stamp A) (last : AfterRanks A) : Type 0 where
    pub made : List StampedStep
    pub led : AfterStamped Stamp A
    pub reaches : ReachesStamped (step_in run) stamp_pack stamp_unpack run.n run.pes t made led
    pub of_last : IsStampedOf last.0 led.0
    pub entries : led.1 ≡ last.1

  one_before : (t : StampedView Stamp A) (first rest : AfterStamped Stamp A) (made : Option StampedStep) (more : List StampedStep)
      → MatchOption made (first ≡ (t, [])) (λ it. StepsTo (step_in run) stamp_pack stamp_unpack run.n run.pes t it first)
      → ReachesStamped (step_in run) stamp_pack stamp_unpack run.n run.pes first.0 more rest
      → (all : List StampedStep) × ReachesStamped (step_in run) stamp_pack stamp_unpack run.n run.pes t all (rest.0, first.1 ++ rest.1)
  one_before t first rest None more same leads =
      let quiet : ◌≡◌ {A = AfterStamped Stamp A} (rest.0, first.1 ++ rest.1) rest = ap (λ (v : AfterStamped Stamp A). (rest.0, v.1 ++ rest.1)) same in (
        more,
        subst (ReachesStamped (step_in run) stamp_pack stamp_unpack run.n run.pes t more) (sym quiet)
            (subst (λ (v : AfterStamped Stamp A). ReachesStamped (step_in run) stamp_pack stamp_unpack run.n run.pes v.0 more rest) same leads),
      )
  one_before t first rest (Some it) more to leads = (it ∷ more, (first, rest, to, leads, refl))

  by_rounds : (s : StampedRanks A) (t : StampedView Stamp A) → IsStampedOf s t → (steps : List InTimeStep) (last : AfterRanks A) → ReachesInTime run s steps last → IsRun t last
  by_rounds s t of [] last reached = subst (IsRun t) (sym reached) (record { made = []; led = (t, []); reaches = refl; of_last = of; entries = refl })
  by_rounds s t of (step ∷ steps) last (first, rest, made, leads, is) =
      let one = one_step run s t of step first made in
      let later = by_rounds first.0 (one.led).0 one.of_next steps rest leads in
      let all = one_before t one.led later.led one.made later.made one.leads later.reaches in
      subst (IsRun t) (sym is) (record {
        made = all.0;
        led = ((later.led).0, (one.led).1 ++ (later.led).1);
        reaches = all.1;
        of_last = later.of_last;
        entries = ap (λ (v : List TraceEntry). v ++ (later.led).1) one.entries ∙ ap (λ (v : List TraceEntry). first.1 ++ v) later.entries;
      })

  -- as handles open
  opens_in_time : (strategy : Strategy) → IsStampedOf (opening_in_time {A = A} run strategy) (opening_stamped run.pes (opening run) strategy)
  opens_in_time strategy =
      record {
        pes = subst (ArePesOf (opening_in_time {A = A} run strategy).ranks) (opened_pes run) (all_open (λ (me : ℕ). opened run.pes run.n me) 0 run.pes);
        queues = refl;
        known = refl;
        board = ap (λ (n : ℕ). new_board n run.pes strategy) (opening_length run);
      }

  pub by_rounds_opening : (strategy : Strategy) (steps : List InTimeStep) (last : AfterRanks A) → ReachesInTime run (opening_in_time run strategy) steps last
      → IsRun (opening_stamped run.pes (opening run) strategy) last
  by_rounds_opening strategy steps last reached =
      by_rounds (opening_in_time run strategy) (opening_stamped run.pes (opening run) strategy) (opens_in_time strategy) steps last reached

  pub chase_in_time : (strategy : Strategy) (steps : List InTimeStep) (last : AfterRanks A) → ReachesInTime run (opening_in_time run strategy) steps last
      → (t : StampedView Stamp A) × IsStampedOf last.0 t × IsStampedChase run.n run.pes t
  chase_in_time strategy steps last reached =
      let all = by_rounds_opening strategy steps last reached in
      let chase : IsStampedChase (length (opening run)) run.pes (all.led).0 =
      chase_of (step_in run) stamp_pack stamp_unpack run.pes (opening run) strategy all.made all.led
      (subst (λ (n : ℕ). ReachesStamped (step_in run) stamp_pack stamp_unpack n run.pes (opening_stamped run.pes (opening run) strategy) all.made all.led)
      (sym (opening_length run)) all.reaches) in
      ((all.led).0, all.of_last, subst (λ (n : ℕ). IsStampedChase n run.pes (all.led).0) (opening_length run) chase)

  -- ---- it is a run of ranks like any other

  late_from : (s : StampedRanks A) (steps : List InTimeStep) (last : AfterRanks A) → ReachesInTime run s steps last
      → (late : List LateStep) × ReachesLate run (without_rounds s) late (late_after last)
  late_from s [] last reached = ([], ap late_after reached)
  late_from s (Asks p request reply ∷ steps) last (first, rest, k, leads, is) =
      let later = late_from first.0 steps rest leads in (
        LateAsks (seen_words run.n run.pes (handles_of s) p) p request reply ∷ later.0,
        (late_after first, late_after rest, k.answered, later.1, ap late_after is),
      )
  late_from s (Takes p ∷ steps) last (first, rest, k, leads, is) =
      let later = late_from first.0 steps rest leads in
      (LateTakes p ∷ later.0, (late_after first, late_after rest, k.0, later.1, ap late_after is))
  late_from s (Decides ∷ steps) last (first, rest, k, leads, is) =
      let later = late_from first.0 steps rest leads in
      (LateDecides ∷ later.0, (late_after first, late_after rest, k.0, later.1, ap late_after is))
  late_from s (Learns p ∷ steps) last (first, rest, k, leads, is) =
      let later = late_from first.0 steps rest leads in
      let quiet : last ≡ rest = is ∙ ap (λ (v : AfterRanks A). (rest.0, v.1 ++ rest.1)) k.leads in
      let same : without_rounds first.0 ≡ without_rounds s = ap (λ (v : AfterRanks A). without_rounds v.0) k.leads in (
        later.0,
        subst (λ (v : AfterRanks A). ReachesLate run (without_rounds s) later.0 (late_after v)) (sym quiet)
            (subst (λ (v : Ranks A). ReachesLate run v later.0 (late_after rest)) same later.1),
      )

  pub late_in_time : (strategy : Strategy) (steps : List InTimeStep) (last : AfterRanks A) → ReachesInTime run (opening_in_time run strategy) steps last
      → (late : List LateStep) × ReachesLate run (opening_late run strategy) late (late_after last)
  late_in_time strategy steps last reached =
      let late = late_from (opening_in_time run strategy) steps last reached in
      let opens : Ranks A = opening_late run strategy in
      let same : without_rounds (opening_in_time {A = A} run strategy) ≡ opens =
      ap (λ (v : List (List Parcel)). record { ranks = opens.ranks; queues = v; board = opens.board }) (none_queued run.pes) in
      (late.0, subst (λ (v : Ranks A). ReachesLate run v late.0 (late_after last)) same late.1)

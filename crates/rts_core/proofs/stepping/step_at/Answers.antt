use Rattle.std.proofs.Common.{sym, subst, ◌∙◌}
use Rattle.pe_state.specs.Pes.{PeView}
use Rattle.rts_core.specs.Events.{start_event, flush_event, deliver_event, act_event, depart_event, resume_event}
use Rattle.pe_state.specs.Histories.{HasHistories}
use Rattle.rts_core.proofs.Histories.{start_event_holds, look_event_holds, flush_event_holds, deliver_event_holds, act_event_holds, depart_event_holds, resume_event_holds, pe_kept, words_kept, queues_kept, board_kept}
use Rattle.rts_core.proofs.stepping.step_at.Goals as goal

pub returns-in-Start-clause-kept : goal.returns-in-Start-clause-kept
returns-in-Start-clause-kept g c =
    let d = c.requires.run in
    record {
      histories = pe_kept g.C.Chare.step g.C.Pup.fits g.C.Pup.pack g.H.Openings.opened c.args.pe.now c.start.new.pe
          (start_event g.C.Chare.step g.C.Pup.pack c.args.pe.now c.in-Start.e) c.start.result (λ v. v) d.histories
          (start_event_holds g.C.Chare.step g.C.Pup.fits g.C.Pup.pack g.H.Openings.opened c.args.pe.now c.in-Start.e d.histories)
          c.start.ensures.ok c.start.ensures.err;
      parcels = d.parcels;
      words_name = d.words_name;
      board_counted = d.board_counted;
      board_pes = d.board_pes;
    }

pub returns-in-Look-clause-kept : goal.returns-in-Look-clause-kept
returns-in-Look-clause-kept g c =
    let d = c.requires.run in
    record {
      histories = subst (λ (x : PeView g.row.C.Denot). HasHistories g.C.Chare.step g.C.Pup.fits g.C.Pup.pack g.H.Openings.opened x)
          (sym c.look.ensures) (look_event_holds g.C.Chare.step g.C.Pup.fits g.C.Pup.pack g.H.Openings.opened c.args.pe.now c.args.words.now d.histories);
      parcels = d.parcels;
      words_name = d.words_name;
      board_counted = d.board_counted;
      board_pes = d.board_pes;
    }

pub returns-in_ok-flush-in-Flush-clause-kept : goal.returns-in_ok-flush-in-Flush-clause-kept
returns-in_ok-flush-in-Flush-clause-kept g c =
    let d = c.requires.run in
    let k = queues_kept g.C.Chare.step g.C.Pup.fits g.C.Pup.pack g.H.Openings.opened c.args.pe.now c.flush.new.pe c.args.queues.now
    c.flush.new.queues (flush_event c.args.pe.now c.args.queues.now) d.histories d.parcels
    (flush_event_holds g.C.Chare.step g.C.Pup.fits g.C.Pup.pack g.H.Openings.opened c.args.pe.now c.args.queues.now d.histories
    d.parcels) c.in_ok-flush-in-Flush.ensures.ok in
    record {
      histories = k.0;
      parcels = k.1;
      words_name = d.words_name;
      board_counted = d.board_counted;
      board_pes = d.board_pes;
    }

pub returns-in-Deliver-clause-kept : goal.returns-in-Deliver-clause-kept
returns-in-Deliver-clause-kept g c =
    let d = c.requires.run in
    let k = queues_kept g.C.Chare.step g.C.Pup.fits g.C.Pup.pack g.H.Openings.opened c.args.pe.now c.deliver_at.new.pe c.args.queues.now
    c.deliver_at.new.queues (deliver_event c.args.pe.now c.args.queues.now c.in-Deliver.p) d.histories d.parcels
    (deliver_event_holds g.C.Chare.step g.C.Pup.fits g.C.Pup.pack g.H.Openings.opened c.args.pe.now c.args.queues.now c.in-Deliver.p
    d.histories d.parcels) c.deliver_at.ensures in
    record {
      histories = k.0;
      parcels = k.1;
      words_name = d.words_name;
      board_counted = d.board_counted;
      board_pes = d.board_pes;
    }

pub returns-in-Act-clause-kept : goal.returns-in-Act-clause-kept
returns-in-Act-clause-kept g c =
    let d = c.requires.run in
    record {
      histories = pe_kept g.C.Chare.step g.C.Pup.fits g.C.Pup.pack g.H.Openings.opened c.args.pe.now c.act.new.pe
          (act_event g.C.Chare.step g.C.Pup.pack g.C.Pup.unpack c.args.pe.now) c.act.result (λ v. v) d.histories
          (act_event_holds g.C.Chare.step g.C.Pup.fits g.C.Pup.pack g.H.Openings.opened g.C.Pup.counted g.C.Pup.unpack
          g.met.C.Pup.round_trip g.met.C.Chare.packs c.args.pe.now d.histories) c.act.ensures.ok c.act.ensures.err;
      parcels = d.parcels;
      words_name = d.words_name;
      board_counted = d.board_counted;
      board_pes = d.board_pes;
    }

pub returns-in_ok-reports-in-Report-clause-kept : goal.returns-in_ok-reports-in-Report-clause-kept
returns-in_ok-reports-in-Report-clause-kept g c =
    let d = c.requires.run in
    let k = board_kept g.C.Chare.step g.C.Pup.fits g.C.Pup.pack g.H.Openings.opened c.args.pe.now c.report.new.pe c.args.board.now
    c.report.new.board c.in_ok-reports-in-Report.reports d.histories c.in_ok-reports-in-Report.ensures.ok in
    record {
      histories = k.0;
      parcels = d.parcels;
      words_name = d.words_name;
      board_counted = k.1 ∙ d.board_counted;
      board_pes = k.2 ∙ d.board_pes;
    }

pub returns-in-Depart-clause-kept : goal.returns-in-Depart-clause-kept
returns-in-Depart-clause-kept g c =
    let d = c.requires.run in
    record {
      histories = words_kept g.C.Chare.step g.C.Pup.fits g.C.Pup.pack g.H.Openings.opened c.args.pe.now c.depart.new.pe c.args.words.now
          c.depart.new.words (depart_event g.C.Chare.step g.C.Pup.pack c.in-Depart.p c.args.pe.now c.args.words.now c.args.board.now
          c.in-Depart.e) c.depart.result (λ v. v) d.histories
          (depart_event_holds g.C.Chare.step g.C.Pup.fits g.C.Pup.pack g.H.Openings.opened c.in-Depart.p c.args.pe.now c.args.words.now
          c.args.board.now c.in-Depart.e d.histories c.depart.ensures.fits) c.depart.ensures.ok c.depart.ensures.err;
      parcels = d.parcels;
      words_name = c.depart.ensures.named;
      board_counted = d.board_counted;
      board_pes = d.board_pes;
    }

pub returns-in-Resume-clause-kept : goal.returns-in-Resume-clause-kept
returns-in-Resume-clause-kept g c =
    let d = c.requires.run in
    record {
      histories = pe_kept g.C.Chare.step g.C.Pup.fits g.C.Pup.pack g.H.Openings.opened c.args.pe.now c.resume.new.pe
          (resume_event g.C.Chare.step g.C.Pup.pack c.in-Resume.p c.args.pe.now c.args.board.now c.in-Resume.e) c.resume.result (λ v. v)
          d.histories (resume_event_holds g.C.Chare.step g.C.Pup.fits g.C.Pup.pack g.H.Openings.opened c.in-Resume.p c.args.pe.now
          c.args.board.now c.in-Resume.e d.histories) c.resume.ensures.ok c.resume.ensures.err;
      parcels = d.parcels;
      words_name = d.words_name;
      board_counted = d.board_counted;
      board_pes = d.board_pes;
    }

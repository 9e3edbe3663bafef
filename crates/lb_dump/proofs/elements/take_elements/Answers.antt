use Rattle.std.proofs.Common.{◌≡◌, ◌++◌, ◌+◌, length, subst, inr, arith}
use Rattle.std.proofs.lemmas.Result.{err_from_is_err_and}
use Rattle.lb_dump.specs.Elements.{BreaksElement, elements_of}
use Rattle.lb_dump.specs.Heads.{load_width}
use Rattle.lb_dump.proofs.ElementTexts.{fault_behind, grown, joined_next, kept_next}
use Rattle.lb_dump.proofs.Partial.{some_bytes}
use Rattle.lb_dump.proofs.WholePieces.{next_is_there, no_more_whole, spent_next}
use Rattle.lb_dump.proofs.elements.take_elements.Goals as goal

pub split_at-requires : goal.split_at-requires
split_at-requires g c =
    next_is_there c.element_len-len.result (length c.args.loads.now.items) (length c.args.bytes.now) (length c.loop-format.loads.items)
    (length c.loop-format.rest.now) c.loop-format.invariant.spent (omega arith)

pub returns-clause-short : goal.returns-clause-short
returns-clause-short g c = λ inside.
    let some = some_bytes c.args.head.now.format in
    let left = no_more_whole c.element_len-len.result (length c.args.loads.now.items) (length c.args.bytes.now)
    (length c.loop-format.loads.items) (length c.loop-format.rest.now) c.loop-format.invariant.spent (omega arith) (omega arith) in
    omega arith

pub returns-in_err-load-clause-broken : goal.returns-in_err-load-clause-broken
returns-in_err-load-clause-broken g c =
    let before = c.loop-format.invariant in
    let head = c.args.head.now in
    let e = c.in_err-load.field-0.0 in
    let p = err_from_is_err_and c.from_residual-in_err-load.result c.from_residual-in_err-load.ensures.1 in
    let same : c.min-procs.result ≡ head.procs = omega arith in
    let breaks = subst (λ procs. BreaksElement head.format procs c.len-in-loop-format-2.result c.split_at.result.0.now e) same c.in_err-load.ensures.broken in
    rw (p.1, p.2) (inr (fault_behind head c.loop-format.loads.items c.args.loads.now.items c.loop-format.sizes.items c.args.sizes.now.items
    c.len-in-loop-format-2.result c.split_at.result.0.now c.split_at.result.1.now
    c.loop-format.rest.now c.args.bytes.now e c.requires.head before.kept (omega arith) (omega arith) breaks c.split_at.ensures.by_index.0 before.joined))

pub loop-format-preserved : goal.loop-format-preserved
loop-format-preserved g c =
    let before = c.loop-format.invariant in
    let head = c.args.head.now in
    let loads = c.loop-format.loads.items in
    let sizes = c.loop-format.sizes.items in
    let more = c.push_reserved.new.self.items in
    let pairs = c.push_reserved-in-loop-format.new.self.items in
    let numbers = c.in_ok-load.ensures in
    let longer : length more ≡ length loads + 1 = grown loads more c.in_ok-load.load c.push_reserved.ensures.items in
    let paired : length pairs ≡ length sizes + 1 = grown sizes pairs (c.in_ok-load.size, c.in_ok-load.place) c.push_reserved-in-loop-format.ensures.items in
    record {
      joined = joined_next (load_width head.format) head.procs loads more sizes pairs c.in_ok-load.load c.in_ok-load.size c.in_ok-load.place
          before.kept c.push_reserved.ensures.items c.push_reserved-in-loop-format.ensures.items
          c.split_at.result.0.now c.split_at.result.1.now c.loop-format.rest.now
          (elements_of head c.args.loads.now.items c.args.sizes.now.items ++ c.args.bytes.now) numbers.spelled c.split_at.ensures.by_index.0 before.joined;
      kept = kept_next (load_width head.format) head.procs loads more sizes pairs c.in_ok-load.load c.in_ok-load.size c.in_ok-load.place
          before.kept c.push_reserved.ensures.items c.push_reserved-in-loop-format.ensures.items
          numbers.within.load_fits numbers.fits numbers.within.size_fits (omega arith);
      spent = spent_next c.element_len-len.result (length c.args.loads.now.items) (length c.args.bytes.now) (length loads)
          (length c.loop-format.rest.now) before.spent (length more) (length c.split_at.result.1.now) longer c.split_at.ensures.back_len;
      few = omega arith;
      loads = omega arith;
      sizes = omega arith;
      load_room = omega arith;
      size_room = omega arith;
    }

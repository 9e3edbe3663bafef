use Rattle.std.proofs.Common.{◌≡◌, ◌-◌, ℕ, length, take, ap, sym, subst, inl, inr, arith, rules, length-append}
use Rattle.std.specs.Io.KnownBytes.{Consumes}
use Rattle.std.proofs.KnownBytes.{Consumes-trans}
use Rattle.std.proofs.lemmas.List.{length-take, length-take-le}
use Rattle.run_checkpoint.specs.declared.error.CheckpointError.TheVariants.{OutOfMemory}
use Rattle.run_checkpoint.proofs.WholeText.{Shows, failed, no_memory, on_error, shown, too_long}
use Rattle.run_checkpoint.proofs.whole.read_onto.Goals as goal

pub returns-in_err-len-clause-stopped : goal.returns-in_err-len-clause-stopped
returns-in_err-len-clause-stopped g c =
    let old = g.R.Read.remaining c.args.reader.now in
    let new = g.R.Read.remaining c.read_piece.new.reader in
    let told = c.in_err-len.ensures.bytes in
    shown old new c.in_err-len.field-0.0 c.from_residual.result c.from_residual.ensures.1
    (subst (Shows old new) (sym told.0) (failed old (g.R.Read.remaining c.loop-call.reader) new c.loop-call.bytes.items c.loop-call.invariant.read told.1 c.loop-call.invariant.few))

pub returns-then-len-clause-stopped : goal.returns-then-len-clause-stopped
returns-then-len-clause-stopped g c =
    let len = c.in_ok-len.len in
    let piece = take len c.read_piece.new.room in
    let whole : length piece ≡ len = length-take-le len c.read_piece.new.room c.in_ok-len.ensures.bound in
    too_long (g.R.Read.remaining c.args.reader.now) (g.R.Read.remaining c.loop-call.reader) (g.R.Read.remaining c.read_piece.new.reader) c.loop-call.bytes.items piece
    c.loop-call.invariant.read c.in_ok-len.ensures.bytes.0 (omega (arith, whole, c.loop-call.invariant.few, c.if-len.true, c.len-in-loop-call.ensures, c.loop-call.bytes.ok.0))
    (omega (arith, whole, c.loop-call.invariant.few, c.loop-call.invariant.room, c.in_ok-len.ensures.bound, c.min.ensures, c.len.ensures, c.loop-call.bytes.ok.0, c.read_piece.auto.room, length-take {A = ℕ}))

pub returns-in_err-extend_from_slice-clause-stopped : goal.returns-in_err-extend_from_slice-clause-stopped
returns-in_err-extend_from_slice-clause-stopped g c =
    let old = g.R.Read.remaining c.args.reader.now in
    let now = g.R.Read.remaining c.loop-call.reader in
    let new = g.R.Read.remaining c.read_piece.new.reader in
    let len = c.in_ok-len.len in
    let piece = take len c.read_piece.new.room in
    let whole : length piece ≡ len = length-take-le len c.read_piece.new.room c.in_ok-len.ensures.bound in
    shown old new OutOfMemory c.from_residual-in_err-extend_from_slice.result c.from_residual-in_err-extend_from_slice.ensures.1
    (no_memory old now new c.loop-call.bytes.items piece c.loop-call.invariant.read c.in_ok-len.ensures.bytes.0
    (omega (arith, whole, c.loop-call.invariant.few, c.if-len.false, c.len-in-loop-call.ensures, c.loop-call.bytes.ok.0)))

pub loop-call-preserved : goal.loop-call-preserved
loop-call-preserved g c =
    let old = g.R.Read.remaining c.args.reader.now in
    let now = g.R.Read.remaining c.loop-call.reader in
    let new = g.R.Read.remaining c.read_piece.new.reader in
    let len = c.in_ok-len.len in
    let piece = take len c.read_piece.new.room in
    let whole : length piece ≡ len = length-take-le len c.read_piece.new.room c.in_ok-len.ensures.bound in
    let items = c.in_ok-extend_from_slice.ensures.items in
    record {
      read = subst (Consumes old new) (sym items) (Consumes-trans old now new c.loop-call.bytes.items piece c.loop-call.invariant.read c.in_ok-len.ensures.bytes.0);
      few = omega (arith, ap length items, length-append c.loop-call.bytes.items piece, whole, c.loop-call.invariant.few, c.if-len.false, c.len-in-loop-call.ensures, c.loop-call.bytes.ok.0);
      room = search rules;
      called = omega (arith, c.loop-call.invariant.called, c.in_ok-len.ensures.counted);
    }

pub returns-in_err-len-clause-failed : goal.returns-in_err-len-clause-failed
returns-in_err-len-clause-failed g c = on_error _ _ _ (inl c.in_err-len.ensures.failed)

-- the reader was called as often as it may be
pub returns-clause-failed : goal.returns-clause-failed
returns-clause-failed g c = λ _. inr (omega (arith, c.loop-call.invariant.called))

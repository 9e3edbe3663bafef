use Rattle.std.proofs.Common.{◌≡◌, ◌⊎◌, ◌<◌, drop, refl, inl, inr, arith}
use Rattle.std.specs.Int.{w32, from_be_bytes}
use Rattle.chare_index.specs.declared.limits.TheConstants.Limits.{PES}
use Rattle.lb_dump.proofs.Heads.{count_wrong, head_respelled, head_unfinished, procs_wrong}
use Rattle.lb_dump.proofs.Partial.{number_from}
use Rattle.dump_format.proofs.Bytes.{are_bytes}
use Rattle.lb_dump.proofs.head.read_head.Goals.{After-word-procs, then-procs-eq0-via-then-procs-eq0, then-procs-eq0-via-else-procs-eq0+then-procs-gt-PES}
use Rattle.lb_dump.proofs.head.read_head.Goals as goal

procs_are : (c : After-word-procs) → c.word-procs.result ≡ from_be_bytes w32 (drop 8 c.args.bytes.now)
procs_are c = number_from c.args.bytes.now 8 8 c.word-procs.result c.word-procs.ensures.value refl

pub returns-then-bytes : goal.returns-then-bytes
returns-then-bytes c =
    record {
      answer = (
        omega arith,
        head_unfinished c.args.bytes.now (from_be_bytes w32 (drop 8 c.args.bytes.now))
            c.in_ok-judge_magic.ensures refl (omega arith) (λ long. absurd (omega arith)),
      );
    }

pub returns-then-procs-eq0 : goal.returns-then-procs-eq0
returns-then-procs-eq0 c =
    let bad : (c.word-procs.result ≡ 0) ⊎ (PES < c.word-procs.result) = elim c.then-procs-eq0.branch [
      | then-procs-eq0-via-then-procs-eq0 w ↦ inl w.if-procs-eq0.true
      | then-procs-eq0-via-else-procs-eq0+then-procs-gt-PES w ↦ inr
          w.if-procs-gt-PES.true
    ] in
    record {
      answer = procs_wrong c.args.bytes.now c.word-procs.result c.in_ok-judge_magic.ensures
          (procs_are (goal.at.returns-then-procs-eq0 c).After-word-procs) c.if-bytes.false bad;
    }

pub returns-then-bytes-lt-HEAD_LEN : goal.returns-then-bytes-lt-HEAD_LEN
returns-then-bytes-lt-HEAD_LEN c =
    record {
      answer = (
        c.if-bytes-lt-HEAD_LEN.true,
        head_unfinished c.args.bytes.now c.word-procs.result c.in_ok-judge_magic.ensures
            (procs_are (goal.at.returns-then-bytes-lt-HEAD_LEN c).After-word-procs) (omega arith) (λ long. (omega arith, omega arith)),
      );
    }

pub returns-then-count-gt-ELEMENTS : goal.returns-then-count-gt-ELEMENTS
returns-then-count-gt-ELEMENTS c =
    record {
      answer = count_wrong c.args.bytes.now c.word-procs.result c.in_ok-judge_magic.ensures
          (procs_are (goal.at.returns-then-count-gt-ELEMENTS c).After-word-procs) c.word-count.result
          (omega arith) (omega arith) (omega arith) (number_from c.args.bytes.now 12 12 c.word-count.result c.word-count.ensures.value refl) c.if-count-gt-ELEMENTS.true;
    }

pub returns : goal.returns
returns c =
    record {
      answer = (
        record { step = c.word.type_inv; some_pe = omega arith; few_pes = omega arith; few = omega arith },
        head_respelled c.args.bytes.now (record { format = c.format_of.result; step = c.word.result; procs = c.word-procs.result; count = c.word-count.result })
            (omega arith) (are_bytes c.args.bytes.now c.type_inv.bytes) c.in_ok-judge_magic.ensures c.format_of.ensures
            (number_from c.args.bytes.now 4 4 c.word.result c.word.ensures.value refl) (procs_are (goal.at.returns c).After-word-procs)
            (number_from c.args.bytes.now 12 12 c.word-count.result c.word-count.ensures.value refl),
      );
    }

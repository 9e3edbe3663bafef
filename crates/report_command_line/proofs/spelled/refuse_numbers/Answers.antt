use Rattle.std.proofs.Common.{◌≡◌, ◌∙◌, ℕ, List, [], ◌∷◌, ◌++◌, codes, subst, sym, append_assoc}
use Rattle.std.specs.Prelude.{MatchBool}
use Rattle.std.specs.Io.KnownBytes.{Appends}
use Rattle.std.specs.String.{string_bytes}
use Rattle.streams.specs.Writing.{WritesPrefix}
use Rattle.report_command_line.specs.Numbers.{no_numbers_line}
use Rattle.program_words.proofs.Tellings.{at_most_written}
use Rattle.report_command_line.proofs.spelled.refuse_numbers.Goals as goal

-- a text between two others, in one piece or in several
between : (front text end newline : List ℕ) → front ++ (text ++ (end ++ newline)) ≡ front ++ text ++ end ++ newline
between front text end newline =
    sym (append_assoc front text (end ++ newline)) ∙ sym (append_assoc (front ++ text) end newline)

pub returns-in-Ok-clause-told : goal.returns-in-Ok-clause-told
returns-in-Ok-clause-told g c =
    let old = g.W.Write.contents c.args.writer.now in
    let new = g.W.Write.contents c.write_out-told.new.writer in
    let line : string_bytes c.in-Ok.line ≡ no_numbers_line c.args.text.now = c.in-Ok.ensures.ok
    ∙ between (codes "lb_report: --procs ") c.args.text.now (codes ": give numbers of 1 to 256 with a comma between two, as in 4,8,16") (10 ∷ []) in
    at_most_written c.write_out-told.result old new (no_numbers_line c.args.text.now)
    (subst (λ bytes. MatchBool c.write_out-told.result (Appends old new bytes) (WritesPrefix old new bytes)) (c.as_bytes.ensures.value ∙ line) c.write_out-told.ensures.written)

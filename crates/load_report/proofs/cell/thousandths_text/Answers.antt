use Rattle.std.proofs.Common.{◌≡◌, List, ℕ, ◌++◌, ◌/◌, ◌%◌, ◌∙◌, append_assoc, codes}
use Rattle.std.specs.Fmt.{decimal}
use Rattle.std.proofs.lemmas.Result.{IfOk-weaker}
use Rattle.load_report.proofs.cell.thousandths_text.Goals as goal

-- five pieces, one after another
of_pieces : (a b c d e : List ℕ) → a ++ (b ++ (c ++ (d ++ e))) ≡ a ++ b ++ c ++ d ++ e
of_pieces a b c d e = simp append_assoc

pub returns : goal.returns
returns g c =
    let n : ℕ = c.args.n in
    IfOk-weaker c.format.result _ _ (λ text written. written
    ∙ of_pieces (decimal (n / 1000)) (codes ".") (decimal (n / 100 % 10)) (decimal (n / 10 % 10)) (decimal (n % 10))) c.format.ensures.ok

use Rattle.std.proofs.Common.{◌≡◌, ℕ, List, ◌++◌, codes, ap, ◌∙◌, append_assoc}
use Rattle.std.proofs.lemmas.Result.{IfOk-weaker}
use Rattle.std.specs.Fmt.{decimal}
use Rattle.lb_replay.specs.Text.{blank_number, flaw_name, newline}
use Rattle.lb_replay.proofs.fault.flaw_line.Goals as goal

-- a name and two numbers, in one piece or in several
of_two : (front name blank a b end : List ℕ) → front ++ (name ++ (blank ++ (a ++ (blank ++ (b ++ end))))) ≡ front ++ name ++ ((blank ++ a) ++ (blank ++ b)) ++ end
of_two front name blank a b end = simp append_assoc

pub returns-in-PriceHigh : goal.returns-in-PriceHigh
returns-in-PriceHigh g c =
    let named : c.flaw_name-name.result.now ≡ codes "PriceHigh" = c.flaw_name-name.ensures ∙ ap flaw_name c.in-PriceHigh.is in
    let pair : List ℕ = blank_number c.in-PriceHigh.b ++ blank_number c.in-PriceHigh.p in
    record {
      line = rw c.in-PriceHigh.is (IfOk-weaker c.format.result _ _
          (λ line written. written ∙ of_two (codes "check: ") c.flaw_name-name.result.now (codes " ") (decimal c.in-PriceHigh.b)
          (decimal c.in-PriceHigh.p) newline ∙ ap (λ name. codes "check: " ++ name ++ pair ++ newline) named) c.format.ensures.ok);
    }

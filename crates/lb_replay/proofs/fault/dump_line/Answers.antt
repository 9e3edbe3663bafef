use Rattle.std.proofs.Common.{◌≡◌, ℕ, List, ◌++◌, codes, sym, ◌∙◌, append_assoc}
use Rattle.std.proofs.lemmas.Result.{IfOk-weaker}
use Rattle.std.specs.Fmt.{decimal}
use Rattle.lb_replay.specs.Text.{newline}
use Rattle.lb_replay.proofs.fault.dump_line.Goals as goal

-- what is said of an element or a move, in one piece or in several
of_number : (which : List ℕ) (i : ℕ) (what : List ℕ) → which ++ (decimal i ++ (what ++ newline)) ≡ which ++ decimal i ++ what ++ newline
of_number which i what =
    sym (append_assoc which (decimal i) (what ++ newline)) ∙ sym (append_assoc (which ++ decimal i) what newline)

of_element : (i : ℕ) (what : List ℕ) → codes "dump: element " ++ (decimal i ++ (what ++ newline)) ≡ codes "dump: element " ++ decimal i ++ what ++ newline
of_element = of_number (codes "dump: element ")

pub returns-in-Size : goal.returns-in-Size
returns-in-Size g c =
    record {
      line = rw c.in-Size.is (IfOk-weaker c.format-in-Size.result _ _
          (λ line written. written ∙ of_element c.in-Size.i (codes " has more than 1048576 bytes")) c.format-in-Size.ensures.ok);
    }

pub returns-in-Place : goal.returns-in-Place
returns-in-Place g c =
    record {
      line = rw c.in-Place.is (IfOk-weaker c.format-in-Place.result _ _
          (λ line written. written ∙ of_element c.in-Place.i (codes " is on no processor")) c.format-in-Place.ensures.ok);
    }

pub returns-in-Load : goal.returns-in-Load
returns-in-Load g c =
    record {
      line = rw c.in-Load.is (IfOk-weaker c.format-in-Load.result _ _
          (λ line written. written ∙ of_element c.in-Load.i (codes " has too great a load")) c.format-in-Load.ensures.ok);
    }

pub returns-in-Move : goal.returns-in-Move
returns-in-Move g c =
    record {
      line = rw c.in-Move.is (IfOk-weaker c.format-in-Move.result _ _
          (λ line written. written ∙ of_number (codes "dump: move ") c.in-Move.k (codes " is out of range")) c.format-in-Move.ensures.ok);
    }

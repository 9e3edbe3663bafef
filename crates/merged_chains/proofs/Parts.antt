-- Loads of ranges in a chain that comes part by part.
use Rattle.std.proofs.Common.{◌≡◌, ◌∙◌, ℕ, ◌+◌, ◌≤◌, List, ◌++◌, length, sum, take, arith, ap, sym}
use Rattle.std.proofs.lemmas.List.{take-append-le}
use Rattle.std.proofs.lemmas.List.Sums.{sum_by-append}
use Rattle.std.proofs.Math.Seq.{take-append-add}
use Rattle.lb_snapshot.specs.Measured.{load}
use Rattle.lb_certificates.proofs.Chains.{load_after}
use Rattle.chain_partition.proofs.RunningSums.{load_split}

-- a range within the first part
pub load_front : (xs ys : List ℕ) (a b : ℕ) → a ≤ b → b ≤ length xs → load (xs ++ ys) a b ≡ load xs a b
load_front xs ys a b onward inside =
    let one : sum (take a (xs ++ ys)) ≡ sum (take a xs) = ap sum (take-append-le a xs ys (omega arith)) in
    let other : sum (take b (xs ++ ys)) ≡ sum (take b xs) = ap sum (take-append-le b xs ys inside) in
    omega (arith, one, other, load_after (xs ++ ys) a b onward, load_after xs a b onward)

pub sum_to : (xs ys : List ℕ) (n a : ℕ) → length xs ≡ n → sum (take (n + a) (xs ++ ys)) ≡ sum xs + sum (take a ys)
sum_to xs ys n a e =
    ap (λ m. sum (take (m + a) (xs ++ ys))) (sym e) ∙ ap sum (take-append-add xs ys a) ∙ sum_by-append (λ x. x) xs (take a ys)

-- a range within the next part
pub load_next : (xs ys : List ℕ) (n a b : ℕ) → length xs ≡ n → a ≤ b → load (xs ++ ys) (n + a) (n + b) ≡ load ys a b
load_next xs ys n a b e onward =
    let one : sum (take (n + a) (xs ++ ys)) ≡ sum xs + sum (take a ys) = sum_to xs ys n a e in
    let other : sum (take (n + b) (xs ++ ys)) ≡ sum xs + sum (take b ys) = sum_to xs ys n b e in
    omega (arith, one, other, load_after (xs ++ ys) (n + a) (n + b) (omega arith), load_after ys a b onward)

-- a range and the one behind it
pub load_join : (xs : List ℕ) (a b c : ℕ) → a ≤ b → b ≤ c → load xs a b + load xs b c ≡ load xs a c
load_join xs a b c one other =
    omega (arith, load_split xs a b one, load_split xs b c other, load_split xs a c (omega arith))

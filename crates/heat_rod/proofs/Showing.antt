-- Ghost cells that are posted to both neighbors.
use Rattle.std.proofs.Common.{◌≡◌, ◌≢◌, ℕ, ◌+◌, ◌<◌, ◌≤◌, List, ◌++◌, length, ap, ◌∙◌, sym, arith, length-append, Result, Ok, Err, IfErr, MatchResult}
use Rattle.std.specs.Prelude.{⊤}
use Rattle.std.proofs.lemmas.List.{length-map, map-append}
use Rattle.chare_index.specs.declared.limits.TheConstants.Limits.{BODY_BYTES, LETTERS}
use Rattle.chares.proofs.SeveralPosts.{posted_both}
use Rattle.chares.specs.Posting.{Posting, posted}
use Rattle.chares.specs.declared.sends.SendError.{SendError}
use Rattle.chares.specs.declared.sends.SendError.TheVariants.{OutOfMemory, Worn}
use Rattle.messages.specs.Messages.{IsMessagePost, RefusesMessagePost}
use Rattle.reductions.proofs.Letters.{post_worn}
use Rattle.reductions.specs.TreeMessages.{user_pack}
use Rattle.heat_rod.specs.declared.ghost_cell.GhostCell.{GhostCell}
use Rattle.heat_rod.specs.GhostCells.{cell_letters, cell_pack}

pub both_shown : {P : Type 0} (p q r : Posting P) (xs ys : List (ℕ × GhostCell)) → q ≡ posted p (cell_letters xs) → r ≡ posted q (cell_letters ys)
    → r ≡ posted p (cell_letters (xs ++ ys))
both_shown p q r xs ys first second =
    posted_both p q r (cell_letters xs) (cell_letters ys) first second ∙ ap (posted p) (sym (map-append (λ x. (x.0, user_pack cell_pack x.1)) xs ys))

-- where no letter number is left for the second, there are not numbers for both
pub both_worn : {P : Type 0} (p q : Posting P) (xs ys : List (ℕ × GhostCell)) → q ≡ posted p (cell_letters xs) → LETTERS < q.count + length ys
    → LETTERS < p.count + length (xs ++ ys)
both_worn p q xs ys first worn =
    let count : q.count ≡ p.count + length (cell_letters xs) = ap (λ s. s.count) first in
    let letters_len : length (cell_letters xs) ≡ length xs = length-map xs (λ x. (x.0, user_pack cell_pack x.1)) in
    omega (arith, count, letters_len, length-append xs ys)

-- what is counted of a ghost cell, which has no list
abbrev pub Counted : Type 0
Counted = Unit {0} × (Unit {0} × Unit {0})

-- a ghost cell for another strip is refused only where no letter number is left, or for want of memory
pub cell_refused : {P : Type 0} (p : Posting P) (to : ℕ) (cell : GhostCell) (result : Result ⊤ SendError) → to < p.n → BODY_BYTES ≤ p.longest
    → MatchResult result (λ _. IsMessagePost p to Counted (user_pack cell_pack cell)) (RefusesMessagePost p to Counted (user_pack cell_pack cell))
    → IfErr result (λ e. e ≢ OutOfMemory → (e ≡ Worn) × (LETTERS < p.count + 1))
cell_refused p to cell (Ok _) known least answer = tt
cell_refused p to cell (Err e) known least answer = post_worn p to Counted (user_pack cell_pack cell) e known (tt, (tt, tt)) (omega (arith, least)) answer

-- What is addressed to PEs that there are stays so.
use Rattle.std.proofs.Common.{◌≡◌, ℕ, ◌+◌, ◌<◌, List, [], ◌∷◌, ◌++◌, map, length, slice_index_or, subst, sym, arith}
use Rattle.chares.specs.Letters.{LetterView}
use Rattle.chares.specs.Posting.{letters_of}
use Rattle.pe_state.specs.Pes.{Item, letter_at}
use Rattle.pe_state.specs.Standing.{IsBelow, AreBelow}

-- the first parcel of an outbox, and the others
pub front_below : (pes : ℕ) (outbox : List Item) (x : Item) → x ≡ slice_index_or outbox 0 x → 0 < length outbox → AreBelow pes outbox → IsBelow pes x.address
front_below pes [] x e h k = absurd (omega arith)
front_below pes (y ∷ ys) x e h k = subst (λ (v : Item). IsBelow pes v.address) (sym e) k.0

pub first_below : (pes : ℕ) (outbox xs : List Item) (x : Item) → outbox ≡ x ∷ xs → AreBelow pes outbox → IsBelow pes x.address
first_below pes outbox xs x e h = (subst (λ (v : List Item). AreBelow pes v) e h).0

pub rest_below : (pes : ℕ) (outbox xs : List Item) (x : Item) → outbox ≡ x ∷ xs → AreBelow pes outbox → AreBelow pes xs
rest_below pes outbox xs x e h = (subst (λ (v : List Item). AreBelow pes v) e h).1

pub both_below : (pes : ℕ) (xs ys : List Item) → AreBelow pes xs → AreBelow pes ys → AreBelow pes (xs ++ ys)
both_below pes [] ys h k = k
both_below pes (x ∷ xs) ys h k = (h.0, both_below pes xs ys h.1 k)

-- one more at the back
pub last_below : (pes : ℕ) (xs : List Item) (x : Item) → AreBelow pes xs → IsBelow pes x.address → AreBelow pes (xs ++ x ∷ [])
last_below pes xs x h k = both_below pes xs (x ∷ []) h (k, tt)

-- letters that were just posted have no address
posts_below : (pes me k : ℕ) (sends : List (ℕ × List ℕ)) → AreBelow pes (letters_of me k sends)
posts_below pes me k [] = tt
posts_below pes me k (send ∷ sends) = (tt, posts_below pes me (k + 1) sends)

pub posted_below : (pes me k : ℕ) (outbox : List Item) (sends : List (ℕ × List ℕ)) → AreBelow pes outbox → AreBelow pes (outbox ++ letters_of me k sends)
posted_below pes me k outbox sends h = both_below pes outbox (letters_of me k sends) h (posts_below pes me k sends)

-- letters from the shelf are addressed to the PE itself
unshelved_below : (pes me : ℕ) (letters : List LetterView) → me < pes → AreBelow pes (map (letter_at me) letters)
unshelved_below pes me [] lt = tt
unshelved_below pes me (l ∷ ls) lt = (lt, unshelved_below pes me ls lt)

pub unshelved : (pes me : ℕ) (outbox : List Item) (letters : List LetterView) → AreBelow pes outbox → me < pes → AreBelow pes (outbox ++ map (letter_at me) letters)
unshelved pes me outbox letters h lt = both_below pes outbox (map (letter_at me) letters) h (unshelved_below pes me letters lt)

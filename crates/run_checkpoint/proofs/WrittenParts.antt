-- What a writer took where one text is written after another.
use Rattle.std.proofs.Common.{◌≡◌, ℕ, zero, suc, ◌+◌, ◌<◌, List, [], ◌∷◌, ◌++◌, length, map, take, drop, get_or, Option, Ok, Err, sym, ap, ◌∙◌, subst, refl, append_assoc, arith}
use Rattle.std.specs.Prelude.{⊤, Result}
use Rattle.std.specs.Result.{IsErrAnd}
use Rattle.std.specs.List.{flat_map}
use Rattle.std.specs.Io.KnownBytes.{Appends}
use Rattle.std.proofs.KnownBytes.{Appends-nil, Appends-trans}
use Rattle.std.proofs.lemmas.List.{append-nil, take_more, length-take-le, take-append-drop}
use Rattle.std.proofs.lemmas.List.Concat.{flat_map-append}
use Rattle.run_checkpoint.specs.declared.checkpoint.DecidedRound.{DecidedRound}
use Rattle.run_checkpoint.specs.Text.{decided_line, round_lines}
use Rattle.run_checkpoint.specs.Writing.{Puts}
use Rattle.run_checkpoint.proofs.RoundLines.{lines_more}

module _ {E : Type 0} where
  -- a text that was written, and then another
  pub after : (old now new : Option (List ℕ)) (text more : List ℕ) (result : Result ⊤ E) → Appends old now text → Puts now new more result
      → Puts old new (text ++ more) result
  after old now new text more (Ok done) first second = Appends-trans old now new text more first second
  after old now new text more (Err e) first (gone, rest, parts, out) =
      (text ++ gone, rest, ap (λ t. text ++ t) parts ∙ sym (append_assoc text gone rest), Appends-trans old now new text gone first out)

  -- writing failed in the first of two texts
  pub fails : (Q : E → Type 0) (old new : Option (List ℕ)) (first more : List ℕ) (e : E) (result : Result ⊤ E) → Puts old new first (Err e) → IsErrAnd result Q
      → Puts old new (first ++ more) result
  fails Q old new first more e (Ok done) failed is = absurd is
  fails Q old new first more e (Err f) (gone, rest, parts, out) is = (gone, rest ++ more, ap (λ t. t ++ more) parts ∙ append_assoc gone rest more, out)

  -- nothing was written, for want of memory
  pub nothing : (Q : E → Type 0) (old : Option (List ℕ)) (text : List ℕ) (result : Result ⊤ E) → IsErrAnd result Q → Puts old old text result
  nothing Q old text (Ok done) is = absurd is
  nothing Q old text (Err e) is = ([], text, refl, Appends-nil old)

  -- a text that equals the one that was written
  pub spelled : (old new : Option (List ℕ)) (text other : List ℕ) (result : Result ⊤ E) → text ≡ other → Puts old new text result → Puts old new other result
  spelled old new text other result same puts = subst (λ t. Puts old new t result) same puts

  -- writing failed in a part between others
  pub fails_within : (Q : E → Type 0) (old now new : Option (List ℕ)) (before part rest whole : List ℕ) (e : E) (result : Result ⊤ E) → Appends old now before
      → Puts now new part (Err e) → IsErrAnd result Q → (before ++ part) ++ rest ≡ whole → Puts old new whole result
  fails_within Q old now new before part rest whole e result first failed is same =
      spelled old new ((before ++ part) ++ rest) whole result same
      (fails Q old new (before ++ part) rest e result (after old now new before part (Err e) first failed) is)

-- pieces of a list, each of them made of another item
pub pieces_of : {X Y : Type 0} (f : Y → List ℕ) (g : X → Y) (xs : List X) → flat_map f (map g xs) ≡ flat_map (λ x. f (g x)) xs
pieces_of f g [] = refl
pieces_of f g (x ∷ xs) = ap (λ t. f (g x) ++ t) (pieces_of f g xs)

-- the lines of the first rounds, and of the others
lines_split : (r n : ℕ) (decided : List DecidedRound) → round_lines r (take n decided) ++ round_lines (r + n) (drop n decided) ≡ round_lines r decided
lines_split r zero decided = ap (λ k. round_lines k decided) (omega arith)
lines_split r (suc n) [] = refl
lines_split r (suc n) (d ∷ decided) =
    append_assoc (decided_line r d) (round_lines (r + 1) (take n decided)) (round_lines (r + suc n) (drop n decided))
    ∙ ap (λ t. decided_line r d ++ t)
    (ap (λ k. round_lines (r + 1) (take n decided) ++ round_lines k (drop n decided)) (omega arith) ∙ lines_split (r + 1) n decided)

-- an element at an index inside, whatever stands for those outside
pub any_default : {X : Type 0} (xs : List X) (i : ℕ) (a b : X) → i < length xs → get_or xs i a ≡ get_or xs i b
any_default [] i a b inside = absurd (omega arith)
any_default (x ∷ xs) zero a b inside = refl
any_default (x ∷ xs) (suc i) a b inside = any_default xs i a b (omega arith)

module _ (decided : List DecidedRound) (i : ℕ) (d : DecidedRound) (inside : i < length decided) (is : d ≡ get_or decided i d) where
  next_line : round_lines 1 (take (i + 1) decided) ≡ round_lines 1 (take i decided) ++ decided_line (i + 1) d
  next_line =
      let counted : length (take i decided) ≡ i = length-take-le i decided (omega arith) in
      ap (round_lines 1) (take_more decided i d inside ∙ ap (λ x. take i decided ++ x ∷ []) (sym is))
      ∙ lines_more 1 (take i decided) d
      ∙ ap (λ n. round_lines 1 (take i decided) ++ decided_line n d) (omega (arith, counted))

  pub line_put : (old now new : Option (List ℕ)) → Appends old now (round_lines 1 (take i decided)) → Appends now new (decided_line (i + 1) d)
      → Appends old new (round_lines 1 (take (i + 1) decided))
  line_put old now new first then =
      subst (Appends old new) (sym next_line) (Appends-trans old now new (round_lines 1 (take i decided)) (decided_line (i + 1) d) first then)

  pub line_fails : {E : Type 0} (Q : E → Type 0) (old now new : Option (List ℕ)) (e : E) (result : Result ⊤ E) → Appends old now (round_lines 1 (take i decided))
      → Puts now new (decided_line (i + 1) d) (Err e) → IsErrAnd result Q → Puts old new (round_lines 1 decided) result
  line_fails Q old now new e result first failed bad =
      fails_within Q old now new (round_lines 1 (take i decided)) (decided_line (i + 1) d) (round_lines (1 + (i + 1)) (drop (i + 1) decided)) (round_lines 1 decided) e result
      first failed bad (ap (λ t. t ++ round_lines (1 + (i + 1)) (drop (i + 1) decided)) (sym next_line) ∙ lines_split 1 (i + 1) decided)

module _ {X : Type 0} (f : X → List ℕ) (xs : List X) (i : ℕ) (x : X) (inside : i < length xs) (is : x ≡ get_or xs i x) where
  next_piece : flat_map f (take (i + 1) xs) ≡ flat_map f (take i xs) ++ f x
  next_piece =
      ap (flat_map f) (take_more xs i x inside ∙ ap (λ y. take i xs ++ y ∷ []) (sym is))
      ∙ flat_map-append f (take i xs) (x ∷ [])
      ∙ ap (λ t. flat_map f (take i xs) ++ t) (append-nil (f x))

  pub piece_put : (old now new : Option (List ℕ)) → Appends old now (flat_map f (take i xs)) → Appends now new (f x) → Appends old new (flat_map f (take (i + 1) xs))
  piece_put old now new first then =
      subst (Appends old new) (sym next_piece) (Appends-trans old now new (flat_map f (take i xs)) (f x) first then)

  pub piece_fails : {E : Type 0} (Q : E → Type 0) (old now new : Option (List ℕ)) (e : E) (result : Result ⊤ E) → Appends old now (flat_map f (take i xs))
      → Puts now new (f x) (Err e) → IsErrAnd result Q → Puts old new (flat_map f xs) result
  piece_fails Q old now new e result first failed bad =
      fails_within Q old now new (flat_map f (take i xs)) (f x) (flat_map f (drop (i + 1) xs)) (flat_map f xs) e result first failed bad
      (ap (λ t. t ++ flat_map f (drop (i + 1) xs)) (sym next_piece) ∙ sym (flat_map-append f (take (i + 1) xs) (drop (i + 1) xs)) ∙ ap (flat_map f) (take-append-drop (i + 1) xs))

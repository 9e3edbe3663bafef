-- The parts of a text: how they grow, and their lengths.
use Rattle.std.proofs.Common.{◌≡◌, ℕ, zero, suc, ◌+◌, ◌*◌, List, [], ◌∷◌, ◌++◌, length, append_assoc, ℤ, refl, ap, sym, ◌∙◌, arith}
use Rattle.std.specs.Prelude.{flat_map}
use Rattle.std.specs.Int.{Width, w32, w64, byte_len, bytes_high_first, to_be_bytes}
use Rattle.std.proofs.Math.Nat.{mul-suc, mul-zero}
use Rattle.std.proofs.lemmas.List.{append-nil, flat_map_more, length-append}
use Rattle.lb_certificates.specs.declared.division.Floor.{Floor}
use Rattle.lb_certificates.specs.declared.division.Floor.TheVariants.{Zero, Fence}
use Rattle.lb_certificates.specs.Certificate.{MatchFloor}
use Rattle.dump_format.specs.Dumps.{IsRecorded}
use Rattle.dump_format.specs.Text.{word, long, price, element_text, elements_text, floor_text, move_text, plan_text}
use Rattle.dump_format.specs.declared.recorded.Recorded.{Recorded}

-- one number more, or one move
pub flat_map_push : {X : Type 0} (f : X → List ℕ) (xs : List X) (x : X) → flat_map f (xs ++ x ∷ []) ≡ flat_map f xs ++ f x
flat_map_push f xs x = sym (flat_map_more f [] xs x)

-- one element more
pub elements_text_more : (w : Width) (loads : List ℕ) (sizes : List (ℕ × ℕ)) (load : ℕ) (size : ℕ × ℕ) → length loads ≡ length sizes
    → elements_text w (loads ++ load ∷ []) (sizes ++ size ∷ []) ≡ elements_text w loads sizes ++ element_text w load size
unfolding elements_text
elements_text_more w [] [] load size paired = append-nil (element_text w load size)
elements_text_more w [] (size' ∷ sizes) load size paired = absurd (omega arith)
elements_text_more w (load' ∷ loads) [] load size paired = absurd (omega arith)
elements_text_more w (load' ∷ loads) (size' ∷ sizes) load size paired =
    ap (λ rest. element_text w load' size' ++ rest) (elements_text_more w loads sizes load size (omega arith))
    ∙ sym (append_assoc (element_text w load' size') (elements_text w loads sizes) (element_text w load size))

bytes_length : (k n : ℕ) → length (bytes_high_first k n) ≡ k
bytes_length zero n = refl
bytes_length (suc k) n = ap suc (bytes_length k n)

pub number_length : (w : Width) (n : ℕ) → length (to_be_bytes w n) ≡ byte_len w
number_length w n = bytes_length (byte_len w) n

pub element_length : (w : Width) (load : ℕ) (size : ℕ × ℕ) → length (element_text w load size) ≡ byte_len w + 8
element_length w load size = length-append (to_be_bytes w load) (word size.0 ++ word size.1) ∙ ap (λ n. n + 8) (number_length w load)

pub elements_length : (w : Width) (loads : List ℕ) (sizes : List (ℕ × ℕ)) → length loads ≡ length sizes → length (elements_text w loads sizes) ≡ (byte_len w + 8) * length loads
unfolding elements_text
elements_length w [] sizes paired = sym (mul-zero (byte_len w + 8))
elements_length w (load ∷ loads) [] paired = absurd (omega arith)
elements_length w (load ∷ loads) (size ∷ sizes) paired =
    length-append (element_text w load size) (elements_text w loads sizes)
    ∙ omega (arith, element_length w load size, elements_length w loads sizes (omega arith), mul-suc (byte_len w + 8) (length loads))

pub elements_length_word : (loads : List ℕ) (sizes : List (ℕ × ℕ)) → length loads ≡ length sizes → length (elements_text w32 loads sizes) ≡ 12 * length loads
elements_length_word loads sizes paired = elements_length w32 loads sizes paired

pub elements_length_long : (loads : List ℕ) (sizes : List (ℕ × ℕ)) → length loads ≡ length sizes → length (elements_text w64 loads sizes) ≡ 16 * length loads
elements_length_long loads sizes paired = elements_length w64 loads sizes paired

-- pieces of the same length
pieces_length : {X : Type 0} (f : X → List ℕ) (n : ℕ) → ((x : X) → length (f x) ≡ n) → (xs : List X) → length (flat_map f xs) ≡ n * length xs
pieces_length f n each [] = sym (mul-zero n)
pieces_length f n each (x ∷ xs) =
    length-append (f x) (flat_map f xs)
    ∙ omega (arith, each x, pieces_length f n each xs, mul-suc n (length xs))

pub words_length : (numbers : List ℕ) → length (flat_map word numbers) ≡ 4 * length numbers
words_length numbers = pieces_length word 4 (λ n. refl) numbers

pub prices_length : (prices : List ℤ) → length (flat_map price prices) ≡ 8 * length prices
prices_length prices = pieces_length price 8 (λ z. refl) prices

pub moves_length : (moves : List (ℕ × ℕ × ℕ)) → length (flat_map move_text moves) ≡ 12 * length moves
moves_length moves = pieces_length move_text 12 (λ move. refl) moves

-- the bytes of the stops of a fence, which are none for a floor that is 0
abbrev pub stops_bytes : {A : Type 0} → Floor A → ℕ → ℕ
stops_bytes Zero target = 0
stops_bytes (Fence stops) target = 4 * (target + 1)

pub floor_length : {A : Type 0} (floor : Floor A) (target : ℕ) → MatchFloor floor (Unit {0}) (λ stops. length stops ≡ target + 1)
    → length (floor_text floor) ≡ 4 + stops_bytes floor target
floor_length Zero target is = refl
floor_length (Fence stops) target is = length-append (word 1) (flat_map word stops) ∙ omega (arith, words_length stops)

-- nine parts, and then more
pub nine_grouped : (a b c d e f g h i more : List ℕ) → (a ++ (b ++ (c ++ (d ++ (e ++ (f ++ (g ++ (h ++ i)))))))) ++ more ≡ a
    ++ (b ++ (c ++ (d ++ (e ++ (f ++ (g ++ (h ++ (i ++ more))))))))
nine_grouped a b c d e f g h i more = simp append_assoc

nine_lengths : (a b c d e f g h i : List ℕ) → length (a ++ (b ++ (c ++ (d ++ (e ++ (f ++ (g ++ (h ++ i)))))))) ≡ length
    a + (length b + (length c + (length d + (length e + (length f + (length g + (length h + length i)))))))
nine_lengths a b c d e f g h i = simp length-append

-- a decision up to its moves
pub plan_length : {A : Type 0} (elements : ℕ) (r : Recorded A) → IsRecorded elements r → length (plan_text r) ≡ 32 + 24 * r.target + stops_bytes r.decision.division.floor r.target
unfolding plan_text
plan_length elements r is =
    let division = r.decision.division in
    let prices = r.decision.prices in
    nine_lengths (word r.target) (long division.bottleneck) (flat_map word division.cuts) (floor_text division.floor)
    (flat_map word r.decision.naming) (flat_map price prices.u) (flat_map price prices.v) (long r.decision.moved) (word (length r.decision.moves))
    ∙ omega (
      arith,
      words_length division.cuts,
      floor_length division.floor r.target is.stops,
      words_length r.decision.naming,
      prices_length prices.u,
      prices_length prices.v,
    )

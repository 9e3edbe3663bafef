-- Bytes that are read as numbers are the text of these numbers.
use Rattle.std.proofs.Common.{◌≡◌, ℕ, List, ◌++◌, length, drop, ap, sym, ◌∙◌, arith}
use Rattle.std.specs.Int.{w32, w64, from_be_bytes}
use Rattle.std.proofs.lemmas.List.{drop-drop, length-drop}
use Rattle.dump_format.specs.Text.{long, word}
use Rattle.dump_format.proofs.Bytes.{AreBytes, bytes_behind, last_word, long_first, word_first}

-- two numbers of four bytes
two_words : (bytes : List ℕ) (m n : ℕ) → length bytes ≡ 8 → AreBytes bytes → m ≡ from_be_bytes w32 bytes → n ≡ from_be_bytes w32 (drop 4 bytes) → bytes ≡ word m ++ word n
two_words bytes m n len are first second =
    word_first bytes m are (omega arith) first
    ∙ ap (λ rest. word m ++ rest) (last_word (drop 4 bytes) n (omega (arith, length-drop 4 bytes)) (bytes_behind 4 bytes are) second)

-- three numbers, of which the first has four bytes, or eight
pub three_words : (bytes : List ℕ) (l m n : ℕ) → length bytes ≡ 12 → AreBytes bytes → l ≡ from_be_bytes w32 bytes
    → m ≡ from_be_bytes w32 (drop 4 bytes) → n ≡ from_be_bytes w32 (drop 8 bytes)
    → bytes ≡ word l ++ (word m ++ word n)
three_words bytes l m n len are first second third =
    word_first bytes l are (omega arith) first
    ∙ ap (λ rest. word l ++ rest) (two_words (drop 4 bytes) m n (omega (arith, length-drop 4 bytes)) (bytes_behind 4 bytes are) second
    (third ∙ ap (from_be_bytes w32) (sym (drop-drop 4 4 bytes))))

pub long_and_words : (bytes : List ℕ) (l m n : ℕ) → length bytes ≡ 16 → AreBytes bytes → l ≡ from_be_bytes w64 bytes
    → m ≡ from_be_bytes w32 (drop 8 bytes) → n ≡ from_be_bytes w32 (drop 12 bytes)
    → bytes ≡ long l ++ (word m ++ word n)
long_and_words bytes l m n len are first second third =
    long_first bytes l are (omega arith) first
    ∙ ap (λ rest. long l ++ rest) (two_words (drop 8 bytes) m n (omega (arith, length-drop 8 bytes)) (bytes_behind 8 bytes are) second
    (third ∙ ap (from_be_bytes w32) (sym (drop-drop 4 8 bytes))))

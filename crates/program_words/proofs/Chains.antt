-- A program whose arguments are declared one after the other, and what clap finds for them.
use Rattle.std.proofs.Common.{◌≡◌, ◌∙◌, ◌<◌, ◌↔◌, ℕ, zero, suc, ap, subst, refl, sym, arith, true, false, Bool, cond, List, [], ◌∷◌, Option, Result, length, slice_index_or}
use Rattle.std.proofs.lemmas.Slice.Eq.{bytes_eq-Decides}
use Rattle.std.specs.Str.{bytes_eq}
use Rattle.clap.specs.Built.{AddsArg, FitsChain, HasDistinctIds}
use Rattle.clap.specs.Words.{App, FailsBy, HasMatchesOf, Rule, Text, app_of, fault_of, first_of, first_value, found_of, is_simple, is_simple_and_free, matches_of, one_of, one_text, rows_of, rule_of, with_rule}
use Rattle.clap.specs.declared.builder.arg.Arg.{Arg}
use Rattle.clap.specs.declared.builder.command.Command.{Command}
use Rattle.clap.specs.declared.error.Error.{Error}
use Rattle.clap.specs.declared.parser.matches.ArgMatches.{ArgMatches}
use Rattle.clap.proofs.WalkLemmas.{first_value-rows, one_text-rows}

-- a program with one more argument
pub with_argument : (old new : Command) (arg : Arg) (app : App) (rule : Rule) → app_of old ≡ app → AddsArg old arg new → FitsChain arg
    → rule_of arg ≡ rule → app_of new ≡ with_rule app rule
with_argument old new arg app rule is added fits ruled = added.shape fits.1 ∙ ap (with_rule (app_of old)) ruled ∙ ap (λ a. with_rule a rule) is

-- clap refuses the arguments for the same reason as the program
pub refused_by : {T : Type 0} (program app : App) (words : List Text) (r : Result T Error) → is_simple_and_free program ≡ true → app ≡ program
    → (is_simple_and_free app ≡ true → FailsBy (fault_of app words) r) → FailsBy (fault_of program words) r
refused_by program app words r free is fails = subst (λ a. FailsBy (fault_of a words) r) is (fails (ap is_simple_and_free is ∙ free))

-- what was found is what the program reads from the arguments
pub found_by : (program app : App) (words : List Text) (m : ArgMatches) → is_simple program ≡ true → app ≡ program → HasMatchesOf app words m
    → rows_of (found_of m) ≡ matches_of program words
found_by program app words m simple is matches = (matches (ap is_simple is ∙ simple)).0 ∙ ap (λ a. matches_of a words) is

-- and so the first value of an argument, and its only value
pub first_word : (program : App) (words : List Text) (m : ArgMatches) (name : Text) → rows_of (found_of m) ≡ matches_of program words
    → first_value (found_of m) name ≡ first_of name (matches_of program words)
first_word program words m name rows = first_value-rows (found_of m) name ∙ ap (first_of name) rows

pub one_word : (program : App) (words : List Text) (m : ArgMatches) (name : Text) → rows_of (found_of m) ≡ matches_of program words
    → one_text (found_of m) name ≡ one_of name (matches_of program words)
one_word program words m name rows = one_text-rows (found_of m) name ∙ ap (one_of name) rows

-- the text is one of these
abbrev pub is_among : Text → List Text → Bool
is_among id [] = false
is_among id (other ∷ others) = cond (bytes_eq id other) true (is_among id others)

-- the texts are all different
abbrev pub are_distinct : List Text → Bool
are_distinct [] = true
are_distinct (id ∷ ids) = cond (is_among id ids) false (are_distinct ids)

-- the ids of a chain of arguments
abbrev pub ids_of : List Arg → List Text
ids_of [] = []
ids_of (arg ∷ chain) = arg.id.now ∷ ids_of chain

-- a text that equals the id of an argument is among the ids
among_at : (id : Text) (chain : List Arg) (k : ℕ) (d : Arg) → k < length chain → bytes_eq id (slice_index_or chain k d).id.now ≡ true → is_among id (ids_of chain) ≡ true
among_at id [] k d below same = absurd (omega arith)
among_at id (arg ∷ chain) zero d below same = ap (λ b. cond b true (is_among id (ids_of chain))) same
among_at id (arg ∷ chain) (suc k) d below same =
    ap (cond (bytes_eq id arg.id.now) true) (among_at id chain k d (omega arith) same) ∙ either (bytes_eq id arg.id.now)
  where
    either : (b : Bool) → cond b true true ≡ true
    either true = refl
    either false = refl

-- arguments with distinct ids
pub distinct_ids : (chain : List Arg) → are_distinct (ids_of chain) ≡ true → HasDistinctIds chain
distinct_ids [] distinct j k d e below_j below_k same = absurd (omega arith)
distinct_ids (arg ∷ chain) distinct zero zero d e below_j below_k same = refl
distinct_ids (arg ∷ chain) distinct zero (suc k) d e below_j below_k same =
    let among : is_among arg.id.now (ids_of chain) ≡ true = among_at arg.id.now chain k d (omega arith) same in
    let bad : false ≡ true = sym (ap (λ b. cond b false (are_distinct (ids_of chain))) among) ∙ distinct in
    cc
distinct_ids (arg ∷ chain) distinct (suc j) zero d e below_j below_k same =
    let equal : arg.id.now ≡ (slice_index_or chain j e).id.now = sym ((bytes_eq-Decides _ _).0 same) in
    let among : is_among arg.id.now (ids_of chain) ≡ true = among_at arg.id.now chain j e (omega arith) ((bytes_eq-Decides _ _).1 equal) in
    let bad : false ≡ true = sym (ap (λ b. cond b false (are_distinct (ids_of chain))) among) ∙ distinct in
    cc
distinct_ids (arg ∷ chain) distinct (suc j) (suc k) d e below_j below_k same =
    ap suc (distinct_ids chain (rest (is_among arg.id.now (ids_of chain)) (are_distinct (ids_of chain)) distinct) j k d e (omega arith) (omega arith) same)
  where
    rest : (b c : Bool) → cond b false c ≡ true → c ≡ true
    rest true c bad = cc
    rest false c right = right

-- what is asked for by the value that was found is asked for by the value that is read
pub by_word : (P : Type 0) (Q : Option Text → Type 0) (found read : Option Text) → found ≡ read → P ↔ Q found → P ↔ Q read
by_word P Q found read same both = subst (λ word. P ↔ Q word) same both

-- What a writer took where one text is written after another.
use Rattle.std.proofs.Common.{◌≡◌, ℕ, ◌+◌, ◌-◌, ◌≤◌, List, ◌++◌, Option, Ok, Err, sym, ap, ◌∙◌, subst, append_assoc, arith}
use Rattle.std.specs.Prelude.{⊤, Result}
use Rattle.std.specs.Io.KnownBytes.{Appends}
use Rattle.std.proofs.KnownBytes.{Appends-nil, Appends-trans}
use Rattle.dump_format.specs.declared.error.DumpError.{DumpError}
use Rattle.dump_writing.specs.Joined.{joined}
use Rattle.dump_writing.specs.Writing.{Puts}
use Rattle.dump_writing.proofs.Joining.{joined_split}

-- a text whose writing failed, and more that was to follow
pub stopped : (old new : Option (List ℕ)) (text more : List ℕ) (e : DumpError) → Puts old new text (Err e) → Puts old new (text ++ more) (Err e)
stopped old new text more e (is_write, gone, rest, parts, out) =
    (is_write, gone, rest ++ more, ap (λ t. t ++ more) parts ∙ append_assoc gone rest more, out)

-- a text that was written, and then another
pub after : (old now new : Option (List ℕ)) (text more : List ℕ) (result : Result ⊤ DumpError) → Appends old now text
    → Puts now new more result → Puts old new (text ++ more) result
after old now new text more (Ok done) first second = Appends-trans old now new text more first second
after old now new text more (Err e) first (is_write, gone, rest, parts, out) =
    (is_write, text ++ gone, rest, ap (λ t. text ++ t) parts ∙ sym (append_assoc text gone rest), Appends-trans old now new text gone first out)

-- the items up to one, and those up to a later one
pub joined_up : (item : ℕ → List ℕ) (first end : ℕ) → first ≤ end → joined item end ≡ joined item first ++ joined (λ k. item (first + k)) (end - first)
joined_up item first end ordered = let there : first + (end - first) ≡ end = omega arith in ap (joined item) (sym there) ∙ joined_split item first (end - first)

-- no item was written yet
pub none_gone : (item : ℕ → List ℕ) (old : Option (List ℕ)) → Appends old old (joined item 0)
unfolding joined
none_gone item old = Appends-nil old

-- a block of items was written
pub block_gone : (item : ℕ → List ℕ) (first end : ℕ) (block : List ℕ) (old now new : Option (List ℕ)) → first ≤ end
    → block ≡ joined (λ k. item (first + k)) (end - first) → Appends old now (joined item first) → Appends now new block
    → Appends old new (joined item end)
block_gone item first end block old now new ordered filled gone out =
    subst (Appends old new) (ap (λ t. joined item first ++ t) filled ∙ sym (joined_up item first end ordered)) (Appends-trans old now new (joined item first) block gone out)

-- writing failed in a block of items
pub block_stopped : (item : ℕ → List ℕ) (first end count : ℕ) (block text : List ℕ) (old now new : Option (List ℕ)) (e : DumpError)
    → first ≤ end → end ≤ count → joined item count ≡ text → block ≡ joined (λ k. item (first + k)) (end - first)
    → Appends old now (joined item first) → Puts now new block (Err e) → Puts old new text (Err e)
block_stopped item first end count block text old now new e ordered inside whole filled gone out =
    let more : List ℕ = joined (λ k. item (end + k)) (count - end) in
    let parts : (joined item first ++ block) ++ more ≡ text = ap (λ t. (joined item first ++ t) ++ more) filled
    ∙ ap (λ t. t ++ more) (sym (joined_up item first end ordered)) ∙ sym (joined_up item end count inside) ∙ whole in
    subst (λ t. Puts old new t (Err e)) parts (stopped old new (joined item first ++ block) more e (after old now new (joined item first) block (Err e) gone out))

-- writing failed in the first of two texts
pub fails : (old new : Option (List ℕ)) (first more text : List ℕ) (e : DumpError) (result : Result ⊤ DumpError) → first ++ more ≡ text
    → Puts old new first (Err e) → result ≡ Err e → Puts old new text result
fails old new first more text e result parts failed is =
    subst (Puts old new text) (sym is) (subst (λ t. Puts old new t (Err e)) parts (stopped old new first more e failed))

-- the first of two texts was written
pub goes_on : (old now new : Option (List ℕ)) (first more text : List ℕ) (result : Result ⊤ DumpError) → first ++ more ≡ text
    → Appends old now first → Puts now new more result → Puts old new text result
goes_on old now new first more text result parts out then = subst (λ t. Puts old new t result) parts (after old now new first more result out then)

-- a text that equals the one that was written
pub spelled : (old new : Option (List ℕ)) (text other : List ℕ) (result : Result ⊤ DumpError) → text ≡ other → Puts old new text result → Puts old new other result
spelled old new text other result same puts = subst (λ t. Puts old new t result) same puts

-- The most bytes on any PE, where one of the PEs gets more.
use Rattle.std.proofs.Common.{◌≡◌, ◌≢◌, ℕ, ◌+◌, ◌<◌, ◌≤◌, max, inl, inr, List, slice_index, arith, subst, sym, ◌∙◌}
use Rattle.std.proofs.lemmas.Bool.{cases_eq, cases_lt}
use Rattle.std.proofs.lemmas.Bool.Decides.{nat_tests}
use Rattle.std.proofs.Math.Nat.{le-max_left, le-max_right, max-le}
use Rattle.chare_index.specs.declared.limits.TheConstants.Limits.{PES}
use Rattle.chain_refinement.specs.Refinement.{held_bytes}
use Rattle.any_order.specs.Internal.{held_between, IsMost}
use Rattle.any_order.specs.declared.most.Most.{Most}

-- without elements
pub nothing_held : (sizes : List (ℕ × ℕ)) (y own : ℕ) → own < PES → ((pe : ℕ) → held_between sizes y y pe ≡ 0)
    → IsMost (held_between sizes y y) own (record { pe = PES; bytes = 0; others = 0 })
nothing_held sizes y own low none =
    record {
      apart = λ same. absurd (omega (arith, same, low));
      reached = omega arith;
      others_reached = (PES + 1, λ same. absurd (omega (arith, same, low)), λ same. absurd (omega (arith, same)), omega arith);
      above = λ pe apart. omega (arith, none pe);
      others_above = λ pe apart away. omega (arith, none pe);
    }

pub more_on_most : (held next : ℕ → ℕ) (own pe bytes : ℕ) (most : Most) → IsMost held own most → pe ≢ own → next pe ≡ bytes
    → ((other : ℕ) → other ≢ pe → next other ≡ held other) → held pe ≤ bytes → pe ≡ most.pe
    → IsMost next own (record { pe = pe; bytes = bytes; others = most.others })
more_on_most held next own pe bytes most before foreign here same more top =
    let most_more : most.bytes ≤ bytes = omega (arith, before.reached, subst (λ p. held p ≤ bytes) top more) in
    let (other, away, below, there) = before.others_reached in
    let apart : other ≢ pe = λ e. below (e ∙ top) in
    record {
      apart = foreign;
      reached = omega (arith, here);
      others_reached = (other, away, apart, omega (arith, same other apart, there));
      above = λ other apart. elim (cases_eq other pe) [
        | inl one ↦ subst (λ p. next p ≤ bytes) (sym one) (omega (arith, here))
        | inr away ↦ omega (arith, most_more, same other away, before.above other apart)
      ];
      others_above = λ other apart away. omega (arith, same other away, before.others_above other apart (λ e. away (e ∙ sym top)));
    }

pub more_than_most : (held next : ℕ → ℕ) (own pe bytes : ℕ) (most : Most) → IsMost held own most → pe ≢ own → next pe ≡ bytes
    → ((other : ℕ) → other ≢ pe → next other ≡ held other) → held pe ≤ bytes → pe ≢ most.pe → most.bytes < bytes
    → IsMost next own (record { pe = pe; bytes = bytes; others = most.bytes })
more_than_most held next own pe bytes most before foreign here same more apart_top higher =
    let away : most.pe ≢ pe = λ e. apart_top (sym e) in
    record {
      apart = foreign;
      reached = omega (arith, here);
      others_reached = (most.pe, before.apart, away, omega (arith, same most.pe away, before.reached));
      above = λ other apart. elim (cases_eq other pe) [
        | inl one ↦ subst (λ p. next p ≤ bytes) (sym one) (omega (arith, here))
        | inr away ↦ omega (arith, higher, same other away, before.above other apart)
      ];
      others_above = λ other apart away. omega (arith, same other away, before.above other apart);
    }

-- one of the others reaches what they hold at most
others_there : (held next : ℕ → ℕ) (own pe bytes : ℕ) (most : Most) → IsMost held own most → pe ≢ own → next pe ≡ bytes
    → ((other : ℕ) → other ≢ pe → next other ≡ held other) → held pe ≤ bytes → pe ≢ most.pe
    → (other : ℕ) × (other ≢ own) × (other ≢ most.pe) × (max most.others bytes ≤ next other)
others_there held next own pe bytes most before foreign here same more apart_top =
    let (other, away, below, there) = before.others_reached in
    elim (cases_lt most.others bytes) [
      | inl higher ↦
          let top : max most.others bytes ≤ bytes = max-le (omega (arith, higher)) (omega arith) in
          (pe, foreign, apart_top, omega (arith, here, top))
      | inr lower ↦
          let top : max most.others bytes ≤ most.others = max-le (omega arith) (omega (arith, lower)) in
          elim (cases_eq other pe) [
            | inl one ↦ (pe, foreign, apart_top, omega (arith, here, top, subst (λ p. most.others ≤ held p) one there, more))
            | inr apart ↦ (other, away, below, omega (arith, same other apart, there, top))
          ]
    ]

pub more_on_other : (held next : ℕ → ℕ) (own pe bytes : ℕ) (most : Most) → IsMost held own most → pe ≢ own → next pe ≡ bytes
    → ((other : ℕ) → other ≢ pe → next other ≡ held other) → held pe ≤ bytes → pe ≢ most.pe → bytes ≤ most.bytes
    → IsMost next own (record { pe = most.pe; bytes = most.bytes; others = max most.others bytes })
more_on_other held next own pe bytes most before foreign here same more apart_top low =
    record {
      apart = before.apart;
      reached = omega (arith, same most.pe (λ e. apart_top (sym e)), before.reached);
      others_reached = others_there held next own pe bytes most before foreign here same more apart_top;
      above = λ other apart. elim (cases_eq other pe) [
        | inl one ↦ subst (λ p. next p ≤ most.bytes) (sym one) (omega (arith, here))
        | inr away ↦ omega (arith, same other away, before.above other apart)
      ];
      others_above = λ other apart away. elim (cases_eq other pe) [
        | inl one ↦ subst (λ p. next p ≤ max most.others bytes) (sym one) (omega (arith, here, le-max_right most.others bytes))
        | inr gone ↦ omega (arith, same other gone, before.others_above other apart away, le-max_left most.others bytes)
      ];
    }

held_here : (element : ℕ × ℕ) → held_bytes element (element.1) ≡ element.0
held_here element = grind (arith, nat_tests)

held_elsewhere : (element : ℕ × ℕ) (pe : ℕ) → pe ≢ element.1 → held_bytes element pe ≡ 0
held_elsewhere element pe apart = grind (arith, nat_tests)

-- an element joins that is on the PE that is left out
pub joins_own : (held next : ℕ → ℕ) (own : ℕ) (element : ℕ × ℕ) (most : Most) → IsMost held own most
    → ((pe : ℕ) → next pe ≡ held pe + held_bytes element pe) → element.1 ≡ own → IsMost next own most
joins_own held next own element most before more here =
    let (other, away, below, there) = before.others_reached in
    record {
      apart = before.apart;
      reached = omega (arith, before.reached, more most.pe);
      others_reached = (other, away, below, omega (arith, there, more other));
      above = λ pe apart. omega (arith, before.above pe apart, more pe, held_elsewhere element pe (λ e. apart (e ∙ here)));
      others_above = λ pe apart away. omega (arith, before.others_above pe apart away, more pe, held_elsewhere element pe (λ e. apart (e ∙ here)));
    }

-- an element joins that is on another PE
pub joins_other : (held next : ℕ → ℕ) (own : ℕ) (element : ℕ × ℕ) (most result : Most) (place bytes : ℕ) (kept : List ℕ)
    → ((held next : ℕ → ℕ) (own : ℕ) → IsMost held own most → place ≢ own → next place ≡ slice_index kept place + bytes
    → ((other : ℕ) → other ≢ place → next other ≡ held other) → held place ≤ slice_index kept place + bytes → IsMost next own result)
    → place ≢ own → place ≡ element.1 → bytes ≡ element.0 → IsMost held own most → held element.1 ≡ slice_index kept element.1
    → ((pe : ℕ) → next pe ≡ held pe + held_bytes element pe) → IsMost next own result
joins_other held next own element most result place bytes kept raises foreign at size before here more =
    let there : held place ≡ slice_index kept place = subst (λ p. held p ≡ slice_index kept p) (sym at) here in
    let joined : next place ≡ held place + bytes = subst (λ p. next p ≡ held p + bytes) (sym at) (omega (arith, more element.1, held_here element, size)) in
    raises held next own before foreign
    (omega (arith, there, joined))
    (λ other apart. omega (arith, more other, held_elsewhere element other (λ e. apart (e ∙ sym at))))
    (omega (arith, there))

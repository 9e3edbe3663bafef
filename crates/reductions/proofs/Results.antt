-- The results of every exchange.
use Rattle.std.proofs.Common.{◌≡◌, ℕ, ◌<◌, ◌≤◌, List, [], ◌++◌, length, arith, Bool, false, Some}
use Rattle.std.specs.Prelude.{slice_get}
use Rattle.std.proofs.lemmas.Option.{slice_get_within}
use Rattle.chare_index.specs.declared.limits.TheConstants.Limits.{ELEMENTS}
use Rattle.reductions.specs.declared.tree_message.TreeMessage.TheVariants.{Part}
use Rattle.reductions.specs.Exchanges.{AreResults, Exchange, ExchangeLaw, IsExchange, gives, keeps}
use Rattle.reductions.specs.Exchanges.IsExchange.{opens, contributes, part_comes, result_comes, is_lost}
use Rattle.reductions.proofs.Arrivals.{heard_fair, kept_fair}
use Rattle.reductions.proofs.Fairness.{IsFair, given_fair, lost_fair, opening_fair, others}
use Rattle.reductions.proofs.GoingOn.{on_fair}

module _ {V : Type 0} (combined : V → V → V) (n : ℕ) (few : n ≤ ELEMENTS) where
  abbrev IsFairSomehow : Exchange V → Type 0
  IsFairSomehow x = (outs : List V) × (gone : ℕ → Bool) × IsFair combined n outs gone x

  fair : (x : Exchange V) → IsExchange combined n x → IsFairSomehow x
  fair x opens = ([], (λ i. false), opening_fair combined n)
  fair x (contributes y i value before within idle) =
      let f = fair y before in
      on_fair combined n few f.0 f.1 (gives y i value) (given_fair combined n f.0 f.1 y f.2 i value within idle) i within
  fair x (part_comes y i j value front back before is room) =
      let f = fair y before in
      let within : i < n = (others combined n f.0 f.1 y f.2 (i, Part j value) front back is).0.0 in
      on_fair combined n few f.0 f.1 (keeps y i (j, value) (front ++ back)) (kept_fair combined n f.0 f.1 y f.2 i j value front back is) i within
  fair x (result_comes y i value front back before is) =
      let f = fair y before in
      (f.0, f.1, heard_fair combined n f.0 f.1 y f.2 i value front back is)
  fair x (is_lost y way front back before is) =
      let f = fair y before in
      (f.0, f.1, lost_fair combined n f.0 f.1 y f.2 way front back is)

  fair_results : (x : Exchange V) (outs : List V) (gone : ℕ → Bool) → IsFair combined n outs gone x → AreResults combined n x
  fair_results x outs gone f i k value within got =
      let out : slice_get outs k ≡ Some value = (f.member i within).heard k value got in
      let done : k < length outs = slice_get_within outs k value out in (
        (λ j below. let least = (f.member j below).least in omega (arith, least, done)),
        (λ contribution all. f.right k value out contribution (λ j w below e. let same = all j below in cc)),
      )

pub exchange_results : {V : Type 0} (combined : V → V → V) → ExchangeLaw combined
exchange_results combined n x some few is =
    let f = fair combined n few x is in
    fair_results combined n few x f.0 f.1 f.2

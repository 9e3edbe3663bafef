-- What is printed is a function of the bytes read, the number of PEs and the way in which it is decided.
use Rattle.std.proofs.Common.{◌≡◌, ℕ, List, [], ◌++◌, length, Option, Some, ap, sym, ◌∙◌, subst}
use Rattle.chain_partition.proofs.ChosenOnce.{only_from_chosen}
use Rattle.lb_certificates.specs.declared.division.Division.{Division}
use Rattle.lb_snapshot.specs.Measured.{Taken}
use Rattle.dump_format.specs.Dumps.{Dumped}
use Rattle.dump_format.proofs.OneText.{one_dump}
use Rattle.lb_refinement.specs.Refined.{AreSame, refined_least}
use Rattle.lb_refinement.proofs.InOrderCases.{one_in_order}
use Rattle.lb_refinement.proofs.OneRefined.{one_refined}
use Rattle.lb_strategy.specs.declared.decision.Decision.{Decision}
use Rattle.lb_strategy.proofs.OneDecisions.{IsSame, one_decision}
use Rattle.lb_replay.specs.Simulation.{blocks_of, HasOneText, IsDecided, IsInOrder, IsPlanned, IsReplay, IsWithin}
use Rattle.lb_replay.specs.Text.{head_line, bottleneck_line, floor_line, block_lines, moved_line, decision_text, text_within}
use Rattle.lb_replay.specs.declared.way.Way.{Way}
use Rattle.lb_replay.specs.declared.way.Way.TheVariants.{Least, Within, InOrder, InAnyOrder}
use Rattle.lb_replay.proofs.RefinedTexts.{chosen_from_ordered, chosen_from_refined}

-- decisions that agree in what is printed have one text
same_text : {A : Type 0} (s : Taken) (pes : ℕ) (d e : Decision A) → IsSame d e → decision_text s pes d ≡ decision_text s pes e
same_text s pes d e same =
    ap (λ n. head_line s.step pes (length s.loads) ++ bottleneck_line n ++ floor_line d.division.floor
    ++ block_lines s.loads d.division.cuts d.naming pes ++ moved_line d.moved) same.bottleneck
    ∙ ap (λ f. head_line s.step pes (length s.loads) ++ bottleneck_line e.division.bottleneck ++ floor_line f
    ++ block_lines s.loads d.division.cuts d.naming pes ++ moved_line d.moved) same.floor
    ∙ ap (λ xs. head_line s.step pes (length s.loads) ++ bottleneck_line e.division.bottleneck ++ floor_line e.division.floor
    ++ block_lines s.loads xs d.naming pes ++ moved_line d.moved) same.cuts
    ∙ ap (λ xs. head_line s.step pes (length s.loads) ++ bottleneck_line e.division.bottleneck ++ floor_line e.division.floor
    ++ block_lines s.loads e.division.cuts xs pes ++ moved_line d.moved) same.naming
    ∙ ap (λ n. head_line s.step pes (length s.loads) ++ bottleneck_line e.division.bottleneck ++ floor_line e.division.floor
    ++ block_lines s.loads e.division.cuts e.naming pes ++ moved_line n) same.moved

one_planned : (A : Type 0) (s : Taken) (blocks : ℕ) (text other : List ℕ) → IsPlanned A s blocks text → IsPlanned A s blocks other → text ≡ other
one_planned A s blocks text other this that =
    let same : IsSame this.decision that.decision = one_decision s.loads s.sizes blocks this.decision that.decision this.chosen that.chosen
    this.least that.least this.right that.right in
    this.printed ∙ same_text s blocks this.decision that.decision same ∙ sym that.printed

module _ {A : Type 0} (s : Taken) (pes tolerance : ℕ) where
  -- decisions within a tolerance that agree in what is printed have one text
  same_within : (least least' : Division A) (cuts cuts' names names' : List ℕ) (moved moved' : ℕ) → least ≡ least' → cuts ≡ cuts' → names ≡ names'
      → moved ≡ moved' → text_within s pes tolerance [] least cuts names moved ≡ text_within s pes tolerance [] least' cuts' names' moved'
  same_within least least' cuts cuts' names names' moved moved' divided cut named moves =
      ap (λ division. text_within s pes tolerance [] division cuts names moved) divided
      ∙ ap (λ cuts. text_within s pes tolerance [] least' cuts names moved) cut
      ∙ ap (λ names. text_within s pes tolerance [] least' cuts' names moved) named
      ∙ ap (λ moved. text_within s pes tolerance [] least' cuts' names' moved) moves

  one_within : (text other : List ℕ) → IsWithin A s pes tolerance text → IsWithin A s pes tolerance other → text ≡ other
  one_within text other this that =
      let chosen = chosen_from_refined s.loads s.sizes pes tolerance that.decision that.refined in
      let also = chosen_from_refined s.loads s.sizes pes tolerance this.decision this.refined in
      let least : refined_least this.decision ≡ refined_least that.decision = only_from_chosen s.loads pes (refined_least that.decision)
      chosen (refined_least this.decision) also in
      let same : AreSame this.decision that.decision = one_refined s.loads s.sizes pes tolerance this.decision that.decision this.refined that.refined in
      this.printed ∙ same_within _ _ _ _ _ _ _ _ least same.cuts same.names same.moved ∙ sym that.printed

  one_ordered : (text other : List ℕ) → IsInOrder A s pes tolerance text → IsInOrder A s pes tolerance other → text ≡ other
  one_ordered text other this that =
      let chosen = chosen_from_ordered s.loads s.sizes pes tolerance that.decision that.refined in
      let also = chosen_from_ordered s.loads s.sizes pes tolerance this.decision this.refined in
      let least : refined_least this.decision ≡ refined_least that.decision = only_from_chosen s.loads pes (refined_least that.decision)
      chosen (refined_least this.decision) also in
      let same : AreSame this.decision that.decision = one_in_order s.loads s.sizes pes tolerance this.decision that.decision this.refined that.refined in
      this.printed ∙ same_within _ _ _ _ _ _ _ _ least same.cuts same.names same.moved ∙ sym that.printed

one_decided : (A : Type 0) (s : Taken) (blocks : ℕ) (way : Way) (text other : List ℕ) → HasOneText way → IsDecided A s blocks way text
    → IsDecided A s blocks way other → text ≡ other
one_decided A s blocks Least text other one this that = one_planned A s blocks text other this that
one_decided A s blocks (Within tolerance) text other one this that =
    one_within {A = A} s blocks tolerance text other this that
one_decided A s blocks (InOrder tolerance) text other one this that =
    one_ordered {A = A} s blocks tolerance text other this that
one_decided A s blocks (InAnyOrder tolerance) text other one this that = absurd one

pub one_text : (A : Type 0) (procs : Option ℕ) (way : Way) (bytes text other : List ℕ) → HasOneText way → IsReplay A (Some bytes) procs way text
    → IsReplay A (Some bytes) procs way other → text ≡ other
one_text A procs way bytes text other one this that =
    let same : that.dump ≡ this.dump = one_dump that.dump this.dump bytes that.read this.read in
    one_decided A this.dump.snapshot (blocks_of procs this.dump.snapshot) way text other one this.decided
    (subst (λ (d : Dumped A). IsDecided A d.snapshot (blocks_of procs d.snapshot) way other) same that.decided)

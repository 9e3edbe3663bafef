use Rattle.std.proofs.Common.{◌<◌, length, sum, true, arith, ap, refl, subst}
use Rattle.lb_lists.specs.Runs.{AreSmall, IsAsked, Listed}
use Rattle.lb_lists.specs.declared.limits.TheConstants.RunLimits.{LOAD}
use Rattle.run_refusals.specs.Refusals.{AreCounted, PassesAt}
use Rattle.run_refusals.proofs.FirstReasons.{no_input, passes_limit, plannable, too_large}
use Rattle.run_refusals.proofs.reasons.run_refusal.Goals as goal

pub returns-in-Some-clause-exact : goal.returns-in-Some-clause-exact
returns-in-Some-clause-exact c = c.in-Some.ensures.exact c.args.within

pub count_refusal-requires : goal.count_refusal-requires
count_refusal-requires c = record { pes = c.in_default.ensures.exact true }

pub returns-in-Some-count_refusal-clause-exact : goal.returns-in-Some-count_refusal-clause-exact
returns-in-Some-count_refusal-clause-exact c = c.in-Some-count_refusal.ensures.exact c.args.within

pub list_refusal-requires : goal.list_refusal-requires
list_refusal-requires c = record { counted = c.in_default-count_refusal.ensures.exact true }

pub returns-in-Some-list_refusal-clause-exact : goal.returns-in-Some-list_refusal-clause-exact
returns-in-Some-list_refusal-clause-exact c = c.in-Some-list_refusal.ensures.exact c.args.within

pub first_load_past-requires : goal.first_load_past-requires
first_load_past-requires c =
    let counted : AreCounted c.args.run.now c.args.pes = c.in_default-count_refusal.ensures.exact true in
    record { few = omega (arith, counted.few, ap (λ (k : Listed). length k.loads) c.run.view_is) }

pub returns-in-Some-first_load_past-clause-exact :
    goal.returns-in-Some-first_load_past-clause-exact
returns-in-Some-first_load_past-clause-exact c =
    (c.in_default-list_refusal.ensures.exact true, subst (λ (k : Listed). PassesAt k.loads LOAD c.in-Some-first_load_past.entry) c.run.view_is c.in-Some-first_load_past.ensures)

pub returns-in-Some-first_load_past-clause-input :
    goal.returns-in-Some-first_load_past-clause-input
returns-in-Some-first_load_past-clause-input c =
    let asked : IsAsked c.args.run.now c.args.pes = c.in_default-list_refusal.ensures.exact true in
    (λ low is. absurd (omega (arith, low)), λ unasked. absurd (unasked asked))

pub returns-in-Some-first_load_past-clause-load : goal.returns-in-Some-first_load_past-clause-load
returns-in-Some-first_load_past-clause-load c =
    let asked : IsAsked c.args.run.now c.args.pes = c.in_default-list_refusal.ensures.exact true in
    let passes : PassesAt c.args.run.now.loads LOAD c.in-Some-first_load_past.entry = subst
    (λ (k : Listed). PassesAt k.loads LOAD c.in-Some-first_load_past.entry) c.run.view_is c.in-Some-first_load_past.ensures in
    let past : LOAD < sum c.args.run.now.loads = passes_limit c.args.run.now.loads LOAD c.in-Some-first_load_past.entry passes in
    (λ same. (asked, λ small. omega (arith, past, small)), λ both. refl)

pub returns-then-not-within-clause-exact : goal.returns-then-not-within-clause-exact
returns-then-not-within-clause-exact c =
    record {
      asked = c.in_default-list_refusal.ensures.exact true;
      small = subst (λ (k : Listed). AreSmall k.loads) c.run.view_is c.in_default-first_load_past.ensures;
      fits = λ is. absurd cc;
    }

pub tolerance_refusal-requires-clause-asked : goal.tolerance_refusal-requires-clause-asked
tolerance_refusal-requires-clause-asked c = c.in_default-list_refusal.ensures.exact true

pub returns-clause-exact : goal.returns-clause-exact
returns-clause-exact c =
    let asked : IsAsked c.args.run.now c.args.pes = c.in_default-list_refusal.ensures.exact true in
    let small = subst (λ (k : Listed). AreSmall k.loads) c.run.view_is c.in_default-first_load_past.ensures in
    plannable c.tolerance_refusal.result c.args.run.now c.args.pes c.args.within asked small (c.tolerance_refusal.ensures.exact c.args.within c.if-not-within.false)

pub returns-clause-input : goal.returns-clause-input
returns-clause-input c =
    no_input c.tolerance_refusal.result c.args.run.now c.args.pes (c.in_default-list_refusal.ensures.exact true) c.tolerance_refusal.ensures.number

pub returns-clause-too_large : goal.returns-clause-too_large
returns-clause-too_large c =
    let small = subst (λ (k : Listed). AreSmall k.loads) c.run.view_is c.in_default-first_load_past.ensures in
    too_large c.tolerance_refusal.result c.args.run.now c.args.pes (c.in_default-list_refusal.ensures.exact true) small
    c.tolerance_refusal.ensures.number c.tolerance_refusal.ensures.unfit

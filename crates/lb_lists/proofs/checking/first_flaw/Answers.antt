use Rattle.std.proofs.Common.{arith, ap, refl}
use Rattle.std.specs.List.{zip}
use Rattle.lb_lists.specs.Runs.{sizes_of}
use Rattle.lb_lists.proofs.FirstFlaws.{in_division, in_naming}
use Rattle.lb_lists.proofs.checking.first_flaw.Goals as goal

pub returns-in-Err : goal.returns-in-Err
returns-in-Err g c =
    in_division c.args.run.now c.args.pes c.args.claim.now c.run.inside.loads.now (zip c.run.inside.bytes.now c.run.inside.places.now)
    c.args.parts.now.division c.args.parts.now.naming c.args.parts.now.prices.u c.args.parts.now.prices.v c.in-Err.flaw
    (record {
      loads_are = ap (λ r. r.loads) c.run.view_is;
      sizes_are = ap sizes_of c.run.view_is;
      division_is = c.requires.division;
      names_are = c.requires.naming;
      block_prices_are = c.requires.block_prices;
      pe_prices_are = c.requires.pe_prices;
    }) c.in-Err.ensures.first_flaw

pub returns-in-Err-check_naming_of : goal.returns-in-Err-check_naming_of
returns-in-Err-check_naming_of g c =
    in_naming c.args.run.now c.args.pes c.args.claim.now c.run.inside.loads.now (zip c.run.inside.bytes.now c.run.inside.places.now)
    c.args.parts.now.division c.args.parts.now.naming c.args.parts.now.prices.u c.args.parts.now.prices.v _
    c.in-Err-check_naming_of.flaw (record {
      loads_are = ap (λ r. r.loads) c.run.view_is;
      sizes_are = ap sizes_of c.run.view_is;
      division_is = c.requires.division;
      names_are = c.requires.naming;
      block_prices_are = c.requires.block_prices;
      pe_prices_are = c.requires.pe_prices;
    }) (c.in_default.ensures.exact.0 refl)
    (omega (arith, c.requires.costs, c.requires.run.few_pes, c.deref_mut.ensures.len))
    (omega (arith, c.requires.costs, c.requires.run.few_pes, c.deref_mut.ensures.len)) c.in-Err-check_naming_of.ensures.first_flaw

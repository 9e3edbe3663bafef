use Rattle.std.proofs.Common.{◌≡◌, inl, rules}
use Rattle.lb_certificates.specs.Flaws.{IsFirst}
use Rattle.lb_certificates.specs.Held.{HasHeldFlaw}
use Rattle.merged_chains.proofs.name_lists.check_names.Goals as goal

pub returns-clause-exact : goal.returns-clause-exact
returns-clause-exact g c =
    let names_are : c.new-naming.result ≡ c.args.names.now = search rules in
    let first : IsFirst (HasHeldFlaw c.args.pes c.args.held.now c.new-naming.result c.in_ok-prices.prices.u c.in_ok-prices.prices.v) c.in-Err.flaw = c.in-Err.ensures.first_flaw in
    inl (rw (names_are, c.in_ok-prices.ensures.blocks, c.in_ok-prices.ensures.pes) at first)

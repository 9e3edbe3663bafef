use Rattle.std.proofs.Common.{◌≡◌, IfErr, IfOk, IsOk, OnOk, ◌↔◌, ◌-◌, ◌^◌, length, min, subst}
use Rattle.std.specs.List.{zip}
use Rattle.lb_certificates.specs.Flaws.{IsFirst}
use Rattle.lb_certificates.specs.Internal.{Claimed}
use Rattle.lb_certificates.specs.Naming.{IsCheapest, IsNamedWithin, blocks_between, bytes_moved}
use Rattle.lb_certificates.proofs.FirstNamingFlaws.{FlawOf}
use Rattle.lb_certificates.proofs.naming_check.check_naming_of.Goals as goal

pub returns-clause-exact : goal.returns-clause-exact
returns-clause-exact g c =
    let passed : Claimed = record {
      sizes = zip c.args.bytes.now c.args.places.now;
      cuts = c.args.cuts.now;
      names = c.args.naming.now;
      u = c.args.prices.now.u;
      v = c.args.prices.now.v;
      most = min (length c.args.room.now) (2 ^ 32 - 1);
    } in
    let seen : Claimed = record {
      sizes = c.of_lists.result;
      cuts = c.as_slice.result.now;
      names = c.as_slice-2.result.now;
      u = c.as_slice-3.result.now;
      v = c.as_slice-4.result.now;
      most = c.min.result;
    } in
    let same : seen ≡ passed = cc in
    subst (λ (claim : Claimed). IsOk c.check_claim.result ↔ IsNamedWithin claim.most claim.sizes claim.cuts claim.names claim.u claim.v) same c.check_claim.ensures.exact

pub returns-clause-moved : goal.returns-clause-moved
returns-clause-moved g c =
    let passed : Claimed = record {
      sizes = zip c.args.bytes.now c.args.places.now;
      cuts = c.args.cuts.now;
      names = c.args.naming.now;
      u = c.args.prices.now.u;
      v = c.args.prices.now.v;
      most = min (length c.args.room.now) (2 ^ 32 - 1);
    } in
    let seen : Claimed = record {
      sizes = c.of_lists.result;
      cuts = c.as_slice.result.now;
      names = c.as_slice-2.result.now;
      u = c.as_slice-3.result.now;
      v = c.as_slice-4.result.now;
      most = c.min.result;
    } in
    let same : seen ≡ passed = cc in
    subst (λ (claim : Claimed). IfOk c.check_claim.result (λ moved. moved ≡ bytes_moved claim.sizes claim.cuts claim.names)) same c.check_claim.ensures.moved

pub returns-clause-cheapest : goal.returns-clause-cheapest
returns-clause-cheapest g c =
    let passed : Claimed = record {
      sizes = zip c.args.bytes.now c.args.places.now;
      cuts = c.args.cuts.now;
      names = c.args.naming.now;
      u = c.args.prices.now.u;
      v = c.args.prices.now.v;
      most = min (length c.args.room.now) (2 ^ 32 - 1);
    } in
    let seen : Claimed = record {
      sizes = c.of_lists.result;
      cuts = c.as_slice.result.now;
      names = c.as_slice-2.result.now;
      u = c.as_slice-3.result.now;
      v = c.as_slice-4.result.now;
      most = c.min.result;
    } in
    let same : seen ≡ passed = cc in
    subst (λ (claim : Claimed). OnOk c.check_claim.result (IsCheapest claim.sizes claim.cuts (blocks_between claim.cuts) claim.names)) same c.check_claim.ensures.cheapest

pub returns-clause-first_flaw : goal.returns-clause-first_flaw
returns-clause-first_flaw g c =
    let passed : Claimed = record {
      sizes = zip c.args.bytes.now c.args.places.now;
      cuts = c.args.cuts.now;
      names = c.args.naming.now;
      u = c.args.prices.now.u;
      v = c.args.prices.now.v;
      most = min (length c.args.room.now) (2 ^ 32 - 1);
    } in
    let seen : Claimed = record {
      sizes = c.of_lists.result;
      cuts = c.as_slice.result.now;
      names = c.as_slice-2.result.now;
      u = c.as_slice-3.result.now;
      v = c.as_slice-4.result.now;
      most = c.min.result;
    } in
    let same : seen ≡ passed = cc in
    subst (λ (claim : Claimed). IfErr c.check_claim.result (IsFirst (FlawOf claim))) same c.check_claim.ensures.first_flaw

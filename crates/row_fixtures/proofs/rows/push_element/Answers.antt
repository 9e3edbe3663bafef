use Rattle.std.proofs.Common.{◌≡◌, rules}
use Rattle.std.specs.Int.{to_be_bytes, w32}
use Rattle.row_fixtures.proofs.rows.push_element.Goals as goal

pub returns-clause-appended : goal.returns-clause-appended
returns-clause-appended c =
    let load : c.to_be_bytes.result ≡ to_be_bytes w32 c.args.element.0 = c.to_be_bytes.ensures in
    let size : c.to_be_bytes-2.result ≡ to_be_bytes w32 c.args.element.1 = c.to_be_bytes-2.ensures in
    let place : c.to_be_bytes-3.result ≡ to_be_bytes w32 c.args.element.2 = c.to_be_bytes-3.ensures in
    search rules

use Rattle.std.proofs.Common.{◌≡◌, ◌≤◌, sym}
use Rattle.bech32_hrp.specs.HrpBytes.{hrp_bytes}
use Rattle.bech32_segwit.specs.SegwitEncoding.{HasAddress, address_length}
use Rattle.bech32_segwit.proofs.SegwitEncoding.{address_fits}
use Rattle.bech32_segwit.proofs.encoded_in.Goals as goal
use Rattle.bech32_refusals.specs.SegwitRules.{max_address_length}

pub text_of_version_in-requires : goal.text_of_version_in-requires
text_of_version_in-requires g c =
    let hrp = hrp_bytes c.args.hrp in
    let program = c.args.program.now in
    let has : HasAddress hrp c.args.version program = rw c.as_bytes.ensures at c.in_ok-size.ensures.0 in
    let size : c.in_ok-size.size ≡ address_length hrp program = rw c.as_bytes.ensures at c.in_ok-size.ensures.1 in
    let fits : address_length hrp program ≤ max_address_length = address_fits hrp c.args.version program has in
    (size, rw size fits)

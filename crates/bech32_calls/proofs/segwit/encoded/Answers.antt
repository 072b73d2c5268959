use Rattle.std.proofs.Common.{subst}
use Rattle.bech32_gf.specs.declared.gf32.Fe32.{Fe32}
use Rattle.bech32_decode.specs.Segwit.{IsLowerAddress}
use Rattle.bech32_segwit.proofs.SegwitEncoding.{address-from_text}
use Rattle.bech32_calls.proofs.segwit.encoded.Goals as goal

pub returns-clause-value : goal.returns-clause-value
returns-clause-value c =
    let hrp = c.args.hrp.now in
    let version = c.in_ok-element.element in
    let program = c.args.program.now in
    let (small, version_is) = c.in_ok-element.ensures in
    let (written, is_text, put) = c.put_address.ensures in
    record {
      text = written;
      is_hrp = c.in_ok-test_part.ensures;
      small = small;
      is_address = subst (λ (v : Fe32). IsLowerAddress hrp v program written) version_is
          (address-from_text hrp version program written c.in-Ok.ensures.0 is_text);
      put = put;
    }

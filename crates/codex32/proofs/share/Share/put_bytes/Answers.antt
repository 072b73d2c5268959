use Rattle.std.proofs.Common.{ap, arith, length, ◌∙◌}
use Rattle.bech32_gf.specs.Alphabet.{is_data}
use Rattle.codex32.proofs.ShareParts.{length-payload, payload-data}
use Rattle.codex32.proofs.share.Share.put_bytes.Goals as goal

pub put_payload_bytes-requires-clause-data : goal.put_payload_bytes-requires-clause-data
put_payload_bytes-requires-clause-data c =
    let s = c.args.self.now in
    ap is_data (c.as_bytes.ensures.value ∙ s.payload_is) ∙ payload-data s.data_part.now s.of_alphabet

pub put_payload_bytes-requires-clause-few : goal.put_payload_bytes-requires-clause-few
put_payload_bytes-requires-clause-few c =
    let s = c.args.self.now in
    omega (arith, ap length (c.as_bytes.ensures.value ∙ s.payload_is), length-payload s.data_part.now s.within)

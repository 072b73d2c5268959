use Rattle.std.proofs.Common.{◌≡◌, true, false}
use Rattle.bech32_decode.proofs.Addresses.{refused-by_checksum}
use Rattle.bech32_decode.proofs.reading.Reading+Bech32m.accepted_version.Goals as goal

pub refusal_by-requires : goal.refusal_by-requires
refusal_by-requires c = λ is. let yes_ : c.is_accepted_by.result ≡ true = c.is_accepted_by.ensures.1 is in let no_ : c.is_accepted_by.result ≡ false = c.if-not-is_accepted_by.true in absurd cc

pub returns-then-not-is_accepted_by : goal.returns-then-not-is_accepted_by
returns-then-not-is_accepted_by c =
    let s = c.args.self.now in
    refused-by_checksum s.text.now s.hrp.now s.data_part.now c.in_ok-version.version _ c.in_ok-version.ensures _ s.is_reading.grammar c.refusal_by.ensures

pub returns : goal.returns
returns c = (c.in_ok-version.ensures, c.is_accepted_by.ensures.0 c.if-not-is_accepted_by.false)

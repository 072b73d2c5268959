use Rattle.std.proofs.Common.{◌∙◌, sym}
use Rattle.bech32_hrp.specs.HrpBytes.{hrp_bytes}
use Rattle.bech32_decode.proofs.Decoding.{valid-from_outcome}
use Rattle.bech32_decode.proofs.unchecked.UncheckedHrpstring.has_valid_checksum.Goals as goal

pub returns : goal.returns
returns g c =
    let u = c.args.self.now in
    let both = valid-from_outcome g.Ck.Checksum.code u.hrpstring_length (hrp_bytes u.hrp) u.data_part_ascii.now c.validate_checksum.result c.validate_checksum.ensures in
    (λ h. both.0 (sym c.is_ok.ensures.value ∙ h), λ v. c.is_ok.ensures.value ∙ both.1 v)

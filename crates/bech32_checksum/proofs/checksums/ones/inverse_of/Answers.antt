use Rattle.std.proofs.Common.{get_or, ap, ◌∙◌}
use Rattle.bech32_gf.specs.Fe32 as fe32
use Rattle.bech32_checksum.specs.declared.checksums.ones.TheConstants.{INVERSES}
use Rattle.bech32_checksum.proofs.OneError.{inverse_read}
use Rattle.bech32_checksum.proofs.checksums.ones.inverse_of.Goals as goal

pub returns : goal.returns
returns c =
    c.from_low_bits.ensures ∙ ap (λ v. fe32.element (get_or INVERSES v 0)) c.to_u8.ensures ∙ inverse_read c.args.a

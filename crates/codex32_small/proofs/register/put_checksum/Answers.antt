use Rattle.std.proofs.Common.{reverse}
use Rattle.bech32_checksum.specs.TextPolynomial.{text_polynomial}
use Rattle.bech32_gf.specs.Fe32.{elements_of}
use Rattle.codex32_steady.specs.texts.Parts.{ms}
use Rattle.codex32_small.proofs.Checksums.{checksum-from_remainder}
use Rattle.codex32_small.proofs.register.put_checksum.Goals as goal

pub returns : goal.returns
returns c =
    let xs = elements_of c.args.characters.now in (
      reverse c.take_target.new.rest,
      checksum-from_remainder c.args.kind xs c.take_target.new.rest (c.take_target.ensures (text_polynomial ms xs) c.put_remainder.ensures),
      c.put_reversed.ensures,
    )

use Rattle.std.proofs.Common.{◌≡◌, ◌∙◌, ◌-◌, ◌∷◌, reverse, sym, ap, arith}
use Rattle.bech32_gf.specs.declared.gf32.Fe32.{Fe32}
use Rattle.bech32_checksum.specs.Packed.{digit_of, digits}
use Rattle.bech32_encode.proofs.ChecksumEnds.{highest_first}
use Rattle.bech32_encode.proofs.checksummed.Checksummed.next_of_residue.Goals as goal

pub returns-clause-given : goal.returns-clause-given
returns-clause-given g c =
    let number = g.Ck.MidstateRepr.PackedFe32.number c.args.self.now.engine in
    let value : c.unpack.result ≡ (digit_of number (c.args.left - 1)).value = rw c.residue.ensures.value at c.unpack.ensures.value in
    highest_first c.args.left number c.unpack.result (omega arith) c.unpack.ensures.below value
    ∙ ap (λ (x : Fe32). x ∷ reverse (digits (c.args.left - 1) number)) (sym c.from_low_bits.ensures)

use Rattle.std.proofs.Common.{◌≡◌, ◌*◌, ◌∙◌, ap, bit_xor}
use Rattle.std.proofs.Math.Pow.{pow_pos}
use lib.Bits.{xor_self}
use Rattle.bech32_checksum.proofs.Residue.{zero_is_residue}
use Rattle.bech32_checksum.proofs.Engine.zero.Goals as goal

pub invariant_of-result : goal.invariant_of-result
invariant_of-result g c =
    let number = g.Ck.MidstateRepr.PackedFe32.number in
    let one = g.Ck.MidstateRepr.PackedFe32.ONE in
    let zero_there : number c.bitxor.result ≡ 0 =
    g.met.Ck.MidstateRepr.PackedFe32.bitxor_law c.ONE.result c.ONE-2.result c.bitxor.result c.bitxor.ensures
    ∙ (ap (λ x. bit_xor (number x) (number c.ONE-2.result)) c.ONE.ensures
    ∙ (ap (λ x. bit_xor (number one) (number x)) c.ONE-2.ensures ∙ xor_self (number one))) in
    rw zero_there (pow_pos (5 * g.Ck.Checksum.CHECKSUM_LENGTH))

pub returns : goal.returns
returns g c =
    let number = g.Ck.MidstateRepr.PackedFe32.number in
    let one = g.Ck.MidstateRepr.PackedFe32.ONE in
    zero_is_residue g.Ck.Checksum.code.generator (number c.bitxor.result)
    (g.met.Ck.MidstateRepr.PackedFe32.bitxor_law c.ONE.result c.ONE-2.result c.bitxor.result c.bitxor.ensures
    ∙ (ap (λ x. bit_xor (number x) (number c.ONE-2.result)) c.ONE.ensures
    ∙ (ap (λ x. bit_xor (number one) (number x)) c.ONE-2.ensures ∙ xor_self (number one))))

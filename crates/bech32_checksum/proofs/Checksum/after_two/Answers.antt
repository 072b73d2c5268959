use Rattle.std.proofs.Common.{◌≡◌, ◌/◌, ◌^◌, ◌∷◌, ◌∙◌, subst, arith}
use Rattle.bech32_gf.specs.Fe32 as fe32
use Rattle.bech32_gf.specs.Fe32.{path}
use Rattle.bech32_gf.specs.declared.gf32.Fe32.{Fe32}
use Rattle.bech32_checksum.specs.Code.{IsResidueOf}
use Rattle.bech32_checksum.proofs.Checksum.after_two.Goals as goal

pub returns-clause-after : goal.returns-clause-after
returns-clause-after g c p h =
    let number = g.Self.MidstateRepr.PackedFe32.number in
    let code = g.Self.Checksum.code in
    let two = c.args.two in
    let first : c.from_low_bits.result ≡ fe32.element (two / 2 ^ 5) =
    c.from_low_bits.ensures ∙ path _ (fe32.element (two / 2 ^ 5)) (omega arith) in
    let second : c.from_low_bits-2.result ≡ fe32.element (two / 2 ^ 0) =
    c.from_low_bits-2.ensures ∙ path _ (fe32.element (two / 2 ^ 0)) (omega arith) in
    let both = c.after_one.ensures.after (c.from_low_bits.result ∷ p) (c.after_one-next.ensures.after p h) in
    subst (λ (e : Fe32). IsResidueOf number code c.after_one.result (e ∷ fe32.element (two / 2 ^ 5) ∷ p)) second
    (subst (λ (e : Fe32). IsResidueOf number code c.after_one.result (c.from_low_bits-2.result ∷ e ∷ p)) first both)

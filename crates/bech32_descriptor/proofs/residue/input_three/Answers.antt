use Rattle.std.proofs.Common.{◌≡◌, ◌∙◌, ◌+◌, ◌*◌, ◌/◌, ℕ, List, ◌∷◌, ap, subst}
use Rattle.bech32_gf.specs.Fe32.{element}
use Rattle.bech32_gf.specs.declared.gf32.Fe32.{Fe32 as Element}
use Rattle.bech32_checksum.specs.Code.{IsResidueOf}
use Rattle.bech32_descriptor.specs.Code.{descriptor}
use Rattle.bech32_descriptor.specs.Descriptor.{group, symbol}
use Rattle.bech32_descriptor.proofs.residue.input_three.Goals as goal

pub returns : goal.returns
returns c p h =
    let a = c.place-first.ensures.value in
    let b = c.place-second.ensures.value in
    let d = c.place-third.ensures.value in
    let e1 : c.from_low_bits.result ≡ symbol c.args.a = c.from_low_bits.ensures ∙ ap element a in
    let e2 : c.from_low_bits-2.result ≡ symbol c.args.b = c.from_low_bits-2.ensures ∙ ap element b in
    let e3 : c.from_low_bits-3.result ≡ symbol c.args.c = c.from_low_bits-3.ensures ∙ ap element d in
    let e4 : c.from_low_bits-4.result ≡ element (9 * group c.args.a + 3 * group c.args.b + group c.args.c) =
    c.from_low_bits-4.ensures ∙ (λ i. element (9 * (a i / 32) + 3 * (b i / 32) + d i / 32)) in
    let all : c.from_low_bits-4.result ∷ c.from_low_bits-3.result ∷ c.from_low_bits-2.result ∷ c.from_low_bits.result ∷ p
    ≡ element (9 * group c.args.a + 3 * group c.args.b + group c.args.c) ∷ symbol c.args.c ∷ symbol c.args.b ∷ symbol c.args.a ∷ p =
    λ i. e4 i ∷ e3 i ∷ e2 i ∷ e1 i ∷ p in
    subst (λ (u : List Element). IsResidueOf (λ (x : ℕ). x) descriptor c.input_fe-4.new.self u) all
    (c.input_fe-4.ensures _ (c.input_fe-3.ensures _ (c.input_fe-2.ensures _ (c.input_fe.ensures p h))))

use Rattle.std.proofs.Common.{◌≡◌, ◌≤◌, ◌∙◌, ◌+◌, ◌*◌, ◌/◌, ℕ, List, ◌∷◌, length, get_or, ap, sym, subst, arith}
use Rattle.bech32_gf.specs.Fe32.{element}
use Rattle.bech32_gf.specs.declared.gf32.Fe32.{Fe32 as Element}
use Rattle.bech32_poly.specs.Polynomial.{appended}
use Rattle.bech32_checksum.specs.Code.{IsResidueOf}
use Rattle.bech32_descriptor.specs.Code.{descriptor}
use Rattle.bech32_descriptor.specs.Descriptor.{group, symbol, symbols}
use Rattle.bech32_descriptor.proofs.Symbols.{two_left}
use Rattle.bech32_descriptor.proofs.residue.input_few.Goals as goal

pub returns : goal.returns
returns c p h =
    let rest = c.args.rest.now in
    let two : 2 ≤ length rest = omega arith in
    let a = c.place-first.ensures.value in
    let b = c.place-second.ensures.value in
    let e1 : c.from_low_bits.result ≡ symbol (get_or rest 0 0) = c.from_low_bits.ensures ∙ ap element a in
    let e2 : c.from_low_bits-2.result ≡ symbol (get_or rest 1 0) = c.from_low_bits-2.ensures ∙ ap element b in
    let e3 : c.from_low_bits-3.result ≡ element (3 * group (get_or rest 0 0) + group (get_or rest 1 0)) =
    c.from_low_bits-3.ensures ∙ (λ i. element (3 * (a i / 32) + b i / 32)) in
    let all : c.from_low_bits-3.result ∷ c.from_low_bits-2.result ∷ c.from_low_bits.result ∷ p ≡ appended p (symbols rest) =
    (λ i. e3 i ∷ e2 i ∷ e1 i ∷ p) ∙ ap (appended p) (sym (two_left rest c.requires two)) in
    subst (λ (u : List Element). IsResidueOf (λ (x : ℕ). x) descriptor c.input_fe-3.new.self u) all
    (c.input_fe-3.ensures _ (c.input_fe-2.ensures _ (c.input_fe.ensures p h)))

use Rattle.std.proofs.Common.{◌≤◌, ◌∙◌, ℕ, List, ◌∷◌, length, map, arith, ap, sym, subst}
use Rattle.std.proofs.lemmas.List.{drop_all}
use Rattle.bech32_gf.specs.Fe32.{element}
use Rattle.bech32_gf.specs.declared.gf32.Fe32.{Fe32 as Element}
use Rattle.bech32_poly.specs.Polynomial.{appended}
use Rattle.bech32_checksum.specs.Code.{IsResidueOf}
use Rattle.bech32_descriptor.specs.Code.{descriptor}
use Rattle.bech32_descriptor.specs.Descriptor.{checksum_symbol}
use Rattle.bech32_descriptor.proofs.Symbols.{checksum_more}
use Rattle.bech32_descriptor.proofs.residue.input_checksum.Goals as goal

pub loop-b-preserved : goal.loop-b-preserved
loop-b-preserved c p h =
    let (q, so_far, held) = c.loop-b.invariant p h in (
      c.from_low_bits.result ∷ q,
      checksum_more c.args.checksum.now c.loop-b.b-index c.from_low_bits.result q _ c.loop-b-test.true
          (c.from_low_bits.ensures ∙ ap element c.checksum_place.ensures.value) so_far,
      c.input_fe.ensures q held,
    )

pub returns : goal.returns
returns c p h =
    let (q, whole, held) = c.loop-b.invariant p h in
    let all : length c.args.checksum.now ≤ c.loop-b.b-index = omega arith in
    let same = sym (ap (λ (xs : List ℕ). appended q (map checksum_symbol xs)) (drop_all c.loop-b.b-index c.args.checksum.now all)) ∙ whole in
    subst (λ (r : List Element). IsResidueOf (λ (x : ℕ). x) descriptor c.loop-b.engine r) same held

use Rattle.std.proofs.Common.{◌≤◌, ◌∙◌, ℕ, List, ◌∷◌, length, map, arith, ap, sym, subst}
use Rattle.std.proofs.lemmas.List.{drop_all}
use Rattle.bech32_gf.specs.Fe32 as fe32
use Rattle.bech32_gf.specs.declared.gf32.Fe32.{Fe32 as Element}
use Rattle.bech32_poly.specs.Polynomial.{appended}
use Rattle.bech32_checksum.specs.Code.{IsResidueOf}
use Rattle.bech32_hrp.specs.Hrp.{lowered}
use Rattle.bech32_checksum.proofs.HrpInput.{appended-byte}
use Rattle.bech32_checksum.proofs.Engine.input_low_bits.Goals as goal

pub loop-b-preserved : goal.loop-b-preserved
loop-b-preserved g c p h =
    let (q, so_far, held) = c.loop-b.invariant p h in (
      c.from_low_bits.result ∷ q,
      appended-byte fe32.element c.args.bytes.now c.loop-b.b-index c.from_low_bits.result q _ c.loop-b-test.true
          (c.from_low_bits.ensures ∙ ap fe32.element c.to_ascii_lowercase.ensures.value) so_far,
      c.input_fe.ensures q held,
    )

pub returns : goal.returns
returns g c p h =
    let (q, whole, held) = c.loop-b.invariant p h in
    let all : length c.args.bytes.now ≤ c.loop-b.b-index = omega arith in
    let same = sym (ap (λ (xs : List ℕ). appended q (map fe32.element (lowered xs))) (drop_all c.loop-b.b-index c.args.bytes.now all)) ∙ whole in
    subst (λ (r : List Element). IsResidueOf g.Ck.MidstateRepr.PackedFe32.number g.Ck.Checksum.code c.loop-b.self r) same held

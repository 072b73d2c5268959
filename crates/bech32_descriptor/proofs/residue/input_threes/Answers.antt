use Rattle.std.proofs.Common.{◌≤◌, ◌∙◌, ℕ, List, length, get_or, refl, subst, arith}
use Rattle.std.proofs.lemmas.List.{take_rest}
use Rattle.bech32_gf.specs.declared.gf32.Fe32.{Fe32 as Element}
use Rattle.bech32_poly.specs.Polynomial.{appended}
use Rattle.bech32_checksum.specs.Code.{IsResidueOf}
use Rattle.bech32_descriptor.specs.Code.{descriptor}
use Rattle.bech32_descriptor.proofs.Symbols.{three, three_more}
use Rattle.bech32_descriptor.proofs.residue.input_threes.Goals as goal

pub loop-rest-init : goal.loop-rest-init
loop-rest-init c p h = (p, refl, h)

pub loop-rest-preserved : goal.loop-rest-preserved
loop-rest-preserved c p h =
    let rest = c.loop-rest.rest.now in
    let more : 3 ≤ length rest = omega arith in
    let (q, so_far, held) = c.loop-rest.invariant p h in
    rw (take_rest rest 3) (
      appended q (three (get_or rest 0 0) (get_or rest 1 0) (get_or rest 2 0)),
      three_more q rest more ∙ so_far,
      c.input_three.ensures q held,
    )

pub returns : goal.returns
returns c p h =
    let (q, whole, held) = c.loop-rest.invariant p h in
    subst (λ (u : List Element). IsResidueOf (λ (x : ℕ). x) descriptor c.input_few.new.engine u) whole
    (c.input_few.ensures q held)

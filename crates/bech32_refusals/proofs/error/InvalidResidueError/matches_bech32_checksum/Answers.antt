use Rattle.std.proofs.Common.{◌≡◌, ◌∙◌, ℕ, List, sym, ap, arith, eq-eqb}
use Rattle.std.proofs.lemmas.Bool.{eqb-true}
use Rattle.bech32_gf.specs.Fe32 as fe32
use Rattle.bech32_gf.specs.declared.gf32.Fe32.{Fe32}
use Rattle.bech32_poly.specs.Polynomial.{coefficient}
use Rattle.bech32_checksum.specs.Code.{Code, bech32}
use Rattle.bech32_checksum.specs.laws.CodeLaws.{bech32_is_packed}
use lib.Pointwise.{pointwise_decides}
use Rattle.bech32_checksum.proofs.DigitRows.{coefficient-digits}
use Rattle.bech32_refusals.proofs.Coefficients.{same_row}
use Rattle.bech32_refusals.proofs.error.InvalidResidueError.matches_bech32_checksum.Goals as goal

pub returns : goal.returns
returns c =
    let test = pointwise_decides (λ (x y : Fe32). (λ h. fe32.path x y (eqb-true x.value y.value h), λ e. eq-eqb x.value y.value (ap (λ (z : Fe32). z.value) e))) c.args.self.now.actual.digits c.new.result.digits in
    let target : (n : ℕ) → coefficient fe32.ops c.new.result.digits n ≡ coefficient fe32.ops bech32.target n =
    λ n. c.new.ensures n ∙ sym (coefficient-digits 6 1 n (omega arith)) ∙ ap (λ (k : Code). coefficient fe32.ops k.target n) (sym bech32_is_packed) in (
      λ h n. ap (λ (xs : List Fe32). coefficient fe32.ops xs n) (test.0 (sym c.eq.ensures ∙ h)) ∙ target n,
      λ same. c.eq.ensures ∙ test.1 (same_row c.args.self.now.actual.digits c.new.result.digits (c.args.self.now.actual.full ∙ sym c.new.result.full) (λ n. same n ∙ sym (target n))),
    )

use Rattle.std.proofs.Common.{◌≡◌, sym, ap, ◌∙◌}
use Rattle.bech32_gf.specs.Fe32 as fe32
use Rattle.bech32_gf.specs.declared.gf32.Fe32.{Fe32}
use Rattle.bech32_poly.specs.Polynomial.{add, scale}
use Rattle.bech32_checksum.specs.Packed.{digits}
use Rattle.bech32_checksum.proofs.Erased.{three}
use Rattle.bech32_checksum.proofs.NoValues.{factor_at, less_taken, none_at_three}
use Rattle.bech32_checksum.proofs.checksums.erased.values_at_three.Goals as goal

pub values_at_two-requires : goal.values_at_two-requires
values_at_two-requires c = less_taken c.args.residue c.multiple_of.result c.args.third c.factor_of-of_residue.result c.requires c.multiple_of.ensures

pub returns-in-Absent : goal.returns-in-Absent
returns-in-Absent c =
    let pivot = rw c.in-Some.is at c.pivot_of.ensures in
    none_at_three c.args.residue c.args.first c.args.second c.args.third c.multiple_of.result c.multiple_of-2.result c.multiple_of-3.result pivot.0
    c.factor_of-of_residue.result c.factor_of-of_first.result c.factor_of-of_second.result pivot.1 pivot.3
    (factor_at c.args.residue _ pivot.0 c.factor_of-of_residue.result _ _ pivot.2 pivot.4 c.factor_of-of_residue.ensures)
    (factor_at c.args.first _ pivot.0 c.factor_of-of_first.result _ _ pivot.2 pivot.4 c.factor_of-of_first.ensures)
    (factor_at c.args.second _ pivot.0 c.factor_of-of_second.result _ _ pivot.2 pivot.4 c.factor_of-of_second.ensures)
    c.multiple_of.ensures c.multiple_of-2.ensures c.multiple_of-3.ensures (rw c.in-Absent.is at c.values_at_two.ensures)

pub returns : goal.returns
returns c =
    let v = c.in-Found.values.0 in
    let w = c.in-Found.values.1 in
    let a = c.factor_of-of_residue.result in
    let b = c.factor_of-of_first.result in
    let d = c.factor_of-of_second.result in
    let part : c.add-from_second.result ≡ fe32.add (fe32.mul w d) a =
    c.add-from_second.ensures ∙ ap (λ (x : Fe32). fe32.add x a) c.product.ensures in
    let last : c.add.result ≡ fe32.add (fe32.mul v b) (fe32.add (fe32.mul w d) a) =
    c.add.ensures ∙ ap (λ (x : Fe32). fe32.add x c.add-from_second.result) c.product-2.ensures ∙ ap (fe32.add (fe32.mul v b)) part in
    three c.args.residue c.args.first c.args.second c.args.third c.multiple_of.result c.multiple_of-2.result c.multiple_of-3.result v w a b d
    c.multiple_of.ensures c.multiple_of-2.ensures c.multiple_of-3.ensures (rw c.in-Found.is at c.values_at_two.ensures)
    ∙ ap (λ (u : Fe32). add fe32.ops (scale fe32.ops v (digits 6 c.args.first)) (add fe32.ops (scale fe32.ops w (digits 6 c.args.second)) (scale fe32.ops u (digits 6 c.args.third)))) (sym last)

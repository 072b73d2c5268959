use Rattle.std.proofs.Common.{◌≡◌, sym, ap, ◌∙◌}
use Rattle.bech32_gf.specs.Fe32 as fe32
use Rattle.bech32_gf.specs.declared.gf32.Fe32.{Fe32}
use Rattle.bech32_poly.specs.Polynomial.{add, scale}
use Rattle.bech32_checksum.specs.Packed.{digits}
use Rattle.bech32_checksum.proofs.Erased.{two}
use Rattle.bech32_checksum.proofs.NoValues.{factor_at, less_taken, none_at_two}
use Rattle.bech32_checksum.proofs.checksums.erased.values_at_two.Goals as goal

pub value_at_one-requires : goal.value_at_one-requires
value_at_one-requires c = less_taken c.args.residue c.multiple_of.result c.args.second c.factor_of-of_residue.result c.requires c.multiple_of.ensures

pub returns-in-Absent : goal.returns-in-Absent
returns-in-Absent c =
    let pivot = rw c.in-Some.is at c.pivot_of.ensures in
    none_at_two c.args.residue c.args.first c.args.second c.multiple_of.result c.multiple_of-2.result pivot.0 c.factor_of-of_residue.result c.factor_of-of_first.result pivot.1 pivot.3
    (factor_at c.args.residue _ pivot.0 c.factor_of-of_residue.result _ _ pivot.2 pivot.4 c.factor_of-of_residue.ensures)
    (factor_at c.args.first _ pivot.0 c.factor_of-of_first.result _ _ pivot.2 pivot.4 c.factor_of-of_first.ensures)
    c.multiple_of.ensures c.multiple_of-2.ensures (rw c.in-Absent.is at c.value_at_one.ensures)

pub returns-in-Found : goal.returns-in-Found
returns-in-Found c =
    let v = c.in-Found.value in
    let a = c.factor_of-of_residue.result in
    let b = c.factor_of-of_first.result in
    let last : c.add.result ≡ fe32.add (fe32.mul v b) a = c.add.ensures ∙ ap (λ (x : Fe32). fe32.add x a) c.product.ensures in
    two c.args.residue c.args.first c.args.second c.multiple_of.result c.multiple_of-2.result v a b c.multiple_of.ensures c.multiple_of-2.ensures (rw c.in-Found.is at c.value_at_one.ensures)
    ∙ ap (λ (u : Fe32). add fe32.ops (scale fe32.ops v (digits 6 c.args.first)) (scale fe32.ops u (digits 6 c.args.second))) (sym last)

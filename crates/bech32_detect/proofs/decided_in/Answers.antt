use Rattle.std.proofs.Common.{ℕ, List, length, arith, refl, sym, subst}
use Rattle.bech32_gf.specs.Fe32 as fe32
use Rattle.bech32_poly.specs.Pattern.{monomial}
use Rattle.bech32_checksum.specs.Code.{IsResidueOf}
use Rattle.bech32_checksum.specs.Packed.{IsRowOf}
use Rattle.bech32_detect.specs.Rows.{AreTermRows, term}
use Rattle.bech32_detect.proofs.Answer.{answer, none_below, rows_moved, value_not_zero}
use Rattle.bech32_detect.proofs.RowDigits.{residue_row}
use Rattle.bech32_detect.proofs.decided_in.Goals as goal

pub returns-then-n-eq0-clause-value : goal.returns-then-n-eq0-clause-value
returns-then-n-eq0-clause-value g c = ((λ e. none_below g.Ck.Checksum.code.generator c.args.n (omega arith)), (λ d. refl))

pub returns-clause-value : goal.returns-clause-value
returns-clause-value g c =
    let number = g.Ck.MidstateRepr.PackedFe32.number in
    let code = g.Ck.Checksum.code in
    let sorted : List ℕ = c.sort_unstable.new.self.items in
    let t : AreTermRows code.generator c.args.n sorted = rows_moved code.generator c.args.n _ sorted c.sort_unstable.ensures.permutation c.in_ok-rows.ensures in
    let shown : IsResidueOf number code c.residue.result.now (monomial fe32.ops 0 fe32.one) = subst (λ r. IsResidueOf number code r (monomial fe32.ops 0 fe32.one)) (sym c.residue.ensures.value) c.new-one.ensures in
    let row = residue_row number code c.residue.result.now g.Ck.Checksum.CHECKSUM_LENGTH (monomial fe32.ops 0 fe32.one) g.met.Ck.Checksum.degree_law c.residue.ensures.clear shown in
    answer code.generator c.args.n c.deref.result.now (subst (AreTermRows code.generator c.args.n) (sym c.deref.ensures.value) t)
    c.row_of.result (subst (IsRowOf (length code.generator) (term fe32.ops code.generator 0 fe32.one)) (sym c.row_of.ensures) row) c.has_three.result (value_not_zero _ c.requires) (omega arith) c.has_three.ensures

use Rattle.std.proofs.Common.{◌≡◌, ◌++◌, ◌∷◌, [], ◌-◌, subst, sym, refl, rules, arith}
use Rattle.bech32_gf.specs.Fe32 as fe32
use Rattle.bech32_gf.specs.declared.gf32.Fe32.{Fe32 as Element}
use Rattle.bech32_poly.specs.Pattern.{monomial}
use Rattle.bech32_checksum.specs.Code.{IsResidueOf}
use Rattle.bech32_checksum.specs.Packed.{IsRowOf}
use Rattle.bech32_detect.specs.Rows.{term}
use Rattle.bech32_detect.proofs.RowDigits.{residue_row}
use Rattle.bech32_detect.proofs.TermRows.{next_turn, risen, terms_end, terms_more, terms_start}
use Rattle.bech32_detect.proofs.rows.push_terms.Goals as goal

pub loop-init : goal.loop-init
loop-init g c = (terms_start _ _ _ _, c.input_fe.ensures [] c.zero-engine.ensures)

pub loop-preserved : goal.loop-preserved
loop-preserved g c =
    let number = g.Ck.MidstateRepr.PackedFe32.number in
    let code = g.Ck.Checksum.code in
    let lower = monomial fe32.ops (c.loop.counter - 1) c.args.value in
    let raw = c.input_fe-in-loop.ensures lower c.loop.invariant.1 in
    let zeroed = subst (λ (e : Element). IsResidueOf number code c.input_fe-in-loop.new.self (e ∷ lower)) (fe32.path _ fe32.zero refl) raw in
    let up : IsResidueOf number code c.input_fe-in-loop.new.self (monomial fe32.ops c.loop.counter c.args.value) = risen number code _ c.loop.counter c.args.value (omega arith) zeroed in
    let shown : IsResidueOf number code c.residue.result.now (monomial fe32.ops c.loop.counter c.args.value) =
    subst (λ r. IsResidueOf number code r (monomial fe32.ops c.loop.counter c.args.value)) (sym c.residue.ensures.value) up in
    let row = residue_row number code c.residue.result.now g.Ck.Checksum.CHECKSUM_LENGTH (monomial fe32.ops c.loop.counter c.args.value) g.met.Ck.Checksum.degree_law c.residue.ensures.clear shown in
    let pushed : c.push.new.self.items ≡ c.loop.rows.items ++ (c.row_of.result ∷ []) = search rules in (
      terms_more _ _ _ _ _ _ c.loop.counter c.row_of.result c.loop.invariant.0 (omega arith) (omega arith) (subst (IsRowOf _ (term fe32.ops code.generator c.loop.counter c.args.value)) (sym c.row_of.ensures) row) pushed,
      next_turn number code _ c.loop.counter c.args.value up,
    )

pub returns : goal.returns
returns g c = terms_end _ _ _ _ _ c.loop.counter c.loop.invariant.0 (omega arith)

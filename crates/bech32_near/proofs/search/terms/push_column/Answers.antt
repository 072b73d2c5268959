use Rattle.std.proofs.Common.{◌≡◌, ◌+◌, ◌∷◌, ◌++◌, [], ℕ, suc, List, min, sym, ap, subst, ◌∙◌, refl, arith, rules, append_assoc}
use Rattle.bech32_gf.specs.Fe32 as fe32
use Rattle.bech32_gf.specs.declared.gf32.Fe32.{Fe32 as Element}
use Rattle.bech32_poly.specs.Pattern.{monomial}
use Rattle.bech32_checksum.specs.Code.{IsResidueOf}
use Rattle.bech32_checksum.specs.Packed.{tabulate}
use Rattle.bech32_near.specs.search.Sketch.{cleared_by, sketch_at}
use Rattle.bech32_near.proofs.Entries.{tabulate-push}
use Rattle.bech32_near.proofs.SketchSums.{sketch-row}
use Rattle.bech32_near.proofs.search.terms.push_column.Goals as goal

pub loop-init : goal.loop-init
loop-init g c = record { items = search rules; term = c.input_fe.ensures [] c.zero-engine.ensures }

pub loop-preserved : goal.loop-preserved
loop-preserved g c =
    let size : ℕ = min g.Ck.Checksum.CHECKSUM_LENGTH 12 in
    let code = g.Ck.Checksum.code in
    let number = g.Ck.MidstateRepr.PackedFe32.number in
    let rows = c.args.rows.now in
    let i : ℕ = c.loop.counter in
    let f : ℕ → ℕ = λ location. sketch_at rows size code.generator location c.args.value in
    let term = monomial fe32.ops i c.args.value in
    let shown : IsResidueOf number code c.residue.result.now term = subst (λ r. IsResidueOf number code r term) (sym c.residue.ensures.value) c.loop.invariant.term in
    let key : c.cleared_by.result ≡ f i =
    c.cleared_by.ensures ∙ ap (cleared_by rows) c.number_of.ensures
    ∙ sketch-row rows size number code c.residue.result.now g.Ck.Checksum.CHECKSUM_LENGTH term g.met.Ck.Checksum.degree_law c.residue.ensures.clear shown in
    let raw : IsResidueOf number code c.input_fe-in-loop.new.self (_ ∷ term) = c.input_fe-in-loop.ensures term c.loop.invariant.term in
    let pushed : c.push.new.self.items ≡ c.loop.columns.items ++ (c.cleared_by.result ∷ []) = search rules in
    record {
      items = pushed ∙ ap (λ (u : List ℕ). u ++ c.cleared_by.result ∷ []) c.loop.invariant.items
          ∙ append_assoc c.args.columns.now.items (tabulate i f) (c.cleared_by.result ∷ [])
          ∙ ap (λ (u : List ℕ). c.args.columns.now.items ++ u) (ap (λ n. tabulate i f ++ n ∷ []) key ∙ sym (tabulate-push i f));
      term = let next : i + 1 ≡ suc i = omega arith in
          subst (λ n. IsResidueOf number code c.input_fe-in-loop.new.self (monomial fe32.ops n c.args.value)) (sym next)
          (subst (λ (e : Element). IsResidueOf number code c.input_fe-in-loop.new.self (e ∷ term)) (fe32.path _ fe32.zero refl) raw);
    }

pub returns : goal.returns
returns g c =
    let size : ℕ = min g.Ck.Checksum.CHECKSUM_LENGTH 12 in
    let f : ℕ → ℕ = λ location. sketch_at c.args.rows.now size g.Ck.Checksum.code.generator location c.args.value in
    let end : c.loop.counter ≡ c.args.window = omega arith in
    c.loop.invariant.items ∙ ap (λ n. c.args.columns.now.items ++ tabulate n f) end

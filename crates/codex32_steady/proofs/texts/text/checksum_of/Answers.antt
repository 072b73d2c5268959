use Rattle.std.proofs.Common.{◌≡◌, ◌+◌, ◌∷◌, ◌∙◌, [], ℕ, List, take, reverse, sym, ap, subst, arith}
use Rattle.std.proofs.lemmas.List.{take_all}
use Rattle.bech32_gf.specs.Fe32 as fe32
use Rattle.bech32_gf.specs.declared.gf32.Fe32.{Fe32 as Element}
use Rattle.bech32_poly.specs.Polynomial.{appended}
use Rattle.bech32_poly.proofs.Appended.{appended-take_more}
use Rattle.bech32_checksum.specs.Code.{IsResidueOf}
use Rattle.bech32_checksum.specs.TextPolynomial.{hrp_elements}
use Rattle.codex32_steady.specs.texts.Parts.{ms}
use Rattle.codex32_steady.proofs.texts.text.checksum_of.Goals as goal

pub loop-e-init : goal.loop-e-init
loop-e-init g c = λ p h. h

pub loop-e-preserved : goal.loop-e-preserved
loop-e-preserved g c = λ p h.
    let number = g.Ck.MidstateRepr.PackedFe32.number in
    let code = g.Ck.Checksum.code in
    let xs = c.args.elements.now in
    let i : ℕ = c.loop-e.e-index in
    let x = c.e-item.result in
    let more : appended p (take (i + 1) xs) ≡ x ∷ appended p (take i xs) =
    appended-take_more p xs i x c.loop-e-test.true ∙ ap (λ (y : Element). y ∷ appended p (take i xs)) (sym c.e-item.is) in
    subst (λ (q : List Element). IsResidueOf number code c.input_fe.new.self q) (sym more)
    (c.input_fe.ensures (appended p (take i xs)) (c.loop-e.invariant p h))

pub returns : goal.returns
returns g c =
    let number = g.Ck.MidstateRepr.PackedFe32.number in
    let code = g.Ck.Checksum.code in
    let xs = c.args.elements.now in
    let front : List Element = appended (fe32.one ∷ []) (hrp_elements ms) in
    let target = reverse code.target in
    let all : take c.loop-e.e-index xs ≡ xs = take_all c.loop-e.e-index xs (omega (arith, c.loop-e-test.false)) in
    let held = c.input_target_residue.ensures (appended front (take c.loop-e.e-index xs)) (c.loop-e.invariant front (c.input_part.ensures (fe32.one ∷ []) c.new-engine.ensures)) in
    subst (λ r. IsResidueOf number code r (appended (appended front xs) target)) (sym c.residue.ensures.value)
    (subst (λ (ys : List Element). IsResidueOf number code c.input_target_residue.new.self (appended (appended front ys) target)) all held)

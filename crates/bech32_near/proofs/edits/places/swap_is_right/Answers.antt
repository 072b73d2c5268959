use Rattle.std.proofs.Common.{◌∷◌, length, replicate, eq-eqb, subst, sym, ap, ◌∙◌}
use Rattle.std.proofs.lemmas.Bool.{eqb-true}
use Rattle.bech32_gf.specs.Fe32 as fe32
use Rattle.bech32_gf.specs.declared.gf32.Fe32.{Fe32 as Element}
use Rattle.bech32_poly.specs.Polynomial.{appended}
use Rattle.bech32_near.specs.edits.Walks.{IsWordOf, times_power}
use Rattle.bech32_near.proofs.Sums.{changed_two}
use Rattle.bech32_near.proofs.edits.places.swap_is_right.Goals as goal

pub returns-then-eq : goal.returns-then-eq
returns-then-eq g c p behind word powers =
    let same = fe32.path c.args.higher c.args.lower (eqb-true _ _ (sym c.eq.ensures ∙ c.if-eq.true)) in
    (λ t. absurd cc, λ r. absurd (r.0 same))

pub returns : goal.returns
returns g c p behind word powers =
    let number = g.Ck.MidstateRepr.PackedFe32.number in
    let code = g.Ck.Checksum.code in
    let h = c.args.higher in
    let l = c.args.lower in
    let term = subst (λ (x : Element). IsWordOf number code c.times.result (times_power (length behind) (replicate 2 x))) c.add.ensures (c.times.ensures (length behind) 2 powers) in
    let sum = subst (IsWordOf number code c.sum_of.result) (changed_two p behind l h) (c.sum_of.ensures _ _ word term) in
    let said = c.is_target.ensures (appended (h ∷ l ∷ p) behind) sum in (
      λ t. ((λ e. let no = sym c.if-eq.false ∙ c.eq.ensures ∙ eq-eqb _ _ (ap (λ (x : Element). x.value) e) in absurd cc), said.0 t),
      λ r. said.1 r.1,
    )

use Rattle.std.proofs.Common.{◌<◌, ◌≤◌, length, eq-eqb, sym, ap, ◌∙◌, refl, arith}
use Rattle.std.proofs.lemmas.Bool.{eqb-true}
use Rattle.std.proofs.lemmas.List.{length-map}
use Rattle.bech32_gf.specs.Fe32 as fe32
use Rattle.bech32_gf.specs.Fe32.{element_of, elements_of}
use Rattle.bech32_gf.specs.declared.gf32.Fe32.{Fe32 as Element}
use Rattle.bech32_near.proofs.Parts.{begins-with}
use Rattle.bech32_near.proofs.edits.places.is_last.Goals as goal

pub returns-then-eq : goal.returns-then-eq
returns-then-eq c =
    let old = elements_of c.args.characters.now in
    let some : 0 < c.args.location = omega arith in
    let low : c.args.location ≤ length old = omega (arith, c.requires.within, length-map c.args.characters.now element_of) in
    let same = fe32.path c.element_at.result c.args.element (eqb-true _ _ (sym c.eq.ensures ∙ c.if-eq.true)) in
    (λ t. absurd cc, λ n. absurd (n ((begins-with old c.args.location c.args.element some low).1 (sym c.element_at.ensures ∙ same))))

pub returns : goal.returns
returns c =
    let old = elements_of c.args.characters.now in
    let some : 0 < c.args.location = omega arith in
    let low : c.args.location ≤ length old = omega (arith, c.requires.within, length-map c.args.characters.now element_of) in (
      λ t begins.
          let same = c.element_at.ensures ∙ (begins-with old c.args.location c.args.element some low).0 begins in
          let no = sym c.if-eq.false ∙ c.eq.ensures ∙ eq-eqb _ _ (ap (λ (x : Element). x.value) same) in
          absurd cc,
      λ n. refl,
    )

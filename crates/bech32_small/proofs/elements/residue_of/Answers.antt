use Rattle.std.proofs.Common.{◌≡◌, ◌≤◌, ◌+◌, ◌++◌, ◌∙◌, ℕ, List, [], ◌∷◌, length, take, get_or, ap, sym, subst, arith}
use Rattle.std.proofs.lemmas.List.{map-append, take_all, take_more}
use Rattle.bech32_gf.specs.Fe32 as fe32
use Rattle.bech32_gf.specs.Fe32.{element_of, elements_of}
use Rattle.bech32_gf.specs.declared.gf32.Fe32.{Fe32}
use Rattle.bech32_poly.specs.Polynomial.{appended}
use Rattle.bech32_poly.proofs.Appended.{appended-append}
use Rattle.bech32_checksum.specs.Code.{IsResidueOf, bech32m}
use Rattle.bech32_checksum.specs.TextPolynomial.{hrp_elements}
use Rattle.bech32_small.proofs.elements.residue_of.Goals as goal

pub loop-c-init : goal.loop-c-init
loop-c-init c = c.input_part.ensures (fe32.one ∷ []) c.new-engine.ensures

pub loop-c-preserved : goal.loop-c-preserved
loop-c-preserved c =
    let base : List Fe32 = appended (fe32.one ∷ []) (hrp_elements c.args.part.now) in
    let chars = c.args.data_part.now in
    let i = c.loop-c.c-index in
    let before : List Fe32 = appended base (elements_of (take i chars)) in
    let next : IsResidueOf (λ (n : ℕ). n) bech32m c.input_fe.new.self (element_of (get_or chars i 0) ∷ before) =
    subst (λ (e : Fe32). IsResidueOf (λ (n : ℕ). n) bech32m c.input_fe.new.self (e ∷ before)) c.from_char_unchecked.ensures
    (c.input_fe.ensures before c.loop-c.invariant) in
    let more : elements_of (take (i + 1) chars) ≡ elements_of (take i chars) ++ element_of (get_or chars i 0) ∷ [] =
    ap elements_of (take_more chars i 0 c.loop-c-test.true) ∙ map-append element_of (take i chars) (get_or chars i 0 ∷ []) in
    subst (IsResidueOf (λ (n : ℕ). n) bech32m c.input_fe.new.self)
    (sym (ap (appended base) more ∙ appended-append base (elements_of (take i chars)) (element_of (get_or chars i 0) ∷ [])))
    next

pub returns-clause-residue : goal.returns-clause-residue
returns-clause-residue c =
    let front : List Fe32 = fe32.one ∷ [] in
    let part : List Fe32 = hrp_elements c.args.part.now in
    let chars = c.args.data_part.now in
    let all : length chars ≤ c.loop-c.c-index = omega (arith, c.loop-c-test.false) in
    subst (λ (n : ℕ). IsResidueOf (λ (n : ℕ). n) bech32m n (appended front (part ++ elements_of chars))) (sym c.residue.ensures.value)
    (subst (IsResidueOf (λ (n : ℕ). n) bech32m c.loop-c.engine)
    (ap (λ (l : List ℕ). appended (appended front part) (elements_of l)) (take_all c.loop-c.c-index chars all)
    ∙ sym (appended-append front part (elements_of chars)))
    c.loop-c.invariant)

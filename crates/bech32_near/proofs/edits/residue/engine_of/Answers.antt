use Rattle.std.proofs.Common.{◌≤◌, List, length, append-nil, subst, sym, arith, [], ◌∷◌}
use Rattle.std.proofs.lemmas.List.{take_all}
use Rattle.bech32_gf.specs.Fe32 as fe32
use Rattle.bech32_gf.specs.Fe32.{elements_of}
use Rattle.bech32_gf.specs.declared.gf32.Fe32.{Fe32 as Element}
use Rattle.bech32_poly.specs.Polynomial.{appended}
use Rattle.bech32_checksum.specs.Code.{IsResidueOf}
use Rattle.bech32_checksum.specs.TextPolynomial.{hrp_elements, text_polynomial}
use Rattle.bech32_hrp.specs.HrpBytes.{hrp_bytes}
use Rattle.bech32_near.proofs.Characters.{of_alphabet_at, polynomial-more}
use Rattle.bech32_near.proofs.edits.residue.engine_of.Goals as goal

pub from_char_unchecked-requires : goal.from_char_unchecked-requires
from_char_unchecked-requires g c = of_alphabet_at c.args.characters.now c.loop-b.b-index _ c.requires c.loop-b-test.true

pub loop-b-init : goal.loop-b-init
loop-b-init g c =
    let start : List Element = fe32.one ∷ [] in
    subst (λ (u : List Element). IsResidueOf g.Ck.MidstateRepr.PackedFe32.number g.Ck.Checksum.code c.input_hrp.new.self (appended start u)) (sym (append-nil (hrp_elements (hrp_bytes c.args.hrp))))
    (c.input_hrp.ensures start c.new-engine.ensures)

pub loop-b-preserved : goal.loop-b-preserved
loop-b-preserved g c =
    let at = c.loop-b in
    subst (IsResidueOf g.Ck.MidstateRepr.PackedFe32.number g.Ck.Checksum.code c.input_fe.new.self)
    (sym (polynomial-more (hrp_bytes c.args.hrp) c.args.characters.now at.b-index _ c.from_char_unchecked.result c.loop-b-test.true c.from_char_unchecked.ensures))
    (c.input_fe.ensures _ at.invariant)

pub returns : goal.returns
returns g c =
    let at = c.loop-b in
    let all : length c.args.characters.now ≤ at.b-index = omega arith in
    subst (λ u. IsResidueOf g.Ck.MidstateRepr.PackedFe32.number g.Ck.Checksum.code at.engine (text_polynomial (hrp_bytes c.args.hrp) (elements_of u))) (take_all at.b-index c.args.characters.now all) at.invariant

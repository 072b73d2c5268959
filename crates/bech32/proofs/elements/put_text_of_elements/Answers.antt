use Rattle.std.proofs.Common.{◌≡◌, ◌∙◌, List, map-id, rules, subst, sym}
use Rattle.std.proofs.lemmas.Iterator.{YieldsList-from_map, YieldsList-from_slice, items_from_drains}
use Rattle.bech32_gf.specs.Fe32.{element}
use Rattle.bech32_gf.specs.declared.gf32.Fe32.{Fe32}
use Rattle.bech32_checksum.specs.Encoded.{IsEncodedText}
use Rattle.bech32_hrp.specs.HrpBytes.{hrp_bytes}
use Rattle.bech32.specs.Elements.{elements_in}
use Rattle.bech32.proofs.elements.put_text_of_elements.Goals as goal

pub returns : goal.returns
returns g c =
    let (fes, text, walk, is, put) = c.put_text.ensures in
    let all : fes ≡ elements_in c.args.values.now =
    sym (map-id fes)
    ∙ items_from_drains fes (walk.1.0, walk.1.1, λ _. (walk.0, walk.1.2))
    (YieldsList-from_map _ element (YieldsList-from_slice c.args.values.now cc) c.map-elements.ensures.closure (λ x r q k. search rules)) in
    (text, subst (λ (l : List Fe32). IsEncodedText g.Ck.Checksum.code (hrp_bytes c.args.hrp.now) l text) all is, put)

use Rattle.std.proofs.Common.{◌≡◌, ◌∙◌, ◌++◌, ℕ, List, ap, subst}
use Rattle.std.proofs.lemmas.Result.{IfOk-weaker}
use Rattle.bech32_gf.specs.declared.gf32.Fe32.{Fe32}
use Rattle.bech32_hrp.specs.HrpBytes.{hrp_bytes}
use Rattle.bech32_checksum.specs.TextPolynomial.{IsChecksumOf}
use Rattle.bech32_checksum.specs.Encoded.{spelled}
use Rattle.testing_tools.specs.PlainChecksum.{code_of_plain}
use Rattle.testing_tools.proofs.plain.encoded_text.Goals as goal

pub returns : goal.returns
returns c =
    let code = code_of_plain c.args.checksum in
    let hrp = hrp_bytes c.args.hrp.now in
    let elements = c.args.elements.now in
    let checksum : List Fe32 = c.in_ok-appended.appended.items in
    let is_checksum : IsChecksumOf code hrp elements checksum =
    subst (λ (h : List ℕ). IsChecksumOf code h elements checksum) c.as_bytes.ensures c.in_ok-appended.ensures in
    let all : c.deref-2.result.now ≡ elements ++ checksum =
    c.deref-2.ensures.value ∙ c.in_ok-extend_from_slice.ensures.items ∙ ap (λ (xs : List Fe32). xs ++ c.deref.result.now) c.in_ok-all.ensures.items
    ∙ ap (λ (xs : List Fe32). elements ++ xs) c.deref.ensures.value in
    IfOk-weaker c.spell.result _ _
    (λ v text. record {
      checksum = checksum;
      is_checksum = is_checksum;
      spelling = text ∙ ap (λ (h : List ℕ). spelled h c.deref-2.result.now) c.as_bytes-2.ensures ∙ ap (spelled hrp) all;
    })
    c.spell.ensures

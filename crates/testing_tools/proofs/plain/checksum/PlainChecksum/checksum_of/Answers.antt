use Rattle.std.proofs.Common.{◌≡◌, ◌∙◌, ◌++◌, List, ap, subst, sym, reverse}
use Rattle.bech32_gf.specs.Fe32.{ops}
use Rattle.bech32_gf.specs.declared.gf32.Fe32.{Fe32}
use Rattle.bech32_poly.specs.Remainder.{IsRemainder}
use Rattle.bech32_checksum.specs.TextPolynomial.{IsChecksumOf, text_polynomial}
use Rattle.testing_tools.specs.PlainChecksum.{code_of_plain}
use Rattle.testing_tools.proofs.Checksums.{is_checksum}
use Rattle.testing_tools.proofs.plain.checksum.PlainChecksum.checksum_of.Goals as goal

pub returns : goal.returns
returns c =
    let code = code_of_plain c.args.self in
    let hrp = c.args.hrp.now in
    let elements = c.args.elements.now in
    let rest : List Fe32 = c.in_ok-rest.rest.items in
    let target : c.reverse.new.self ≡ reverse code.target = c.reverse.ensures.after ∙ ap reverse c.target-target.ensures in
    let all : c.deref.result.now ≡ elements ++ reverse code.target =
    c.deref.ensures.value ∙ c.in_ok-extend_from_slice.ensures.items ∙ ap (λ (xs : List Fe32). xs ++ c.reverse.new.self) c.in_ok-all.ensures.items
    ∙ ap (λ (xs : List Fe32). elements ++ xs) target in
    let polynomial : c.deref-2.result.now ≡ text_polynomial hrp (elements ++ reverse code.target) =
    c.deref-2.ensures.value ∙ c.in_ok-polynomial.ensures ∙ ap (text_polynomial hrp) all in
    let left : IsRemainder ops code.generator (text_polynomial hrp (elements ++ reverse code.target)) rest =
    rw (← polynomial) (rw (← c.generator.ensures) c.in_ok-rest.ensures) in
    subst (IsChecksumOf code hrp elements) (sym c.reverse-2.ensures.items) (is_checksum c.args.self hrp elements rest left)

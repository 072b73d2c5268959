use Rattle.std.proofs.Common.{◌≡◌, ◌≤◌, ◌<◌, ◌∙◌, ◌+◌, ◌++◌, ◌∷◌, ℕ, List, [], append-nil, eqb-true, length, map, take, drop, ap, refl, subst, sym, arith}
use Rattle.std.proofs.lemmas.List.{length-map}
use Rattle.bech32_bits.specs.Bits.{to_fes}
use Rattle.bech32_checksum.specs.Code.{IsResidueOf}
use Rattle.bech32_checksum.specs.Encoded.{char_of_element}
use Rattle.bech32_encode.specs.Buffers.{IsPutAsFits}
use Rattle.bech32_encode.proofs.WholeGroups.{puts_at_once}
use Rattle.bech32_poly.specs.Polynomial.{appended}
use Rattle.bech32_encode.proofs.groups.put_last.Goals as goal

pub returns-clause-text : goal.returns-clause-text
returns-clause-text g c =
    let old = c.args.buffer.now in
    let fes = to_fes c.args.bytes.now in
    let text : List ℕ = map char_of_element fes in
    let size : length text ≡ 4 = length-map fes char_of_element ∙ c.put_two_bytes.ensures.size in
    let some : 0 < length text = omega (arith, size) in
    let room : c.args.count + length text ≤ length old = omega (arith, size) in
    let after : c.args.count + 4 ≡ c.args.count + length text = omega (arith, size) in
    let made = c.put_two_bytes.ensures.text ∙ ap (λ (k : ℕ). take c.args.count old ++ (text ++ drop k old)) after in
    puts_at_once text old c.put_two_bytes.new.buffer c.args.count (c.args.count + 4) room after made some

no_bytes : (bytes : List ℕ) → length bytes ≡ 0 → bytes ≡ []
no_bytes [] e = refl
no_bytes (b ∷ bytes) e = absurd (omega arith)

pub returns-then-is_empty-clause-text : goal.returns-then-is_empty-clause-text
returns-then-is_empty-clause-text g c = λ front start is.
    let none = no_bytes c.args.bytes.now (eqb-true (length c.args.bytes.now) 0 (sym c.is_empty.ensures ∙ c.if-is_empty.true)) in
    subst (λ (bytes : List ℕ). IsPutAsFits (front ++ map char_of_element (to_fes bytes)) start c.args.buffer.now c.args.count) (sym none)
    (subst (λ (text : List ℕ). IsPutAsFits text start c.args.buffer.now c.args.count) (sym (append-nil front)) is)

pub returns-then-is_empty-clause-residue : goal.returns-then-is_empty-clause-residue
returns-then-is_empty-clause-residue g c = λ p held.
    let none = no_bytes c.args.bytes.now (eqb-true (length c.args.bytes.now) 0 (sym c.is_empty.ensures ∙ c.if-is_empty.true)) in
    subst (λ (bytes : List ℕ). IsResidueOf g.Ck.MidstateRepr.PackedFe32.number g.Ck.Checksum.code c.args.engine.now (appended p (to_fes bytes))) (sym none) held

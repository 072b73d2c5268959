use Rattle.std.proofs.Common.{◌≡◌, ◌∙◌, ◌*◌, ◌%◌, ◌^◌, ◌≤◌, ℕ, length, replicate, refl, sym, ap, arith}
use Rattle.bech32_gf.specs.Fe32.{element_of}
use Rattle.bech32_gf.specs.declared.gf32.Fe32.{Fe32}
use Rattle.bech32_decode.proofs.Padding.{characters-length, padding-characters, shifted, zeros-from, zeros-to}
use Rattle.bech32_decode.proofs.address_data.validate_padding.Goals as goal

pub returns-then-count-gt4 : goal.returns-then-count-gt4
returns-then-count-gt4 c =
    let size = characters-length c.args.characters.now in
    let over = c.if-count-gt4.true in
    omega arith

pub returns-then-to_u8-count-ne0 : goal.returns-then-to_u8-count-ne0
returns-then-to_u8-count-ne0 c =
    let characters = c.args.characters.now in
    let k = length characters % 8 * 5 % 8 in
    let few : k ≤ 4 = c.if-count-gt4.false in
    let size = characters-length characters in
    let is = padding-characters characters c.in-Some.last.now k (sym c.in-Some.ensures.value) refl few in
    let value : c.to_u8.result ≡ (element_of c.in-Some.last.now).value = c.to_u8.ensures ∙ ap (λ (x : Fe32). x.value) c.from_char_unchecked.ensures in (
      omega arith,
      λ zeros. c.if-to_u8-count-ne0.true
          (ap (λ (m : ℕ). c.to_u8.result % m) (shifted k few) ∙ ap (λ (m : ℕ). m % 2 ^ k) value
          ∙ zeros-to k (element_of c.in-Some.last.now).value few (sym is ∙ zeros ∙ ap (λ (m : ℕ). replicate m 0) size)),
    )

pub returns : goal.returns
returns c =
    let characters = c.args.characters.now in
    let k = length characters % 8 * 5 % 8 in
    let few : k ≤ 4 = c.if-count-gt4.false in
    let size = characters-length characters in
    let is = padding-characters characters c.in-Some.last.now k (sym c.in-Some.ensures.value) refl few in
    let value : c.to_u8.result ≡ (element_of c.in-Some.last.now).value = c.to_u8.ensures ∙ ap (λ (x : Fe32). x.value) c.from_char_unchecked.ensures in
    let none : (element_of c.in-Some.last.now).value % 2 ^ k ≡ 0 =
    sym (ap (λ (m : ℕ). c.to_u8.result % m) (shifted k few) ∙ ap (λ (m : ℕ). m % 2 ^ k) value) ∙ c.if-to_u8-count-ne0.false in
    record {
      few = omega arith;
      zeros = is ∙ zeros-from k (element_of c.in-Some.last.now).value few none ∙ ap (λ (m : ℕ). replicate m 0) (sym size);
    }

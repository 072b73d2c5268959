use Rattle.std.proofs.Common.{◌≡◌, ◌<◌, ◌-◌, ◌+◌, ◌++◌, ◌∷◌, ◌∙◌, [], ℕ, List, suc, zero, drop, length, map, reverse, set, take, ap, sym, refl, arith}
use Rattle.std.proofs.lemmas.List.{take_all}
use Rattle.bech32_gf.specs.Fe32.{element}
use Rattle.bech32_checksum.specs.Encoded.{char_of_element}
use Rattle.bech32_checksum.specs.Packed.{digit_of, digits}
use Rattle.bech32_encode.proofs.TextPieces.{element-digit_of, characters_none, characters_more}
use Rattle.codex32_steady.proofs.texts.text.put_row.Goals as goal

-- what stands before a place that is set, and at it
take_set : (xs : List ℕ) (i v : ℕ) → i < length xs → take (suc i) (set xs i v) ≡ take i xs ++ (v ∷ [])
take_set [] i v within = absurd (omega arith)
take_set (x ∷ xs) zero v within = refl
take_set (x ∷ xs) (suc i) v within = ap (λ (u : List ℕ). x ∷ u) (take_set xs i v (omega arith))

length_set : (xs : List ℕ) (i v : ℕ) → length (set xs i v) ≡ length xs
length_set [] i v = refl
length_set (x ∷ xs) zero v = refl
length_set (x ∷ xs) (suc i) v = ap suc (length_set xs i v)

pub loop-i-init : goal.loop-i-init
loop-i-init g c = record { size = refl; so_far = sym (characters_none (length c.args.target.now) (g.R.PackedFe32.number c.args.row)) }

pub loop-i-preserved : goal.loop-i-preserved
loop-i-preserved g c =
    let number = g.R.PackedFe32.number c.args.row in
    let n : ℕ = length c.args.target.now in
    let i : ℕ = c.loop-i.i in
    let before = map char_of_element (reverse (drop (n - i) (digits n number))) in
    let digit : c.from_low_bits.result ≡ digit_of number (n - 1 - i) =
    c.from_low_bits.ensures ∙ ap element c.unpack.ensures.value ∙ element-digit_of number (n - 1 - i) in
    let is : c.character_of.result ≡ char_of_element (digit_of number (n - 1 - i)) = c.character_of.ensures ∙ ap char_of_element digit in
    let e : i + 1 ≡ suc i = omega arith in
    record {
      size = length_set c.loop-i.target i c.character_of.result ∙ c.loop-i.invariant.size;
      so_far =
          ap (λ (k : ℕ). take k (set c.loop-i.target i c.character_of.result)) e
          ∙ take_set c.loop-i.target i c.character_of.result (omega (arith, c.loop-i-test.true, c.loop-i.invariant.size))
          ∙ ap (λ (u : List ℕ). u ++ (c.character_of.result ∷ [])) c.loop-i.invariant.so_far
          ∙ ap (λ (x : ℕ). before ++ (x ∷ [])) is
          ∙ sym (characters_more n number i c.loop-i-test.true);
    }

pub returns : goal.returns
returns g c =
    let number = g.R.PackedFe32.number c.args.row in
    let n : ℕ = length c.args.target.now in
    let none : n - c.loop-i.i ≡ 0 = omega (arith, c.loop-i-test.false) in
    sym (take_all c.loop-i.i c.loop-i.target (omega (arith, c.loop-i-test.false, c.loop-i.invariant.size)))
    ∙ c.loop-i.invariant.so_far
    ∙ ap (λ (k : ℕ). map char_of_element (reverse (drop k (digits n number)))) none

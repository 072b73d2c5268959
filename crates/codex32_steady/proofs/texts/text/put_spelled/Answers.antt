use Rattle.std.proofs.Common.{◌≡◌, ◌∙◌, ◌++◌, ◌∷◌, [], ◌≤◌, List, ℕ, length, map, set, ap, take, refl, arith}
use Rattle.bech32_checksum.specs.Encoded.{char_of_element}
use Rattle.codex32_steady.proofs.texts.text.put_spelled.Goals as goal

front_three : (v : List ℕ) → 3 ≤ length v → take 3 (set (set (set v 0 109) 1 115) 2 49) ≡ 109 ∷ 115 ∷ 49 ∷ []
front_three [] h = absurd (omega (arith, h))
front_three (a ∷ []) h = absurd (omega (arith, h))
front_three (a ∷ b ∷ []) h = absurd (omega (arith, h))
front_three (a ∷ b ∷ c ∷ v) h = refl

pub returns : goal.returns
returns c =
    c.put_characters.ensures ∙ ap (λ (u : List ℕ). u ++ map char_of_element c.args.elements.now) (front_three c.args.text.now (omega (arith, c.requires)))

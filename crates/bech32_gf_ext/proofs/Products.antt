-- Products of pairs by three products, and of triples by six.
use Rattle.std.proofs.Common.{◌≡◌, ◌∙◌}
use Rattle.bech32_gf.specs.Field.{Ops, IsField}
use Rattle.bech32_gf.specs.laws.Ring.{ring}
use Rattle.bech32_gf_ext.specs.laws.CharacteristicTwo.{HasCharacteristicTwo, even_sums}
use Rattle.bech32_gf_ext.specs.Quadratic as quadratic
use Rattle.bech32_gf_ext.specs.Cubic as cubic

module _ {F : Type 0} {o : Ops F} (l : IsField o) (even : HasCharacteristicTwo o) where
  pair_middle : (a b c d : F)
      → o.add (o.mul (o.add a b) (o.add c d)) (o.mul a c) ≡ quadratic.product₁ o a b c d
  pair_middle a b c d = simp (quadratic.product₁, ring, even_sums, l, even)

  -- the places of a product of pairs, from the products of its low parts, its high parts and its sums
  pub pair_by_three : (a b c d p q r : F)
      → p ≡ o.mul a c → q ≡ o.mul b d → r ≡ o.mul (o.add a b) (o.add c d)
      → (o.add p q ≡ quadratic.product₀ o a b c d) × (o.add r p ≡ quadratic.product₁ o a b c d)
  pair_by_three a b c d p q r ep eq er =
      ((λ i. o.add (ep i) (eq i)), (λ i. o.add (er i) (ep i)) ∙ pair_middle a b c d)

  triple_low : (a b c d e f : F)
      → o.add (o.add (o.add (o.mul a d) (o.mul b e)) (o.mul c f)) (o.mul (o.add b c) (o.add e f))
      ≡ cubic.product₀ o a b c d e f
  triple_low a b c d e f = simp (cubic.product₀, cubic.cube, ring, even_sums, l, even)

  triple_middle : (a b c d e f : F)
      → o.add (o.add (o.mul a d) (o.mul (o.add a b) (o.add d e))) (o.mul (o.add b c) (o.add e f))
      ≡ cubic.product₁ o a b c d e f
  triple_middle a b c d e f = simp (cubic.product₁, cubic.linear, cubic.cube, ring, even_sums, l, even)

  triple_high : (a b c d e f : F)
      → o.add (o.add (o.mul a d) (o.mul b e)) (o.mul (o.add a c) (o.add d f))
      ≡ cubic.product₂ o a b c d e f
  triple_high a b c d e f = simp (cubic.product₂, cubic.square, ring, even_sums, l, even)

  -- the places of a product of triples, from the products of its parts and of the sums of two
  pub triple_by_six : (a b c d e f p q r s t u : F)
      → p ≡ o.mul a d → q ≡ o.mul b e → r ≡ o.mul c f
      → s ≡ o.mul (o.add a b) (o.add d e) → t ≡ o.mul (o.add a c) (o.add d f) → u ≡ o.mul (o.add b c) (o.add e f)
      → (o.add (o.add (o.add p q) r) u ≡ cubic.product₀ o a b c d e f)
      × (o.add (o.add p s) u ≡ cubic.product₁ o a b c d e f)
      × (o.add (o.add p q) t ≡ cubic.product₂ o a b c d e f)
  triple_by_six a b c d e f p q r s t u ep eq er es et eu = (
    (λ i. o.add (o.add (o.add (ep i) (eq i)) (er i)) (eu i)) ∙ triple_low a b c d e f,
    (λ i. o.add (o.add (ep i) (es i)) (eu i)) ∙ triple_middle a b c d e f,
    (λ i. o.add (o.add (ep i) (eq i)) (et i)) ∙ triple_high a b c d e f,
  )

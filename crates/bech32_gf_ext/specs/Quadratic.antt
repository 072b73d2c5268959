-- Pairs a + b z over a field in which each element is its own negative, with z^2 = z + 1.
use Rattle.std.specs.Prelude.{◌≡◌}
use Rattle.bech32_gf.specs.Field.{Ops, IsField}
use Rattle.bech32_gf.specs.laws.Ring.{ring}
use Rattle.bech32_gf_ext.specs.laws.CharacteristicTwo.{HasCharacteristicTwo, even_sums}

-- the places of the product of a + b z and c + d z, with z^2 replaced by z + 1
module _ {F : Type 0} (o : Ops F) where
  abbrev pub product₀ : F → F → F → F → F
  product₀ a b c d = o.add (o.mul a c) (o.mul b d)

  abbrev pub product₁ : F → F → F → F → F
  product₁ a b c d = o.add (o.add (o.mul a d) (o.mul b c)) (o.mul b d)

  -- the product of a + b z and its conjugate (a + b) + b z, which has no z
  abbrev pub norm : F → F → F
  norm a b = o.add (o.add (o.mul a a) (o.mul a b)) (o.mul b b)

module _ {F : Type 0} {o : Ops F} (l : IsField o) (even : HasCharacteristicTwo o) where
  pub assoc₀ : (a b c d e f : F)
      → product₀ o (product₀ o a b c d) (product₁ o a b c d) e f
      ≡ product₀ o a b (product₀ o c d e f) (product₁ o c d e f)
  assoc₀ a b c d e f = simp (product₀, product₁, ring, l)

  pub assoc₁ : (a b c d e f : F)
      → product₁ o (product₀ o a b c d) (product₁ o a b c d) e f
      ≡ product₁ o a b (product₀ o c d e f) (product₁ o c d e f)
  assoc₁ a b c d e f = simp (product₀, product₁, ring, even_sums, l, even)

  pub comm₀ : (a b c d : F) → product₀ o a b c d ≡ product₀ o c d a b
  comm₀ a b c d = simp (product₀, product₁, ring, l)

  pub comm₁ : (a b c d : F) → product₁ o a b c d ≡ product₁ o c d a b
  comm₁ a b c d = simp (product₀, product₁, ring, l)

  pub distrib₀ : (a b c d e f : F)
      → product₀ o a b (o.add c e) (o.add d f) ≡ o.add (product₀ o a b c d) (product₀ o a b e f)
  distrib₀ a b c d e f = simp (product₀, product₁, ring, l)

  pub distrib₁ : (a b c d e f : F)
      → product₁ o a b (o.add c e) (o.add d f) ≡ o.add (product₁ o a b c d) (product₁ o a b e f)
  distrib₁ a b c d e f = simp (product₀, product₁, ring, l)

  pub one₀ : (a b : F) → product₀ o a b o.one o.zero ≡ a
  one₀ a b = simp (product₀, product₁, ring, l)

  pub one₁ : (a b : F) → product₁ o a b o.one o.zero ≡ b
  one₁ a b = simp (product₀, product₁, ring, l)

  pub constant₀ : (a b : F) → product₀ o a o.zero b o.zero ≡ o.mul a b
  constant₀ a b = simp (product₀, product₁, ring, l)

  pub constant₁ : (a b : F) → product₁ o a o.zero b o.zero ≡ o.zero
  constant₁ a b = simp (product₀, product₁, ring, l)

  pub inverse₀ : (a b n : F)
      → product₀ o a b (o.mul (o.add a b) n) (o.mul b n) ≡ o.mul (norm o a b) n
  inverse₀ a b n = simp (product₀, product₁, norm, ring, l)

  pub inverse₁ : (a b n : F) → product₁ o a b (o.mul (o.add a b) n) (o.mul b n) ≡ o.zero
  inverse₁ a b n = simp (product₀, product₁, norm, ring, even_sums, l, even)

  pub conjugate₀ : (a b : F) → product₀ o a b (o.add a b) b ≡ norm o a b
  conjugate₀ a b = simp (product₀, product₁, norm, ring, l)

  pub conjugate₁ : (a b : F) → product₁ o a b (o.add a b) b ≡ o.zero
  conjugate₁ a b = simp (product₀, product₁, norm, ring, even_sums, l, even)

  pub square₁ : (a b : F) → product₁ o a b a b ≡ o.mul b b
  square₁ a b = simp (product₁, ring, even_sums, l, even)

-- Triples a + b z + c z^2 over a field in which each element is its own negative, with z^3 = z + 1.
use Rattle.std.specs.Prelude.{◌≡◌}
use Rattle.bech32_gf.specs.Field.{Ops, IsField}
use Rattle.bech32_gf.specs.laws.Ring.{ring}
use Rattle.bech32_gf_ext.specs.laws.CharacteristicTwo.{HasCharacteristicTwo, even_sums}

module _ {F : Type 0} (o : Ops F) where
  -- the coefficients of z^1 to z^4 in the product of a + b z + c z^2 and d + e z + f z^2
  abbrev pub linear : F → F → F → F → F
  linear a b d e = o.add (o.mul a e) (o.mul b d)

  abbrev pub square : F → F → F → F → F → F → F
  square a b c d e f = o.add (o.add (o.mul a f) (o.mul b e)) (o.mul c d)

  abbrev pub cube : F → F → F → F → F
  cube b c e f = o.add (o.mul b f) (o.mul c e)

  -- the places of that product, with z^3 replaced by z + 1 and z^4 by z^2 + z
  abbrev pub product₀ : F → F → F → F → F → F → F
  product₀ a b c d e f = o.add (o.mul a d) (cube b c e f)

  abbrev pub product₁ : F → F → F → F → F → F → F
  product₁ a b c d e f = o.add (o.add (linear a b d e) (cube b c e f)) (o.mul c f)

  abbrev pub product₂ : F → F → F → F → F → F → F
  product₂ a b c d e f = o.add (square a b c d e f) (o.mul c f)

  -- the places of the product of the conjugates a + (b + c) z + b z^2 and a + c z + (b + c) z^2
  abbrev pub adjugate₀ : F → F → F → F
  adjugate₀ a b c = o.add (o.add (o.add (o.mul a a) (o.mul b b)) (o.mul c c)) (o.mul b c)

  abbrev pub adjugate₁ : F → F → F → F
  adjugate₁ a b c = o.add (o.mul c c) (o.mul a b)

  abbrev pub adjugate₂ : F → F → F → F
  adjugate₂ a b c = o.add (o.add (o.mul b b) (o.mul c c)) (o.mul a c)

  -- the product of a + b z + c z^2 and its two conjugates, which has no z
  abbrev pub norm : F → F → F → F
  norm a b c = product₀ a b c (adjugate₀ a b c) (adjugate₁ a b c) (adjugate₂ a b c)

module _ {F : Type 0} {o : Ops F} (l : IsField o) (even : HasCharacteristicTwo o) where
  pub assoc₀ : (a b c d e f g h i : F)
      → product₀ o (product₀ o a b c d e f) (product₁ o a b c d e f) (product₂ o a b c d e f) g h i
      ≡ product₀ o a b c (product₀ o d e f g h i) (product₁ o d e f g h i) (product₂ o d e f g h i)
  assoc₀ a b c d e f g h i = simp (product₀, product₁, product₂, linear, square, cube, ring, l)

  pub assoc₁ : (a b c d e f g h i : F)
      → product₁ o (product₀ o a b c d e f) (product₁ o a b c d e f) (product₂ o a b c d e f) g h i
      ≡ product₁ o a b c (product₀ o d e f g h i) (product₁ o d e f g h i) (product₂ o d e f g h i)
  assoc₁ a b c d e f g h i =
      simp (product₀, product₁, product₂, linear, square, cube, ring, even_sums, l, even)

  pub assoc₂ : (a b c d e f g h i : F)
      → product₂ o (product₀ o a b c d e f) (product₁ o a b c d e f) (product₂ o a b c d e f) g h i
      ≡ product₂ o a b c (product₀ o d e f g h i) (product₁ o d e f g h i) (product₂ o d e f g h i)
  assoc₂ a b c d e f g h i = simp (product₀, product₁, product₂, linear, square, cube, ring, l)

  pub comm₀ : (a b c d e f : F) → product₀ o a b c d e f ≡ product₀ o d e f a b c
  comm₀ a b c d e f = simp (product₀, cube, ring, l)

  pub comm₁ : (a b c d e f : F) → product₁ o a b c d e f ≡ product₁ o d e f a b c
  comm₁ a b c d e f = simp (product₁, linear, cube, ring, l)

  pub comm₂ : (a b c d e f : F) → product₂ o a b c d e f ≡ product₂ o d e f a b c
  comm₂ a b c d e f = simp (product₂, square, ring, l)

  pub distrib₀ : (a b c d e f g h i : F)
      → product₀ o a b c (o.add d g) (o.add e h) (o.add f i)
      ≡ o.add (product₀ o a b c d e f) (product₀ o a b c g h i)
  distrib₀ a b c d e f g h i = simp (product₀, cube, ring, l)

  pub distrib₁ : (a b c d e f g h i : F)
      → product₁ o a b c (o.add d g) (o.add e h) (o.add f i)
      ≡ o.add (product₁ o a b c d e f) (product₁ o a b c g h i)
  distrib₁ a b c d e f g h i = simp (product₁, linear, cube, ring, l)

  pub distrib₂ : (a b c d e f g h i : F)
      → product₂ o a b c (o.add d g) (o.add e h) (o.add f i)
      ≡ o.add (product₂ o a b c d e f) (product₂ o a b c g h i)
  distrib₂ a b c d e f g h i = simp (product₂, square, ring, l)

  pub one₀ : (a b c : F) → product₀ o a b c o.one o.zero o.zero ≡ a
  one₀ a b c = simp (product₀, cube, ring, l)

  pub one₁ : (a b c : F) → product₁ o a b c o.one o.zero o.zero ≡ b
  one₁ a b c = simp (product₁, linear, cube, ring, l)

  pub one₂ : (a b c : F) → product₂ o a b c o.one o.zero o.zero ≡ c
  one₂ a b c = simp (product₂, square, ring, l)

  pub constant₀ : (a b : F) → product₀ o a o.zero o.zero b o.zero o.zero ≡ o.mul a b
  constant₀ a b = simp (product₀, cube, ring, l)

  pub constant₁ : (a b : F) → product₁ o a o.zero o.zero b o.zero o.zero ≡ o.zero
  constant₁ a b = simp (product₁, linear, cube, ring, l)

  pub constant₂ : (a b : F) → product₂ o a o.zero o.zero b o.zero o.zero ≡ o.zero
  constant₂ a b = simp (product₂, square, ring, l)

  pub inverse₀ : (a b c n : F)
      → product₀ o a b c (o.mul (adjugate₀ o a b c) n)
      (o.mul (adjugate₁ o a b c) n) (o.mul (adjugate₂ o a b c) n)
      ≡ o.mul (norm o a b c) n
  inverse₀ a b c n = simp (product₀, cube, norm, adjugate₀, adjugate₁, adjugate₂, ring, l)

  pub inverse₁ : (a b c n : F)
      → product₁ o a b c (o.mul (adjugate₀ o a b c) n)
      (o.mul (adjugate₁ o a b c) n) (o.mul (adjugate₂ o a b c) n)
      ≡ o.zero
  inverse₁ a b c n =
      simp (product₁, linear, cube, adjugate₀, adjugate₁, adjugate₂, ring, even_sums, l, even)

  pub inverse₂ : (a b c n : F)
      → product₂ o a b c (o.mul (adjugate₀ o a b c) n)
      (o.mul (adjugate₁ o a b c) n) (o.mul (adjugate₂ o a b c) n)
      ≡ o.zero
  inverse₂ a b c n =
      simp (product₂, square, adjugate₀, adjugate₁, adjugate₂, ring, even_sums, l, even)

  -- the product of the two conjugates
  pub conjugates₀ : (a b c : F) → product₀ o a (o.add b c) b a c (o.add b c) ≡ adjugate₀ o a b c
  conjugates₀ a b c = simp (product₀, cube, adjugate₀, ring, even_sums, l, even)

  pub conjugates₁ : (a b c : F) → product₁ o a (o.add b c) b a c (o.add b c) ≡ adjugate₁ o a b c
  conjugates₁ a b c = simp (product₁, linear, cube, adjugate₁, ring, even_sums, l, even)

  pub conjugates₂ : (a b c : F) → product₂ o a (o.add b c) b a c (o.add b c) ≡ adjugate₂ o a b c
  conjugates₂ a b c = simp (product₂, square, adjugate₂, ring, even_sums, l, even)

  pub norm₁ : (a b c : F)
      → product₁ o a b c (adjugate₀ o a b c) (adjugate₁ o a b c) (adjugate₂ o a b c) ≡ o.zero
  norm₁ a b c =
      simp (product₁, linear, cube, adjugate₀, adjugate₁, adjugate₂, ring, even_sums, l, even)

  pub norm₂ : (a b c : F)
      → product₂ o a b c (adjugate₀ o a b c) (adjugate₁ o a b c) (adjugate₂ o a b c) ≡ o.zero
  norm₂ a b c = simp (product₂, square, adjugate₀, adjugate₁, adjugate₂, ring, even_sums, l, even)

  pub square₀ : (a b c : F) → product₀ o a b c a b c ≡ o.mul a a
  square₀ a b c = simp (product₀, cube, ring, even_sums, l, even)

  pub square₁ : (a b c : F) → product₁ o a b c a b c ≡ o.mul c c
  square₁ a b c = simp (product₁, linear, cube, ring, even_sums, l, even)

  pub square₂ : (a b c : F) → product₂ o a b c a b c ≡ o.add (o.mul b b) (o.mul c c)
  square₂ a b c = simp (product₂, square, ring, even_sums, l, even)

  -- the norm of a multiple
  pub norm-multiple : (a b c n : F)
      → norm o (o.mul n a) (o.mul n b) (o.mul n c) ≡ o.mul (norm o a b c) (o.mul n (o.mul n n))
  norm-multiple a b c n = simp (product₀, cube, norm, adjugate₀, adjugate₁, adjugate₂, ring, l)

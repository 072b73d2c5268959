-- The field of 1024 elements keeps the laws of a field, and GF(32) is embedded in it.
use Rattle.std.specs.Prelude.{◌≡◌, ◌≢◌, ◌<◌, ◌+◌, ◌==◌, ◌||◌, Bool, true, false, List, [], ◌∷◌}
use Rattle.std.specs.Prelude.{length, slice_index_or, nat_lt, Some, None, replicate, if◌then◌else◌}
use Rattle.std.proofs.Common.{refl, ap, sym, ◌∙◌, arith, ⊎_elim}
use Rattle.std.proofs.lemmas.Bool.{eqb-true, ltb-true, or_cases}
use Rattle.bech32_gf.specs.Field.{IsField, IsCharacteristic, power}
use Rattle.bech32_gf.specs.laws.Below.{each_below-at₂}
use Rattle.bech32_gf_ext.specs.laws.CharacteristicTwo as even_field
use Rattle.bech32_gf_ext.specs.laws.Nonzero.{norm₂, norm₂-not_zero}
use Rattle.bech32_gf_ext.specs.Quadratic as quadratic
use Rattle.bech32_gf.specs.Fe32 as fe32
use Rattle.bech32_gf.specs.laws.Fe32Laws as fe32_laws
use Rattle.bech32_gf_ext.specs.laws.Fe32Squares.{even}
use Rattle.bech32_gf_ext.specs.Fe32Ext.{path, path_of_values}
use Rattle.bech32_gf_ext.specs.Fe1024 as fe1024
use Rattle.bech32_gf_ext.specs.Fe1024.{pair, low, high, norm, embed, retract, add, mul, inv}
use Rattle.bech32_gf.specs.Gf32.{product}
use Rattle.bech32_gf.specs.declared.gf32.Fe32.{Fe32}
use Rattle.bech32_gf_ext.specs.declared.Fe32Ext.{Fe32Ext}

two : (xs : List Fe32) → length xs ≡ 2
    → xs ≡ slice_index_or xs 0 fe32.zero ∷ slice_index_or xs 1 fe32.zero ∷ []
two [] h = absurd (omega arith)
two (x ∷ []) h = absurd (omega arith)
two (x ∷ y ∷ []) h = refl
two (x ∷ y ∷ z ∷ rest) h = absurd (omega arith)

-- an element is the pair of its coefficients
pub parts : (x : Fe32Ext 2) → pair (low x) (high x) ≡ x
parts x = path (pair (low x) (high x)) x (sym (two x.inner x.full))

pub same_parts : {a b c d : Fe32} → a ≡ c → b ≡ d → pair a b ≡ pair c d
same_parts p q = λ i. pair (p i) (q i)

pub same_or_not : (x y : Fe32Ext 2) → Dec (x ≡ y)
same_or_not x y =
    decided (fe32_laws.is_field.same_or_not (low x) (low y))
    (fe32_laws.is_field.same_or_not (high x) (high y))
  where
    decided : Dec (low x ≡ low y) → Dec (high x ≡ high y) → Dec (x ≡ y)
    decided (yes a) (yes b) = yes (sym (parts x) ∙ same_parts a b ∙ parts y)
    decided (yes a) (no b) = no (λ e. b (ap high e))
    decided (no a) d = no (λ e. a (ap low e))

positive_norm : (a b : Fe32) → (a.value + b.value ≢ 0) → 0 < norm₂ a.value b.value
positive_norm a b h =
    ⊎_elim
    (λ (none : (a.value + b.value == 0) ≡ true). absurd (h (eqb-true (a.value + b.value) 0 none)))
    (λ (some : nat_lt 0 (norm₂ a.value b.value) ≡ true). ltb-true 0 (norm₂ a.value b.value) some)
    (or_cases (a.value + b.value == 0) (nat_lt 0 (norm₂ a.value b.value))
    (each_below-at₂ 32 (λ a b. (a + b == 0) || nat_lt 0 (norm₂ a b))
    norm₂-not_zero a.value b.value a.in_field b.in_field))

-- the norm of an element other than zero is not zero
pub norm-not_zero : (x : Fe32Ext 2) → x ≢ fe1024.zero → norm x ≢ fe32.zero
norm-not_zero x h e =
    let some : (low x).value + (high x).value ≢ 0 =
    λ s.
    let a : (low x).value ≡ 0 = omega arith in
    let b : (high x).value ≡ 0 = omega arith in
    h (sym (parts x)
    ∙ same_parts (fe32.path (low x) fe32.zero a) (fe32.path (high x) fe32.zero b)) in
    let positive : 0 < norm₂ (low x).value (high x).value = positive_norm (low x) (high x) some in
    let none : norm₂ (low x).value (high x).value ≡ 0 = ap (λ (y : Fe32). y.value) e in
    omega arith

pub is_field : IsField fe1024.ops
unfolding add mul inv
is_field = record {
  add_assoc = λ x y z.
      same_parts (fe32_laws.is_field.add_assoc (low x) (low y) (low z))
      (fe32_laws.is_field.add_assoc (high x) (high y) (high z));
  add_comm = λ x y.
      same_parts (fe32_laws.is_field.add_comm (low x) (low y))
      (fe32_laws.is_field.add_comm (high x) (high y));
  add_zero = λ x.
      same_parts (fe32_laws.is_field.add_zero (low x)) (fe32_laws.is_field.add_zero (high x))
      ∙ parts x;
  add_neg = λ x. same_parts (even (low x)) (even (high x));
  mul_assoc = λ x y z. same_parts
      (quadratic.assoc₀ fe32_laws.is_field even (low x) (high x) (low y) (high y) (low z) (high z))
      (quadratic.assoc₁ fe32_laws.is_field even (low x) (high x) (low y) (high y) (low z) (high z));
  mul_comm = λ x y. same_parts
      (quadratic.comm₀ fe32_laws.is_field even (low x) (high x) (low y) (high y))
      (quadratic.comm₁ fe32_laws.is_field even (low x) (high x) (low y) (high y));
  mul_one = λ x. same_parts
      (quadratic.one₀ fe32_laws.is_field even (low x) (high x))
      (quadratic.one₁ fe32_laws.is_field even (low x) (high x)) ∙ parts x;
  distrib = λ x y z. same_parts
      (quadratic.distrib₀ fe32_laws.is_field even
      (low x) (high x) (low y) (high y) (low z) (high z))
      (quadratic.distrib₁ fe32_laws.is_field even
      (low x) (high x) (low y) (high y) (low z) (high z));
  mul_inv = λ x h. same_parts
      (quadratic.inverse₀ fe32_laws.is_field even (low x) (high x) (fe32.inv (norm x))
      ∙ fe32_laws.is_field.mul_inv (norm x) (norm-not_zero x h))
      (quadratic.inverse₁ fe32_laws.is_field even (low x) (high x) (fe32.inv (norm x)));
  one_not_zero = λ h. fe32_laws.is_field.one_not_zero (ap low h);
  same_or_not = same_or_not;
}

-- the embedding keeps sums and products
pub embed-add : (a b : Fe32) → embed (fe32.add a b) ≡ add (embed a) (embed b)
unfolding add
embed-add a b = same_parts refl (sym (fe32_laws.is_field.add_zero fe32.zero))

pub embed-mul : (a b : Fe32) → embed (fe32.mul a b) ≡ mul (embed a) (embed b)
unfolding mul
embed-mul a b =
    same_parts (sym (quadratic.constant₀ fe32_laws.is_field even a b))
    (sym (quadratic.constant₁ fe32_laws.is_field even a b))

pub retract-embed : (a : Fe32) → retract (embed a) ≡ Some a
retract-embed a = refl

pub embed-retract : (a : Fe32) (x : Fe32Ext 2) → retract x ≡ Some a → embed a ≡ x
embed-retract a x h = by_test ((high x).value == 0) refl h
  where
    by_test : (b : Bool) → ((high x).value == 0) ≡ b → (if b then Some (low x) else None) ≡ Some a
        → embed a ≡ x
    by_test true none same =
        let first : a ≡ low x = cc in
        same_parts first (sym (fe32.path (high x) fe32.zero (eqb-true (high x).value 0 none)))
        ∙ parts x
    by_test false some same = cc

-- z to the degree is z + 1
pub power-ext_elem : power fe1024.ops fe1024.ext_elem 2 ≡ fe1024.polynomial
unfolding power mul product
power-ext_elem = path_of_values (power fe1024.ops fe1024.ext_elem 2) fe1024.polynomial refl

-- what `default` gives is zero
pub default_is_zero : (x : Fe32Ext 2) → x.inner ≡ replicate 2 fe32.zero → x ≡ fe1024.zero
default_is_zero x h = path x fe1024.zero h

pub characteristic : IsCharacteristic fe1024.ops 2
characteristic = even_field.characteristic is_field is_field.add_neg

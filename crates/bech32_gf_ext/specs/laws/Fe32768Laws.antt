-- The field of 32768 elements keeps the laws of a field, and GF(32) is embedded in it.
use Rattle.std.specs.Prelude.{◌≡◌, ◌≢◌, ◌<◌, ◌==◌, ◌&&◌, Bool, true, false, List, [], ◌∷◌, length}
use Rattle.std.specs.Prelude.{slice_index_or, nat_lt, Some, None, replicate, if◌then◌else◌}
use Rattle.std.proofs.Common.{refl, ap, sym, ◌∙◌, arith}
use Rattle.std.proofs.lemmas.Bool.{eqb-true, ltb-true, and_parts}
use Rattle.bech32_gf.specs.Field.{IsField, IsCharacteristic, power}
use Rattle.bech32_gf.specs.laws.Below.{each_below-at, each_below-at₂}
use Rattle.bech32_gf_ext.specs.laws.CharacteristicTwo as even_field
use Rattle.bech32_gf_ext.specs.laws.Nonzero.{norm₃, norm₃-monic₂, norm₃-monic₁, norm₃-monic₀}
use Rattle.bech32_gf.specs.laws.Ring as ring
use Rattle.bech32_gf_ext.specs.Cubic as cubic
use Rattle.bech32_gf.specs.Fe32 as fe32
use Rattle.bech32_gf.specs.laws.Fe32Laws as fe32_laws
use Rattle.bech32_gf_ext.specs.laws.Fe32Squares.{even}
use Rattle.bech32_gf_ext.specs.Fe32Ext.{path, path_of_values}
use Rattle.bech32_gf_ext.specs.Fe32768 as fe32768
use Rattle.bech32_gf_ext.specs.Fe32768.{triple, low, middle, high, norm}
use Rattle.bech32_gf_ext.specs.Fe32768.{embed, retract, add, mul, inv}
use Rattle.bech32_gf.specs.Gf32.{product}
use Rattle.bech32_gf.specs.declared.gf32.Fe32.{Fe32}
use Rattle.bech32_gf_ext.specs.declared.Fe32Ext.{Fe32Ext}

three : (xs : List Fe32) → length xs ≡ 3
    → xs ≡ slice_index_or xs 0 fe32.zero ∷ slice_index_or xs 1 fe32.zero
    ∷ slice_index_or xs 2 fe32.zero ∷ []
three [] h = absurd (omega arith)
three (x ∷ []) h = absurd (omega arith)
three (x ∷ y ∷ []) h = absurd (omega arith)
three (x ∷ y ∷ z ∷ []) h = refl
three (x ∷ y ∷ z ∷ w ∷ rest) h = absurd (omega arith)

-- an element is the triple of its coefficients
pub parts : (x : Fe32Ext 3) → triple (low x) (middle x) (high x) ≡ x
parts x = path (triple (low x) (middle x) (high x)) x (sym (three x.inner x.full))

pub same_parts : {a b c d e f : Fe32} → a ≡ d → b ≡ e → c ≡ f → triple a b c ≡ triple d e f
same_parts p q r = λ i. triple (p i) (q i) (r i)

pub same_or_not : (x y : Fe32Ext 3) → Dec (x ≡ y)
same_or_not x y =
    decided (fe32_laws.is_field.same_or_not (low x) (low y))
    (fe32_laws.is_field.same_or_not (middle x) (middle y))
    (fe32_laws.is_field.same_or_not (high x) (high y))
  where
    decided : Dec (low x ≡ low y) → Dec (middle x ≡ middle y) → Dec (high x ≡ high y) → Dec (x ≡ y)
    decided (yes a) (yes b) (yes c) = yes (sym (parts x) ∙ same_parts a b c ∙ parts y)
    decided (yes a) (yes b) (no c) = no (λ e. c (ap high e))
    decided (yes a) (no b) c = no (λ e. b (ap middle e))
    decided (no a) b c = no (λ e. a (ap low e))

-- a norm is not zero where that of a multiple is not
not_zero-by_multiple : (a b c n : Fe32)
    → cubic.norm fe32.ops (fe32.mul n a) (fe32.mul n b) (fe32.mul n c) ≢ fe32.zero
    → cubic.norm fe32.ops a b c ≢ fe32.zero
not_zero-by_multiple a b c n h e =
    h (cubic.norm-multiple fe32_laws.is_field even a b c n
    ∙ ap (λ (w : Fe32). fe32.mul w (fe32.mul n (fe32.mul n n))) e
    ∙ ring.zero_mul fe32_laws.is_field (fe32.mul n (fe32.mul n n)))

monic₂ : (a b : Fe32) → cubic.norm fe32.ops a b fe32.one ≢ fe32.zero
monic₂ a b e =
    let positive : 0 < norm₃ a.value b.value 1 =
    ltb-true 0 (norm₃ a.value b.value 1)
    (each_below-at₂ 32 (λ a b. nat_lt 0 (norm₃ a b 1))
    norm₃-monic₂ a.value b.value a.in_field b.in_field) in
    let none : norm₃ a.value b.value 1 ≡ 0 = ap (λ (y : Fe32). y.value) e in
    omega arith

monic₁ : (a : Fe32) → cubic.norm fe32.ops a fe32.one fe32.zero ≢ fe32.zero
monic₁ a e =
    let positive : 0 < norm₃ a.value 1 0 =
    ltb-true 0 (norm₃ a.value 1 0)
    (each_below-at 32 (λ a. nat_lt 0 (norm₃ a 1 0)) norm₃-monic₁ a.value a.in_field) in
    let none : norm₃ a.value 1 0 ≡ 0 = ap (λ (y : Fe32). y.value) e in
    omega arith

monic₀ : cubic.norm fe32.ops fe32.one fe32.zero fe32.zero ≢ fe32.zero
monic₀ e =
    let positive : 0 < norm₃ 1 0 0 = ltb-true 0 (norm₃ 1 0 0) norm₃-monic₀ in
    let none : norm₃ 1 0 0 ≡ 0 = ap (λ (y : Fe32). y.value) e in
    omega arith

-- the inverse of an element other than zero times it
inv-mul : (x : Fe32) → x ≢ fe32.zero → fe32.mul (fe32.inv x) x ≡ fe32.one
inv-mul x h = fe32_laws.is_field.mul_comm (fe32.inv x) x ∙ fe32_laws.is_field.mul_inv x h

-- the norm of an element other than zero is not zero
pub norm-not_zero : (x : Fe32Ext 3) → x ≢ fe32768.zero → norm x ≢ fe32.zero
norm-not_zero x h =
    by_last
    (fe32_laws.is_field.same_or_not (low x) fe32.zero)
    (fe32_laws.is_field.same_or_not (middle x) fe32.zero)
    (fe32_laws.is_field.same_or_not (high x) fe32.zero)
  where
    by_last : Dec (low x ≡ fe32.zero) → Dec (middle x ≡ fe32.zero) → Dec (high x ≡ fe32.zero)
        → norm x ≢ fe32.zero
    by_last a b (no some) =
        let n = fe32.inv (high x) in
        not_zero-by_multiple (low x) (middle x) (high x) n
        (λ e. monic₂ (fe32.mul n (low x)) (fe32.mul n (middle x))
        (ap (cubic.norm fe32.ops (fe32.mul n (low x)) (fe32.mul n (middle x)))
        (sym (inv-mul (high x) some)) ∙ e))
    by_last a (no some) (yes c) =
        let n = fe32.inv (middle x) in
        not_zero-by_multiple (low x) (middle x) (high x) n
        (λ e. monic₁ (fe32.mul n (low x))
        ((λ i. cubic.norm fe32.ops (fe32.mul n (low x)) (sym (inv-mul (middle x) some) i)
        (sym (ap (fe32.mul n) c ∙ ring.mul_zero fe32_laws.is_field n) i)) ∙ e))
    by_last (no some) (yes b) (yes c) =
        let n = fe32.inv (low x) in
        not_zero-by_multiple (low x) (middle x) (high x) n
        (λ e. monic₀
        ((λ i. cubic.norm fe32.ops (sym (inv-mul (low x) some) i)
        (sym (ap (fe32.mul n) b ∙ ring.mul_zero fe32_laws.is_field n) i)
        (sym (ap (fe32.mul n) c ∙ ring.mul_zero fe32_laws.is_field n) i)) ∙ e))
    by_last (yes a) (yes b) (yes c) = absurd (h (sym (parts x) ∙ same_parts a b c))

pub is_field : IsField fe32768.ops
unfolding add mul inv
is_field = record {
  add_assoc = λ x y z. same_parts
      (fe32_laws.is_field.add_assoc (low x) (low y) (low z))
      (fe32_laws.is_field.add_assoc (middle x) (middle y) (middle z))
      (fe32_laws.is_field.add_assoc (high x) (high y) (high z));
  add_comm = λ x y. same_parts
      (fe32_laws.is_field.add_comm (low x) (low y))
      (fe32_laws.is_field.add_comm (middle x) (middle y))
      (fe32_laws.is_field.add_comm (high x) (high y));
  add_zero = λ x. same_parts
      (fe32_laws.is_field.add_zero (low x))
      (fe32_laws.is_field.add_zero (middle x))
      (fe32_laws.is_field.add_zero (high x)) ∙ parts x;
  add_neg = λ x. same_parts (even (low x)) (even (middle x)) (even (high x));
  mul_assoc = λ x y z. same_parts
      (cubic.assoc₀ fe32_laws.is_field even
      (low x) (middle x) (high x) (low y) (middle y) (high y) (low z) (middle z) (high z))
      (cubic.assoc₁ fe32_laws.is_field even
      (low x) (middle x) (high x) (low y) (middle y) (high y) (low z) (middle z) (high z))
      (cubic.assoc₂ fe32_laws.is_field even
      (low x) (middle x) (high x) (low y) (middle y) (high y) (low z) (middle z) (high z));
  mul_comm = λ x y. same_parts
      (cubic.comm₀ fe32_laws.is_field even (low x) (middle x) (high x) (low y) (middle y) (high y))
      (cubic.comm₁ fe32_laws.is_field even (low x) (middle x) (high x) (low y) (middle y) (high y))
      (cubic.comm₂ fe32_laws.is_field even (low x) (middle x) (high x) (low y) (middle y) (high y));
  mul_one = λ x. same_parts
      (cubic.one₀ fe32_laws.is_field even (low x) (middle x) (high x))
      (cubic.one₁ fe32_laws.is_field even (low x) (middle x) (high x))
      (cubic.one₂ fe32_laws.is_field even (low x) (middle x) (high x)) ∙ parts x;
  distrib = λ x y z. same_parts
      (cubic.distrib₀ fe32_laws.is_field even
      (low x) (middle x) (high x) (low y) (middle y) (high y) (low z) (middle z) (high z))
      (cubic.distrib₁ fe32_laws.is_field even
      (low x) (middle x) (high x) (low y) (middle y) (high y) (low z) (middle z) (high z))
      (cubic.distrib₂ fe32_laws.is_field even
      (low x) (middle x) (high x) (low y) (middle y) (high y) (low z) (middle z) (high z));
  mul_inv = λ x h. same_parts
      (cubic.inverse₀ fe32_laws.is_field even (low x) (middle x) (high x) (fe32.inv (norm x))
      ∙ fe32_laws.is_field.mul_inv (norm x) (norm-not_zero x h))
      (cubic.inverse₁ fe32_laws.is_field even (low x) (middle x) (high x) (fe32.inv (norm x)))
      (cubic.inverse₂ fe32_laws.is_field even (low x) (middle x) (high x) (fe32.inv (norm x)));
  one_not_zero = λ h. fe32_laws.is_field.one_not_zero (ap low h);
  same_or_not = same_or_not;
}

-- the embedding keeps sums and products
pub embed-add : (a b : Fe32) → embed (fe32.add a b) ≡ add (embed a) (embed b)
unfolding add
embed-add a b =
    same_parts refl (sym (fe32_laws.is_field.add_zero fe32.zero))
    (sym (fe32_laws.is_field.add_zero fe32.zero))

pub embed-mul : (a b : Fe32) → embed (fe32.mul a b) ≡ mul (embed a) (embed b)
unfolding mul
embed-mul a b =
    same_parts (sym (cubic.constant₀ fe32_laws.is_field even a b))
    (sym (cubic.constant₁ fe32_laws.is_field even a b))
    (sym (cubic.constant₂ fe32_laws.is_field even a b))

pub retract-embed : (a : Fe32) → retract (embed a) ≡ Some a
retract-embed a = refl

pub embed-retract : (a : Fe32) (x : Fe32Ext 3) → retract x ≡ Some a → embed a ≡ x
embed-retract a x h = by_test ((middle x).value == 0 && (high x).value == 0) refl h
  where
    by_test : (b : Bool) → ((middle x).value == 0 && (high x).value == 0) ≡ b
        → (if b then Some (low x) else None) ≡ Some a → embed a ≡ x
    by_test true none same =
        let first : a ≡ low x = cc in
        let both = and_parts ((middle x).value == 0) ((high x).value == 0) none in
        same_parts first
        (sym (fe32.path (middle x) fe32.zero (eqb-true (middle x).value 0 both.0)))
        (sym (fe32.path (high x) fe32.zero (eqb-true (high x).value 0 both.1)))
        ∙ parts x
    by_test false some same = cc

-- z to the degree is z + 1
pub power-ext_elem : power fe32768.ops fe32768.ext_elem 3 ≡ fe32768.polynomial
unfolding power mul product
power-ext_elem = path_of_values (power fe32768.ops fe32768.ext_elem 3) fe32768.polynomial refl

-- what `default` gives is zero
pub default_is_zero : (x : Fe32Ext 3) → x.inner ≡ replicate 3 fe32.zero → x ≡ fe32768.zero
default_is_zero x h = path x fe32768.zero h

pub characteristic : IsCharacteristic fe32768.ops 2
characteristic = even_field.characteristic is_field is_field.add_neg

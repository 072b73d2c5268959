-- What a remainder of one term is at the three roots.
use Rattle.std.proofs.Common.{◌≡◌, ◌≢◌, ◌⊎◌, inl, inr, ℕ, ◌+◌, ◌*◌, ◌<◌, List, length, sym, ap, ◌∙◌, refl, arith}
use Rattle.bech32_gf.specs.Field.{power}
use Rattle.bech32_gf.specs.Fe32 as fe32
use Rattle.bech32_gf.specs.laws.Fe32Laws as fe32_laws
use Rattle.bech32_gf.specs.laws.FieldLaws.{one_mul, power-suc, power-zero, power-mul, power-of_product, power-of_one}
use Rattle.bech32_gf.specs.laws.Orders.{power-map}
use Rattle.bech32_gf.specs.laws.Ring.{ring}
use Rattle.bech32_gf.specs.declared.gf32.Fe32.{Fe32}
use Rattle.bech32_gf_ext.specs.Fe1024 as fe1024
use Rattle.bech32_gf_ext.specs.Fe1024.{add, mul, embed}
use Rattle.bech32_gf_ext.specs.laws.Fe1024Laws.{is_field, embed-add, embed-mul}
use Rattle.bech32_gf_ext.specs.declared.Fe32Ext.{Fe32Ext}
use Rattle.bech32_poly.specs.Division.{zeros}
use Rattle.bech32_poly.specs.Embedding.{Embeds, value_in}
use Rattle.bech32_poly.specs.Pattern.{monomial}
use Rattle.bech32_poly.specs.Polynomial as polynomial
use Rattle.bech32_poly.specs.Remainder.{monic}
use Rattle.bech32_poly.proofs.Embedding.{value_in-add, root_of_generator}
use Rattle.bech32_poly.proofs.PatternSums.{value_in-monomial}
use Rattle.bech32_poly.proofs.Zero.{power-swap}
use Rattle.bech32_bch.proofs.Usable.{usable}
use Rattle.bech32_checksum.specs.Code.{bech32}
use Rattle.bech32_checksum.specs.laws.RootLaws.{base, base-order, bech32_roots}
use Rattle.bech32_detect.specs.Rows.{term}
use Rattle.bech32_detect.proofs.FourTerms.{IsTerm, term-zero}
use Rattle.bech32_detect.proofs.Gaps.{base_not_zero, locator, unit}

abbrev pub generator : List Fe32
generator = bech32.generator

pub into : Embeds fe32.ops fe1024.ops embed
into = record { one = refl; add = embed-add; mul = embed-mul }

-- the value of a remainder at a power of the base
abbrev pub value : List Fe32 → ℕ → Fe32Ext 2
value r e = value_in fe1024.ops embed r (power fe1024.ops base e)

root : (t : ℕ) → t < 3 → value_in fe1024.ops embed (monic fe32.ops generator) (power fe1024.ops base (24 + t)) ≡ fe1024.zero
root t h =
    (usable fe32.ops fe1024.ops embed refl base 24 26 1023 1023 generator base_not_zero base-order (omega arith) (omega arith) (omega arith) (bech32_roots (omega arith)).are_roots).roots t h

pub value-term : (i : ℕ) (v : Fe32) (t : ℕ) → t < 3 → value (term fe32.ops generator i v) (24 + t) ≡ mul (embed v) (power fe1024.ops (locator i) (24 + t))
value-term i v t h =
    root_of_generator fe32_laws.is_field is_field into generator (monomial fe32.ops i v) (power fe1024.ops base (24 + t)) (root t h)
    ∙ value_in-monomial fe32_laws.is_field is_field into i v (power fe1024.ops base (24 + t))
    ∙ ap (mul (embed v)) (power-swap is_field base (24 + t) i)

pub value-sum : (p q : List Fe32) (e : ℕ) → value (polynomial.add fe32.ops p q) e ≡ add (value p e) (value q e)
value-sum p q e = value_in-add fe32_laws.is_field is_field into p q (power fe1024.ops base e)

one_at : (x : Fe32Ext 2) (e : ℕ) → x ≡ fe1024.one → power fe1024.ops x e ≡ fe1024.one
one_at x e h = ap (λ u. power fe1024.ops u e) h ∙ power-of_one is_field e

pub value-one : (t : ℕ) → t < 3 → value (term fe32.ops generator 0 fe32.one) (24 + t) ≡ fe1024.one
value-one t h =
    value-term 0 fe32.one t h
    ∙ one_mul is_field (power fe1024.ops (locator 0) (24 + t))
    ∙ one_at (locator 0) (24 + t) (power-zero is_field base)

-- an amount at a location above 0 and below 89
pub record IsAt (amount at : Fe32Ext 2) : Type 0 where
  pub location : ℕ
  pub positive : 0 < location
  pub below : location < 89
  pub place : at ≡ locator location
  pub unit_power : power fe1024.ops amount 31 ≡ unit (24 * location)

-- the remainder's values at the three roots; the amount may be none
pub record IsValued (r : List Fe32) : Type 0 where
  pub amount : Fe32Ext 2
  pub at : Fe32Ext 2
  pub zeroth : value r 24 ≡ amount
  pub first : value r 25 ≡ mul amount at
  pub second : value r 26 ≡ mul amount (mul at at)
  pub kind : ((amount ≡ fe1024.zero) × (at ≡ fe1024.zero)) ⊎ IsAt amount at

nothing_times : (x : Fe32Ext 2) → mul fe1024.zero x ≡ fe1024.zero
nothing_times x = is_field.mul_comm fe1024.zero x ∙ times_nothing x
  where
    times_nothing : (x : Fe32Ext 2) → fe1024.ops.mul x fe1024.ops.zero ≡ fe1024.ops.zero
    times_nothing x = simp (ring, is_field)

no_value : (r : List Fe32) → r ≡ zeros fe32.ops (length generator) → (t : ℕ) → t < 3 → value r (24 + t) ≡ fe1024.zero
no_value r e t h =
    ap (λ u. value u (24 + t)) (e ∙ sym (term-zero fe32_laws.is_field generator 0))
    ∙ value-term 0 fe32.zero t h
    ∙ nothing_times (power fe1024.ops (locator 0) (24 + t))

valued_none : (r : List Fe32) → r ≡ zeros fe32.ops (length generator) → IsValued r
valued_none r e = record {
  amount = fe1024.zero;
  at = fe1024.zero;
  zeroth = no_value r e 0 (omega arith);
  first = no_value r e 1 (omega arith) ∙ sym (nothing_times fe1024.zero);
  second = no_value r e 2 (omega arith) ∙ sym (nothing_times (mul fe1024.zero fe1024.zero));
  kind = inl (refl, refl);
}

unit_of_value : (v : Fe32) → v ≢ fe32.zero → power fe1024.ops (embed v) 31 ≡ fe1024.one
unit_of_value v n =
    sym (power-map fe32.ops fe1024.ops embed refl embed-mul v 31)
    ∙ ap embed (fe32_laws.power-order v n)

amount_power : (i : ℕ) (v : Fe32) → v ≢ fe32.zero → power fe1024.ops (mul (embed v) (power fe1024.ops (locator i) 24)) 31 ≡ unit (24 * i)
amount_power i v n =
    let turn : (i * 24) * 31 ≡ 31 * (24 * i) = omega arith in
    power-of_product is_field (embed v) (power fe1024.ops (locator i) 24) 31
    ∙ ap (λ u. mul u (power fe1024.ops (power fe1024.ops (locator i) 24) 31)) (unit_of_value v n)
    ∙ one_mul is_field (power fe1024.ops (power fe1024.ops (locator i) 24) 31)
    ∙ ap (λ u. power fe1024.ops u 31) (sym (power-mul is_field base i 24))
    ∙ sym (power-mul is_field base (i * 24) 31)
    ∙ ap (power fe1024.ops base) turn

raised : (v x p q : Fe32Ext 2) → q ≡ mul x p → mul v q ≡ mul (mul v p) x
raised v x p q e = ap (mul v) (e ∙ is_field.mul_comm x p) ∙ sym (is_field.mul_assoc v p x)

valued_term : (r : List Fe32) → IsTerm fe32.ops generator 89 r → IsValued r
valued_term r h = record {
  amount = amount;
  at = x;
  zeroth = is 0 (omega arith);
  first = first;
  second = is 2 (omega arith) ∙ raised v x (power fe1024.ops x 25) _ (power-suc is_field x 25) ∙ ap (λ u. mul u x) (sym (is 1 (omega arith)) ∙ first) ∙ is_field.mul_assoc amount x x;
  kind = inr (record { location = h.location; positive = h.positive; below = h.below; place = refl; unit_power = amount_power h.location h.value h.not_zero });
}
  where
    v : Fe32Ext 2
    v = embed h.value

    x : Fe32Ext 2
    x = locator h.location

    amount : Fe32Ext 2
    amount = mul v (power fe1024.ops x 24)

    is : (t : ℕ) → t < 3 → value r (24 + t) ≡ mul v (power fe1024.ops x (24 + t))
    is t k = ap (λ u. value u (24 + t)) h.is ∙ value-term h.location h.value t k

    first : value r 25 ≡ mul amount x
    first = is 1 (omega arith) ∙ raised v x (power fe1024.ops x 24) _ (power-suc is_field x 24)

pub valued : (r : List Fe32) → (r ≡ zeros fe32.ops (length generator)) ⊎ IsTerm fe32.ops generator 89 r → IsValued r
valued r (inl e) = valued_none r e
valued r (inr h) = valued_term r h

-- Four errors below 89 are detected by the generator of Bech32 and Bech32m.
use Rattle.std.specs.List.{AllByRecursion}
use Rattle.std.proofs.Common.{◌≡◌, ◌≢◌, ◌⊎◌, inl, inr, ℕ, ◌+◌, ◌*◌, ◌<◌, ◌≤◌, List, [], ◌∷◌, length, sym, ap, ◌∙◌, refl, arith}
use Rattle.bech32_gf.specs.Field.{power}
use Rattle.bech32_gf.specs.Fe32 as fe32
use Rattle.bech32_gf.specs.laws.Fe32Laws as fe32_laws
use Rattle.bech32_gf.specs.laws.FieldLaws.{power-zero, power-of_product}
use Rattle.bech32_gf.specs.laws.Ring.{mul_zero}
use Rattle.bech32_gf.specs.declared.gf32.Fe32.{Fe32}
use Rattle.bech32_gf_ext.specs.Fe1024 as fe1024
use Rattle.bech32_gf_ext.specs.Fe1024.{add, mul, embed}
use Rattle.bech32_gf_ext.specs.laws.Fe1024Laws.{is_field}
use Rattle.bech32_gf_ext.specs.declared.Fe32Ext.{Fe32Ext}
use Rattle.bech32_poly.specs.Division.{zeros}
use Rattle.bech32_poly.specs.Polynomial as polynomial
use Rattle.bech32_poly.proofs.Zero.{product_not_zero, power_distinct}
use Rattle.bech32_checksum.specs.laws.RootLaws.{base, base-order}
use Rattle.bech32_bch.specs.Detection.{DetectsFour}
use Rattle.bech32_detect.specs.Rows.{term}
use Rattle.bech32_detect.proofs.FourTerms.{IsTable, IsTerm, detects, third}
use Rattle.bech32_detect.proofs.Answer.{value_not_zero}
use Rattle.bech32_detect.proofs.LocatorsApart.{between, from_one, never_meet}
use Rattle.bech32_detect.proofs.Gaps.{base_not_zero, locator, unit}
use Rattle.bech32_detect.proofs.Isolated.{AddUp, first_alone, third_alone, turned, same_if_gone}
use Rattle.bech32_detect.proofs.Values.{IsAt, IsValued, generator, value, value-one, value-sum, valued}

abbrev HasTerm : List Fe32 → Type 0
HasTerm r = (r ≡ zeros fe32.ops (length generator)) ⊎ IsTerm fe32.ops generator 89 r

table : IsTable fe32.ops generator 89 HasTerm
table = record {
  nothing = inl refl;
  complete = λ i v lo hi not_zero. inr (record { location = i; value = v; positive = lo; below = hi; not_zero = not_zero; is = refl });
  sound = λ r h. h;
}

even : (x : Fe32Ext 2) → fe1024.ops.add x x ≡ fe1024.ops.zero
even = is_field.add_neg

abbrev Sum : Fe32Ext 2 → Fe32Ext 2 → Fe32Ext 2 → Fe32Ext 2 → Fe32Ext 2 → Fe32Ext 2 → Type 0
Sum = AddUp is_field even

third_value : (a b : List Fe32) (t : ℕ) → t < 3 → value (third fe32_laws.is_field generator a b) (24 + t) ≡ add (add fe1024.one (value a (24 + t))) (value b (24 + t))
third_value a b t h =
    value-sum (polynomial.add fe32.ops (term fe32.ops generator 0 fe32.one) a) b (24 + t)
    ∙ ap (λ u. add u (value b (24 + t))) (value-sum (term fe32.ops generator 0 fe32.one) a (24 + t))
    ∙ ap (λ u. add (add u (value a (24 + t))) (value b (24 + t))) (value-one t h)

both_sums : (x y u v : Fe32Ext 2) → x ≡ u → y ≡ v → add (add fe1024.one u) v ≡ add (add fe1024.one x) y
both_sums x y u v e h = ap (λ w. add (add fe1024.one w) v) (sym e) ∙ ap (add (add fe1024.one x)) (sym h)

sums : (a b : List Fe32) (p : IsValued a) (q : IsValued b) (s : IsValued (third fe32_laws.is_field generator a b)) → Sum p.amount q.amount s.amount p.at q.at s.at
sums a b p q s = record {
  zeroth = both_sums _ _ _ _ p.zeroth q.zeroth ∙ sym (third_value a b 0 (omega arith)) ∙ s.zeroth;
  first = both_sums _ _ _ _ p.first q.first ∙ sym (third_value a b 1 (omega arith)) ∙ s.first;
  second = both_sums _ _ _ _ p.second q.second ∙ sym (third_value a b 2 (omega arith)) ∙ s.second;
}

-- ---- a locator is not one

far : (a x : Fe32Ext 2) → ((a ≡ fe1024.zero) × (x ≡ fe1024.zero)) ⊎ IsAt a x → add fe1024.one x ≢ fe1024.zero
far a x (inl (_, none)) e = is_field.one_not_zero (same_if_gone is_field even fe1024.one x e ∙ none)
far a x (inr h) e =
    power_distinct is_field base 1023 0 h.location base-order base_not_zero h.positive (omega (arith, h.below))
    (power-zero is_field base ∙ same_if_gone is_field even fe1024.one x e ∙ h.place)

zero_times : (x : Fe32Ext 2) → fe1024.ops.mul fe1024.ops.zero x ≡ fe1024.ops.zero
zero_times x = is_field.mul_comm fe1024.zero x ∙ times_zero x
  where
    times_zero : (x : Fe32Ext 2) → fe1024.ops.mul x fe1024.ops.zero ≡ fe1024.ops.zero
    times_zero x = mul_zero is_field x

-- what stands alone is at a location, and not at the others'
record IsAlone (a x y w : Fe32Ext 2) : Type 0 where
  here : IsAt a x
  from_second : x ≢ y
  from_third : x ≢ w
  is : mul (add fe1024.one y) (add fe1024.one w) ≡ mul a (mul (add x y) (add x w))

alone : (a x b y c w : Fe32Ext 2)
    → ((a ≡ fe1024.zero) × (x ≡ fe1024.zero)) ⊎ IsAt a x
    → ((b ≡ fe1024.zero) × (y ≡ fe1024.zero)) ⊎ IsAt b y
    → ((c ≡ fe1024.zero) × (w ≡ fe1024.zero)) ⊎ IsAt c w
    → mul (add fe1024.one y) (add fe1024.one w) ≡ mul a (mul (add x y) (add x w)) → IsAlone a x y w
alone a x b y c w (inl (none, _)) kb kc e = absurd (product_not_zero is_field _ _ (far b y kb) (far c w kc) (e ∙ ap (λ u. mul u (mul (add x y) (add x w))) none ∙ zero_times (mul (add x y) (add x w))))
alone a x b y c w (inr h) kb kc e = record {
  here = h;
  from_second = λ same. some (e ∙ ap (mul a) (ap (λ u. mul (add u y) (add x w)) same ∙ ap (λ u. mul u (add x w)) (even y) ∙ zero_times (add x w)) ∙ mul_zero is_field a);
  from_third = λ same. some (e ∙ ap (mul a) (ap (λ u. mul (add x y) (add u w)) same ∙ ap (mul (add x y)) (even w) ∙ mul_zero is_field (add x y)) ∙ mul_zero is_field a);
  is = e;
}
  where
    some : mul (add fe1024.one y) (add fe1024.one w) ≢ fe1024.zero
    some = product_not_zero is_field _ _ (far b y kb) (far c w kc)

-- the 31st powers of both sides
powered : (x y u v w : Fe32Ext 2) → mul x y ≡ mul u (mul v w)
    → mul (power fe1024.ops x 31) (power fe1024.ops y 31) ≡ mul (power fe1024.ops u 31) (mul (power fe1024.ops v 31) (power fe1024.ops w 31))
powered x y u v w e =
    sym (power-of_product is_field x y 31)
    ∙ ap (λ t. power fe1024.ops t 31) e
    ∙ power-of_product is_field u (mul v w) 31
    ∙ ap (mul (power fe1024.ops u 31)) (power-of_product is_field v w 31)

at_places : (a x y w : Fe32Ext 2) (i j k : ℕ) → x ≡ locator i → y ≡ locator j → w ≡ locator k → power fe1024.ops a 31 ≡ unit (24 * i)
    → mul (add fe1024.one y) (add fe1024.one w) ≡ mul a (mul (add x y) (add x w))
    → mul (from_one j) (from_one k) ≡ mul (unit (24 * i)) (mul (between i j) (between i k))
at_places a x y w i j k ex ey ew ea e =
    ap (λ t. mul (power fe1024.ops (add fe1024.one t) 31) (from_one k)) (sym ey)
    ∙ ap (λ t. mul (power fe1024.ops (add fe1024.one y) 31) (power fe1024.ops (add fe1024.one t) 31)) (sym ew)
    ∙ powered _ _ _ _ _ e
    ∙ ap (λ t. mul t (mul (power fe1024.ops (add x y) 31) (power fe1024.ops (add x w) 31))) ea
    ∙ ap (λ t. mul (unit (24 * i)) (mul (power fe1024.ops (add t y) 31) (power fe1024.ops (add t w) 31))) ex
    ∙ ap (λ t. mul (unit (24 * i)) (mul (power fe1024.ops (add (locator i) t) 31) (power fe1024.ops (add (locator i) w) 31))) ey
    ∙ ap (λ t. mul (unit (24 * i)) (mul (between i j) (power fe1024.ops (add (locator i) t) 31))) ew

apart : (x y : Fe32Ext 2) (i j : ℕ) → x ≡ locator i → y ≡ locator j → x ≢ y → i ≢ j
apart x y i j ex ey n e = n (ex ∙ ap locator e ∙ sym ey)

all_alone : (a b c x y w : Fe32Ext 2) → IsAlone a x y w → IsAlone b y x w → IsAlone c w x y → ⊥
all_alone a b c x y w h k m =
    never_meet h.here.location k.here.location m.here.location h.here.positive k.here.positive m.here.positive h.here.below k.here.below m.here.below
    (apart x y _ _ h.here.place k.here.place h.from_second)
    (apart x w _ _ h.here.place m.here.place h.from_third)
    (apart y w _ _ k.here.place m.here.place k.from_third)
    (record {
      at_first = at_places a x y w _ _ _ h.here.place k.here.place m.here.place h.here.unit_power h.is;
      at_second = at_places b y x w _ _ _ k.here.place h.here.place m.here.place k.here.unit_power k.is;
      at_third = at_places c w x y _ _ _ m.here.place h.here.place k.here.place m.here.unit_power m.is;
    })

never : (a b : List Fe32) → HasTerm a → HasTerm b → HasTerm (third fe32_laws.is_field generator a b) → ⊥
never a b ha hb hc = none (valued a ha) (valued b hb) (valued _ hc)
  where
    none : IsValued a → IsValued b → IsValued (third fe32_laws.is_field generator a b) → ⊥
    none p q s =
        let h : Sum p.amount q.amount s.amount p.at q.at s.at = sums a b p q s in
        all_alone _ _ _ _ _ _
        (alone _ _ _ _ _ _ p.kind q.kind s.kind (first_alone is_field even _ _ _ _ _ _ h))
        (alone _ _ _ _ _ _ q.kind p.kind s.kind (first_alone is_field even _ _ _ _ _ _ (turned is_field even _ _ _ _ _ _ h)))
        (alone _ _ _ _ _ _ s.kind p.kind q.kind (third_alone is_field even _ _ _ _ _ _ h))

detects_four : DetectsFour fe32.ops generator 89
detects_four = detects fe32_laws.is_field fe32_laws.is_field.add_neg generator 89 HasTerm table (value_not_zero _ (omega arith)) never

wider : (n : ℕ) (e : List (ℕ × Fe32)) → n ≤ 89 → AllByRecursion (λ (p : ℕ × Fe32). p.0 < n) e → AllByRecursion (λ (p : ℕ × Fe32). p.0 < 89) e
wider n [] le h = tt
wider n (p ∷ e) le h = let b : p.0 < n = h.0 in (omega arith, wider n e le h.1)

pub detects_four_below : (n : ℕ) → n ≤ 89 → DetectsFour fe32.ops generator n
detects_four_below n le e h some few none =
    detects_four e (record { below = wider n e le h.below; values = h.values; once = h.once }) some few none

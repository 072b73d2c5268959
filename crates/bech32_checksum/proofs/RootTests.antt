-- The value of a generator by Horner's rule, and what is asked of roots.
use Rattle.std.proofs.Common.{◌≡◌, ◌≢◌, ◌↔◌, ◌⊎◌, ◌<◌, ◌≤◌, ◌-◌, ℕ, zero, suc, List, [], ◌∷◌, length, get_or, drop, map, refl, sym, ◌∙◌, ap, subst, arith}
use Rattle.std.proofs.Math.Nat.{mod-eq_of_lt}
use Rattle.bech32_gf.specs.Field.{Ops, IsField, value_at}
use Rattle.bech32_gf.specs.laws.FieldLaws.{mul_zero}
use Rattle.bech32_gf.specs.Fe32 as fe32
use Rattle.bech32_gf.specs.declared.gf32.Fe32.{Fe32}
use Rattle.bech32_poly.specs.Remainder.{monic}
use Rattle.bech32_checksum.specs.Packed.{digit_of, digits}
use Rattle.bech32_checksum.specs.Code.{Code}
use Rattle.bech32_checksum.specs.Roots.{HasLawfulRoots, HasOrderFrom, PowersAreRoots}
use Rattle.bech32_checksum.proofs.Digits.{get_or-tabulate}

-- ---- Horner's rule: the value of the coefficients from one place on, out of that from the next place on

module _ {F : Type 0} (o : Ops F) (embed : Fe32 → F) (x : F) where
  -- the value of the coefficients from place i on
  abbrev pub value_from : ℕ → List Fe32 → F
  value_from i p = value_at o x (drop i (monic o (map embed p)))

  pub value_from-degree : IsField o → (p : List Fe32) → value_from (length p) p ≡ o.one
  value_from-degree l [] = ap (o.add o.one) (mul_zero l x) ∙ l.add_zero o.one
  value_from-degree l (a ∷ p) = value_from-degree l p

  pub value_from-place : (p : List Fe32) (i : ℕ) → i < length p
      → value_from i p ≡ o.add (embed (get_or p i fe32.zero)) (o.mul x (value_from (suc i) p))
  value_from-place [] i h = absurd (omega arith)
  value_from-place (a ∷ p) zero h = refl
  value_from-place (a ∷ p) (suc i) h = value_from-place p i (omega arith)

-- ---- the coefficients of the generator are the digits of the first word

-- the first of five words, as the array of them gives it
pub first_word : {R : Type 0} (words read : List R) (target item : R) → length words ≡ 5 → read ≡ words → get_or read 0 item ≡ get_or words 0 target
first_word words read target item five same = ap (λ ws. get_or ws 0 item) same ∙ any_default words item target five
  where
    any_default : {R : Type 0} (ws : List R) (d e : R) → length ws ≡ 5 → get_or ws 0 d ≡ get_or ws 0 e
    any_default [] d e none = absurd (omega arith)
    any_default (w ∷ ws) d e some = refl

pub coefficient_of_digit : (low : List Fe32) (degree word i v : ℕ) → low ≡ digits degree word
    → i < degree → v < 32 → v ≡ (digit_of word i).value → get_or low i fe32.zero ≡ fe32.element v
coefficient_of_digit low degree word i v is below small value =
    ap (λ (xs : List Fe32). get_or xs i fe32.zero) is
    ∙ get_or-tabulate degree (digit_of word) i fe32.zero below
    ∙ fe32.path _ _ (sym value ∙ sym (mod-eq_of_lt small))

-- ---- all that is asked of roots

module _ {F : Type 0} (o : Ops F) (embed : Fe32 → F) (code : Code) (base : F) (start end degree code_length : ℕ)
    (size : length code.generator ≡ degree) (limit : code.code_length ≡ code_length) where
  pub not_lawful_by_exponents : degree ≢ 0 → (end < start) ⊎ (degree ≤ end - start) → HasLawfulRoots o embed code base start end → ⊥
  not_lawful_by_exponents some wrong lawful =
      let roots = lawful (omega arith) in
      let ordered : start ≤ end = roots.ordered in
      let few : end - start < length code.generator = roots.few in
      omega arith

  pub not_lawful_by_order : degree ≢ 0 → (HasOrderFrom o base code_length → ⊥) → HasLawfulRoots o embed code base start end → ⊥
  not_lawful_by_order some short lawful =
      let roots = lawful (omega arith) in
      short (roots.not_zero, (roots.order, roots.is_order, subst (λ n. n ≤ roots.order) limit roots.long_enough))

  pub lawful_by_roots : degree ≢ 0 → start ≤ end → end - start < degree → HasOrderFrom o base code_length → (PowersAreRoots o embed code base start end ↔ HasLawfulRoots o embed code base start end)
  lawful_by_roots some ordered few long = (
    λ roots _. record {
      not_zero = long.0;
      order = long.1.0;
      is_order = long.1.1;
      long_enough = subst (λ n. n ≤ long.1.0) (sym limit) long.1.2;
      ordered = ordered;
      few = subst (λ n. end - start < n) (sym size) few;
      are_roots = roots;
    },
    λ lawful. (lawful (omega arith)).are_roots,
  )

-- the last of lawful exponents is less than the degree above the first
pub lawful_exponents : {F : Type 0} (o : Ops F) (embed : Fe32 → F) (code : Code) (base : F) (start end degree : ℕ) → length code.generator ≡ degree → 0 < degree
    → HasLawfulRoots o embed code base start end → (start ≤ end) × (end - start < degree)
lawful_exponents o embed code base start end degree size some lawful =
    let roots = lawful (omega arith) in
    (roots.ordered, subst (λ n. end - start < n) size roots.few)

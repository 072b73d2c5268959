-- Three rows of terms that add up to the row of one are what four errors leave nothing by.
use Rattle.std.specs.Prelude.{IsTrue, ◌↔◌, ◌≢◌, not, bit_xor}
use Rattle.std.specs.List.{Contains}
use Rattle.std.specs.List.Sorted.{IsPermutation}
use Rattle.std.proofs.Common.{◌≡◌, ℕ, ◌<◌, Bool, true, false, List, [], ◌∷◌, length, inl, inr, sym, ap, subst, ◌∙◌, refl, arith}
use Rattle.std.proofs.lemmas.List.Sorted.{Contains-permutation, IsPermutation-sym}
use Rattle.bech32_gf.specs.Fe32 as fe32
use Rattle.bech32_gf.specs.laws.Fe32Laws.{is_field}
use Rattle.bech32_gf.specs.declared.gf32.Fe32.{Fe32}
use Rattle.bech32_poly.specs.Polynomial.{coefficient}
use Rattle.bech32_checksum.specs.Packed.{digits, HasDigits, IsRowOf}
use Rattle.bech32_bch.specs.Detection.{DetectsFour}
use Rattle.bech32_detect.specs.Rows.{AreTermRows, HasRow, HasThree, term}
use Rattle.bech32_detect.proofs.FourTerms.{IsTable, detects, third, undetected}
use Rattle.bech32_detect.proofs.RowDigits.{row_sum, same_row}

-- a sort keeps the list's rows
pub rows_moved : (g : List Fe32) (n : ℕ) (rows sorted : List ℕ) → IsPermutation rows sorted → AreTermRows g n rows → AreTermRows g n sorted
rows_moved g n rows sorted p t = record {
  nothing = moved _ t.nothing;
  each = λ v not_zero i lo hi. moved _ (t.each v not_zero i lo hi);
  no_other = λ number h. t.no_other number (Contains-permutation sorted rows number (IsPermutation-sym rows sorted p) h);
}
  where
    moved : (r : List Fe32) → HasRow (length g) rows r → HasRow (length g) sorted r
    moved r h = record { number = h.number; among = Contains-permutation rows sorted h.number p h.among; row = h.row }

module _ (g : List Fe32) (n : ℕ) (rows : List ℕ) (t : AreTermRows g n rows) where
  table : IsTable fe32.ops g n (HasRow (length g) rows)
  table = record {
    nothing = t.nothing;
    complete = λ i v lo hi not_zero. t.each v not_zero i lo hi;
    sound = λ r h. elim (t.no_other h.number h.among) [
      | inl z ↦ inl (sym h.row.elements_are ∙ z.elements_are)
      | inr (v, not_zero, m) ↦ inr (record {
        location = m.location;
        value = v;
        positive = m.positive;
        below = m.below;
        not_zero = not_zero;
        is = sym h.row.elements_are ∙ m.row.elements_are;
      })
    ];
  }

  clear : (number : ℕ) → Contains rows number → HasDigits (length g) number
  clear number h = elim (t.no_other number h) [ inl z ↦ z.clear | inr (v, not_zero, m) ↦ m.row.clear ]

  -- a number of the list is the row of its digits
  own_row : (number : ℕ) → Contains rows number → IsRowOf (length g) (digits (length g) number) number
  own_row number h = record { elements_are = refl; clear = clear number h }

  module _ (one : ℕ) (is_one : IsRowOf (length g) (term fe32.ops g 0 fe32.one) one) where
    sum_row : (r s : List Fe32) (a b : ℕ) → IsRowOf (length g) r a → IsRowOf (length g) s b → IsRowOf (length g) (third is_field g r s) (bit_xor (bit_xor one a) b)
    sum_row r s a b h k = row_sum (length g) _ s (bit_xor one a) b (row_sum (length g) _ r one a is_one h) k

    found : 0 < n → HasThree rows one → DetectsFour fe32.ops g n → ⊥
    found some (a, ha, (b, hb, hc)) d =
        undetected is_field is_field.add_neg g n (HasRow (length g) rows) table some (digits (length g) a) (digits (length g) b)
        (record { number = a; among = ha; row = own_row a ha })
        (record { number = b; among = hb; row = own_row b hb })
        (record { number = bit_xor (bit_xor one a) b; among = hc; row = sum_row _ _ a b (own_row a ha) (own_row b hb) })
        d

    missed : (HasThree rows one → ⊥) → (r s : List Fe32) → HasRow (length g) rows r → HasRow (length g) rows s → HasRow (length g) rows (third is_field g r s) → ⊥
    missed none r s hr hs ht =
        let same : ht.number ≡ bit_xor (bit_xor one hr.number) hs.number = same_row (length g) _ _ _ ht.row (sum_row r s hr.number hs.number hr.row hs.row) in
        none (hr.number, hr.among, (hs.number, hs.among, subst (Contains rows) same ht.among))

    pub answer : (b : Bool) → coefficient fe32.ops g 0 ≢ fe32.zero → 0 < n → (IsTrue b ↔ HasThree rows one) → IsTrue (not b) ↔ DetectsFour fe32.ops g n
    answer true apart some says = (λ e. cc, λ d. absurd (found some (says.0 refl) d))
    answer false apart some says =
        (λ e. detects is_field is_field.add_neg g n (HasRow (length g) rows) table apart (missed (λ h. let k : false ≡ true = says.1 h in cc)), λ d. refl)

-- below location 0 there is no pattern
pub none_below : (g : List Fe32) (n : ℕ) → n ≡ 0 → DetectsFour fe32.ops g n
none_below g n z [] h some few left = absurd (omega arith)
none_below g n z (p ∷ e) h some few left = let below : p.0 < n = h.below.0 in absurd (omega arith)

-- an element of a value that is not zero
pub value_not_zero : (x : Fe32) → 0 < x.value → x ≢ fe32.zero
value_not_zero x some e = let none : x.value ≡ 0 = ap (λ (y : Fe32). y.value) e in absurd (omega arith)

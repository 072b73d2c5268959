-- Eight values as one word.
use Rattle.std.specs.Int.{from_be_bytes, w64}
use Rattle.std.specs.Prelude.{bit_and, nat_lt}
use Rattle.std.proofs.Common.{◌≡◌, ◌≤◌, ◌<◌, ◌+◌, ◌-◌, ◌*◌, ◌/◌, ◌%◌, ◌^◌, ◌⊎◌, ℕ, zero, suc, true, false, List, [], ◌∷◌, All, Any, map, arith, refl, inl, inr, ⊎_elim}
use Rattle.std.proofs.lemmas.Bool.{cases_Bool, ltb-true, ltb-false}
use Rattle.bech32_gf.specs.Fe32.{element, path}
use Rattle.bech32_poly.proofs.Lists.{same_cons}
use Rattle.bech32_checksum.specs.Word.{word_elements}
use Rattle.bech32_decode.specs.Values.{byte_elements}
use Rattle.bech32_decode.proofs.EightAtOnce.{digits_are}
use Rattle.bech32_decode.proofs.Masks.{HasBytes, bytes_of, no_high_bits, packed_is, small_bytes, small_bytes_of}

-- what is put together are the elements of the bytes
pub word_bytes : (n t u w : ℕ) → n < 2 ^ 64 → bit_and n 0xe0e0e0e0e0e0e0e0 ≡ 0
    → t ≡ n - bit_and (n / 2 ^ 8) 0x001f001f001f001f * 224
    → u ≡ t - bit_and (t / 2 ^ 16) 0x000003ff000003ff * 0xfc00
    → w ≡ u / 2 ^ 32 * 2 ^ 20 + bit_and u 0xffffffff
    → (word_elements w ≡ byte_elements n) × (w < 2 ^ 40)
word_bytes n t u w fits clear t_is u_is w_is =
    let small = small_bytes_of n fits clear in
    let is = packed_is n t u w _ _ _ _ _ _ _ _ (bytes_of n fits) small t_is u_is w_is in
    let p = digits_are (n / 2 ^ 56) (n / 2 ^ 48 % 256) (n / 2 ^ 40 % 256) (n / 2 ^ 32 % 256) (n / 2 ^ 24 % 256) (n / 2 ^ 16 % 256) (n / 2 ^ 8 % 256) (n % 256) 0 w
    (omega (arith, small.first)) (omega (arith, small.second)) (omega (arith, small.third)) (omega (arith, small.fourth))
    (omega (arith, small.fifth)) (omega (arith, small.sixth)) (omega (arith, small.seventh)) (omega (arith, small.last)) is in (
      same_cons _ _ _ _ (path (element (w / 2 ^ 35)) (element (n / 2 ^ 56)) (omega (arith, p.0, small.first)))
          (same_cons _ _ _ _ (path (element (w / 2 ^ 30)) (element (n / 2 ^ 48)) (omega (arith, p.1, small.second)))
          (same_cons _ _ _ _ (path (element (w / 2 ^ 25)) (element (n / 2 ^ 40)) (omega (arith, p.2, small.third)))
          (same_cons _ _ _ _ (path (element (w / 2 ^ 20)) (element (n / 2 ^ 32)) (omega (arith, p.3, small.fourth)))
          (same_cons _ _ _ _ (path (element (w / 2 ^ 15)) (element (n / 2 ^ 24)) (omega (arith, p.4, small.fifth)))
          (same_cons _ _ _ _ (path (element (w / 2 ^ 10)) (element (n / 2 ^ 16)) (omega (arith, p.5, small.sixth)))
          (same_cons _ _ _ _ (path (element (w / 2 ^ 5)) (element (n / 2 ^ 8)) (omega (arith, p.6, small.seventh)))
          (same_cons _ _ _ _ (path (element (w / 2 ^ 0)) (element (n / 2 ^ 0)) (omega (arith, p.7, small.last))) refl))))))),
      omega (arith, p.8),
    )

-- ---- values above 31, or none

all_none : All (λ x. x ≤ 31) []
all_none k d within = absurd (omega arith)

all_more : (v : ℕ) (values : List ℕ) → v ≤ 31 → All (λ x. x ≤ 31) values → All (λ x. x ≤ 31) (v ∷ values)
all_more v values small all zero d within = small
all_more v values small all (suc k) d within = all k d (omega arith)

pub high_or_small : (values : List ℕ) → Any (λ x. 31 < x) values ⊎ All (λ x. x ≤ 31) values
high_or_small [] = inr all_none
high_or_small (v ∷ values) =
    ⊎_elim
    (λ (over : nat_lt 31 v ≡ true). inl (zero, v, omega arith, refl, ltb-true 31 v over))
    (λ (small : nat_lt 31 v ≡ false).
    ⊎_elim
    (λ (any : Any (λ x. 31 < x) values). let (k, x, within, there, above) = any in inl (suc k, x, omega arith, there, above))
    (λ (all : All (λ x. x ≤ 31) values). inr (all_more v values (ltb-false 31 v small) all))
    (high_or_small values))
    (cases_Bool (nat_lt 31 v))

-- eight values, and the number whose bytes they are
pub eight_bytes : (n a b c d e f g h : ℕ) → n ≡ from_be_bytes w64 (a ∷ b ∷ c ∷ d ∷ e ∷ f ∷ g ∷ h ∷ []) → HasBytes n a b c d e f g h
eight_bytes n a b c d e f g h is = record { is = omega (arith, is) }

module _ (n a b c d e f g h : ℕ) (bytes : HasBytes n a b c d e f g h) where
  -- some are above 31 where there are high bits
  pub some_high : (bit_and n 0xe0e0e0e0e0e0e0e0 ≡ 0 → ⊥) → Any (λ x. 31 < x) (a ∷ b ∷ c ∷ d ∷ e ∷ f ∷ g ∷ h ∷ [])
  some_high not_zero =
      ⊎_elim
      (λ (any : Any (λ x. 31 < x) (a ∷ b ∷ c ∷ d ∷ e ∷ f ∷ g ∷ h ∷ [])). any)
      (λ (all : All (λ x. x ≤ 31) (a ∷ b ∷ c ∷ d ∷ e ∷ f ∷ g ∷ h ∷ [])).
      absurd (not_zero (no_high_bits n a b c d e f g h bytes (record {
        first = all 0 0 (omega arith);
        second = all 1 0 (omega arith);
        third = all 2 0 (omega arith);
        fourth = all 3 0 (omega arith);
        fifth = all 4 0 (omega arith);
        sixth = all 5 0 (omega arith);
        seventh = all 6 0 (omega arith);
        last = all 7 0 (omega arith);
      }))))
      (high_or_small (a ∷ b ∷ c ∷ d ∷ e ∷ f ∷ g ∷ h ∷ []))

  -- and else none
  pub all_small : a < 256 → b < 256 → c < 256 → d < 256 → e < 256 → f < 256 → g < 256 → h < 256 → bit_and n 0xe0e0e0e0e0e0e0e0 ≡ 0
      → All (λ x. x ≤ 31) (a ∷ b ∷ c ∷ d ∷ e ∷ f ∷ g ∷ h ∷ [])
  all_small ha hb hc hd he hf hg hh zero_ =
      let small = small_bytes n a b c d e f g h bytes ha hb hc hd he hf hg hh zero_ in
      all_more a (b ∷ c ∷ d ∷ e ∷ f ∷ g ∷ h ∷ []) small.first
      (all_more b (c ∷ d ∷ e ∷ f ∷ g ∷ h ∷ []) small.second
      (all_more c (d ∷ e ∷ f ∷ g ∷ h ∷ []) small.third
      (all_more d (e ∷ f ∷ g ∷ h ∷ []) small.fourth
      (all_more e (f ∷ g ∷ h ∷ []) small.fifth
      (all_more f (g ∷ h ∷ []) small.sixth
      (all_more g (h ∷ []) small.seventh
      (all_more h [] small.last all_none)))))))

  -- the elements are theirs
  pub elements_in : a < 256 → b < 256 → c < 256 → d < 256 → e < 256 → f < 256 → g < 256 → h < 256
      → byte_elements n ≡ map element (a ∷ b ∷ c ∷ d ∷ e ∷ f ∷ g ∷ h ∷ [])
  elements_in ha hb hc hd he hf hg hh =
      same_cons _ _ _ _ (path (element (n / 2 ^ 56)) (element a) (omega (arith, bytes.is, ha, hb, hc, hd, he, hf, hg, hh)))
      (same_cons _ _ _ _ (path (element (n / 2 ^ 48)) (element b) (omega (arith, bytes.is, ha, hb, hc, hd, he, hf, hg, hh)))
      (same_cons _ _ _ _ (path (element (n / 2 ^ 40)) (element c) (omega (arith, bytes.is, ha, hb, hc, hd, he, hf, hg, hh)))
      (same_cons _ _ _ _ (path (element (n / 2 ^ 32)) (element d) (omega (arith, bytes.is, ha, hb, hc, hd, he, hf, hg, hh)))
      (same_cons _ _ _ _ (path (element (n / 2 ^ 24)) (element e) (omega (arith, bytes.is, ha, hb, hc, hd, he, hf, hg, hh)))
      (same_cons _ _ _ _ (path (element (n / 2 ^ 16)) (element f) (omega (arith, bytes.is, ha, hb, hc, hd, he, hf, hg, hh)))
      (same_cons _ _ _ _ (path (element (n / 2 ^ 8)) (element g) (omega (arith, bytes.is, ha, hb, hc, hd, he, hf, hg, hh)))
      (same_cons _ _ _ _ (path (element (n / 2 ^ 0)) (element h) (omega (arith, bytes.is, ha, hb, hc, hd, he, hf, hg, hh))) refl)))))))

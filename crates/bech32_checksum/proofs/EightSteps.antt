-- What eight single steps by the generator of BIP-173 make of a remainder.
use Rattle.std.proofs.Common.{◌≡◌, ◌<◌, ◌+◌, ◌*◌, ◌/◌, ◌%◌, ◌^◌, ℕ, List, [], ◌∷◌, length, get_or, refl, sym, ap, ◌∙◌, subst, arith, bit_xor}
use Rattle.std.specs.Int.Bits.{xor_assoc}
use Rattle.std.proofs.lemmas.Nat.{xor_lt, xor_comm}
use Rattle.bech32_gf.specs.Fe32 as fe32
use Rattle.bech32_gf.specs.declared.gf32.Fe32.{Fe32}
use Rattle.bech32_poly.proofs.Lists.{same_cons}
use Rattle.bech32_poly.specs.Polynomial.{scale}
use Rattle.bech32_poly.specs.Remainder.{IsRemainder}
use Rattle.bech32_checksum.specs.Code.{bech32, IsResidueAfter}
use Rattle.bech32_checksum.specs.Packed.{digits, number_of_digits}
use Rattle.bech32_checksum.specs.laws.PackedLaws.{xor_digits}
use Rattle.bech32_checksum.proofs.Input.{input_result}
use Rattle.bech32_checksum.proofs.Products.{product_is}
use Rattle.bech32_checksum.proofs.TimesX.{multiple, multiple_lt, times_x, times_x-add, times_x-lt, times_x-short, times_x6, times_x6-add, times_x6-lt, times_x8, times_x8-lt, joined}

-- a row with one more element
abbrev pub step : ℕ → ℕ → ℕ
step c e = bit_xor (c % 2 ^ 25 * 32 + e) (multiple (c / 2 ^ 25))

last : (m e p : ℕ) → bit_xor (bit_xor m e) p ≡ bit_xor (bit_xor m p) e
last m e p = xor_assoc m e p ∙ (ap (bit_xor m) (xor_comm e p) ∙ sym (xor_assoc m p e))

step_is : (c e : ℕ) → e < 32 → step c e ≡ bit_xor (times_x c) e
step_is c e h =
    ap (λ m. bit_xor m (multiple (c / 2 ^ 25))) (joined (c % 2 ^ 25) e h) ∙ last (c % 2 ^ 25 * 32) e (multiple (c / 2 ^ 25))

step-lt : (c e : ℕ) → c < 2 ^ 30 → e < 32 → step c e < 2 ^ 30
step-lt c e hc he =
    let low : c % 2 ^ 25 * 32 + e < 2 ^ 30 = omega arith in
    xor_lt 30 _ _ low (multiple_lt (c / 2 ^ 25) (omega arith))

-- of a remainder and a row with no highest coefficient, each goes a place higher
apart : (c x v : ℕ) → c < 2 ^ 30 → x < 2 ^ 25 → v < 32 → step (bit_xor c x) v ≡ bit_xor (times_x c) (x * 32 + v)
apart c x v hc hx hv =
    step_is (bit_xor c x) v hv
    ∙ (ap (λ m. bit_xor m v) (times_x-add c x hc (omega arith) ∙ ap (bit_xor (times_x c)) (times_x-short x hx))
    ∙ (xor_assoc (times_x c) (x * 32) v ∙ ap (bit_xor (times_x c)) (sym (joined x v hv))))

pub residue_step : (p : List Fe32) (c : ℕ) (e : Fe32) → c < 2 ^ 30 → IsRemainder fe32.ops bech32.generator p (digits 6 c)
    → IsRemainder fe32.ops bech32.generator (e ∷ p) (digits 6 (step c e.value))
residue_step p c e hc h =
    let small : c / 2 ^ 25 % 32 ≡ c / 2 ^ 25 = omega arith in
    let scaled : digits 6 (multiple (c / 2 ^ 25)) ≡ scale fe32.ops (fe32.element (c / 2 ^ 25)) bech32.generator =
    subst (λ v. digits 6 (multiple v) ≡ scale fe32.ops (fe32.element (c / 2 ^ 25)) bech32.generator) small
    (product_is (fe32.element (c / 2 ^ 25))) in
    input_result bech32.generator p 6 6 c (c % 2 ^ 25 * 32 + e.value) (multiple (c / 2 ^ 25)) (step c e.value) (c / 2 ^ 25) e
    refl (omega arith) (λ _. refl) (λ _. refl) scaled
    (xor_digits (c % 2 ^ 25 * 32 + e.value) (multiple (c / 2 ^ 25)) (step c e.value) refl) h

abbrev steps : ℕ → (a b c d e f : ℕ) → ℕ
steps r a b c d e f = step (step (step (step (step (step r a) b) c) d) e) f

-- the row of six elements, the first the highest
abbrev pub row_of_six : (a b c d e f : ℕ) → ℕ
row_of_six a b c d e f = ((((a * 32 + b) * 32 + c) * 32 + d) * 32 + e) * 32 + f

pub row_is : (a b c d e f : ℕ) → row_of_six a b c d e f ≡ number_of_digits (a ∷ b ∷ c ∷ d ∷ e ∷ f ∷ [])
row_is a b c d e f =
    let same : row_of_six a b c d e f ≡ a * 2 ^ 25 + (b * 2 ^ 20 + (c * 2 ^ 15 + (d * 2 ^ 10 + (e * 2 ^ 5 + (f * 2 ^ 0 + 0))))) = omega arith in
    same

steps_are : (r a b c d e f : ℕ) → r < 2 ^ 30 → a < 32 → b < 32 → c < 32 → d < 32 → e < 32 → f < 32
    → steps r a b c d e f ≡ bit_xor (times_x6 r) (row_of_six a b c d e f)
steps_are r a b c d e f hr ha hb hc hd he hf =
    let h1 = times_x-lt r hr in
    let h2 = times_x-lt _ h1 in
    let h3 = times_x-lt _ h2 in
    let h4 = times_x-lt _ h3 in
    let h5 = times_x-lt _ h4 in
    let s1 : step r a ≡ bit_xor (times_x r) a = step_is r a ha in
    let s2 = ap (λ m. step m b) s1 ∙ apart (times_x r) a b h1 (omega arith) hb in
    let s3 = ap (λ m. step m c) s2 ∙ apart _ (a * 32 + b) c h2 (omega arith) hc in
    let s4 = ap (λ m. step m d) s3 ∙ apart _ ((a * 32 + b) * 32 + c) d h3 (omega arith) hd in
    let s5 = ap (λ m. step m e) s4 ∙ apart _ (((a * 32 + b) * 32 + c) * 32 + d) e h4 (omega arith) he in
    ap (λ m. step m f) s5 ∙ apart _ ((((a * 32 + b) * 32 + c) * 32 + d) * 32 + e) f h5 (omega arith) hf

-- the sum of the remainder times x^6 and the row of six elements is the remainder after these
pub six_more : (p : List Fe32) (r : ℕ) (a b c d e f : Fe32) → r < 2 ^ 30
    → IsRemainder fe32.ops bech32.generator p (digits 6 r)
    → IsRemainder fe32.ops bech32.generator (f ∷ e ∷ d ∷ c ∷ b ∷ a ∷ p)
    (digits 6 (bit_xor (times_x6 r) (row_of_six a.value b.value c.value d.value e.value f.value)))
six_more p r a b c d e f hr h =
    let l1 = step-lt r a.value hr a.in_field in
    let l2 = step-lt _ b.value l1 b.in_field in
    let l3 = step-lt _ c.value l2 c.in_field in
    let l4 = step-lt _ d.value l3 d.in_field in
    let l5 = step-lt _ e.value l4 e.in_field in
    let r1 = residue_step p r a hr h in
    let r2 = residue_step _ _ b l1 r1 in
    let r3 = residue_step _ _ c l2 r2 in
    let r4 = residue_step _ _ d l3 r3 in
    let r5 = residue_step _ _ e l4 r4 in
    subst (λ n. IsRemainder fe32.ops bech32.generator (f ∷ e ∷ d ∷ c ∷ b ∷ a ∷ p) (digits 6 n))
    (steps_are r a.value b.value c.value d.value e.value f.value hr a.in_field b.in_field c.in_field d.in_field e.in_field f.in_field)
    (residue_step _ _ f l5 r5)

-- after two elements
two_are : (r a b : ℕ) → r < 2 ^ 30 → a < 32 → b < 32 → step (step r a) b ≡ bit_xor (times_x (times_x r)) (a * 32 + b)
two_are r a b hr ha hb =
    let s1 : step r a ≡ bit_xor (times_x r) a = step_is r a ha in
    ap (λ m. step m b) s1 ∙ apart (times_x r) a b (times_x-lt r hr) (omega arith) hb

-- the sum of the remainder times x^2 and the row of two elements is the remainder after these
pub two_more : (p : List Fe32) (r : ℕ) (a b : Fe32) → r < 2 ^ 30
    → IsRemainder fe32.ops bech32.generator p (digits 6 r)
    → IsRemainder fe32.ops bech32.generator (b ∷ a ∷ p) (digits 6 (bit_xor (times_x (times_x r)) (a.value * 32 + b.value)))
two_more p r a b hr h =
    subst (λ n. IsRemainder fe32.ops bech32.generator (b ∷ a ∷ p) (digits 6 n)) (two_are r a.value b.value hr a.in_field b.in_field)
    (residue_step _ _ b (step-lt r a.value hr a.in_field) (residue_step p r a hr h))

two_steps : (r a b : ℕ) → r < 2 ^ 30 → a < 32 → b < 32
    → times_x6 (step (step r a) b) ≡ bit_xor (bit_xor (times_x8 r) (times_x6 (a * 32))) (times_x6 b)
two_steps r a b hr ha hb =
    let h2 = times_x-lt _ (times_x-lt r hr) in
    let row : times_x6 (a * 32 + b) ≡ bit_xor (times_x6 (a * 32)) (times_x6 b) =
    ap times_x6 (joined a b hb) ∙ times_x6-add (a * 32) b (omega arith) (omega arith) in
    ap times_x6 (two_are r a b hr ha hb)
    ∙ (times_x6-add (times_x (times_x r)) (a * 32 + b) h2 (omega arith)
    ∙ (ap (bit_xor (times_x8 r)) row ∙ sym (xor_assoc (times_x8 r) (times_x6 (a * 32)) (times_x6 b))))

-- the sum of the remainder times x^8, the first two elements in their places times x^6, and the row of the others is the
-- remainder after eight elements
pub eight_more : (p : List Fe32) (r : ℕ) (a b c d e f g h : Fe32) → r < 2 ^ 30
    → IsRemainder fe32.ops bech32.generator p (digits 6 r)
    → IsRemainder fe32.ops bech32.generator (h ∷ g ∷ f ∷ e ∷ d ∷ c ∷ b ∷ a ∷ p)
    (digits 6 (bit_xor (bit_xor (bit_xor (times_x8 r) (times_x6 (a.value * 32))) (times_x6 b.value))
    (row_of_six c.value d.value e.value f.value g.value h.value)))
eight_more p r a b c d e f g h hr held =
    let l1 = step-lt r a.value hr a.in_field in
    let l2 = step-lt _ b.value l1 b.in_field in
    let r1 = residue_step p r a hr held in
    let r2 = residue_step _ _ b l1 r1 in
    let row : ℕ = row_of_six c.value d.value e.value f.value g.value h.value in
    subst (λ n. IsRemainder fe32.ops bech32.generator (h ∷ g ∷ f ∷ e ∷ d ∷ c ∷ b ∷ a ∷ p) (digits 6 n))
    (ap (λ m. bit_xor m row) (two_steps r a.value b.value hr a.in_field b.in_field))
    (six_more (b ∷ a ∷ p) (step (step r a.value) b.value) c d e f g h l2 r2)

-- a list of eight items is these
pub eight_are : (xs : List Fe32) (a b c d e f g h a' b' c' d' e' f' g' h' : Fe32) → length xs ≡ 8
    → a ≡ get_or xs 0 a' → b ≡ get_or xs 1 b' → c ≡ get_or xs 2 c' → d ≡ get_or xs 3 d'
    → e ≡ get_or xs 4 e' → f ≡ get_or xs 5 f' → g ≡ get_or xs 6 g' → h ≡ get_or xs 7 h'
    → xs ≡ a ∷ b ∷ c ∷ d ∷ e ∷ f ∷ g ∷ h ∷ []
eight_are [] a b c d e f g h a' b' c' d' e' f' g' h' size ha hb hc hd he hf hg hh = absurd (omega arith)
eight_are (s ∷ []) a b c d e f g h a' b' c' d' e' f' g' h' size ha hb hc hd he hf hg hh = absurd (omega arith)
eight_are (s ∷ t ∷ []) a b c d e f g h a' b' c' d' e' f' g' h' size ha hb hc hd he hf hg hh = absurd (omega arith)
eight_are (s ∷ t ∷ u ∷ []) a b c d e f g h a' b' c' d' e' f' g' h' size ha hb hc hd he hf hg hh = absurd (omega arith)
eight_are (s ∷ t ∷ u ∷ v ∷ []) a b c d e f g h a' b' c' d' e' f' g' h' size ha hb hc hd he hf hg hh = absurd (omega arith)
eight_are (s ∷ t ∷ u ∷ v ∷ w ∷ []) a b c d e f g h a' b' c' d' e' f' g' h' size ha hb hc hd he hf hg hh = absurd (omega arith)
eight_are (s ∷ t ∷ u ∷ v ∷ w ∷ x ∷ []) a b c d e f g h a' b' c' d' e' f' g' h' size ha hb hc hd he hf hg hh = absurd (omega arith)
eight_are (s ∷ t ∷ u ∷ v ∷ w ∷ x ∷ y ∷ []) a b c d e f g h a' b' c' d' e' f' g' h' size ha hb hc hd he hf hg hh = absurd (omega arith)
eight_are (s ∷ t ∷ u ∷ v ∷ w ∷ x ∷ y ∷ z ∷ more ∷ xs) a b c d e f g h a' b' c' d' e' f' g' h' size ha hb hc hd he hf hg hh = absurd (omega arith)
eight_are (s ∷ t ∷ u ∷ v ∷ w ∷ x ∷ y ∷ z ∷ []) a b c d e f g h a' b' c' d' e' f' g' h' size ha hb hc hd he hf hg hh =
    same_cons _ _ _ _ (sym ha) (same_cons _ _ _ _ (sym hb) (same_cons _ _ _ _ (sym hc) (same_cons _ _ _ _ (sym hd) (same_cons _ _ _ _ (sym he) (same_cons _ _ _ _ (sym hf) (same_cons _ _ _ _ (sym hg) (same_cons _ _ _ _ (sym hh) refl)))))))

-- what the tables and the row add up to
pub eight_after : (r : ℕ) (xs : List Fe32) (a b c d e f g h : Fe32) (t u v row : ℕ) → xs ≡ a ∷ b ∷ c ∷ d ∷ e ∷ f ∷ g ∷ h ∷ []
    → r < 2 ^ 30 → t ≡ times_x8 r → u ≡ times_x6 (a.value * 32) → v ≡ times_x6 b.value
    → row ≡ row_of_six c.value d.value e.value f.value g.value h.value
    → (bit_xor (bit_xor (bit_xor t u) v) row < 2 ^ 30)
    × IsResidueAfter (λ (n : ℕ). n) bech32 r xs (bit_xor (bit_xor (bit_xor t u) v) row)
eight_after r xs a b c d e f g h t u v row all hr ht hu hv hrow =
    let n : ℕ = bit_xor (bit_xor (bit_xor (times_x8 r) (times_x6 (a.value * 32))) (times_x6 b.value))
    (row_of_six c.value d.value e.value f.value g.value h.value) in
    let same : n ≡ bit_xor (bit_xor (bit_xor t u) v) row = cc in
    let first : a.value * 32 < 2 ^ 30 = omega (arith, a.in_field) in
    let second : b.value < 2 ^ 30 = omega (arith, b.in_field) in
    let others : row_of_six c.value d.value e.value f.value g.value h.value < 2 ^ 30 =
    omega (arith, c.in_field, d.in_field, e.in_field, f.in_field, g.in_field, h.in_field) in (
      subst (λ m. m < 2 ^ 30) same
          (xor_lt 30 _ _ (xor_lt 30 _ _ (xor_lt 30 _ _ (times_x8-lt r hr) (times_x6-lt _ first)) (times_x6-lt _ second)) others),
      subst (λ (l : List Fe32). IsResidueAfter (λ (k : ℕ). k) bech32 r l (bit_xor (bit_xor (bit_xor t u) v) row)) (sym all)
          (λ p held. subst (λ m. IsRemainder fe32.ops bech32.generator (h ∷ g ∷ f ∷ e ∷ d ∷ c ∷ b ∷ a ∷ p) (digits 6 m)) same
          (eight_more p r a b c d e f g h hr held)),
    )

-- Lists of coefficients that leave one remainder and differ in few places in a row are the same.
use Rattle.std.specs.Prelude.{◌≢◌}
use Rattle.std.proofs.Common.{◌≡◌, ℕ, zero, suc, ◌+◌, ◌-◌, ◌≤◌, List, [], ◌∷◌, ◌++◌, length, reverse, append_assoc, sym, ap, subst, ◌∙◌, refl, arith}
use Rattle.std.proofs.lemmas.List.{length-reverse, reverse-append, reverse-reverse}
use Rattle.bech32_gf.specs.Field.{Ops, IsField}
use Rattle.bech32_gf.specs.Fe32 as fe32
use Rattle.bech32_gf.specs.Fe32.{elements_of}
use Rattle.bech32_gf.specs.laws.Fe32Laws.{is_field}
use Rattle.bech32_gf.specs.laws.Ring.{ring}
use Rattle.bech32_gf.specs.declared.gf32.Fe32.{Fe32}
use Rattle.bech32_poly.specs.Division.{remainder_of, step, zeros}
use Rattle.bech32_poly.specs.Polynomial.{add, coefficient, scale}
use Rattle.bech32_poly.specs.Remainder.{IsRemainder}
use Rattle.bech32_poly.proofs.Lists.{add-negative, length-add, length-scale, same_cons}
use Rattle.bech32_poly.proofs.Remainder.{length-remainder_of, remainder_of-add, remainder_of-scale, remainder_of-short, remainder_unique, step-zeros}
use Rattle.bech32_poly.proofs.Zero.{difference_zero}
use Rattle.bech32_checksum.specs.Code.{Code}
use Rattle.bech32_checksum.specs.TextPolynomial.{text_polynomial}
use Rattle.bech32_detect.specs.Bursts.{AreBurstsDetected}
use Rattle.bech32_detect.proofs.FourTerms.{lowered}
use Rattle.bech32_detect.proofs.Texts.{above_data, above_data-lowered, text_polynomial-reverse}

module _ {F : Type 0} {f : Ops F} (fl : IsField f) where
  -- p less q
  abbrev less : List F → List F → List F
  less p q = add f p (scale f (f.neg f.one) q)

  -- what leaves nothing, raised by a power of x, leaves nothing
  risen : (g p : List F) → coefficient f g 0 ≢ f.zero → (n : ℕ) → remainder_of f g (zeros f n ++ p) ≡ zeros f (length g) → remainder_of f g p ≡ zeros f (length g)
  risen g p apart zero h = h
  risen g p apart (suc n) h = risen g p apart n (lowered fl g (remainder_of f g (zeros f n ++ p)) apart (length-remainder_of fl g (zeros f n ++ p)) h)

  zeros_behind : (g p : List F) (n : ℕ) → remainder_of f g (p ++ zeros f n) ≡ remainder_of f g p
  zeros_behind g [] zero = refl
  zeros_behind g [] (suc n) = ap (λ r. step f g r f.zero) (zeros_behind g [] n) ∙ step-zeros fl g
  zeros_behind g (a ∷ p) n = ap (λ r. step f g r a) (zeros_behind g p n)

  all_zero : (d : List F) (n m : ℕ) → d ++ zeros f n ≡ zeros f m → d ≡ zeros f (length d)
  all_zero [] n m h = refl
  all_zero (a ∷ d) n zero h = absurd cc
  all_zero (a ∷ d) n (suc m) h =
      let first : a ≡ f.zero = cc in
      let rest : d ++ zeros f n ≡ zeros f m = cc in
      same_cons _ _ _ _ first (all_zero d n m rest)

  -- of few coefficients, what leaves nothing is zero
  nothing : (g d : List F) → length d ≤ length g → remainder_of f g d ≡ zeros f (length g) → d ≡ zeros f (length d)
  nothing g d short h =
      let few : length d + (length g - length d) ≡ length g = omega (arith, short) in
      all_zero d (length g - length d) (length g) (sym (remainder_of-short fl g d (length g - length d) few) ∙ h)

  taken_off : (a b : F) → f.add a (f.mul (f.neg f.one) b) ≡ f.add a (f.neg b)
  taken_off a b = simp (ring, fl)

  itself : (a : F) → f.add a (f.mul (f.neg f.one) a) ≡ f.zero
  itself a = simp (ring, fl)

  less-front : (a p q : List F) → less (a ++ p) (a ++ q) ≡ zeros f (length a) ++ less p q
  less-front [] p q = refl
  less-front (c ∷ a) p q = same_cons _ _ _ _ (itself c) (less-front a p q)

  less-back : (p q b : List F) → length q ≡ length p → less (p ++ b) (q ++ b) ≡ less p q ++ zeros f (length b)
  less-back [] [] b e = add-negative fl b
  less-back [] (d ∷ q) b e = absurd (omega arith)
  less-back (c ∷ p) [] b e = absurd (omega arith)
  less-back (c ∷ p) (d ∷ q) b e = ap (λ u. f.add c (f.mul (f.neg f.one) d) ∷ u) (less-back p q b (omega arith))

  same : (p q : List F) (n : ℕ) → length q ≡ length p → less p q ≡ zeros f n → p ≡ q
  same [] [] n e h = refl
  same [] (d ∷ q) n e h = absurd (omega arith)
  same (c ∷ p) [] n e h = absurd (omega arith)
  same (c ∷ p) (d ∷ q) zero e h = absurd cc
  same (c ∷ p) (d ∷ q) (suc n) e h =
      let first : f.add c (f.mul (f.neg f.one) d) ≡ f.zero = cc in
      let rest : less p q ≡ zeros f n = cc in
      same_cons _ _ _ _ (difference_zero fl c d (sym (taken_off c d) ∙ first)) (same p q n (omega arith) rest)

  length-less : (p q : List F) → length q ≡ length p → length (less p q) ≡ length p
  length-less p q e = let s : length (scale f (f.neg f.one) q) ≡ length q = length-scale fl (f.neg f.one) q in length-add fl p (scale f (f.neg f.one) q) (omega (arith, s, e))

  -- lists that differ in few places in a row, and leave the same
  pub same_middle : (g a p q b r : List F) → coefficient f g 0 ≢ f.zero → length q ≡ length p → length p ≤ length g → IsRemainder f g (a ++ (p ++ b)) r → IsRemainder f g (a ++ (q ++ b)) r → p ≡ q
  same_middle g a p q b r apart e short left right =
      let all : less (a ++ (p ++ b)) (a ++ (q ++ b)) ≡ zeros f (length a) ++ (less p q ++ zeros f (length b)) = less-front a (p ++ b) (q ++ b) ∙ ap (λ u. zeros f (length a) ++ u) (less-back p q b e) in
      let none : remainder_of f g (less (a ++ (p ++ b)) (a ++ (q ++ b))) ≡ zeros f (length g) =
      remainder_of-add fl g (a ++ (p ++ b)) (scale f (f.neg f.one) (a ++ (q ++ b)))
      ∙ ap (add f (remainder_of f g (a ++ (p ++ b)))) (remainder_of-scale fl g (f.neg f.one) (a ++ (q ++ b)))
      ∙ ap (λ u. add f u (scale f (f.neg f.one) (remainder_of f g (a ++ (q ++ b))))) (sym (remainder_unique fl g (a ++ (p ++ b)) r left))
      ∙ ap (λ u. add f r (scale f (f.neg f.one) u)) (sym (remainder_unique fl g (a ++ (q ++ b)) r right))
      ∙ add-negative fl r
      ∙ ap (zeros f) left.short in
      let low : remainder_of f g (less p q) ≡ zeros f (length g) =
      sym (zeros_behind g (less p q) (length b)) ∙ risen g (less p q ++ zeros f (length b)) apart (length a) (sym (ap (remainder_of f g) all) ∙ none) in
      let long : length (less p q) ≡ length p = length-less p q e in
      same p q (length (less p q)) e (nothing g (less p q) (omega (arith, long, short)) low)

-- a list in three parts, from the end
turned : {A : Type 0} (xs front middle back above : List A) → xs ≡ front ++ (middle ++ back) → reverse xs ++ above ≡ reverse back ++ (reverse middle ++ (reverse front ++ above))
turned xs front middle back above e =
    ap (λ u. reverse u ++ above) e
    ∙ ap (λ u. u ++ above) (reverse-append front (middle ++ back) ∙ ap (λ u. u ++ reverse front) (reverse-append middle back))
    ∙ simp append_assoc

pub bursts : (code : Code) → coefficient fe32.ops code.generator 0 ≢ fe32.zero → AreBurstsDetected code
bursts code apart text hrp data_part other other_hrp other_data is other_is same_hrp burst =
    let xs : List Fe32 = elements_of data_part in
    let ys : List Fe32 = elements_of other_data in
    let above : List Fe32 = above_data hrp in
    let first : text_polynomial hrp xs ≡ reverse burst.back ++ (reverse burst.middle ++ (reverse burst.front ++ above)) =
    text_polynomial-reverse hrp xs ∙ turned xs burst.front burst.middle burst.back above burst.first in
    let second : text_polynomial other_hrp ys ≡ reverse burst.back ++ (reverse burst.other ++ (reverse burst.front ++ above)) =
    text_polynomial-reverse other_hrp ys ∙ ap (λ u. reverse ys ++ u) (above_data-lowered hrp other_hrp same_hrp) ∙ turned ys burst.front burst.other burst.back above burst.second in
    let middle : reverse burst.middle ≡ reverse burst.other = same_middle is_field code.generator (reverse burst.back) (reverse burst.middle) (reverse burst.other) (reverse burst.front ++ above) code.target apart
    (length-reverse burst.other ∙ burst.alike ∙ sym (length-reverse burst.middle))
    (subst (λ k. k ≤ length code.generator) (sym (length-reverse burst.middle)) burst.short)
    (subst (λ p. IsRemainder fe32.ops code.generator p code.target) first is.has_target)
    (subst (λ p. IsRemainder fe32.ops code.generator p code.target) second other_is.has_target) in
    let parts : burst.middle ≡ burst.other = sym (reverse-reverse burst.middle) ∙ ap reverse middle ∙ reverse-reverse burst.other in
    burst.first ∙ ap (λ u. burst.front ++ (u ++ burst.back)) parts ∙ sym burst.second

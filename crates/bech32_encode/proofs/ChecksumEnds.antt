-- Elements with their checksum behind them, one at a time.
use Rattle.std.proofs.Common.{◌≡◌, ◌<◌, ◌-◌, ℕ, zero, suc, List, [], ◌∷◌, ◌++◌, length, reverse, Option, Some, None, subst, sym, ap, ◌∙◌, refl, append_assoc, arith}
use Rattle.std.proofs.lemmas.List.{reverse-append, length-reverse}
use Rattle.std.proofs.Math.Nat.{mod-eq_of_lt}
use Rattle.bech32_gf.specs.Field.{Ops}
use Rattle.bech32_gf.specs.Fe32 as fe32
use Rattle.bech32_gf.specs.laws.Fe32Laws.{is_field}
use Rattle.bech32_gf.specs.declared.gf32.Fe32.{Fe32}
use Rattle.bech32_poly.specs.Polynomial.{appended}
use Rattle.bech32_poly.specs.Remainder.{IsRemainder}
use Rattle.bech32_poly.proofs.Appended.{appended-append, checksum_of_target}
use Rattle.bech32_poly.proofs.Remainder.{remainder_of-itself, remainder_unique, remainder_exists, length-remainder_of}
use Rattle.bech32_poly.specs.Division.{step, remainder_of}
use Rattle.bech32_bits.specs.Adaptor.{then_gives}
use Rattle.bech32_encode.specs.ChecksumElements.{checksum_of, then_checksum}
use Rattle.bech32_checksum.specs.Code.{Code, IsResidueOf}
use Rattle.bech32_checksum.specs.Packed.{digit_of, digits, tabulate}
use Rattle.bech32_checksum.specs.TextPolynomial.{hrp_elements, text_polynomial, IsChecksumOf, IsChecksumOfElements, EndsInChecksum}
use Rattle.bech32_checksum.proofs.Digits.{length-tabulate}

-- ---- a row of digits, the highest first

tabulate-last : {A : Type 0} → (n : ℕ) (f : ℕ → A) → tabulate (suc n) f ≡ tabulate n f ++ (f n ∷ [])
tabulate-last zero f = refl
tabulate-last (suc n) f = ap (λ l. f 0 ∷ l) (tabulate-last n (λ i. f (suc i)))

-- the highest of a row, and then the others
pub highest_first : (left number v : ℕ) → 0 < left → v < 32 → v ≡ (digit_of number (left - 1)).value
    → reverse (digits left number) ≡ fe32.element v ∷ reverse (digits (left - 1) number)
highest_first zero number v some small value = absurd (omega arith)
highest_first (suc n) number v some small value =
    let less : suc n - 1 ≡ n = omega arith in
    let same : digit_of number n ≡ fe32.element v =
    fe32.path _ _ (ap (λ i. (digit_of number i).value) (sym less) ∙ sym value ∙ sym (mod-eq_of_lt small)) in
    ap reverse (tabulate-last n (digit_of number))
    ∙ reverse-append (digits n number) (digit_of number n ∷ [])
    ∙ ap (λ (x : Fe32). x ∷ reverse (digits n number)) same
    ∙ ap (λ i. fe32.element v ∷ reverse (digits i number)) (sym less)

-- ---- remainders

remainder_of-appended : {F : Type 0} (o : Ops F) (low p q xs : List F) → remainder_of o low p ≡ remainder_of o low q
    → remainder_of o low (appended p xs) ≡ remainder_of o low (appended q xs)
remainder_of-appended o low p q [] e = e
remainder_of-appended o low p q (x ∷ xs) e = remainder_of-appended o low (x ∷ p) (x ∷ q) xs (ap (λ r. step o low r x) e)

checksum_of-appended : (code : Code) (p q xs : List Fe32) → remainder_of fe32.ops code.generator p ≡ remainder_of fe32.ops code.generator q
    → checksum_of code (appended p xs) ≡ checksum_of code (appended q xs)
unfolding checksum_of
checksum_of-appended code p q xs e =
    ap reverse (remainder_of-appended fe32.ops code.generator (appended p xs) (appended q xs) (reverse code.target)
    (remainder_of-appended fe32.ops code.generator p q xs e))

module _ {R : Type 0} (number : R → ℕ) (code : Code) where
  -- a residue as a polynomial
  abbrev row : R → List Fe32
  row r = digits (length code.generator) (number r)

  row-itself : (r : R) → remainder_of fe32.ops code.generator (row r) ≡ row r
  row-itself r = remainder_of-itself is_field code.generator (row r) (length-tabulate (length code.generator) (digit_of (number r)))

  row-residue : (r : R) → IsResidueOf number code r (row r)
  row-residue r = subst (IsRemainder fe32.ops code.generator (row r)) (row-itself r) (remainder_exists is_field code.generator (row r))

  -- of one polynomial and of its residue
  same_remainder : (r : R) (p : List Fe32) → IsResidueOf number code r p → remainder_of fe32.ops code.generator (row r) ≡ remainder_of fe32.ops code.generator p
  same_remainder r p h = row-itself r ∙ remainder_unique is_field code.generator p (row r) h

  -- one more element
  pub then_checksum-more : (r u : R) (tail : Option ℕ) (x : Fe32) (xs : List Fe32) → tail ≡ None → ((p : List Fe32) → IsResidueOf number code r p → IsResidueOf number code u (x ∷ p))
      → then_checksum number code r tail (x ∷ xs) ≡ x ∷ then_checksum number code u tail xs
  then_checksum-more r u tail x xs here h =
      ap (λ o. then_checksum number code r o (x ∷ xs)) here
      ∙ ap (λ (l : List Fe32). x ∷ (xs ++ l)) (checksum_of-appended code (x ∷ row r) (row u) xs (sym (same_remainder u (x ∷ row r) (h (row r) (row-residue r)))))
      ∙ ap (λ o. x ∷ then_checksum number code u o xs) (sym here)

  -- some elements more
  pub then_checksum-append : (r u : R) (xs ys : List Fe32) → ((p : List Fe32) → IsResidueOf number code r p → IsResidueOf number code u (appended p xs))
      → then_checksum number code r None (xs ++ ys) ≡ xs ++ then_checksum number code u None ys
  then_checksum-append r u xs ys h =
      append_assoc xs ys (checksum_of code (appended (row r) (xs ++ ys)))
      ∙ ap (λ (l : List Fe32). xs ++ (ys ++ l))
      (ap (checksum_of code) (appended-append (row r) xs ys)
      ∙ checksum_of-appended code (appended (row r) xs) (row u) ys (sym (same_remainder u (appended (row r) xs) (h (row r) (row-residue r)))))

  -- no more: the residue with the target behind it is the checksum
  pub then_checksum-end : (r u : R) (d : ℕ) (xs : List Fe32) → ((p : List Fe32) → IsResidueOf number code r p → IsResidueOf number code u (appended p (reverse code.target)))
      → length code.generator ≡ d → xs ≡ [] → then_checksum number code r None xs ≡ reverse (digits d (number u))
  unfolding checksum_of
  then_checksum-end r u d xs h size none =
      ap (then_checksum number code r None) none
      ∙ ap reverse (sym (remainder_unique is_field code.generator (appended (row r) (reverse code.target)) (row u) (h (row r) (row-residue r))))
      ∙ ap (λ n. reverse (digits n (number u))) size

  -- an element of the checksum, or nothing where none is left
  pub then_checksum-tail : (r u : R) (tail more : Option ℕ) (left : ℕ) (result : Option Fe32) (xs : List Fe32) → tail ≡ Some left → u ≡ r → more ≡ Some (left - 1)
      → reverse (digits left (number r)) ≡ then_gives result (reverse (digits (left - 1) (number r))) → xs ≡ []
      → then_checksum number code r tail xs ≡ then_gives result (then_checksum number code u more xs)
  then_checksum-tail r u tail more left result xs here same there given none =
      ap (λ o. then_checksum number code r o xs) here
      ∙ ap (λ l. l ++ reverse (digits left (number r))) none
      ∙ given
      ∙ ap (λ l. then_gives result (l ++ reverse (digits (left - 1) (number r)))) (sym none)
      ∙ ap (λ o. then_gives result (then_checksum number code r o xs)) (sym there)
      ∙ ap (λ q. then_gives result (then_checksum number code q more xs)) (sym same)

  -- where no element of it is left, nothing is
  pub then_checksum-none : (r : R) (more : Option ℕ) (left : ℕ) → more ≡ Some (left - 1) → left ≡ 0 → then_checksum number code r more [] ≡ []
  then_checksum-none r more left there none =
      let zero_left : left - 1 ≡ 0 = omega arith in
      ap (λ o. then_checksum number code r o []) there ∙ ap (λ n. reverse (digits n (number r))) zero_left

  -- the same where the elements end
  pub then_checksum-first : (r u v : R) (tail more : Option ℕ) (d : ℕ) (result : Option Fe32) (xs : List Fe32) → tail ≡ None
      → ((p : List Fe32) → IsResidueOf number code r p → IsResidueOf number code u (appended p (reverse code.target)))
      → v ≡ u → more ≡ Some (d - 1) → length code.generator ≡ d
      → reverse (digits d (number u)) ≡ then_gives result (reverse (digits (d - 1) (number u))) → xs ≡ []
      → then_checksum number code r tail xs ≡ then_gives result (then_checksum number code v more xs)
  then_checksum-first r u v tail more d result xs here h same there size given none =
      ap (λ o. then_checksum number code r o xs) here
      ∙ then_checksum-end r u d xs h size none
      ∙ ap (λ l. l ++ reverse (digits d (number u))) (sym none)
      ∙ then_checksum-tail u v (Some d) more d result xs refl same there given none

  -- what comes of an engine that holds the residue of a polynomial
  pub then_checksum-start : (r : R) (p xs : List Fe32) → IsResidueOf number code r p → then_checksum number code r None xs ≡ xs ++ checksum_of code (appended p xs)
  then_checksum-start r p xs h = ap (λ (l : List Fe32). xs ++ l) (checksum_of-appended code (row r) p xs (same_remainder r p h))

-- ---- it is the checksum

-- the target has as many coefficients as the generator has lower ones: `k` is the code of the packed words
pub target-length : (code k : Code) (degree : ℕ) → code ≡ k → length k.target ≡ degree → length code.generator ≡ degree → length code.target ≡ length code.generator
target-length code k degree law size degree_law = ap (λ (c : Code). length c.target) law ∙ size ∙ sym degree_law

-- elements put behind a polynomial of a human-readable part and elements
pub text_polynomial-append : (hrp : List ℕ) (xs c : List Fe32) → text_polynomial hrp (xs ++ c) ≡ appended (text_polynomial hrp xs) c
text_polynomial-append hrp xs c =
    let one : List Fe32 = fe32.one ∷ [] in
    ap (appended one) (sym (append_assoc (hrp_elements hrp) xs c)) ∙ appended-append one (hrp_elements hrp ++ xs) c

module _ (code : Code) (size : length code.target ≡ length code.generator) where
  pub length-checksum_of : (p : List Fe32) → length (checksum_of code p) ≡ length code.generator
  unfolding checksum_of
  length-checksum_of p =
      length-reverse (remainder_of fe32.ops code.generator (appended p (reverse code.target)))
      ∙ length-remainder_of is_field code.generator (appended p (reverse code.target))

  has_target : (p : List Fe32) → IsRemainder fe32.ops code.generator (appended p (checksum_of code p)) code.target
  unfolding checksum_of
  has_target p =
      checksum_of_target is_field code.generator p code.target _ (λ x. refl) size (remainder_exists is_field code.generator (appended p (reverse code.target)))

  checksum_of-elements : (xs : List Fe32) → IsChecksumOfElements code xs (checksum_of code (appended (fe32.one ∷ []) xs))
  checksum_of-elements xs =
      let c : List Fe32 = checksum_of code (appended (fe32.one ∷ []) xs) in
      record {
        size = length-checksum_of (appended (fe32.one ∷ []) xs);
        has_target = subst (λ p. IsRemainder fe32.ops code.generator p code.target) (sym (appended-append (fe32.one ∷ []) xs c)) (has_target (appended (fe32.one ∷ []) xs));
      }

  pub checksum_of-hrp : (hrp : List ℕ) (xs : List Fe32) → IsChecksumOf code hrp xs (checksum_of code (text_polynomial hrp xs))
  checksum_of-hrp hrp xs =
      let c : List Fe32 = checksum_of code (text_polynomial hrp xs) in
      record {
        size = length-checksum_of (text_polynomial hrp xs);
        has_target = subst (λ p. IsRemainder fe32.ops code.generator p code.target) (sym (text_polynomial-append hrp xs c)) (has_target (text_polynomial hrp xs));
      }

  module _ {R : Type 0} (number : R → ℕ) (residue : R) where
    -- what comes of an engine that was given nothing
    pub ends_in_checksum : IsResidueOf number code residue (fe32.one ∷ [])
        → (xs : List Fe32) → EndsInChecksum (IsChecksumOfElements code) xs (then_checksum number code residue None xs)
    ends_in_checksum h xs = record {
      checksum = checksum_of code (appended (fe32.one ∷ []) xs);
      is_checksum = checksum_of-elements xs;
      given_is = then_checksum-start number code residue (fe32.one ∷ []) xs h;
    }

    -- or a human-readable part
    pub ends_in_checksum_of_hrp : (hrp : List ℕ) → IsResidueOf number code residue (appended (fe32.one ∷ []) (hrp_elements hrp))
        → (xs : List Fe32) → EndsInChecksum (IsChecksumOf code hrp) xs (then_checksum number code residue None xs)
    ends_in_checksum_of_hrp hrp h xs = record {
      checksum = checksum_of code (text_polynomial hrp xs);
      is_checksum = checksum_of-hrp hrp xs;
      given_is = then_checksum-start number code residue (appended (fe32.one ∷ []) (hrp_elements hrp)) xs h
          ∙ ap (λ p. xs ++ checksum_of code p) (sym (appended-append (fe32.one ∷ []) (hrp_elements hrp) xs));
    }

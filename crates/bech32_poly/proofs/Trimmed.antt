-- The zeros at the high end of a list of coefficients.
use Rattle.std.proofs.Common.{◌≡◌, ◌≢◌, ℕ, ◌+◌, ◌-◌, ◌<◌, ◌≤◌, List, length, take, get_or, sym, ap, ◌∙◌, arith}
use Rattle.std.proofs.lemmas.List.{get_or_past, get_or-take, get_or_default, length-take-le}
use Rattle.std.proofs.Math.Decide.{dec_lt}
use Rattle.bech32_gf.specs.Field.{Ops}
use Rattle.bech32_poly.specs.Polynomial.{coefficient, IsSamePolynomial}
use Rattle.bech32_poly.specs.Degree.{IsDegree}

-- of the first i coefficients those from place n on are zero, and the one before is not
pub record IsTrimmed {F : Type 0} (o : Ops F) (p : List F) (i n : ℕ) : Type 0 where
  pub within : n ≤ i
  pub above : (k : ℕ) → n ≤ k → k < i → coefficient o p k ≡ o.zero
  pub leads : 0 < n → coefficient o p (n - 1) ≢ o.zero

module _ {F : Type 0} (o : Ops F) where
  pub none_trimmed : (p : List F) → IsTrimmed o p 0 0
  none_trimmed p = record { within = omega arith; above = λ k far near. absurd (omega arith); leads = λ some. absurd (omega arith) }

  here : (p : List F) (x : F) (i : ℕ) → i < length p → x ≡ get_or p i x → coefficient o p i ≡ x
  here p x i within read = get_or_default p i o.zero x within ∙ sym read

  pub zero_trimmed : (p : List F) (x : F) (i n n' : ℕ) → IsTrimmed o p i n → i < length p → x ≡ get_or p i x → x ≡ o.zero → n' ≡ n → IsTrimmed o p (i + 1) n'
  zero_trimmed p x i n n' h within read is same = record {
    within = omega (arith, h.within);
    above = λ k far near. elim (dec_lt k i) [
      | yes less ↦ h.above k (omega arith) less
      | no more ↦ let last : k ≡ i = omega arith in ap (coefficient o p) last ∙ here p x i within read ∙ is
    ];
    leads = λ some e. h.leads (omega arith) (ap (λ m. coefficient o p (m - 1)) (sym same) ∙ e);
  }

  pub other_trimmed : (p : List F) (x : F) (i n n' : ℕ) → i < length p → x ≡ get_or p i x → x ≢ o.zero → n' ≡ i + 1 → IsTrimmed o p (i + 1) n'
  other_trimmed p x i n n' within read is same = record {
    within = omega arith;
    above = λ k far near. absurd (omega arith);
    leads = λ some e. let at : n' - 1 ≡ i = omega arith in is (sym (here p x i within read) ∙ ap (coefficient o p) (sym at) ∙ e);
  }

  pub trimmed_above : (p : List F) (n : ℕ) → IsTrimmed o p (length p) n → (k : ℕ) → n ≤ k → coefficient o p k ≡ o.zero
  trimmed_above p n h k far = elim (dec_lt k (length p)) [
    | yes less ↦ h.above k far less
    | no more ↦ get_or_past p k o.zero (omega arith)
  ]

  -- the degree is one less than what is left
  pub degree_is : (p : List F) (n d : ℕ) → ((k : ℕ) → n ≤ k → coefficient o p k ≡ o.zero) → (0 < n → coefficient o p (n - 1) ≢ o.zero) → d ≡ n - 1 → IsDegree o p d
  degree_is p n d above leads e = record {
    above = λ k far. above k (omega arith);
    leads = λ some z. leads (omega arith) (ap (coefficient o p) (sym e) ∙ z);
  }

  pub trimmed_same : (p : List F) (n : ℕ) → n ≤ length p → ((k : ℕ) → n ≤ k → coefficient o p k ≡ o.zero) → IsSamePolynomial o (take n p) p
  trimmed_same p n within above k = elim (dec_lt k n) [
    | yes less ↦ get_or-take n p k o.zero less
    | no more ↦ get_or_past (take n p) k o.zero (omega (arith, length-take-le n p within)) ∙ sym (above k (omega arith))
  ]

  pub trimmed_leads : (p : List F) (n : ℕ) → n ≤ length p → (0 < n → coefficient o p (n - 1) ≢ o.zero) → 0 < length (take n p) → coefficient o (take n p) (length (take n p) - 1) ≢ o.zero
  trimmed_leads p n within leads some e =
      let size : length (take n p) ≡ n = length-take-le n p within in
      leads (omega (arith, size)) (sym (get_or-take n p (n - 1) o.zero (omega (arith, size))) ∙ ap (λ m. coefficient o (take n p) (m - 1)) (sym size) ∙ e)

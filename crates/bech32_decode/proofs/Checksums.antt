-- What a packed residue says of a text, where the digits of a number are the checksum's target.
use Rattle.std.proofs.Common.{◌≡◌, ◌≢◌, ◌↔◌, ◌<◌, ◌≤◌, ◌*◌, ◌^◌, ℕ, List, length, sym, ap, subst, ◌∙◌, arith}
use Rattle.std.proofs.lemmas.List.{nil_from_length}
use Rattle.bech32_gf.specs.Fe32 as fe32
use Rattle.bech32_gf.specs.laws.Fe32Laws.{is_field}
use Rattle.bech32_gf.specs.declared.gf32.Fe32.{Fe32}
use Rattle.bech32_poly.specs.Polynomial.{coefficient}
use Rattle.bech32_poly.specs.Remainder.{IsRemainder}
use Rattle.bech32_poly.proofs.Remainder.{remainder_exists, remainder_unique}
use Rattle.bech32_poly.specs.Division.{remainder_of}
use Rattle.bech32_checksum.specs.Code.{Code}
use Rattle.bech32_checksum.specs.Packed.{digit_of, digits}
use Rattle.bech32_checksum.proofs.Digits.{length-tabulate}
use Rattle.bech32_decode.specs.Acceptance.{Accepts}
use Rattle.bech32_refusals.specs.ResidueRows.{IsResidueError, actual_row, target_row}
use Rattle.bech32_decode.specs.Text.{IsInGrammar}
use Rattle.bech32_refusals.specs.declared.error.InvalidResidueError.{InvalidResidueError}
use Rattle.bech32_checksum.proofs.DigitRows.{coefficient-digits, digits-injective}

module _ (code : Code) (d t : ℕ) (degree : length code.generator ≡ d) (row : code.target ≡ digits d t) where
  length-target : length code.target ≡ length code.generator
  length-target = ap length row ∙ length-tabulate d (digit_of t) ∙ sym degree

  -- at degree 0 each polynomial has the target as remainder
  pub has_target-degree_0 : d ≡ 0 → (p : List Fe32) → IsRemainder fe32.ops code.generator p code.target
  has_target-degree_0 e p =
      let size = length-target in
      let there = remainder_exists is_field code.generator p in
      let short : length (remainder_of fe32.ops code.generator p) ≡ length code.generator = there.short in
      let same : remainder_of fe32.ops code.generator p ≡ code.target =
      nil_from_length (remainder_of fe32.ops code.generator p) (omega arith) ∙ sym (nil_from_length code.target (omega arith)) in
      subst (IsRemainder fe32.ops code.generator p) same there

  -- so grammar and length alone decide
  pub accepts-degree_0 : (n : ℕ) → code.code_length ≡ n → d ≡ 0 → (text : List ℕ) → Accepts code text ↔ (IsInGrammar text × (length text ≤ n))
  accepts-degree_0 n size e text = (
    λ a. ((a.0, a.1, a.2.grammar), (let fits : length text ≤ code.code_length = a.2.text_length in omega arith)),
    λ h. (h.0.0, h.0.1, record { grammar = h.0.2; text_length = (let fits : length text ≤ n = h.1 in omega arith); data_length = omega arith; has_target = has_target-degree_0 e _ }),
  )

  -- where the residue is the target
  pub has_target : (residue : ℕ) (p : List Fe32) → residue ≡ t → IsRemainder fe32.ops code.generator p (digits (length code.generator) residue)
      → IsRemainder fe32.ops code.generator p code.target
  has_target residue p e h =
      let same : digits (length code.generator) residue ≡ code.target = ap (λ k. digits k residue) degree ∙ ap (digits d) e ∙ sym row in
      subst (IsRemainder fe32.ops code.generator p) same h

  -- where it is not
  pub residue_error : (residue : ℕ) (p : List Fe32) (e : InvalidResidueError) → residue < 2 ^ (5 * d) → t < 2 ^ (5 * d)
      → residue ≢ t → IsRemainder fe32.ops code.generator p (digits (length code.generator) residue)
      → ((i : ℕ) → coefficient fe32.ops (actual_row e) i ≡ digit_of residue i)
      → ((i : ℕ) → coefficient fe32.ops (target_row e) i ≡ digit_of t i)
      → IsResidueError code p e
  residue_error residue p e small small' ne h actual wanted = record {
    remainder = digits d residue;
    is_remainder = subst (λ k. IsRemainder fe32.ops code.generator p (digits k residue)) degree h;
    not_target = λ same. ne (digits-injective d residue t small small' (same ∙ row));
    actual = λ i. actual i ∙ sym (coefficient-digits d residue i small);
    target = λ i. wanted i ∙ sym (coefficient-digits d t i small') ∙ ap (λ (xs : List Fe32). coefficient fe32.ops xs i) (sym row);
  }

  -- the target is the remainder of those digits alone
  pub target_alone : (residue : ℕ) (p : List Fe32) → residue < 2 ^ (5 * d) → t < 2 ^ (5 * d)
      → IsRemainder fe32.ops code.generator p (digits (length code.generator) residue)
      → IsRemainder fe32.ops code.generator p code.target → residue ≡ t
  target_alone residue p small small' h wanted =
      let found : digits (length code.generator) residue ≡ remainder_of fe32.ops code.generator p = remainder_unique is_field code.generator p _ h in
      let same : code.target ≡ remainder_of fe32.ops code.generator p = remainder_unique is_field code.generator p _ wanted in
      digits-injective d residue t small small' (ap (λ k. digits k residue) (sym degree) ∙ found ∙ sym same ∙ row)

  -- so that the target is not the remainder
  pub no_target : (residue : ℕ) (p : List Fe32) → residue < 2 ^ (5 * d) → t < 2 ^ (5 * d) → residue ≢ t
      → IsRemainder fe32.ops code.generator p (digits (length code.generator) residue)
      → IsRemainder fe32.ops code.generator p code.target → ⊥
  no_target residue p small small' ne h wanted = ne (target_alone residue p small small' h wanted)

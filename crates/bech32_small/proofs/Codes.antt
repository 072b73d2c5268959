-- The codes of Bech32 and Bech32m, short and long, by their targets as numbers.
use Rattle.std.specs.Prelude.{◌==◌, Bool, false, if◌then◌else◌}
use Rattle.std.proofs.Common.{◌≡◌, ◌∙◌, ℕ, Option, Some, None, MatchOption, inl, inr, refl, sym, ap, subst}
use Rattle.std.proofs.lemmas.Bool.Decides.{eqb_tells}
use Rattle.bech32.specs.Long.{long_bech32, long_bech32m}
use Rattle.bech32_checksum.specs.Code.{Code, bech32, bech32m}
use Rattle.bech32_checksum.specs.laws.CodeLaws.{bech32_is_packed, bech32m_is_packed}
use Rattle.bech32_calls.specs.Checksums.{ForChecksum, IsFaultBy, IsFaultOfTexts, code_of_number, code_of_text_number}
use Rattle.bech32_calls.specs.Faults.{IsNumberOf}
use Rattle.bech32_calls.specs.declared.refusal.Refusal.{Refusal}
use Rattle.bech32_calls.specs.declared.refusal.Refusal.TheVariants.{BadNumber}
use Rattle.bech32_small.specs.Target.{IsTargetOf, PacksTarget}

pub bech32_target : PacksTarget 1 bech32
bech32_target = record { generator = refl; target_is = ap (λ (k : Code). k.target) bech32_is_packed }

pub bech32m_target : PacksTarget 0x2bc830a3 bech32m
bech32m_target = record { generator = refl; target_is = ap (λ (k : Code). k.target) bech32m_is_packed }

pub long_bech32_target : PacksTarget 1 long_bech32
long_bech32_target = record { generator = refl; target_is = ap (λ (k : Code). k.target) bech32_is_packed }

pub long_bech32m_target : PacksTarget 0x2bc830a3 long_bech32m
long_bech32m_target = record { generator = refl; target_is = ap (λ (k : Code). k.target) bech32m_is_packed }

-- ---- a number that is that of no checksum

differs : (n k : ℕ) → (n ≡ k → ⊥) → (n == k) ≡ false
differs n k not = elim (eqb_tells n k) [
  | inl y ↦ absurd (not y.1)
  | inr y ↦ y.0
]

pub no_code : (n : ℕ) → (n ≡ 1 → ⊥) → (n ≡ 2 → ⊥) → code_of_number n ≡ None
no_code n a b =
    ap (λ (t : Bool). if t then Some bech32 else (if n == 2 then Some bech32m else None)) (differs n 1 a)
    ∙ ap (λ (t : Bool). if t then Some bech32m else None) (differs n 2 b)

pub bad_number_by : (n : ℕ) (IsFault : Code → Refusal → Type 0) → code_of_number n ≡ None → IsNumberOf (IsFaultBy n IsFault) 4
bad_number_by n IsFault none = record {
  refusal = BadNumber;
  holds = subst (λ (o : Option Code). MatchOption o (BadNumber ≡ BadNumber) (λ code. IsFault code BadNumber)) (sym none) refl;
  number = refl;
}

pub bad_number_of_texts : (n : ℕ) (IsFault : Code → Refusal → Type 0) → (n ≡ 1 → ⊥) → (n ≡ 2 → ⊥) → (n ≡ 3 → ⊥) → (n ≡ 4 → ⊥)
    → IsNumberOf (IsFaultOfTexts n IsFault) 4
bad_number_of_texts n IsFault a b c d =
    let none : code_of_text_number n ≡ None =
    ap (λ (t : Bool). if t then Some bech32 else (if n == 2 then Some bech32m else (if n == 3 then Some long_bech32 else (if n == 4 then Some long_bech32m else None)))) (differs n 1 a)
    ∙ ap (λ (t : Bool). if t then Some bech32m else (if n == 3 then Some long_bech32 else (if n == 4 then Some long_bech32m else None))) (differs n 2 b)
    ∙ ap (λ (t : Bool). if t then Some long_bech32 else (if n == 4 then Some long_bech32m else None)) (differs n 3 c)
    ∙ ap (λ (t : Bool). if t then Some long_bech32m else None) (differs n 4 d) in
    record {
      refusal = BadNumber;
      holds = subst (λ (o : Option Code). MatchOption o (BadNumber ≡ BadNumber) (λ code. IsFault code BadNumber)) (sym none) refl;
      number = refl;
    }

-- ---- a number that is that of a checksum, whose target is found

module _ (n target : ℕ) (t : IsTargetOf n target) where
  pub so_for : (P : Code → Type 0) → P t.code → ForChecksum n P
  so_for P h = subst (λ (o : Option Code). MatchOption o ⊥ P) (sym t.code_is) h

  pub fault_for : (IsFault : Code → Refusal → Type 0) (k : ℕ) → IsNumberOf (IsFault t.code) k → IsNumberOf (IsFaultBy n IsFault) k
  fault_for IsFault k h = record {
    refusal = h.refusal;
    holds = subst (λ (o : Option Code). MatchOption o (h.refusal ≡ BadNumber) (λ code. IsFault code h.refusal)) (sym t.code_is) h.holds;
    number = h.number;
  }

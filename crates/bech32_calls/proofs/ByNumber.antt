-- The checksum of a number, and calls that are refused by it.
use Rattle.std.specs.Prelude.{if◌then◌else◌}
use Rattle.std.proofs.Common.{◌≡◌, ◌==◌, ℕ, Bool, true, false, Option, Some, None, MatchOption}
use Rattle.bech32_checksum.specs.Code.{Code, bech32, bech32m}
use Rattle.bech32_calls.specs.Checksums.{code_of_number, code_of_text_number, ForChecksum, ForTexts, IsFaultBy, IsFaultOfTexts}
use Rattle.bech32_calls.specs.declared.refusal.Refusal.{Refusal}
use Rattle.bech32_calls.specs.declared.refusal.Refusal.TheVariants.{BadNumber}

module _ (P : Code → Type 0) (Q : Type 0) (gives : (code : Code) → P code → Q) where
  out_of : (o : Option Code) → MatchOption o ⊥ P → Q
  out_of None h = absurd h
  out_of (Some code) h = gives code h

  -- what follows by any checksum, and does not name it
  pub from_checksum : (n : ℕ) → ForChecksum n P → Q
  from_checksum n = out_of (code_of_number n)

module _ (P : Code → Type 0) (Q : Type 0) (one : P bech32 → Q) (two : P bech32m → Q) where
  out_of_either : (first second : Bool) → MatchOption (if first then Some bech32 else (if second then Some bech32m else None)) ⊥ P → Q
  out_of_either true second h = one h
  out_of_either false true h = two h
  out_of_either false false h = absurd h

  -- what follows by both checksums
  pub from_either : (n : ℕ) → ForChecksum n P → Q
  from_either n = out_of_either (n == 1) (n == 2)

module _ (P : Code → Type 0) (IsFault : Code → Refusal → Type 0) (e : Refusal) (Q : Type 0) (gives : (code : Code) → P code → IsFault code e → Q) where
  out_of_both : (o : Option Code) → MatchOption o ⊥ P → MatchOption o (e ≡ BadNumber) (λ code. IsFault code e) → Q
  out_of_both None h f = absurd h
  out_of_both (Some code) h f = gives code h f

  -- what follows from what is wrong by a checksum of which something holds
  pub from_both : (n : ℕ) → ForChecksum n P → IsFaultBy n IsFault e → Q
  from_both n = out_of_both (code_of_number n)

-- nothing is wrong by the checksum of a number where nothing is by that checksum
pub no_fault_by : (P : Code → Type 0) (IsFault : Code → Refusal → Type 0) (e : Refusal) → ((code : Code) → P code → IsFault code e → ⊥) → (n : ℕ) → ForChecksum n P → IsFaultBy n IsFault e → ⊥
no_fault_by P IsFault e none = from_both P IsFault e ⊥ none

module _ (P Q : Code → Type 0) (more : (code : Code) → P code → Q code) where
  more_of : (o : Option Code) → MatchOption o ⊥ P → MatchOption o ⊥ Q
  more_of None h = h
  more_of (Some code) h = more code h

  -- what follows by any checksum follows by that of a number
  pub more_for : (n : ℕ) → ForChecksum n P → ForChecksum n Q
  more_for n = more_of (code_of_number n)

module _ (A B : Code → Refusal → Type 0) (e : Refusal) (more : (code : Code) → A code e → B code e) where
  fault_of : (o : Option Code) → MatchOption o (e ≡ BadNumber) (λ code. A code e) → MatchOption o (e ≡ BadNumber) (λ code. B code e)
  fault_of None h = h
  fault_of (Some code) h = more code h

  -- what is wrong by any checksum where something else is
  pub fault_by : (n : ℕ) → IsFaultBy n A e → IsFaultBy n B e
  fault_by n = fault_of (code_of_number n)

module _ (P : Code → Type 0) (IsFault : Code → Refusal → Type 0) (e : Refusal) (wrong : (code : Code) → P code → IsFault code e) where
  wrong_of : (o : Option Code) → MatchOption o ⊥ P → MatchOption o (e ≡ BadNumber) (λ code. IsFault code e)
  wrong_of None h = absurd h
  wrong_of (Some code) h = wrong code h

  -- what is wrong by any checksum of which something holds
  pub wrong_by : (n : ℕ) → ForChecksum n P → IsFaultBy n IsFault e
  wrong_by n = wrong_of (code_of_number n)

module _ (IsFault : Code → Refusal → Type 0) (e : Refusal) (Q : Type 0) (none : e ≡ BadNumber → Q) (gives : (code : Code) → IsFault code e → Q) where
  out_of_fault : (o : Option Code) → MatchOption o (e ≡ BadNumber) (λ code. IsFault code e) → Q
  out_of_fault None h = none h
  out_of_fault (Some code) h = gives code h

-- a number that is that of no checksum is refused
pub unchecked_by : (IsFault : Code → Refusal → Type 0) (e : Refusal) (n : ℕ) → IsFaultBy n (λ _ _. ⊥) e → IsFaultBy n IsFault e
unchecked_by IsFault e = fault_by (λ _ _. ⊥) IsFault e (λ code h. absurd h)

module _ (IsFault : Code → Refusal → Type 0) (e : Refusal) (one : IsFault bech32 e) (two : IsFault bech32m e) where
  fault_of_either : (first second : Bool) → MatchOption (if first then Some bech32 else (if second then Some bech32m else None)) ⊥ (λ _. Unit {0})
      → MatchOption (if first then Some bech32 else (if second then Some bech32m else None)) (e ≡ BadNumber) (λ code. IsFault code e)
  fault_of_either true second h = one
  fault_of_either false true h = two
  fault_of_either false false h = absurd h

  -- what is wrong by both checksums is by that of a number
  pub either_fault : (n : ℕ) → ForChecksum n (λ _. Unit {0}) → IsFaultBy n IsFault e
  either_fault n = fault_of_either (n == 1) (n == 2)

module _ (P : Code → Type 0) (one : P bech32) (two : P bech32m) where
  so_of_either : (first second : Bool) → MatchOption (if first then Some bech32 else (if second then Some bech32m else None)) ⊥ (λ _. Unit {0})
      → MatchOption (if first then Some bech32 else (if second then Some bech32m else None)) ⊥ P
  so_of_either true second h = one
  so_of_either false true h = two
  so_of_either false false h = absurd h

  -- what holds of both checksums does of that of a number
  pub so_by_number : (n : ℕ) → ForChecksum n (λ _. Unit {0}) → ForChecksum n P
  so_by_number n = so_of_either (n == 1) (n == 2)

-- ---- the same of texts that are read and written

pub no_fault_of_texts : (P : Code → Type 0) (IsFault : Code → Refusal → Type 0) (e : Refusal) → ((code : Code) → P code → IsFault code e → ⊥) → (n : ℕ) → ForTexts n P
    → IsFaultOfTexts n IsFault e → ⊥
no_fault_of_texts P IsFault e none n = out_of_both P IsFault e ⊥ none (code_of_text_number n)

pub from_fault_of_texts : (IsFault : Code → Refusal → Type 0) (e : Refusal) (Q : Type 0) → (e ≡ BadNumber → Q) → ((code : Code) → IsFault code e → Q) → (n : ℕ)
    → IsFaultOfTexts n IsFault e → Q
from_fault_of_texts IsFault e Q none gives n = out_of_fault IsFault e Q none gives (code_of_text_number n)

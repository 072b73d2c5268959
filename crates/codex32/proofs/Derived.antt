-- The strings that shares give.
use Rattle.std.specs.Prelude.{MatchResult}
use Rattle.std.specs.List.{AllByRecursion}
use Rattle.std.proofs.Common.{◌≡◌, ℕ, ◌≤◌, List, [], ◌∷◌, Result, Ok, Err, length, get_or, refl, sym, ap, subst, ◌∙◌, arith}
use Rattle.bech32_gf.specs.Fe32 as fe32
use Rattle.bech32_gf.specs.Fe32.{element_of, elements_of}
use Rattle.bech32_gf.specs.Field.{Ops}
use Rattle.bech32_gf.specs.declared.gf32.Fe32.{Fe32}
use Rattle.codex32_steady.specs.shares.Shares.{AreShares, DoAgree, IsGiven}
use Rattle.codex32_steady.proofs.Written.{length-mapped}
use Rattle.codex32.specs.Derive.{DoContradict, IsDeriveRefusal, IsDerivedString, IsOfSet, IsWholeSet, count_of, indices_of, rows_of, size_of}
use Rattle.codex32.specs.Share.{characters_of_share, index_of_share}
use Rattle.codex32.specs.declared.error.DeriveError.{DeriveError}
use Rattle.codex32.specs.declared.share.Share.{Share}

-- where shares give a string, they agree
pub agree-from_given : {F : Type 0} (o : Ops F) (k : ℕ) (xs : List F) (ts : List (List F)) (n : ℕ) (x : F) (text : List F) → IsGiven o k xs ts n x text → DoAgree o k xs ts n
agree-from_given o k xs ts n x text given = λ i within. let h = given.elements i within in (h.0, h.1, h.2)

pub agree-from_put : (ss : List Share) (x : Fe32) (n : ℕ) (text : List Fe32) → n ≡ size_of ss → IsGiven fe32.ops (count_of ss) (indices_of ss) (rows_of ss) n x text
    → DoAgree fe32.ops (count_of ss) (indices_of ss) (rows_of ss) (size_of ss)
agree-from_put ss x n text e given =
    subst (DoAgree fe32.ops (count_of ss) (indices_of ss) (rows_of ss)) e (agree-from_given fe32.ops (count_of ss) (indices_of ss) (rows_of ss) n x text given)

alike : (first : Share) (ss : List Share) → AllByRecursion (IsOfSet first) ss
    → AllByRecursion (λ (t : List Fe32). length t ≡ length (characters_of_share first)) (rows_of ss)
alike first [] h = tt
alike first (s ∷ ss) h = (length-mapped element_of (characters_of_share s) ∙ h.0.size, alike first ss h.1)

-- a whole set is shares
pub shares-from_set : (ss : List Share) (x : Fe32) → IsWholeSet ss x → AreShares (indices_of ss) (rows_of ss) (size_of ss)
shares-from_set [] x whole = record { once = tt; one_each = refl; alike = tt }
shares-from_set (s ∷ ss) x whole = record {
  once = whole.once;
  one_each = length-mapped (λ (t : Share). elements_of (characters_of_share t)) (s ∷ ss) ∙ sym (length-mapped (λ (t : Share). index_of_share t) (s ∷ ss));
  alike = alike s (s ∷ ss) whole.set;
}

pub count-some : (ss : List Share) → 1 ≤ count_of ss
count-some [] = omega arith
count-some (s ∷ ss) = omega arith

pub size-first : (ss : List Share) (s : Share) → 1 ≤ length ss → s ≡ get_or ss 0 s → length (characters_of_share s) ≡ size_of ss
size-first [] s some e = absurd (omega (arith, some))
size-first (t ∷ ss) s some e = ap (λ (u : Share). length (characters_of_share u)) e

-- what the outcome says of refusals
pub refused-from_outcome : {S : Type 0} (bytes : S → List ℕ) (ss : List Share) (x : Fe32) (r : Result S DeriveError)
    → MatchResult r (λ s. IsWholeSet ss x × IsDerivedString ss x (bytes s)) (λ e. IsDeriveRefusal ss x e)
    → MatchResult r (λ _. IsWholeSet ss x × (DoContradict ss → ⊥)) (λ e. IsDeriveRefusal ss x e)
refused-from_outcome bytes ss x (Ok s) h = (h.0, λ contradict. contradict (agree-from_given fe32.ops (count_of ss) (indices_of ss) (rows_of ss) (size_of ss) x h.1.elements h.1.given))
refused-from_outcome bytes ss x (Err e) h = h

-- the same of a string that is put into a buffer
pub refused-from_put : (Q : DeriveError → Type 0) (bytes : ℕ → List ℕ) (ss : List Share) (x : Fe32) (r : Result ℕ DeriveError) → MatchResult r (λ n. IsWholeSet ss x × IsDerivedString ss x (bytes n)) Q
    → MatchResult r (λ _. IsWholeSet ss x × (DoContradict ss → ⊥)) Q
refused-from_put Q bytes ss x (Ok n) h = (h.0, λ contradict. contradict (agree-from_given fe32.ops (count_of ss) (indices_of ss) (rows_of ss) (size_of ss) x h.1.elements h.1.given))
refused-from_put Q bytes ss x (Err e) h = h

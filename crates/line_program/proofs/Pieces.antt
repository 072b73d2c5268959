-- Bytes that were added piece by piece.
use Rattle.std.proofs.Common.{◌≡◌, ℕ, List, ◌++◌, ap, ◌∙◌, append_assoc}

pub two-pieces : (out a b first second : List ℕ) → first ≡ out ++ a → second ≡ first ++ b → second ≡ out ++ (a ++ b)
two-pieces out a b first second p q = q ∙ ap (λ (t : List ℕ). t ++ b) p ∙ append_assoc out a b

pub three-pieces : (out a b c first second third : List ℕ) → first ≡ out ++ a → second ≡ first ++ b → third ≡ second ++ c → third ≡ out ++ (a ++ (b ++ c))
three-pieces out a b c first second third p q r =
    r ∙ ap (λ (t : List ℕ). t ++ c) (two-pieces out a b first second p q) ∙ append_assoc out (a ++ b) c ∙ ap (λ (t : List ℕ). out ++ t) (append_assoc a b c)

pub four-pieces : (out a b c d first second third fourth : List ℕ) → first ≡ out ++ a → second ≡ first ++ b → third ≡ second ++ c → fourth ≡ third ++ d
    → fourth ≡ out ++ (a ++ (b ++ (c ++ d)))
four-pieces out a b c d first second third fourth p q r s =
    two-pieces out (a ++ (b ++ c)) d third fourth (three-pieces out a b c first second third p q r) s
    ∙ ap (λ (t : List ℕ). out ++ t) (append_assoc a (b ++ c) d ∙ ap (λ (t : List ℕ). a ++ t) (append_assoc b c d))

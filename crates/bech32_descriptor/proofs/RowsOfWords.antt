-- Rows of words.
use Rattle.std.specs.Prelude.{◌/◌, ◌%◌}
use Rattle.std.proofs.Common.{◌≡◌, ◌<◌, ◌≤◌, ◌-◌, ℕ, suc, List, [], ◌∷◌, ◌++◌, length, inl, inr, sym, subst, arith}
use Rattle.std.proofs.lemmas.Bool.{cases_lt}
use Rattle.std.proofs.lemmas.List.{get_or_append_left, get_or_push, length_push}
use Rattle.bech32_gf.specs.Fe32 as fe32
use Rattle.bech32_descriptor.specs.Walks.{AreRows, times_power_of_x}
use Rattle.bech32_descriptor.specs.Words.{IsWordOfSymbols}

-- the word of an element times a power, of which another is 32 places before
pub next_power : (x w : ℕ) → 32 ≤ x → IsWordOfSymbols w (fe32.zero ∷ times_power_of_x ((x - 32) / 32) (fe32.element (x - 32) ∷ []))
    → IsWordOfSymbols w (times_power_of_x (x / 32) (fe32.element x ∷ []))
next_power x w h word =
    let n : suc ((x - 32) / 32) ≡ x / 32 = omega arith in
    let v : (x - 32) % 32 ≡ x % 32 = omega arith in
    subst (IsWordOfSymbols w) (λ i. times_power_of_x (n i) (fe32.path (fe32.element (x - 32)) (fe32.element x) v i ∷ [])) word

pub first_power : (x w : ℕ) → x < 32 → IsWordOfSymbols w (fe32.element x ∷ []) → IsWordOfSymbols w (times_power_of_x (x / 32) (fe32.element x ∷ []))
first_power x w h word =
    let n : 0 ≡ x / 32 = omega arith in
    subst (λ (k : ℕ). IsWordOfSymbols w (times_power_of_x k (fe32.element x ∷ []))) n word

-- one word more
pub more_rows : (rows : List ℕ) (w : ℕ) → AreRows rows → IsWordOfSymbols w (times_power_of_x (length rows / 32) (fe32.element (length rows) ∷ [])) → AreRows (rows ++ w ∷ [])
more_rows rows w are word = record {
  each = λ x low. elim (cases_lt x (length rows)) [
    | inl less ↦ subst (λ (v : ℕ). IsWordOfSymbols v (times_power_of_x (x / 32) (fe32.element x ∷ []))) (sym (get_or_append_left rows (w ∷ []) 0 x less)) (are.each x less)
    | inr last ↦
        (let at : length rows ≡ x = omega (arith, low, last, length_push rows w) in
        subst (λ (v : ℕ). IsWordOfSymbols v (times_power_of_x (x / 32) (fe32.element x ∷ []))) (sym (get_or_push rows w 0 x at))
        (subst (λ (k : ℕ). IsWordOfSymbols w (times_power_of_x (k / 32) (fe32.element k ∷ []))) at word))
  ];
}

pub no_rows : AreRows []
no_rows = record { each = λ x low. absurd (omega (arith, low)) }

-- Where those bytes begin at the end of a text of which each passes a test.
use Rattle.std.proofs.Common.{◌≡◌, ℕ, suc, ◌+◌, ◌-◌, ◌<◌, ◌≤◌, Bool, true, false, List, ◌∷◌, ◌++◌, length, get_or, refl, ap, ◌∙◌, arith, length-append}
use Rattle.std.proofs.lemmas.List.{get_or-append_right, get_or-append-add}
use Rattle.std.proofs.lemmas.List.Sums.{AllPass-from_list_all, suffix_len_is}
use Rattle.std.specs.List.{list_all, suffix_len}

-- behind the last byte that does not pass
pub end_at : (p : ℕ → Bool) (front behind : List ℕ) (x : ℕ) → p x ≡ false → list_all p behind ≡ true
    → length (front ++ (x ∷ behind)) - suffix_len p (front ++ (x ∷ behind)) ≡ suc (length front)
end_at p front behind x other pass =
    let xs = front ++ (x ∷ behind) in
    let n = length front + 1 in
    let size : length xs ≡ length front + suc (length behind) = length-append front (x ∷ behind) in
    let passes = AllPass-from_list_all p behind pass in
    let further : (k : ℕ) → n ≤ k → k < length xs → p (get_or xs k 0) ≡ true =
    λ k l m.
    let step : k - length front ≡ suc (k - n) = omega (arith, l) in
    let inside : k - n < length behind = omega (arith, l, m, size) in
    ap p (get_or-append_right front (x ∷ behind) (length front) k 0 refl (omega (arith, l)) ∙ ap (λ (i : ℕ). get_or (x ∷ behind) i 0) step) ∙ passes (k - n) 0 inside in
    let before : n - 1 ≡ length front + 0 = omega arith in
    let here : 0 < n → p (get_or xs (n - 1) 0) ≡ false =
    λ z. ap p (ap (λ (i : ℕ). get_or xs i 0) before ∙ get_or-append-add front (x ∷ behind) 0 0) ∙ other in
    omega (arith, size, suffix_len_is p xs n 0 (omega (arith, size)) further here)

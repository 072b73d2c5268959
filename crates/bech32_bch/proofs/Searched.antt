-- One location after another, as a search for roots finds them.
use Rattle.std.specs.Prelude.{Bool, true, false}
use Rattle.std.proofs.Common.{◌≡◌, ℕ, zero, suc, ◌+◌, ◌<◌, ◌≤◌, List, [], ◌∷◌, ◌++◌, length, take, sym, ap, ◌∙◌, refl, arith}
use Rattle.std.proofs.Math.Decide.{dec_lt}
use Rattle.std.proofs.lemmas.List.{append-nil, append_assoc, take_all}
use Rattle.bech32_gf.specs.Field.{Ops, IsField}
use Rattle.bech32_poly.specs.RootSearch.{RootSearch, left_of, multiplied_each, total_of, value_after}
use Rattle.bech32_poly.proofs.RootTerms.{search_over, stepped_found, stepped_missed, value_after-now}

taken : {A : Type 0} (xs ys : List A) (n : ℕ) → length xs ≡ n → xs ≡ take n (xs ++ ys)
taken [] [] zero e = refl
taken [] (y ∷ ys) zero e = refl
taken [] ys (suc n) e = absurd (omega (arith, e))
taken (x ∷ xs) ys zero e = absurd (omega (arith, e))
taken (x ∷ xs) ys (suc n) e = ap (λ u. x ∷ u) (taken xs ys n (omega (arith, e)))

-- the first of all that is found
first_found : (found left roots : List ℕ) (n : ℕ) → found ++ left ≡ roots → length found ≡ n → found ≡ take n roots
first_found found left roots n whole size = taken found left n size ∙ ap (take n) whole

module _ {K : Type 0} {o : Ops K} (l : IsField o) (same : K → K → Bool) where
  abbrev pub searching : List K → List K → ℕ → ℕ → RootSearch K
  searching terms factors location window = record { terms = terms; factors = factors; next = location; end = window }

  root_told : (terms factors : List K) (sum z : K) (is_root : Bool) → length factors ≡ length terms → sum ≡ total_of o terms → z ≡ o.zero → is_root ≡ same sum z
      → is_root ≡ same (value_after o terms factors 0) o.zero
  root_told terms factors sum z is_root size summed zero_is told =
      told ∙ ap (λ x. same x z) (summed ∙ sym (value_after-now l terms factors size)) ∙ ap (same (value_after o terms factors 0)) zero_is

  -- a location at which the terms add up to zero
  pub root_met : (terms terms' factors : List K) (location location' window : ℕ) (found found' roots : List ℕ) (sum z : K) (is_root : Bool) → is_root ≡ true → location < window
      → length factors ≡ length terms → sum ≡ total_of o terms → z ≡ o.zero → is_root ≡ same sum z → terms' ≡ multiplied_each o terms factors → location' ≡ location + 1
      → found' ≡ found ++ (location ∷ []) → found ++ left_of o same (searching terms factors location window) ≡ roots → found' ++ left_of o same (searching terms' factors location' window) ≡ roots
  root_met terms terms' factors location location' window found found' roots sum z is_root yes_root more size summed zero_is told stepped next pushed whole =
      ap (λ u. u ++ left_of o same (searching terms' factors location' window)) pushed
      ∙ append_assoc found (location ∷ []) (left_of o same (searching terms' factors location' window))
      ∙ ap (λ u. found ++ u) (sym (stepped_found l same (searching terms factors location window) (searching terms' factors location' window) is_root yes_root more (root_told terms factors sum z is_root size summed zero_is told) stepped refl next refl))
      ∙ whole

  -- a location at which they do not
  pub root_passed : (terms terms' factors : List K) (location location' window : ℕ) (found found' roots : List ℕ) (sum z : K) (is_root : Bool) → is_root ≡ false → location < window
      → length factors ≡ length terms → sum ≡ total_of o terms → z ≡ o.zero → is_root ≡ same sum z → terms' ≡ multiplied_each o terms factors → location' ≡ location + 1
      → found' ≡ found → found ++ left_of o same (searching terms factors location window) ≡ roots → found' ++ left_of o same (searching terms' factors location' window) ≡ roots
  root_passed terms terms' factors location location' window found found' roots sum z is_root none more size summed zero_is told stepped next kept whole =
      ap (λ u. u ++ left_of o same (searching terms' factors location' window)) kept
      ∙ ap (λ u. found ++ u) (sym (stepped_missed l same (searching terms factors location window) (searching terms' factors location' window) is_root none more (root_told terms factors sum z is_root size summed zero_is told) stepped refl next refl))
      ∙ whole

  -- where the window ends or enough are found, the first of all are found
  pub stopped : (terms factors : List K) (location window n : ℕ) (found roots : List ℕ) → (length found < n → window ≤ location) → length found ≤ n
      → found ++ left_of o same (searching terms factors location window) ≡ roots → found ≡ take n roots
  stopped terms factors location window n found roots over few whole = elim (dec_lt (length found) n) [
    | yes k ↦
        let all : found ≡ roots = sym (append-nil found) ∙ ap (λ u. found ++ u) (sym (search_over l same (searching terms factors location window) (over k))) ∙ whole in
        all ∙ sym (take_all n roots (omega (arith, ap (λ u. length u) all, few)))
    | no k ↦ first_found found (left_of o same (searching terms factors location window)) roots n whole (omega (arith, few, k))
  ]

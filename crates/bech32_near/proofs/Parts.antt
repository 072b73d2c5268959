-- Lists of elements, cut at a location.
use Rattle.std.proofs.Common.{◌≡◌, ℕ, suc, ◌+◌, ◌-◌, ◌<◌, ◌≤◌, ◌↔◌, List, [], ◌∷◌, ◌++◌, length, take, drop, length-append, sym, ap, ◌∙◌, refl, arith}
use Rattle.std.proofs.lemmas.List.{take-append-drop, length-drop, take_more, drop_all, drop_more}
use Rattle.bech32_gf.specs.Fe32 as fe32
use Rattle.bech32_gf.specs.declared.gf32.Fe32.{Fe32}
use Rattle.bech32_poly.proofs.Lists.{same_cons}
use Rattle.bech32_near.specs.edits.Edits.{StartsWith}
use Rattle.bech32_near.specs.edits.Walks.{above, below, element_in}

-- a list is cut in one way by the length of what stands behind
pub same_parts : (f b g c : List Fe32) → f ++ b ≡ g ++ c → length b ≡ length c → (f ≡ g) × (b ≡ c)
same_parts [] b [] c e n = (refl, e)
same_parts [] b (x ∷ g) c e n =
    let whole : length b ≡ suc (length (g ++ c)) = ap (λ (l : List Fe32). length l) e in
    absurd (omega (arith, n, whole, length-append g c))
same_parts (x ∷ f) b [] c e n =
    let whole : suc (length (f ++ b)) ≡ length c = ap (λ (l : List Fe32). length l) e in
    absurd (omega (arith, n, whole, length-append f b))
same_parts (x ∷ f) b (y ∷ g) c e n =
    let first : x ≡ y = cc in
    let rest : f ++ b ≡ g ++ c = cc in
    let parts = same_parts f b g c rest n in
    (same_cons x y f g first parts.0, parts.1)

module _ (xs : List Fe32) (location : ℕ) where
  pub whole : xs ≡ above location xs ++ below location xs
  whole = sym (take-append-drop (length xs - location) xs)

  pub length-below : location ≤ length xs → length (below location xs) ≡ location
  length-below h = omega (arith, h, length-drop (length xs - location) xs)

  module _ (h : location < length xs) where
    place : length xs - (location + 1) ≡ length xs - 1 - location
    place = omega (arith, h)

    next : (length xs - 1 - location) + 1 ≡ length xs - location
    next = omega (arith, h)

    inside : length xs - 1 - location < length xs
    inside = omega (arith, h)

    pub above-next : above location xs ≡ above (location + 1) xs ++ element_in location xs ∷ []
    above-next =
        ap (λ n. take n xs) (sym next) ∙ take_more xs (length xs - 1 - location) fe32.zero inside
        ∙ ap (λ n. take n xs ++ element_in location xs ∷ []) (sym place)

    pub below-next : below (location + 1) xs ≡ element_in location xs ∷ below location xs
    below-next =
        ap (λ n. drop n xs) place ∙ drop_more xs (length xs - 1 - location) fe32.zero inside
        ∙ ap (λ n. element_in location xs ∷ drop n xs) next

    pub whole-at : xs ≡ above (location + 1) xs ++ element_in location xs ∷ below location xs
    whole-at = sym (take-append-drop (length xs - (location + 1)) xs) ∙ ap (λ (l : List Fe32). above (location + 1) xs ++ l) below-next

-- two neighbours
pub whole-two : (xs : List Fe32) (location : ℕ) → location + 1 < length xs
    → xs ≡ above (location + 1 + 1) xs ++ element_in (location + 1) xs ∷ element_in location xs ∷ below location xs
whole-two xs location h =
    let low : location < length xs = omega (arith, h) in
    whole-at xs (location + 1) h
    ∙ ap (λ (l : List Fe32). above (location + 1 + 1) xs ++ element_in (location + 1) xs ∷ l) (below-next xs location low)

-- there is nothing below the lowest location, and all below the highest
pub below-lowest : (xs : List Fe32) → below 0 xs ≡ []
below-lowest xs = drop_all (length xs - 0) xs (omega arith)

-- what stands below a location begins with the element at the location before it
pub begins-with : (xs : List Fe32) (location : ℕ) (x : Fe32) → 0 < location → location ≤ length xs → StartsWith x (below location xs) ↔ (element_in (location - 1) xs ≡ x)
begins-with xs location x some low =
    let before : location - 1 < length xs = omega (arith, some, low) in
    let same : location - 1 + 1 ≡ location = omega (arith, some) in
    let parts : below location xs ≡ element_in (location - 1) xs ∷ below (location - 1) xs = ap (λ n. below n xs) (sym same) ∙ below-next xs (location - 1) before in (
      (λ (rest, e). let both : element_in (location - 1) xs ∷ below (location - 1) xs ≡ x ∷ rest = sym parts ∙ e in cc),
      (λ e. (below (location - 1) xs, parts ∙ ap (λ (y : Fe32). y ∷ below (location - 1) xs) e)),
    )

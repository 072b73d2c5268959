-- The beginning of a text, character by character.
use Rattle.std.proofs.Common.{◌≡◌, ◌<◌, ◌∙◌, ◌+◌, ◌&&◌, ◌==◌, ℕ, suc, Bool, true, false, List, [], ◌∷◌, drop, get_or, length, refl, sym, ap, arith}
use Rattle.std.specs.Char.{to_ascii_lowercase}
use Rattle.std.proofs.Math.Seq.{drop-cons}
use Rattle.std.proofs.lemmas.List.{drop-drop}
use Rattle.bech32_typed.specs.Cleaned.{begins_lower}

-- the first character decides, and then the others
begins-cons : (w : ℕ) (ws text : List ℕ) → begins_lower (w ∷ ws) text ≡ (begins_lower (w ∷ []) text && begins_lower ws (drop 1 text))
begins-cons w ws [] = refl
begins-cons w ws (c ∷ cs) = and-true (to_ascii_lowercase c == w)
  where
    and-true : (b : Bool) → (b && begins_lower ws cs) ≡ ((b && true) && begins_lower ws cs)
    and-true true = refl
    and-true false = refl

-- from one place on, where it begins there
pub begins-more : (with text : List ℕ) (i : ℕ) → i < length with → begins_lower (get_or with i 0 ∷ []) (drop i text) ≡ true
    → begins_lower (drop (i + 1) with) (drop (i + 1) text) ≡ begins_lower (drop i with) (drop i text)
begins-more with text i inside h =
    let more : suc i ≡ i + 1 = omega arith in
    sym (
    ap (λ ws. begins_lower ws (drop i text)) (drop-cons with i 0 inside)
    ∙ begins-cons (get_or with i 0) (drop (suc i) with) (drop i text)
    ∙ ap (λ b. b && begins_lower (drop (suc i) with) (drop 1 (drop i text))) h
    ∙ ap (begins_lower (drop (suc i) with)) (drop-drop 1 i text)
    ∙ ap (λ k. begins_lower (drop k with) (drop (i + 1) text)) more)

-- Bytes that are changed one by one, in their place.
use Rattle.std.proofs.Common.{◌≡◌, ℕ, ◌+◌, ◌≤◌, ◌<◌, List, [], ◌∷◌, ◌++◌, length, take, drop, map, ap, sym, ◌∙◌, arith, get_or, set}
use Rattle.std.proofs.lemmas.List.{drop_more, take_more, take_more_set, drop-set-lt, map-append, take_all}

-- the first i bytes of `old` are changed by f in `new`, and the others are as they were
pub record IsMappedUpTo (f : ℕ → ℕ) (i : ℕ) (old new : List ℕ) : Type 0 where
  pub changed : take i new ≡ map f (take i old)
  pub others : drop i new ≡ drop i old

pub mapped-more : (f : ℕ → ℕ) (i y : ℕ) (old new : List ℕ) → IsMappedUpTo f i old new → i < length old → length new ≡ length old
    → y ≡ f (get_or new i 0) → IsMappedUpTo f (i + 1) old (set new i y)
mapped-more f i y old new m l e v =
    let here : get_or new i 0 ∷ drop (i + 1) new ≡ get_or old i 0 ∷ drop (i + 1) old = sym (drop_more new i 0 (omega (arith, l, e))) ∙ m.others ∙ drop_more old i 0 l in
    let same : y ≡ f (get_or old i 0) = v ∙ ap (λ (x : List ℕ). f (get_or x 0 0)) here in
    record {
      changed =
          take_more_set new i y (omega (arith, l, e))
          ∙ ap (λ (x : List ℕ). x ++ y ∷ []) m.changed
          ∙ ap (λ (b : ℕ). map f (take i old) ++ b ∷ []) same
          ∙ sym (ap (map f) (take_more old i 0 l) ∙ map-append f (take i old) (get_or old i 0 ∷ []));
      others = drop-set-lt (i + 1) new i y (omega arith) ∙ ap (drop 1) here;
    }

pub mapped-all : (f : ℕ → ℕ) (i : ℕ) (old new : List ℕ) → IsMappedUpTo f i old new → length old ≤ i → length new ≡ length old → new ≡ map f old
mapped-all f i old new m l e =
    sym (take_all i new (omega (arith, l, e))) ∙ m.changed ∙ ap (map f) (take_all i old l)

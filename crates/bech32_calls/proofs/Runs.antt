-- Runs of elements.
use Rattle.std.proofs.Common.{◌≡◌, ◌<◌, ◌≤◌, ◌+◌, ◌∙◌, ◌++◌, ℕ, List, [], ◌∷◌, All, Any, length, take, drop, get_or, map, sym, ap, subst, arith, length-append}
use Rattle.std.proofs.lemmas.List.{take_more, map-append, take-append-drop, get_or_append_left, get_or-append-add}
use Rattle.std.proofs.lemmas.List.Elements.{All-append}
use Rattle.bech32_gf.specs.Fe32.{element}
use Rattle.bech32_gf.specs.declared.gf32.Fe32.{Fe32}

-- the elements of one more value
pub elements-more : (values : List ℕ) (i v : ℕ) → i < length values → v ≡ get_or values i 0
    → (fe : Fe32) → fe ≡ element v → map element (take (i + 1) values) ≡ map element (take i values) ++ fe ∷ []
elements-more values i v within read fe is =
    ap (map element) (take_more values i 0 within)
    ∙ map-append element (take i values) (get_or values i 0 ∷ [])
    ∙ ap (λ (x : Fe32). map element (take i values) ++ x ∷ []) (sym (is ∙ ap element read))

-- a value among others, before and behind which there are more
pub other_among : (all front values behind : List ℕ) → all ≡ front ++ (values ++ behind) → Any (λ x. 31 < x) values → Any (λ x. 31 < x) all
other_among all front values behind parts other =
    let (k, x, within, there, above) = other in (
      length front + k,
      x,
      omega (arith, ap length parts, length-append front (values ++ behind), length-append values behind),
      ap (λ (l : List ℕ). get_or l (length front + k) x) parts
          ∙ get_or-append-add front (values ++ behind) k x
          ∙ get_or_append_left values behind x k within ∙ there,
      above,
    )

-- where the first ones are elements, and the others too, all are
pub all_from_rest : (n : ℕ) (values : List ℕ) → All (λ x. x ≤ 31) (take n values)
    → All (λ x. x ≤ 31) (drop n values) → All (λ x. x ≤ 31) values
all_from_rest n values first rest =
    subst (All (λ x. x ≤ 31)) (take-append-drop n values) (All-append (λ x. x ≤ 31) (take n values) (drop n values) first rest)

use Rattle.std.proofs.Common.{◌≡◌, ◌-◌, ◌+◌, ◌<◌, ◌≤◌, ℕ, zero, suc, List, [], get_or, take, length, map, drop, sym, ap, subst, ◌∙◌, refl, arith, ◌∷◌}
use Rattle.std.proofs.lemmas.List.{length-drop, take_all}
use Rattle.bech32_poly.specs.Distinct.{IsNotAmong, IsOnce}
use Rattle.bech32_poly.proofs.Loops.{drop_back}
use Rattle.codex32_steady.proofs.Written.{length-mapped, map_at}
use Rattle.codex32_steady.proofs.shares.distinct_indices.are_indices_distinct.Goals as goal

-- of a list whose items differ, those from a place on do
once_from : {A : Type 0} (xs : List A) (i : ℕ) → IsOnce xs → IsOnce (drop i xs)
once_from [] zero h = h
once_from [] (suc i) h = h
once_from (x ∷ xs) zero h = h
once_from (x ∷ xs) (suc i) h = once_from xs i h.1

mapped_from : {A B : Type 0} (f : A → B) (xs : List A) (i : ℕ) → map f (drop i xs) ≡ drop i (map f xs)
mapped_from f [] zero = refl
mapped_from f [] (suc i) = refl
mapped_from f (x ∷ xs) zero = refl
mapped_from f (x ∷ xs) (suc i) = mapped_from f xs i

-- the indices of those from a place on
behind : {A B : Type 0} (f : A → B) (xs : List A) (n i : ℕ) → n ≡ i → map f (take (length xs - n) (drop n xs)) ≡ drop i (map f xs)
behind f xs n i e =
    ap (map f) (take_all (length xs - n) (drop n xs) (omega (arith, length-drop n xs))) ∙ mapped_from f xs n ∙ ap (λ k. drop k (map f xs)) e

-- the indices from a place on are that one and those behind it
from : {A B : Type 0} (f : A → B) (xs : List A) (i : ℕ) (t : A) → 0 < i → i ≤ length xs → t ≡ get_or xs (i - 1) t → drop (i - 1) (map f xs) ≡ f t ∷ drop i (map f xs)
from f xs i t some within read =
    drop_back (map f xs) i (f t) some (omega (arith, within, length-mapped f xs)) (map_at f xs (i - 1) t (f t) (omega (arith, some, within)) read refl)

pub returns-then-not-is_free : goal.returns-then-not-is_free
returns-then-not-is_free g c = (
  λ yes. absurd (let e = yes in cc),
  λ once.
      let f = g.T.IndexedText.index_of in
      let texts = c.args.texts.now in
      let i : ℕ = c.loop-i.i in
      let t = c.index-texts-i.result in
      let back : i - 1 + 1 ≡ i = omega (arith, c.loop-i-test.true) in
      let apart : IsOnce (f t ∷ drop i (map f texts)) = subst IsOnce (from f texts i t c.loop-i-test.true c.loop-i.invariant.within c.index-texts-i.is) (once_from (map f texts) (i - 1) once) in
      let free = subst (IsNotAmong c.index.result) (sym (behind f texts (i - 1 + 1) i back)) (subst (λ y. IsNotAmong y (drop i (map f texts))) (sym c.index.ensures) apart.0) in
      sym c.if-not-is_free.true ∙ c.is_free.ensures.1 free,
)

pub loop-i-preserved : goal.loop-i-preserved
loop-i-preserved g c =
    let f = g.T.IndexedText.index_of in
    let texts = c.args.texts.now in
    let i : ℕ = c.loop-i.i in
    let t = c.index-texts-i.result in
    let back : i - 1 + 1 ≡ i = omega (arith, c.loop-i-test.true) in
    let free : IsNotAmong (f t) (drop i (map f texts)) =
    subst (λ y. IsNotAmong y (drop i (map f texts))) c.index.ensures
    (subst (IsNotAmong c.index.result) (behind f texts (i - 1 + 1) i back) (c.is_free.ensures.0 c.if-not-is_free.false)) in
    record {
      within = omega (arith, c.loop-i.invariant.within);
      once = subst IsOnce (sym (from f texts i t c.loop-i-test.true c.loop-i.invariant.within c.index-texts-i.is)) (free, c.loop-i.invariant.once);
    }

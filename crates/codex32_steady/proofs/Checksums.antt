-- The sum of weight times text has the remainder that the texts have in common.
use Rattle.std.proofs.Common.{◌≡◌, ℕ, zero, suc, ◌+◌, ◌≤◌, List, [], ◌∷◌, ◌++◌, length, map, sym, ap, subst, ◌∙◌, refl, arith}
use Rattle.std.specs.List.{AllByRecursion}
use Rattle.bech32_gf.specs.Field.{Ops, IsField}
use Rattle.bech32_gf.specs.laws.Ring.{ring}
use Rattle.bech32_poly.specs.Division.{zeros, step, remainder_of}
use Rattle.bech32_poly.specs.Polynomial.{add, scale, appended}
use Rattle.bech32_poly.specs.Remainder.{IsRemainder}
use Rattle.bech32_poly.specs.RootSearch.{total_of}
use Rattle.bech32_poly.proofs.Lists.{same_cons, length-scale, scale-zero, scale-add_elements}
use Rattle.bech32_poly.proofs.Remainder.{remainder_of-add, remainder_of-scale, step-zeros, remainder_unique, remainder_exists}
use Rattle.codex32_steady.specs.shares.Points.{values_at, weighted_sum, AreWeights}
use Rattle.codex32_steady.specs.shares.Shares.{combined, AreShares, IsDerived}
use Rattle.codex32_steady.proofs.OnePlaceMore.{weights_exist}
use Rattle.codex32_steady.proofs.ShareTexts.{length-combined, derived_is}

module _ {F : Type 0} {o : Ops F} (l : IsField o) where
  one_value : (x : F) → o.add o.one (o.mul x o.zero) ≡ o.one
  one_value x = simp (ring, l)

  times_one : (w x : F) → o.mul w (o.add o.one (o.mul x o.zero)) ≡ w
  times_one w x = simp (ring, l)

  all_one : (ws xs : List F) → length ws ≡ length xs → weighted_sum o ws (values_at o (o.one ∷ []) xs) ≡ total_of o ws
  all_one [] xs e = refl
  all_one (w ∷ ws) [] e = absurd (omega arith)
  all_one (w ∷ ws) (x ∷ xs) e = ap (λ u. o.add u (weighted_sum o ws (values_at o (o.one ∷ []) xs))) (times_one w x) ∙ ap (o.add w) (all_one ws xs (omega arith))

  -- the weights sum to one
  pub total_is_one : (xs : List F) (x : F) (ws : List F) → 1 ≤ length xs → AreWeights o xs x ws → total_of o ws ≡ o.one
  total_is_one xs x ws some are = sym (all_one ws xs are.size) ∙ are.gives (o.one ∷ []) some ∙ one_value x

  scale-append : (c : F) (p q : List F) → scale o c (p ++ q) ≡ scale o c p ++ scale o c q
  scale-append c [] q = refl
  scale-append c (a ∷ p) q = ap (λ u. o.mul c a ∷ u) (scale-append c p q)

  add-append : (p q r s : List F) → length p ≡ length q → add o (p ++ r) (q ++ s) ≡ add o p q ++ add o r s
  add-append [] [] r s e = refl
  add-append [] (b ∷ q) r s e = absurd (omega arith)
  add-append (a ∷ p) [] r s e = absurd (omega arith)
  add-append (a ∷ p) (b ∷ q) r s e = ap (λ u. o.add a b ∷ u) (add-append p q r s (omega arith))

  zeros-append : (m n : ℕ) → zeros o (m + n) ≡ zeros o m ++ zeros o n
  zeros-append zero n = let e : 0 + n ≡ n = omega arith in ap (zeros o) e
  zeros-append (suc m) n = let e : suc m + n ≡ suc (m + n) = omega arith in ap (zeros o) e ∙ ap (λ u. o.zero ∷ u) (zeros-append m n)

  -- with the same elements before each text
  combined-behind : (head : List F) (n : ℕ) (ws : List F) (texts : List (List F)) → length ws ≡ length texts
      → combined o (length head + n) ws (map (λ t. head ++ t) texts) ≡ scale o (total_of o ws) head ++ combined o n ws texts
  combined-behind head n [] texts e = zeros-append (length head) n ∙ ap (λ u. u ++ zeros o n) (sym (scale-zero l head))
  combined-behind head n (w ∷ ws) [] e = absurd (omega arith)
  combined-behind head n (w ∷ ws) (t ∷ texts) e =
      ap (add o (scale o w (head ++ t))) (combined-behind head n ws texts (omega arith))
      ∙ ap (λ u. add o u (scale o (total_of o ws) head ++ combined o n ws texts)) (scale-append w head t)
      ∙ add-append (scale o w head) (scale o (total_of o ws) head) (scale o w t) (combined o n ws texts) (length-scale l w head ∙ sym (length-scale l (total_of o ws) head))
      ∙ ap (λ u. u ++ add o (scale o w t) (combined o n ws texts)) (sym (scale-add_elements l w (total_of o ws) head))

  appended-add : (p q r s : List F) → length p ≡ length q → length r ≡ length s → appended (add o p q) (add o r s) ≡ add o (appended p r) (appended q s)
  appended-add p q [] [] e f = refl
  appended-add p q [] (b ∷ s) e f = absurd (omega arith)
  appended-add p q (a ∷ r) [] e f = absurd (omega arith)
  appended-add p q (a ∷ r) (b ∷ s) e f = appended-add (a ∷ p) (b ∷ q) r s (ap suc e) (omega arith)

  appended-scale : (c : F) (p r : List F) → appended (scale o c p) (scale o c r) ≡ scale o c (appended p r)
  appended-scale c p [] = refl
  appended-scale c p (a ∷ r) = appended-scale c (a ∷ p) r

  appended-zeros : (k m : ℕ) → appended (zeros o k) (zeros o m) ≡ zeros o (k + m)
  appended-zeros k zero = let e : k ≡ k + 0 = omega arith in ap (zeros o) e
  appended-zeros k (suc m) = let e : suc k + m ≡ k + suc m = omega arith in appended-zeros (suc k) m ∙ ap (zeros o) e

  combined-appended : (n : ℕ) (ws : List F) (texts : List (List F)) → AllByRecursion (λ t. length t ≡ n) texts → appended [] (combined o n ws texts) ≡ combined o n ws (map (appended []) texts)
  combined-appended n [] texts alike = let e : 0 + n ≡ n = omega arith in appended-zeros 0 n ∙ ap (zeros o) e
  combined-appended n (w ∷ ws) [] alike = let e : 0 + n ≡ n = omega arith in appended-zeros 0 n ∙ ap (zeros o) e
  combined-appended n (w ∷ ws) (t ∷ texts) alike =
      appended-add [] [] (scale o w t) (combined o n ws texts) refl (length-scale l w t ∙ alike.0 ∙ sym (length-combined l n ws texts alike.1))
      ∙ ap (λ u. add o u (appended [] (combined o n ws texts))) (appended-scale w [] t)
      ∙ ap (add o (scale o w (appended [] t))) (combined-appended n ws texts alike.1)

  remainder_of-zeros : (low : List F) (n : ℕ) → remainder_of o low (zeros o n) ≡ zeros o (length low)
  remainder_of-zeros low zero = refl
  remainder_of-zeros low (suc n) = ap (λ r. step o low r o.zero) (remainder_of-zeros low n) ∙ step-zeros l low

  combined-remainder_of : (low : List F) (n : ℕ) (ws : List F) (ps : List (List F)) → remainder_of o low (combined o n ws ps) ≡ combined o (length low) ws (map (remainder_of o low) ps)
  combined-remainder_of low n [] ps = remainder_of-zeros low n
  combined-remainder_of low n (w ∷ ws) [] = remainder_of-zeros low n
  combined-remainder_of low n (w ∷ ws) (p ∷ ps) =
      remainder_of-add l low (scale o w p) (combined o n ws ps)
      ∙ ap (λ u. add o u (remainder_of o low (combined o n ws ps))) (remainder_of-scale l low w p)
      ∙ ap (add o (scale o w (remainder_of o low p))) (combined-remainder_of low n ws ps)

  -- where all are the same
  combined-same : (r : List F) (n : ℕ) (ws : List F) (rs : List (List F)) → length r ≡ n → length ws ≡ length rs → AllByRecursion (λ q. q ≡ r) rs → combined o n ws rs ≡ scale o (total_of o ws) r
  combined-same r n [] rs e f all = ap (zeros o) (sym e) ∙ sym (scale-zero l r)
  combined-same r n (w ∷ ws) [] e f all = absurd (omega arith)
  combined-same r n (w ∷ ws) (q ∷ rs) e f all =
      ap (add o (scale o w q)) (combined-same r n ws rs e (omega arith) all.1)
      ∙ ap (λ u. add o (scale o w u) (scale o (total_of o ws) r)) all.0
      ∙ sym (scale-add_elements l w (total_of o ws) r)

  scale-one : (p : List F) → scale o o.one p ≡ p
  scale-one [] = refl
  scale-one (a ∷ p) = same_cons _ _ _ _ (l.mul_comm o.one a ∙ l.mul_one a) (scale-one p)

  remainders : (low before target : List F) (texts : List (List F)) → AllByRecursion (λ t. IsRemainder o low (appended (o.one ∷ []) (before ++ t)) target) texts
      → AllByRecursion (λ q. q ≡ target) (map (remainder_of o low) (map (appended []) (map (λ t. (o.one ∷ before) ++ t) texts)))
  remainders low before target [] all = tt
  remainders low before target (t ∷ texts) all = (sym (remainder_unique l low (appended (o.one ∷ []) (before ++ t)) target all.0), remainders low before target texts all.1)

  longer : (head : List F) (n : ℕ) (texts : List (List F)) → AllByRecursion (λ t. length t ≡ n) texts → AllByRecursion (λ t. length t ≡ length head + n) (map (λ t. head ++ t) texts)
  longer head n [] alike = tt
  longer head n (t ∷ texts) alike = (behind head t ∙ ap (λ k. length head + k) alike.0, longer head n texts alike.1)
    where
      behind : (p q : List F) → length (p ++ q) ≡ length p + length q
      behind [] q = omega arith
      behind (a ∷ p) q = let e : length (p ++ q) ≡ length p + length q = behind p q in omega arith

  length-mapped_lists : {A B : Type 0} (f : A → B) (xs : List A) → length (map f xs) ≡ length xs
  length-mapped_lists f [] = refl
  length-mapped_lists f (x ∷ xs) = ap suc (length-mapped_lists f xs)

  -- the first remainder says how long it is
  target_length : (low before target : List F) (texts : List (List F)) → 1 ≤ length texts → AllByRecursion (λ t. IsRemainder o low (appended (o.one ∷ []) (before ++ t)) target) texts → length target ≡ length low
  target_length low before target [] some all = absurd (omega arith)
  target_length low before target (t ∷ texts) some all = all.0.short

  pub same_remainder : (xs : List F) (texts : List (List F)) (n : ℕ) (x : F) (text low before target : List F) → AreShares xs texts n → 1 ≤ length xs → IsDerived o xs texts n x text
      → AllByRecursion (λ t. IsRemainder o low (appended (o.one ∷ []) (before ++ t)) target) texts → IsRemainder o low (appended (o.one ∷ []) (before ++ text)) target
  same_remainder xs texts n x text low before target shares some derived all =
      let weights : (ws : List F) × AreWeights o xs x ws = weights_exist l x xs shares.once in
      let ws : List F = weights.0 in
      let head : List F = o.one ∷ before in
      let total : total_of o ws ≡ o.one = total_is_one xs x ws some weights.1 in
      let each : length ws ≡ length texts = weights.1.size ∙ sym shares.one_each in
      let size : length target ≡ length low = target_length low before target texts (subst (λ k. 1 ≤ k) (sym shares.one_each) some) all in
      let whole : head ++ text ≡ combined o (length head + n) ws (map (λ t. head ++ t) texts) =
      ap (λ u. u ++ text) (sym (scale-one head)) ∙ ap (λ c. scale o c head ++ text) (sym total)
      ∙ ap (λ u. scale o (total_of o ws) head ++ u) (derived_is l xs texts n x ws text shares weights.1 derived)
      ∙ sym (combined-behind head n ws texts each) in
      let value : remainder_of o low (appended [] (head ++ text)) ≡ target =
      ap (λ u. remainder_of o low (appended [] u)) whole
      ∙ ap (remainder_of o low) (combined-appended (length head + n) ws (map (λ t. head ++ t) texts) (longer head n texts shares.alike))
      ∙ combined-remainder_of low (length head + n) ws (map (appended []) (map (λ t. head ++ t) texts))
      ∙ combined-same target (length low) ws (map (remainder_of o low) (map (appended []) (map (λ t. head ++ t) texts))) size
      (each ∙ sym (length-mapped_lists (remainder_of o low) (map (appended []) (map (λ t. head ++ t) texts)) ∙ length-mapped_lists (appended []) (map (λ t. head ++ t) texts) ∙ length-mapped_lists (λ t. head ++ t) texts))
      (remainders low before target texts all)
      ∙ ap (λ c. scale o c target) total ∙ scale-one target in
      subst (λ r. IsRemainder o low (appended (o.one ∷ []) (before ++ text)) r) value (remainder_exists l low (appended (o.one ∷ []) (before ++ text)))

-- Rising lists of locations, and the order of a listing.
use Rattle.std.specs.Prelude.{◌↔◌, ◌==◌, IsTrue, Bool, true, false, cond, reverse}
use Rattle.std.specs.List.{AllByRecursion, filter, range_with_len}
use Rattle.std.proofs.Common.{◌≡◌, ℕ, zero, suc, ◌+◌, ◌<◌, ◌≤◌, List, [], ◌∷◌, ◌++◌, length, take, ◌⊎◌, inl, inr, subst, sym, ap, ◌∙◌, refl, arith}
use Rattle.std.specs.Prelude.{◌≢◌}
use Rattle.std.proofs.lemmas.Bool.Decides.{eqb_tells}
use Rattle.std.proofs.lemmas.List.{length-reverse}
use Rattle.bech32_poly.specs.Distinct.{IsAmong, IsOnce}
use Rattle.bech32_poly.proofs.Registers.{reverse_cons}
use Rattle.bech32_bch.specs.Listing.{ComesBefore, IsInOrder}
use Rattle.bech32_bch.specs.Search.{ordered}
use Rattle.bech32_bch.proofs.Places.{all_of, look, mem_left, mem_right, mem_split}

-- each is below all behind it
abbrev pub IsRising : List ℕ → Type 0
IsRising [] = Unit {0}
IsRising (i ∷ rest) = AllByRecursion (λ j. i < j) rest × IsRising rest

module _ (test : ℕ → Bool) where
  pub passed : (a n i : ℕ) → IsAmong i (filter test (range_with_len a n)) → (a ≤ i) × (i < a + n) × IsTrue (test i)
  passed a zero i m = absurd m
  passed a (suc n) i m = step (test a) refl m (λ k. passed (a + 1) n i k)
    where
      step : (b : Bool) → test a ≡ b → IsAmong i (cond b (a ∷ filter test (range_with_len (a + 1) n)) (filter test (range_with_len (a + 1) n)))
          → (IsAmong i (filter test (range_with_len (a + 1) n)) → (a + 1 ≤ i) × (i < a + 1 + n) × IsTrue (test i)) → (a ≤ i) × (i < a + suc n) × IsTrue (test i)
      step true e (inl h) r = (omega (arith, h), omega (arith, h), ap test h ∙ e)
      step true e (inr k) r = let h : (a + 1 ≤ i) × (i < a + 1 + n) × IsTrue (test i) = r k in (omega (arith, h.0), omega (arith, h.1), h.2)
      step false e k r = let h : (a + 1 ≤ i) × (i < a + 1 + n) × IsTrue (test i) = r k in (omega (arith, h.0), omega (arith, h.1), h.2)

  pub passes : (a n i : ℕ) → a ≤ i → i < a + n → IsTrue (test i) → IsAmong i (filter test (range_with_len a n))
  passes a zero i low high h = absurd (omega arith)
  passes a (suc n) i low high h = step (eqb_tells a i) (λ l. passes (a + 1) n i l (omega arith) h)
    where
      later : (b : Bool) → IsAmong i (filter test (range_with_len (a + 1) n)) → IsAmong i (cond b (a ∷ filter test (range_with_len (a + 1) n)) (filter test (range_with_len (a + 1) n)))
      later true k = inr k
      later false k = k

      here : (b : Bool) → b ≡ true → i ≡ a → IsAmong i (cond b (a ∷ filter test (range_with_len (a + 1) n)) (filter test (range_with_len (a + 1) n)))
      here true e h = inl h
      here false e h = absurd (cc e)

      above : a ≤ i → a ≢ i → a + 1 ≤ i
      above low apart = omega arith

      step : ((a == i) ≡ true × (a ≡ i)) ⊎ ((a == i) ≡ false × (a ≢ i)) → (a + 1 ≤ i → IsAmong i (filter test (range_with_len (a + 1) n))) → IsAmong i (filter test (range_with_len a (suc n)))
      step (inl y) r = here (test a) (ap test y.1 ∙ h) (sym y.1)
      step (inr y) r = later (test a) (r (above low y.1))

  pub filter_rises : (a n : ℕ) → IsRising (filter test (range_with_len a n))
  filter_rises a zero = tt
  filter_rises a (suc n) = step (test a) (filter_rises (a + 1) n)
    where
      step : (b : Bool) → IsRising (filter test (range_with_len (a + 1) n)) → IsRising (cond b (a ∷ filter test (range_with_len (a + 1) n)) (filter test (range_with_len (a + 1) n)))
      step true r = (all_of (λ j. a < j) (filter test (range_with_len (a + 1) n)) (λ j m. let low : a + 1 ≤ j = (passed (a + 1) n j m).0 in omega arith), r)
      step false r = r

pub once_rising : (xs : List ℕ) → IsRising xs → IsOnce xs
once_rising [] h = tt
once_rising (x ∷ xs) h = (all_of (λ y. x ≢ y) xs (λ y m e. let below : x < y = look (λ j. x < j) y xs h.0 m in omega (arith, e, below)), once_rising xs h.1)

pub take_rises : (n : ℕ) (xs : List ℕ) → IsRising xs → IsRising (take n xs)
take_rises zero [] h = tt
take_rises zero (x ∷ xs) h = tt
take_rises (suc n) [] h = tt
take_rises (suc n) (x ∷ xs) h = (first n xs h.0, take_rises n xs h.1)
  where
    first : (n : ℕ) (ys : List ℕ) → AllByRecursion (λ j. x < j) ys → AllByRecursion (λ j. x < j) (take n ys)
    first zero [] k = tt
    first zero (y ∷ ys) k = tt
    first (suc n) [] k = tt
    first (suc n) (y ∷ ys) k = (k.0, first n ys k.1)

pub taken_among : {A : Type 0} (n : ℕ) (xs : List A) (x : A) → IsAmong x (take n xs) → IsAmong x xs
taken_among zero [] x m = m
taken_among zero (y ∷ ys) x m = absurd m
taken_among (suc n) [] x m = m
taken_among (suc n) (y ∷ ys) x (inl e) = inl e
taken_among (suc n) (y ∷ ys) x (inr m) = inr (taken_among n ys x m)

pub turned_among : {A : Type 0} (xs : List A) (x : A) → IsAmong x (reverse xs) ↔ IsAmong x xs
turned_among [] x = ((λ m. m), λ m. m)
turned_among (y ∷ ys) x = (
  (λ m. elim (mem_split x (reverse ys) (y ∷ []) (subst (IsAmong x) (reverse_cons y ys) m)) [
    | inl k ↦ inr ((turned_among ys x).0 k)
    | inr k ↦ elim k [ inl e ↦ inl e | inr n ↦ absurd n ]
  ]),
  (λ m. subst (IsAmong x) (sym (reverse_cons y ys)) (elim m [ inl e ↦ mem_right x (reverse ys) (y ∷ []) (inl e) | inr k ↦ mem_left x (reverse ys) (y ∷ []) ((turned_among ys x).1 k) ])),
)

last_in_order : (ys : List ℕ) (x : ℕ) → IsInOrder ys → AllByRecursion (λ y. ComesBefore y x) ys → IsInOrder (ys ++ (x ∷ []))
last_in_order [] x h a = (tt, tt)
last_in_order (y ∷ ys) x h a = (before ys h.0, last_in_order ys x h.1 a.1)
  where
    before : (zs : List ℕ) → AllByRecursion (λ j. ComesBefore y j) zs → AllByRecursion (λ j. ComesBefore y j) (zs ++ (x ∷ []))
    before [] k = (a.0, tt)
    before (z ∷ zs) k = (k.0, before zs k.1)

-- from the last to the first, rising locations other than 0 are in order
turned_in_order : (xs : List ℕ) → IsRising xs → AllByRecursion (λ j. 0 < j) xs → IsInOrder (reverse xs)
turned_in_order [] h a = tt
turned_in_order (x ∷ xs) h a = subst IsInOrder (sym (reverse_cons x xs)) (last_in_order (reverse xs) x (turned_in_order xs h.1 a.1)
    (all_of (λ y. ComesBefore y x) (reverse xs) (λ y m. (a.0, inr (look (λ j. x < j) y xs h.0 ((turned_among xs y).0 m))))))

above : (i : ℕ) (xs : List ℕ) → AllByRecursion (λ j. i < j) xs → AllByRecursion (λ j. 0 < j) xs
above i [] h = tt
above i (x ∷ xs) h = (omega (arith, h.0), above i xs h.1)

pub ordered_in_order : (xs : List ℕ) → IsRising xs → IsInOrder (ordered xs)
ordered_in_order [] h = tt
ordered_in_order (i ∷ rest) h = step (eqb_tells i 0)
  where
    positive : i ≢ 0 → 0 < i
    positive apart = omega arith

    step : ((i == 0) ≡ true × (i ≡ 0)) ⊎ ((i == 0) ≡ false × (i ≢ 0)) → IsInOrder (cond (i == 0) (i ∷ reverse rest) (reverse (i ∷ rest)))
    step (inl y) = subst (λ b. IsInOrder (cond b (i ∷ reverse rest) (reverse (i ∷ rest)))) (sym y.0)
        (all_of (λ j. ComesBefore i j) (reverse rest) (λ j m. (look (λ k. 0 < k) j rest (above i rest h.0) ((turned_among rest j).0 m), inl y.1)), turned_in_order rest h.1 (above i rest h.0))
    step (inr y) = subst (λ b. IsInOrder (cond b (i ∷ reverse rest) (reverse (i ∷ rest)))) (sym y.0)
        (turned_in_order (i ∷ rest) h (positive y.1, above i rest h.0))

pub ordered_among : (xs : List ℕ) (x : ℕ) → IsAmong x (ordered xs) ↔ IsAmong x xs
ordered_among [] x = ((λ m. m), λ m. m)
ordered_among (i ∷ rest) x = step (i == 0)
  where
    step : (b : Bool) → IsAmong x (cond b (i ∷ reverse rest) (reverse (i ∷ rest))) ↔ IsAmong x (i ∷ rest)
    step true = (
      (λ m. elim m [ inl e ↦ inl e | inr k ↦ inr ((turned_among rest x).0 k) ]),
      (λ m. elim m [ inl e ↦ inl e | inr k ↦ inr ((turned_among rest x).1 k) ]),
    )
    step false = turned_among (i ∷ rest) x

pub length-ordered : (xs : List ℕ) → length (ordered xs) ≡ length xs
length-ordered [] = refl
length-ordered (i ∷ rest) = step (i == 0)
  where
    step : (b : Bool) → length (cond b (i ∷ reverse rest) (reverse (i ∷ rest))) ≡ suc (length rest)
    step true = ap suc (length-reverse rest)
    step false = length-reverse (i ∷ rest)

pub once_in_order : (xs : List ℕ) → IsInOrder xs → IsOnce xs
once_in_order [] h = tt
once_in_order (x ∷ xs) h = (all_of (λ y. x ≢ y) xs (λ y m. apart y (look (λ j. ComesBefore x j) y xs h.0 m)), once_in_order xs h.1)
  where
    apart : (y : ℕ) → ComesBefore x y → x ≢ y
    apart y k e = elim k.1 [ inl z ↦ (let low : 0 < y = k.0 in absurd (omega arith)) | inr z ↦ (let low : y < x = z in absurd (omega arith)) ]

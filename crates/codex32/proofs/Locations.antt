-- The locations of unreadable characters, and of changed ones.
use Rattle.std.specs.List.{AllByRecursion}
use Rattle.std.specs.Prelude.{◌≢◌, ◌||◌}
use Rattle.std.proofs.Common.{◌≡◌, ℕ, suc, ◌+◌, ◌<◌, ◌≤◌, Bool, true, false, cond, eqb, List, [], ◌∷◌, length, ◌⊎◌, inl, inr, refl, sym, ap, subst, ◌∙◌, arith}
use Rattle.std.proofs.lemmas.Bool.{both_ways, cond-false, eq-eqb, eqb-true, or_from, or_parts}
use Rattle.std.proofs.lemmas.Bool.Decides.{eqb_tells}
use Rattle.std.proofs.lemmas.List.{length-map}
use Rattle.bech32_gf.specs.Fe32 as fe32
use Rattle.bech32_gf.specs.Fe32.{element_of, elements_of, ops}
use Rattle.bech32_gf.specs.declared.gf32.Fe32.{Fe32}
use Rattle.bech32_gf.specs.laws.Fe32Laws.{is_field}
use Rattle.bech32_gf.specs.laws.FieldLaws.{zero_add}
use Rattle.bech32_poly.specs.Distinct.{IsAmong, IsNotAmong, IsOnce}
use Rattle.bech32_poly.specs.Pattern.{value_of_pattern_at}
use Rattle.bech32_poly.proofs.Lists.{same_cons}
use Rattle.bech32_bch.specs.Distance.{places_that_differ}
use Rattle.bech32_bch.specs.Pattern.{locations}
use Rattle.bech32_bch.proofs.Patterns.{at_absent, at_first, at_rest}
use Rattle.bech32_bch.proofs.Places.{look}
use Rattle.bech32_detect.specs.Distance.{same_element}
use Rattle.bech32_correction.specs.MendedElements.{mended}
use Rattle.codex32.specs.Damaged.{changed, read_data, unreadable}

-- a character as it is read
abbrev read : ℕ → ℕ
read c = cond (eqb c 63) 48 c

pub all_more : {A : Type 0} (P Q : A → Type 0) → ((i : A) → P i → Q i) → (ms : List A) → AllByRecursion P ms → AllByRecursion Q ms
all_more P Q f [] h = tt
all_more P Q f (m ∷ ms) h = (f m h.0, all_more P Q f ms h.1)

pub count_data : (cs : List ℕ) → length (read_data cs) ≡ length cs
count_data cs = length-map cs read

pub count_read : (cs : List ℕ) → length (elements_of (read_data cs)) ≡ length cs
count_read cs = length-map (read_data cs) element_of ∙ count_data cs

-- ---- each is below the length, and stands once

pub unreadable-below : (cs : List ℕ) → AllByRecursion (λ i. i < length cs) (unreadable cs)
unreadable-below [] = tt
unreadable-below (c ∷ cs) =
    step (eqb c 63) (all_more (λ (i : ℕ). i < length cs) (λ (i : ℕ). i < suc (length cs)) (λ i h. omega (arith, h)) (unreadable cs) (unreadable-below cs))
  where
    step : (b : Bool) → AllByRecursion (λ i. i < suc (length cs)) (unreadable cs) → AllByRecursion (λ i. i < suc (length cs)) (cond b (length cs ∷ unreadable cs) (unreadable cs))
    step true h = (omega arith, h)
    step false h = h

pub unreadable-once : (cs : List ℕ) → IsOnce (unreadable cs)
unreadable-once [] = tt
unreadable-once (c ∷ cs) =
    step (eqb c 63) (all_more (λ (i : ℕ). i < length cs) (λ (i : ℕ). length cs ≢ i) (λ i h e. absurd (omega (arith, h, e))) (unreadable cs) (unreadable-below cs)) (unreadable-once cs)
  where
    step : (b : Bool) → IsNotAmong (length cs) (unreadable cs) → IsOnce (unreadable cs) → IsOnce (cond b (length cs ∷ unreadable cs) (unreadable cs))
    step true n h = (n, h)
    step false n h = h

pub changed-below : (cs : List ℕ) (ys : List Fe32) → AllByRecursion (λ i. i < length cs) (changed cs ys)
changed-below [] ys = tt
changed-below (c ∷ cs) [] = tt
changed-below (c ∷ cs) (y ∷ ys) =
    step (eqb c 63 || same_element (element_of c) y)
    (all_more (λ (i : ℕ). i < length cs) (λ (i : ℕ). i < suc (length cs)) (λ i h. omega (arith, h)) (changed cs ys) (changed-below cs ys))
  where
    step : (b : Bool) → AllByRecursion (λ i. i < suc (length cs)) (changed cs ys) → AllByRecursion (λ i. i < suc (length cs)) (cond b (changed cs ys) (length cs ∷ changed cs ys))
    step true h = h
    step false h = (omega arith, h)

pub changed-once : (cs : List ℕ) (ys : List Fe32) → IsOnce (changed cs ys)
changed-once [] ys = tt
changed-once (c ∷ cs) [] = tt
changed-once (c ∷ cs) (y ∷ ys) =
    step (eqb c 63 || same_element (element_of c) y)
    (all_more (λ (i : ℕ). i < length cs) (λ (i : ℕ). length cs ≢ i) (λ i h e. absurd (omega (arith, h, e))) (changed cs ys) (changed-below cs ys)) (changed-once cs ys)
  where
    step : (b : Bool) → IsNotAmong (length cs) (changed cs ys) → IsOnce (changed cs ys) → IsOnce (cond b (changed cs ys) (length cs ∷ changed cs ys))
    step true n h = h
    step false n h = (n, h)

-- ---- elements that differ

tells : (x y : Fe32) → ((same_element x y ≡ true) × (x ≡ y)) ⊎ ((same_element x y ≡ false) × (x ≢ y))
tells x y = step (eqb_tells x.value y.value)
  where
    step : ((same_element x y ≡ true) × (x.value ≡ y.value)) ⊎ ((same_element x y ≡ false) × (x.value ≢ y.value)) → ((same_element x y ≡ true) × (x ≡ y)) ⊎ ((same_element x y ≡ false) × (x ≢ y))
    step (inl h) = inl (h.0, fe32.path x y h.1)
    step (inr h) = inr (h.0, λ e. h.1 (ap (λ (z : Fe32). z.value) e))

same : (x y : Fe32) → same_element x y ≡ true → x ≡ y
same x y h = fe32.path x y (eqb-true x.value y.value h)

is_same : (x y : Fe32) → x ≡ y → same_element x y ≡ true
is_same x y e = eq-eqb x.value y.value (ap (λ (z : Fe32). z.value) e)

-- an element added twice is nothing
pub again : (a b : Fe32) → fe32.add a (fe32.add a b) ≡ b
again a b = sym (is_field.add_assoc a a b) ∙ ap (λ (x : Fe32). fe32.add x b) (is_field.add_neg a) ∙ zero_add is_field b

sum_zero : (x y : Fe32) → fe32.add x y ≡ fe32.zero → x ≡ y
sum_zero x y e = sym (is_field.add_zero x) ∙ ap (fe32.add x) (sym e) ∙ again x y

-- ---- the pattern that makes one list of elements another

abbrev pub differences : List Fe32 → List Fe32 → List (ℕ × Fe32)
differences [] ys = []
differences (x ∷ xs) [] = []
differences (x ∷ xs) (y ∷ ys) = cond (same_element x y) (differences xs ys) ((length xs, fe32.add x y) ∷ differences xs ys)

pub differences-below : (xs ys : List Fe32) → AllByRecursion (λ (p : ℕ × Fe32). p.0 < length xs) (differences xs ys)
differences-below [] ys = tt
differences-below (x ∷ xs) [] = tt
differences-below (x ∷ xs) (y ∷ ys) =
    step (same_element x y) (all_more (λ (p : ℕ × Fe32). p.0 < length xs) (λ (p : ℕ × Fe32). p.0 < suc (length xs)) (λ p h. omega (arith, h)) (differences xs ys) (differences-below xs ys))
  where
    step : (b : Bool) → AllByRecursion (λ (p : ℕ × Fe32). p.0 < suc (length xs)) (differences xs ys)
        → AllByRecursion (λ (p : ℕ × Fe32). p.0 < suc (length xs)) (cond b (differences xs ys) ((length xs, fe32.add x y) ∷ differences xs ys))
    step true h = h
    step false h = (omega arith, h)

pub differences-values : (xs ys : List Fe32) → AllByRecursion (λ (p : ℕ × Fe32). p.1 ≢ fe32.zero) (differences xs ys)
differences-values [] ys = tt
differences-values (x ∷ xs) [] = tt
differences-values (x ∷ xs) (y ∷ ys) = step (tells x y) (differences-values xs ys)
  where
    step : ((same_element x y ≡ true) × (x ≡ y)) ⊎ ((same_element x y ≡ false) × (x ≢ y)) → AllByRecursion (λ (p : ℕ × Fe32). p.1 ≢ fe32.zero) (differences xs ys)
        → AllByRecursion (λ (p : ℕ × Fe32). p.1 ≢ fe32.zero) (cond (same_element x y) (differences xs ys) ((length xs, fe32.add x y) ∷ differences xs ys))
    step (inl e) h = subst (λ (b : Bool). AllByRecursion (λ (p : ℕ × Fe32). p.1 ≢ fe32.zero) (cond b (differences xs ys) ((length xs, fe32.add x y) ∷ differences xs ys))) (sym e.0) h
    step (inr e) h = subst (λ (b : Bool). AllByRecursion (λ (p : ℕ × Fe32). p.1 ≢ fe32.zero) (cond b (differences xs ys) ((length xs, fe32.add x y) ∷ differences xs ys))) (sym e.0) ((λ z. e.1 (sum_zero x y z)), h)

located_below : (n : ℕ) (e : List (ℕ × Fe32)) → AllByRecursion (λ (p : ℕ × Fe32). p.0 < n) e → IsNotAmong n (locations e)
located_below n [] h = tt
located_below n (p ∷ e) h = ((λ k. let less : p.0 < n = h.0 in absurd (omega (arith, less, k))), located_below n e h.1)

below_absent : (n : ℕ) (e : List (ℕ × Fe32)) → AllByRecursion (λ (p : ℕ × Fe32). p.0 < n) e → IsAmong n (locations e) → ⊥
below_absent n [] h m = m
below_absent n (p ∷ e) h (inl k) = let less : p.0 < n = h.0 in absurd (omega (arith, less, k))
below_absent n (p ∷ e) h (inr m) = below_absent n e h.1 m

pub differences-once : (xs ys : List Fe32) → IsOnce (locations (differences xs ys))
differences-once [] ys = tt
differences-once (x ∷ xs) [] = tt
differences-once (x ∷ xs) (y ∷ ys) = step (same_element x y) (located_below (length xs) (differences xs ys) (differences-below xs ys)) (differences-once xs ys)
  where
    step : (b : Bool) → IsNotAmong (length xs) (locations (differences xs ys)) → IsOnce (locations (differences xs ys))
        → IsOnce (locations (cond b (differences xs ys) ((length xs, fe32.add x y) ∷ differences xs ys)))
    step true n h = h
    step false n h = (n, h)

mended-same : (e d : List (ℕ × Fe32)) (xs : List Fe32) → ((i : ℕ) → i < length xs → value_of_pattern_at ops e i ≡ value_of_pattern_at ops d i) → mended ops e xs ≡ mended ops d xs
mended-same e d [] h = refl
mended-same e d (x ∷ xs) h = same_cons _ _ _ _ (ap (fe32.add x) (h (length xs) (omega arith))) (mended-same e d xs (λ i l. h i (omega (arith, l))))

pub mended-differences : (xs ys : List Fe32) → length xs ≡ length ys → mended ops (differences xs ys) xs ≡ ys
mended-differences [] [] e = refl
mended-differences [] (y ∷ ys) e = absurd (omega (arith, e))
mended-differences (x ∷ xs) [] e = absurd (omega (arith, e))
mended-differences (x ∷ xs) (y ∷ ys) e = step (tells x y) (mended-differences xs ys (omega (arith, e)))
  where
    nothing : value_of_pattern_at ops (differences xs ys) (length xs) ≡ fe32.zero
    nothing = at_absent is_field (differences xs ys) (length xs) (below_absent (length xs) (differences xs ys) (differences-below xs ys))

    added : value_of_pattern_at ops ((length xs, fe32.add x y) ∷ differences xs ys) (length xs) ≡ fe32.add x y
    added = at_first is_field (length xs, fe32.add x y) (differences xs ys) (located_below (length xs) (differences xs ys) (differences-below xs ys))

    others : mended ops ((length xs, fe32.add x y) ∷ differences xs ys) xs ≡ mended ops (differences xs ys) xs
    others = mended-same ((length xs, fe32.add x y) ∷ differences xs ys) (differences xs ys) xs
        (λ i l. at_rest is_field (length xs, fe32.add x y) (differences xs ys) i (λ k. let at : length xs ≡ i = k in absurd (omega (arith, l, at))))

    step : ((same_element x y ≡ true) × (x ≡ y)) ⊎ ((same_element x y ≡ false) × (x ≢ y)) → mended ops (differences xs ys) xs ≡ ys
        → mended ops (cond (same_element x y) (differences xs ys) ((length xs, fe32.add x y) ∷ differences xs ys)) (x ∷ xs) ≡ y ∷ ys
    step (inl k) r =
        subst (λ (b : Bool). mended ops (cond b (differences xs ys) ((length xs, fe32.add x y) ∷ differences xs ys)) (x ∷ xs) ≡ y ∷ ys) (sym k.0)
        (same_cons _ _ _ _ (ap (fe32.add x) nothing ∙ is_field.add_zero x ∙ k.1) r)
    step (inr k) r =
        subst (λ (b : Bool). mended ops (cond b (differences xs ys) ((length xs, fe32.add x y) ∷ differences xs ys)) (x ∷ xs) ≡ y ∷ ys) (sym k.0)
        (same_cons _ _ _ _ (ap (fe32.add x) added ∙ again x y) (others ∙ r))

-- ---- differing locations are changed or unreadable

split_located : (s : Bool) (n : ℕ) (v : Fe32) (e : List (ℕ × Fe32)) (i : ℕ) → IsAmong i (locations (cond s e ((n, v) ∷ e))) → ((s ≡ false) × (i ≡ n)) ⊎ IsAmong i (locations e)
split_located true n v e i m = inr m
split_located false n v e i (inl k) = inl (refl, k)
split_located false n v e i (inr m) = inr m

split_changed : (b : Bool) (n : ℕ) (us : List ℕ) (i : ℕ) → IsAmong i (cond b us (n ∷ us)) → ((b ≡ false) × (i ≡ n)) ⊎ IsAmong i us
split_changed true n us i m = inr m
split_changed false n us i (inl k) = inl (refl, k)
split_changed false n us i (inr m) = inr m

not_unreadable : (b : Bool) (n : ℕ) (us : List ℕ) (i : ℕ) → (IsAmong i (cond b (n ∷ us) us) → ⊥) → IsAmong i us → ⊥
not_unreadable true n us i h m = h (inr m)
not_unreadable false n us i h m = h m

among_changed : (b : Bool) (n : ℕ) (us : List ℕ) (i : ℕ) → IsAmong i us → IsAmong i (cond b us (n ∷ us))
among_changed true n us i m = m
among_changed false n us i m = inr m

pub located : (cs : List ℕ) (ys : List Fe32) (i : ℕ) → IsAmong i (locations (differences (elements_of (read_data cs)) ys)) → (IsAmong i (unreadable cs) → ⊥) → IsAmong i (changed cs ys)
located [] ys i m out = absurd m
located (c ∷ cs) [] i m out = absurd m
located (c ∷ cs) (y ∷ ys) i m out =
    elim (split_located (same_element (element_of (read c)) y) (length (elements_of (read_data cs))) (fe32.add (element_of (read c)) y) (differences (elements_of (read_data cs)) ys) i m) [
      | inr k ↦ among_changed (eqb c 63 || same_element (element_of c) y) (length cs) (changed cs ys) i
          (located cs ys i k (not_unreadable (eqb c 63) (length cs) (unreadable cs) i out))
      | inl h ↦ here h (eqb_tells c 63)
    ]
  where
    here : (same_element (element_of (read c)) y ≡ false) × (i ≡ length (elements_of (read_data cs))) → ((eqb c 63 ≡ true) × (c ≡ 63)) ⊎ ((eqb c 63 ≡ false) × (c ≢ 63))
        → IsAmong i (cond (eqb c 63 || same_element (element_of c) y) (changed cs ys) (length cs ∷ changed cs ys))
    here h (inl t) = absurd (out (subst (λ (b : Bool). IsAmong i (cond b (length cs ∷ unreadable cs) (unreadable cs))) (sym t.0) (inl (h.1 ∙ count_read cs))))
    here h (inr t) =
        let plain : read c ≡ c = cond-false (eqb c 63) 48 c t.0 in
        let other : same_element (element_of c) y ≡ false = ap (λ (d : ℕ). same_element (element_of d) y) (sym plain) ∙ h.0 in
        subst (λ (b : Bool). IsAmong i (cond b (changed cs ys) (length cs ∷ changed cs ys))) (sym (or_from (eqb c 63) (same_element (element_of c) y) t.0 other)) (inl (h.1 ∙ count_read cs))

-- ---- a changed character has a value in the listing, and can be read

unreadable_below_not : (b : Bool) (cs : List ℕ) (i : ℕ) → i < length cs → (IsAmong i (unreadable cs) → ⊥) → IsAmong i (cond b (length cs ∷ unreadable cs) (unreadable cs)) → ⊥
unreadable_below_not true cs i l n (inl e) = absurd (omega (arith, l, e))
unreadable_below_not true cs i l n (inr m) = n m
unreadable_below_not false cs i l n m = n m

pub changed_outside : (l : List (ℕ × Fe32)) (cs : List ℕ) (i : ℕ) → IsAmong i (changed cs (mended ops l (elements_of (read_data cs))))
    → (value_of_pattern_at ops l i ≢ fe32.zero) × (IsAmong i (unreadable cs) → ⊥)
changed_outside l [] i m = absurd m
changed_outside l (c ∷ cs) i m =
    elim (split_changed (eqb c 63 || same_element (element_of c) (fe32.add (element_of (read c)) (value_of_pattern_at ops l (length (elements_of (read_data cs)))))) (length cs)
    (changed cs (mended ops l (elements_of (read_data cs)))) i m) [
      | inr k ↦ (
        (changed_outside l cs i k).0,
        unreadable_below_not (eqb c 63) cs i (look (λ j. j < length cs) i (changed cs (mended ops l (elements_of (read_data cs)))) (changed-below cs (mended ops l (elements_of (read_data cs)))) k) (changed_outside l cs i k).1,
      )
      | inl h ↦ here h (or_parts (eqb c 63) (same_element (element_of c) (fe32.add (element_of (read c)) (value_of_pattern_at ops l (length (elements_of (read_data cs)))))) h.0)
    ]
  where
    here : ((eqb c 63 || same_element (element_of c) (fe32.add (element_of (read c)) (value_of_pattern_at ops l (length (elements_of (read_data cs)))))) ≡ false) × (i ≡ length cs)
        → (eqb c 63 ≡ false) × (same_element (element_of c) (fe32.add (element_of (read c)) (value_of_pattern_at ops l (length (elements_of (read_data cs))))) ≡ false)
        → (value_of_pattern_at ops l i ≢ fe32.zero) × (IsAmong i (cond (eqb c 63) (length cs ∷ unreadable cs) (unreadable cs)) → ⊥)
    here h t =
        let plain : read c ≡ c = cond-false (eqb c 63) 48 c t.0 in
        let at : length (elements_of (read_data cs)) ≡ i = count_read cs ∙ sym h.1 in (
          λ z. both_ways (same_element (element_of c) (fe32.add (element_of (read c)) (value_of_pattern_at ops l (length (elements_of (read_data cs)))))) t.1
              (is_same (element_of c) (fe32.add (element_of (read c)) (value_of_pattern_at ops l (length (elements_of (read_data cs)))))
              (ap element_of (sym plain) ∙ sym (is_field.add_zero (element_of (read c))) ∙ ap (fe32.add (element_of (read c))) (sym z ∙ ap (value_of_pattern_at ops l) (sym at)))),
          λ m. let k : IsAmong i (unreadable cs) = subst (λ (b : Bool). IsAmong i (cond b (length cs ∷ unreadable cs) (unreadable cs))) t.0 m in
              let less : i < length cs = look (λ j. j < length cs) i (unreadable cs) (unreadable-below cs) k in
              absurd (omega (arith, less, h.1)),
        )

-- ---- two lists of elements differ where a character is unreadable, or changed in one of them

apart_more : (p n : ℕ) (xs ys us : List ℕ) (r s t d : Bool) → (r ≡ false → s ≡ true → t ≡ true → d ≡ true) → p ≤ length xs + length ys + length us
    → cond d p (suc p) ≤ length (cond (r || s) xs (n ∷ xs)) + length (cond (r || t) ys (n ∷ ys)) + length (cond r (n ∷ us) us)
apart_more p n xs ys us true s t true h l = omega (arith, l)
apart_more p n xs ys us true s t false h l = omega (arith, l)
apart_more p n xs ys us false true true true h l = omega (arith, l)
apart_more p n xs ys us false true true false h l = let e : false ≡ true = h refl refl refl in absurd (cc)
apart_more p n xs ys us false true false true h l = omega (arith, l)
apart_more p n xs ys us false true false false h l = omega (arith, l)
apart_more p n xs ys us false false true true h l = omega (arith, l)
apart_more p n xs ys us false false true false h l = omega (arith, l)
apart_more p n xs ys us false false false true h l = omega (arith, l)
apart_more p n xs ys us false false false false h l = omega (arith, l)

pub few_apart : (cs : List ℕ) (ys zs : List Fe32) → length ys ≡ length cs → length zs ≡ length cs
    → places_that_differ same_element ys zs ≤ length (changed cs ys) + length (changed cs zs) + length (unreadable cs)
few_apart [] [] [] e f = omega arith
few_apart [] [] (z ∷ zs) e f = absurd (omega (arith, f))
few_apart [] (y ∷ ys) zs e f = absurd (omega (arith, e))
few_apart (c ∷ cs) [] zs e f = absurd (omega (arith, e))
few_apart (c ∷ cs) (y ∷ ys) [] e f = absurd (omega (arith, f))
few_apart (c ∷ cs) (y ∷ ys) (z ∷ zs) e f =
    apart_more (places_that_differ same_element ys zs) (length cs) (changed cs ys) (changed cs zs) (unreadable cs)
    (eqb c 63) (same_element (element_of c) y) (same_element (element_of c) z) (same_element y z)
    (λ r s t. is_same y z (sym (same (element_of c) y s) ∙ same (element_of c) z t))
    (few_apart cs ys zs (omega (arith, e)) (omega (arith, f)))

-- Lists as the loops build them.
use Rattle.std.specs.Prelude.{◌==◌, Bool, true, false, cond}
use Rattle.std.proofs.Common.{◌≡◌, ℕ, zero, suc, ◌+◌, ◌-◌, ◌<◌, ◌≤◌, List, [], ◌∷◌, ◌++◌, map, length, get_or, take, drop, set, ◌⊎◌, inl, inr, subst, sym, ap, ◌∙◌, refl}
use Rattle.std.specs.List.{AllByRecursion}
use Rattle.std.proofs.Math.Seq.{drop-cons}
use Rattle.std.proofs.lemmas.List.{get_or-set_other, get_or-set_same, take_more}
use Rattle.std.proofs.Math.Decide.{dec_lt}
use Rattle.std.proofs.lemmas.Bool.Decides.{eqb_tells}
use Rattle.std.proofs.Common.{arith}
use Rattle.std.specs.Prelude.{◌≢◌}
use Rattle.bech32_poly.specs.Distinct.{IsAmong}
use Rattle.bech32_gf.specs.Field.{Ops, IsField, power}
use Rattle.bech32_poly.specs.Polynomial.{coefficient}
use Rattle.bech32_bch.specs.Knock.{knock, knocks, gap, without}
use Rattle.bech32_bch.specs.Erasures.{has}
use Rattle.bech32_bch.specs.Search.{IsKnockedOut, locators}
use Rattle.bech32_bch.specs.Pattern.{locations}
use Rattle.bech32_bch.proofs.Places.{all_push, locations-append, mem_left, mem_right}

pub drop_before : {A : Type 0} (xs : List A) (i : ℕ) (d : A) → 0 < i → i ≤ length xs → drop (i - 1) xs ≡ get_or xs (i - 1) d ∷ drop i xs
drop_before xs i d pos h = let e : suc (i - 1) ≡ i = omega arith in drop-cons xs (i - 1) d (omega arith) ∙ ap (λ k. get_or xs (i - 1) d ∷ drop k xs) e

pub get_any : {A : Type 0} (xs : List A) (i : ℕ) (d d' : A) → i < length xs → get_or xs i d ≡ get_or xs i d'
get_any [] i d d' h = absurd (omega arith)
get_any (x ∷ xs) zero d d' h = refl
get_any (x ∷ xs) (suc i) d d' h = get_any xs i d d' (omega arith)

pub has-true : (s : List ℕ) (i : ℕ) → has s i ≡ true → IsAmong i s
has-true [] i e = absurd (cc e)
has-true (m ∷ s) i e = step (eqb_tells i m) e (λ k. has-true s i k)
  where
    step : ((i == m) ≡ true × (i ≡ m)) ⊎ ((i == m) ≡ false × (i ≢ m)) → cond (i == m) true (has s i) ≡ true → (has s i ≡ true → IsAmong i s) → (i ≡ m) ⊎ IsAmong i s
    step (inl y) e r = inl y.1
    step (inr y) e r = inr (r (sym (ap (λ b. cond b true (has s i)) y.0) ∙ e))

pub has-false : (s : List ℕ) (i : ℕ) → has s i ≡ false → IsAmong i s → ⊥
has-false [] i e h = h
has-false (m ∷ s) i e h = step (eqb_tells i m) e h (λ k. has-false s i k)
  where
    step : ((i == m) ≡ true × (i ≡ m)) ⊎ ((i == m) ≡ false × (i ≢ m)) → cond (i == m) true (has s i) ≡ false → (i ≡ m) ⊎ IsAmong i s → (has s i ≡ false → IsAmong i s → ⊥) → ⊥
    step (inl y) e h r = let k : true ≡ false = sym (ap (λ b. cond b true (has s i)) y.0) ∙ e in absurd (cc k)
    step (inr y) e (inl k) r = y.1 k
    step (inr y) e (inr k) r = r (sym (ap (λ b. cond b true (has s i)) y.0) ∙ e) k

without-append : (i : ℕ) (ms ns : List ℕ) → without i (ms ++ ns) ≡ without i ms ++ without i ns
without-append i [] ns = refl
without-append i (m ∷ ms) ns = step (m == i) (without-append i ms ns)
  where
    step : (b : Bool) → without i (ms ++ ns) ≡ without i ms ++ without i ns → cond b (without i (ms ++ ns)) (m ∷ without i (ms ++ ns)) ≡ cond b (without i ms) (m ∷ without i ms) ++ without i ns
    step true e = e
    step false e = ap (λ u. m ∷ u) e

append_nothing : (xs : List ℕ) → xs ≡ xs ++ []
append_nothing [] = refl
append_nothing (x ∷ xs) = ap (λ u. x ∷ u) (append_nothing xs)

pub other_same : (i x : ℕ) (ms os : List ℕ) → os ≡ without i ms → x ≡ i → os ≡ without i (ms ++ (x ∷ []))
other_same i x ms os e h = elim (eqb_tells x i) [
  | inl y ↦ e ∙ append_nothing (without i ms) ∙ ap (λ b. without i ms ++ cond b [] (x ∷ [])) (sym y.0) ∙ sym (without-append i ms (x ∷ []))
  | inr y ↦ absurd (y.1 h)
]

pub other_more : (i x : ℕ) (ms os : List ℕ) → os ≡ without i ms → x ≢ i → os ++ (x ∷ []) ≡ without i (ms ++ (x ∷ []))
other_more i x ms os e h = elim (eqb_tells x i) [
  | inl y ↦ absurd (h y.1)
  | inr y ↦ ap (λ u. u ++ (x ∷ [])) e ∙ ap (λ b. without i ms ++ cond b [] (x ∷ [])) (sym y.0) ∙ sym (without-append i ms (x ∷ []))
]

get-front : {K : Type 0} (xs : List K) (y d : K) (t : ℕ) → t < length xs → get_or (xs ++ (y ∷ [])) t d ≡ get_or xs t d
get-front [] y d t h = absurd (omega arith)
get-front (x ∷ xs) y d zero h = refl
get-front (x ∷ xs) y d (suc t) h = get-front xs y d t (omega arith)

get-last : {K : Type 0} (xs : List K) (y d : K) → get_or (xs ++ (y ∷ [])) (length xs) d ≡ y
get-last [] y d = refl
get-last (x ∷ xs) y d = get-last xs y d

-- one item more of a sequence
pub items_more : {K : Type 0} (o : Ops K) (xs : List K) (n : ℕ) (f : ℕ → K) (y : K) → length xs ≡ n → ((t : ℕ) → t < n → coefficient o xs t ≡ f t) → y ≡ f n → (t : ℕ) → t < n + 1 → coefficient o (xs ++ (y ∷ [])) t ≡ f t
items_more o xs n f y size h e t within = elim (dec_lt t n) [
  | yes p ↦ get-front xs y o.zero t (omega arith) ∙ h t p
  | no p ↦ let last : t ≡ length xs = omega arith in let is : length xs ≡ n = size in ap (λ k. get_or (xs ++ (y ∷ [])) k o.zero) last ∙ get-last xs y o.zero ∙ e ∙ ap f (sym is ∙ sym last)
]

pub locators-more : {K : Type 0} (o : Ops K) (b : K) (ms : List ℕ) (x : ℕ) → locators o b (ms ++ (x ∷ [])) ≡ locators o b ms ++ (power o b x ∷ [])
locators-more o b [] x = refl
locators-more o b (m ∷ ms) x = ap (λ u. power o b m ∷ u) (locators-more o b ms x)

get-map : {K : Type 0} (h : ℕ → K) (xs : List ℕ) (i : ℕ) (d : K) (d' : ℕ) → i < length xs → get_or (map h xs) i d ≡ h (get_or xs i d')
get-map h [] i d d' w = absurd (omega arith)
get-map h (x ∷ xs) zero d d' w = refl
get-map h (x ∷ xs) (suc i) d d' w = get-map h xs i d d' (omega arith)

pub get-locators : {K : Type 0} (o : Ops K) (b : K) (locations : List ℕ) (all : List K) (i : ℕ) (y : K) → i < length locations → all ≡ locators o b locations → y ≡ get_or all i y
    → y ≡ power o b (get_or locations i 0)
get-locators o b locations all i y within are at = at ∙ ap (λ u. get_or u i y) are ∙ get-map (λ m. power o b m) locations i y 0 within

pub gap_more : {K : Type 0} (o : Ops K) (here y product product' : K) (xs : List K) (i : ℕ) → 0 < i → i ≤ length xs → y ≡ get_or xs (i - 1) y → product ≡ gap o here (drop i xs)
    → product' ≡ o.mul (o.add here (o.neg y)) product → product' ≡ gap o here (drop (i - 1) xs)
gap_more o here y product product' xs i pos h at so_far made =
    made ∙ ap (o.mul (o.add here (o.neg y))) so_far
    ∙ ap (λ u. o.mul (o.add here (o.neg u)) (gap o here (drop i xs))) at
    ∙ ap (gap o here) (sym (drop_before xs i y pos h))

pub knock_more : {K : Type 0} (o : Ops K) (y : K) (ys : List K) (i : ℕ) (first old new : List K) → 0 < i → i ≤ length ys → y ≡ get_or ys (i - 1) y → length new ≡ length old
    → ((t : ℕ) → suc t < length old → coefficient o new t ≡ knock o y (coefficient o old) t) → IsKnockedOut o (drop i ys) first old → IsKnockedOut o (drop (i - 1) ys) first new
knock_more o y ys i first old new pos h at size step before = record {
  size = size ∙ before.size;
  items_are = λ t within.
      let now : drop (i - 1) ys ≡ get_or ys (i - 1) y ∷ drop i ys = drop_before ys i y pos h in
      let longer : length (drop (i - 1) ys) ≡ suc (length (drop i ys)) = ap (λ u. length u) now in
      let here : coefficient o old t ≡ knocks o (drop i ys) (coefficient o first) t = before.items_are t (omega arith) in
      let next : coefficient o old (suc t) ≡ knocks o (drop i ys) (coefficient o first) (suc t) = before.items_are (suc t) (omega arith) in
      let stepped : coefficient o new t ≡ knock o y (coefficient o old) t = step t (omega (arith, before.size)) in
      stepped ∙ joined here next at ∙ ap (λ u. knocks o u (coefficient o first) t) (sym now);
}
  where
    joined : {a a' c c' z z' : _} → a ≡ a' → c ≡ c' → z ≡ z' → o.add c (o.neg (o.mul z a)) ≡ o.add c' (o.neg (o.mul z' a'))
    joined e f k = rw (e, f, k) refl

pub knock_next : {K : Type 0} (o : Ops K) (y here next v : K) (first items items' : List K) (i : ℕ) → 0 < i → i < length first → length items ≡ length first
    → ((t : ℕ) → suc t < i → coefficient o items t ≡ knock o y (coefficient o first) t) → ((t : ℕ) → i ≤ suc t → coefficient o items t ≡ coefficient o first t)
    → here ≡ get_or items (i - 1) here → next ≡ get_or items i next → v ≡ o.add next (o.neg (o.mul y here)) → items' ≡ set items (i - 1) v
    → (t : ℕ) → suc t < i + 1 → coefficient o items' t ≡ knock o y (coefficient o first) t
knock_next o y here next v first items items' i pos within size done left at_here at_next made is t low = elim (dec_lt (suc t) i) [
  | yes k ↦ ap (λ u. coefficient o u t) is ∙ get_or-set_other items (i - 1) t v o.zero (λ e. omega (arith, e, k)) ∙ done t k
  | no k ↦
      let last : t ≡ i - 1 = omega arith in
      let after : i ≡ suc t = omega arith in
      let below : i - 1 < length items = omega arith in
      let h : here ≡ coefficient o first t = at_here ∙ get_any items (i - 1) here o.zero below ∙ ap (λ n. get_or items n o.zero) (sym last) ∙ left t (omega arith) in
      let n : next ≡ coefficient o first (suc t) = at_next ∙ get_any items i next o.zero (omega arith) ∙ left i (omega arith) ∙ ap (coefficient o first) after in
      ap (λ u. coefficient o u t) is ∙ ap (λ n. get_or (set items (i - 1) v) n o.zero) last ∙ get_or-set_same items (i - 1) v o.zero below
      ∙ made ∙ ap (λ u. o.add u (o.neg (o.mul y here))) n ∙ ap (λ u. o.add (coefficient o first (suc t)) (o.neg (o.mul y u))) h
]

pub knock_left : {K : Type 0} (o : Ops K) (v : K) (first items items' : List K) (i : ℕ) → 0 < i
    → ((t : ℕ) → i ≤ suc t → coefficient o items t ≡ coefficient o first t) → items' ≡ set items (i - 1) v
    → (t : ℕ) → i + 1 ≤ suc t → coefficient o items' t ≡ coefficient o first t
knock_left o v first items items' i pos left is t high =
    ap (λ u. coefficient o u t) is ∙ get_or-set_other items (i - 1) t v o.zero (λ e. omega (arith, e, high, pos)) ∙ left t (omega arith)

all_weaker : {A : Type 0} (P Q : A → Type 0) (xs : List A) → ((x : A) → P x → Q x) → AllByRecursion P xs → AllByRecursion Q xs
all_weaker P Q [] h a = tt
all_weaker P Q (x ∷ xs) h a = (h x a.0, all_weaker P Q xs h a.1)

pub highest_more : {F : Type 0} (xs : List (ℕ × F)) (i highest highest' : ℕ) (p : ℕ × F) → i < length xs → p ≡ get_or xs i p → AllByRecursion (λ (q : ℕ × F). q.0 ≤ highest) (take i xs)
    → highest ≤ highest' → p.0 ≤ highest' → AllByRecursion (λ (q : ℕ × F). q.0 ≤ highest') (take (i + 1) xs)
highest_more {F} xs i highest highest' p within at so_far more here =
    subst (λ u. AllByRecursion (λ (q : ℕ × F). q.0 ≤ highest') u) (sym (take_more xs i p within))
    (all_push (λ (q : ℕ × F). q.0 ≤ highest') (take i xs) (get_or xs i p) (all_weaker _ (λ (q : ℕ × F). q.0 ≤ highest') (take i xs) (λ q k. omega (arith, k, more)) so_far) (subst (λ (q : ℕ × F). q.0 ≤ highest') at here))

pub attained_more : {F : Type 0} (xs : List (ℕ × F)) (i highest highest' : ℕ) (p : ℕ × F) → i < length xs → p ≡ get_or xs i p → (highest ≡ 0) ⊎ IsAmong highest (locations (take i xs))
    → (highest' ≡ highest) ⊎ (highest' ≡ p.0) → (highest' ≡ 0) ⊎ IsAmong highest' (locations (take (i + 1) xs))
attained_more xs i highest highest' p within at so_far either =
    let before : List ℕ = locations (take i xs) in
    let same : locations (take (i + 1) xs) ≡ before ++ (p.0 ∷ []) = ap locations (take_more xs i p within) ∙ locations-append (take i xs) (get_or xs i p ∷ []) ∙ ap (λ q. before ++ (q.0 ∷ [])) (sym at) in
    elim either [
      | inl e ↦ elim so_far [
        | inl none ↦ inl (e ∙ none)
        | inr m ↦ inr (subst (λ u. IsAmong highest' u) (sym same) (mem_left highest' before (p.0 ∷ []) (subst (λ n. IsAmong n before) (sym e) m)))
      ]
      | inr e ↦ inr (subst (λ u. IsAmong highest' u) (sym same) (mem_right highest' before (p.0 ∷ []) (inl e)))
    ]

pub all_below : {F : Type 0} (xs : List (ℕ × F)) (n n' : ℕ) → n ≤ n' → AllByRecursion (λ (q : ℕ × F). q.0 ≤ n) xs → AllByRecursion (λ (q : ℕ × F). q.0 ≤ n') xs
all_below {F} xs n n' more a = all_weaker (λ (q : ℕ × F). q.0 ≤ n) (λ (q : ℕ × F). q.0 ≤ n') xs (λ q k. omega (arith, k, more)) a

module _ {K : Type 0} {o : Ops K} (l : IsField o) where
  pub divided : (left known v : K) → known ≢ o.zero → left ≡ o.mul v known → o.mul left (o.inv known) ≡ v
  divided left known v n e = ap (λ u. o.mul u (o.inv known)) e ∙ l.mul_assoc v known (o.inv known) ∙ ap (o.mul v) (l.mul_inv known n) ∙ l.mul_one v

-- A shortest register of the syndromes of a pattern with few errors vanishes at their locations, and at no others.
use Rattle.std.specs.Prelude.{◌↔◌, ◌≢◌, IsTrue, Bool, IfSome, MatchOption}
use Rattle.std.specs.List.{AllByRecursion}
use Rattle.std.proofs.Common.{◌≡◌, ℕ, suc, ◌+◌, ◌-◌, ◌*◌, ◌<◌, ◌≤◌, List, [], ◌∷◌, zero, map, length, get_or, take, Option, Some, None, ◌⊎◌, inl, inr, subst, sym, ap, ◌∙◌, refl, arith}
use Rattle.std.proofs.Math.Decide.{dec_lt}
use Rattle.std.proofs.lemmas.List.{take_all, length-take-le}
use Rattle.bech32_gf.specs.Field.{Ops, IsField, value_at, power}
use Rattle.bech32_poly.specs.Distinct.{IsAmong}
use Rattle.bech32_poly.specs.Pattern.{power_sum, value_of_pattern_at}
use Rattle.bech32_poly.specs.Polynomial.{coefficient}
use Rattle.bech32_poly.specs.Window.{Annihilates, IsShortestWindow}
use Rattle.bech32_poly.proofs.Zero.{power_distinct, power_not_zero}
use Rattle.bech32_bch.specs.Erasures.{AreErasures}
use Rattle.bech32_bch.specs.Knock.{gap, knocks}
use Rattle.bech32_bch.specs.Search.{AreErrorLocations, AreLocationsOutside, AreSumsOf, HasLongOrder, IsKnockedOut, locators, ordered, roots_below}
use Rattle.bech32_bch.proofs.Counting.{outside, located_outside, outside_located}
use Rattle.bech32_bch.proofs.Found.{Terms, Locates, locates, location_bound}
use Rattle.bech32_bch.proofs.Patterns.{outside_count, own_values}
use Rattle.bech32_bch.proofs.Places.{all_of, look, once_fits}
use Rattle.bech32_bch.proofs.Rising.{IsRising, filter_rises, length-ordered, once_rising, ordered_among, ordered_in_order, passed, passes, take_rises, taken_among}
use Rattle.bech32_bch.proofs.Solved.{terms}

get_take : {A : Type 0} (xs : List A) (n t : ℕ) (d : A) → t < n → n ≤ length xs → get_or (take n xs) t d ≡ get_or xs t d
get_take [] n t d h k = absurd (omega arith)
get_take (x ∷ xs) zero t d h k = absurd (omega arith)
get_take (x ∷ xs) (suc n) zero d h k = refl
get_take (x ∷ xs) (suc n) (suc t) d h k = get_take xs n t d (omega arith) (omega arith)

pub length-locators : {K : Type 0} (o : Ops K) (b : K) (s : List ℕ) → length (locators o b s) ≡ length s
length-locators o b [] = refl
length-locators o b (i ∷ s) = ap suc (length-locators o b s)

module _ {K : Type 0} {o : Ops K} (l : IsField o) where
  pub differ : (b : K) (w : ℕ) → HasLongOrder o b w → (i j : ℕ) → i < w → j < w → i ≢ j → power o b i ≢ power o b j
  differ b w h i j p q d = elim (dec_lt i j) [
    | yes k ↦ power_distinct l b h.order i j h.is_order h.not_zero k (omega (arith, h.long_enough))
    | no k ↦ λ e. power_distinct l b h.order j i h.is_order h.not_zero (omega arith) (omega (arith, h.long_enough)) (sym e)
  ]

module _ {K : Type 0} {o : Ops K} (l : IsField o) (same : K → K → Bool) (tells : (x y : K) → IsTrue (same x y) ↔ (x ≡ y)) where
  pub root_is : (r : List K) (b : K) (w i : ℕ) → IsAmong i (roots_below o same r b w) → (i < w) × (value_at o (power o b i) r ≡ o.zero)
  root_is r b w i m =
      let h : (0 ≤ i) × (i < 0 + (w - 0)) × IsTrue (same (value_at o (power o b i) r) o.zero) = passed (λ k. same (value_at o (power o b k) r) o.zero) 0 (w - 0) i m in
      (omega (arith, h.1), (tells _ _).0 h.2)

  pub is_root : (r : List K) (b : K) (w i : ℕ) → i < w → value_at o (power o b i) r ≡ o.zero → IsAmong i (roots_below o same r b w)
  is_root r b w i below root = passes (λ k. same (value_at o (power o b k) r) o.zero) 0 (w - 0) i (omega arith) (omega arith) ((tells _ _).1 root)

  pub roots_rise : (r : List K) (b : K) (w : ℕ) → IsRising (roots_below o same r b w)
  roots_rise r b w = filter_rises (λ k. same (value_at o (power o b k) r) o.zero) 0 (w - 0)

  -- what the calls have made
  pub record Steps (b : K) (w : ℕ) (s : List ℕ) (items left r : List K) (room degree : ℕ) : Type 0 where
    pub order : HasLongOrder o b w
    pub erased : AreErasures w s
    pub room_is : room + length s ≡ length items
    pub knocked : IsKnockedOut o (locators o b s) items left
    pub shortest : IsShortestWindow o (take room left) r
    pub degree_is : length r ≡ suc degree

  module _ (b : K) (w : ℕ) (s : List ℕ) (items left r : List K) (room degree : ℕ) (steps : Steps b w s items left r room degree) where
    -- locations at which the register vanishes, none of them erased, may be those of errors
    may_be_errors : 2 * degree ≤ room → (found : List ℕ) → length found ≡ degree → found ≡ take degree (roots_below o same r b w)
        → ((i : ℕ) → IsAmong i found → IsAmong i s → ⊥) → AreErrorLocations w s (length items) (ordered found)
    may_be_errors half found size is apart = record {
      in_order = ordered_in_order found (subst IsRising (sym is) (take_rises degree (roots_below o same r b w) (roots_rise r b w)));
      below = all_of (λ i. i < w) (ordered found) (λ i m. (root_is r b w i (taken_among degree (roots_below o same r b w) i (subst (IsAmong i) is ((ordered_among found i).0 m)))).0);
      outside = all_of (λ i. IsAmong i s → ⊥) (ordered found) (λ i m. apart i ((ordered_among found i).0 m));
      few = omega (arith, length-ordered found, steps.room_is);
    }

    -- what a search for the locations answers
    abbrev Answers : Option (List ℕ) → Type 0
    Answers answer = MatchOption answer
        ((length (roots_below o same r b w) < degree) ⊎ ((i : ℕ) × (IsAmong i (take degree (roots_below o same r b w)) × IsAmong i s)))
        (λ found. (found ≡ ordered (take degree (roots_below o same r b w))) × ((length (take degree (roots_below o same r b w)) ≡ degree) × ((i : ℕ) → IsAmong i (take degree (roots_below o same r b w)) → IsAmong i s → ⊥)))

    pub may_be_located : 2 * degree ≤ room → (answer : Option (List ℕ)) → Answers answer → IfSome answer (λ found. AreErrorLocations w s (length items) found)
    may_be_located half None h = tt
    may_be_located half (Some found) h = subst (AreErrorLocations w s (length items)) (sym h.0) (may_be_errors half (take degree (roots_below o same r b w)) h.1.0 refl h.1.1)

    module _ (start : ℕ) (e : List (ℕ × K)) (h : AreSumsOf o b start w s items e) where
      heavy : (m : ℕ) → power o (power o b m) start ≢ o.zero
      heavy m = power_not_zero l (power o b m) (power_not_zero l b steps.order.not_zero m) start

      weighing : (e' : List (ℕ × K)) → AllByRecursion (λ (p : ℕ × K). p.0 < w) e' → AllByRecursion (λ (p : ℕ × K). p.1 ≢ o.zero) e' → AllByRecursion (λ (q : ℕ × K). q.1 ≡ value_of_pattern_at o e q.0) e'
          → AllByRecursion (λ (p : ℕ × K). (p.0 < w) × (value_of_pattern_at o e p.0 ≢ o.zero)) e'
      weighing [] below values own = tt
      weighing (p ∷ e') below values own = ((below.0, λ z. values.0 (own.0 ∙ z)), weighing e' below.1 values.1 own.1)

      basis : Terms l (λ m. power o b m) (λ m. o.mul (gap o (power o b m) (map (λ i. power o b i) s)) (power o (power o b m) start)) w room (knocks o (map (λ i. power o b i) s) (coefficient o items)) (outside s e) e
      basis = terms l (λ m. power o b m) (λ m. power o (power o b m) start) w (length items) room (coefficient o items) s e (differ l b w steps.order) heavy steps.erased.below
          (weighing e h.pattern.below h.pattern.values (own_values l e h.pattern.once)) h.pattern.once h.sums steps.room_is (omega (arith, h.few, outside_count s e))

      size : length (take room left) ≡ room
      size = length-take-le room left (omega (arith, steps.knocked.size, steps.room_is))

      len_is : steps.shortest.len ≡ degree
      len_is = omega (arith, steps.shortest.generates.degree, steps.degree_is)

      sums : (t : ℕ) → t < room → coefficient o (take room left) t ≡ power_sum o (λ m. power o b m) (λ m. o.mul (gap o (power o b m) (map (λ i. power o b i) s)) (power o (power o b m) start)) e t
      sums t within =
          get_take left room t o.zero within (omega (arith, steps.knocked.size, steps.room_is))
          ∙ steps.knocked.items_are t (omega (arith, length-locators o b s, steps.room_is)) ∙ basis.sums t within

      located : Locates l (λ m. power o b m) w steps.shortest.len (outside s e) r
      located = locates l (λ m. power o b m) (λ m. o.mul (gap o (power o b m) (map (λ i. power o b i) s)) (power o (power o b m) start)) w room steps.shortest.len (coefficient o (take room left)) (outside s e) e r
          (record { differ = basis.differ; below = basis.below; once = basis.once; places = basis.places; values = basis.values; sums = sums; few = basis.few })
          (subst (λ k. Annihilates o (coefficient o (take room left)) k steps.shortest.len r) size steps.shortest.generates)
          (λ m q le a. steps.shortest.least m q (omega (arith, size)) (subst (λ k. Annihilates o (coefficient o (take room left)) k m q) (sym size) a))

      roots : List ℕ
      roots = roots_below o same r b w

      ms_among : (i : ℕ) → IsAmong i (outside s e) → IsAmong i (roots_below o same r b w)
      ms_among i m = is_root r b w i (look (λ j. j < w) i (outside s e) basis.below m) (look (λ j. value_at o (power o b j) r ≡ o.zero) i (outside s e) located.roots m)

      among_ms : (i : ℕ) → IsAmong i (roots_below o same r b w) → IsAmong i (outside s e)
      among_ms i m = let h : (i < w) × (value_at o (power o b i) r ≡ o.zero) = root_is r b w i m in located.no_other i h.0 h.1

      most : length (roots_below o same r b w) ≤ degree
      most =
          let bound : length (roots_below o same r b w) ≤ steps.shortest.len = location_bound l (λ m. power o b m) w steps.shortest.len r (roots_below o same r b w) (differ l b w steps.order) steps.shortest.generates.degree steps.shortest.generates.monic
          (all_of (λ i. i < w) (roots_below o same r b w) (λ i m. (root_is r b w i m).0)) (once_rising (roots_below o same r b w) (roots_rise r b w))
          (all_of (λ i. value_at o (power o b i) r ≡ o.zero) (roots_below o same r b w) (λ i m. (root_is r b w i m).1)) in
          omega (arith, len_is)

      many : length (outside s e) ≤ length (roots_below o same r b w)
      many = once_fits (outside s e) (roots_below o same r b w) basis.once ms_among

      pub half_enough : 2 * degree ≤ room
      half_enough = omega (arith, basis.few, located.short, len_is)

      roots_enough : degree ≤ length (roots_below o same r b w)
      roots_enough = omega (arith, many, located.short, len_is)

      among_found : (found : List ℕ) → found ≡ take degree (roots_below o same r b w) → (i : ℕ) → IsAmong i found ↔ IsAmong i (outside s e)
      among_found found is i =
          let all : found ≡ roots_below o same r b w = is ∙ take_all degree (roots_below o same r b w) most in
          ((λ m. among_ms i (subst (IsAmong i) all m)), (λ m. subst (IsAmong i) (sym all) (ms_among i m)))

      none_erased : (found : List ℕ) → found ≡ take degree (roots_below o same r b w) → (i : ℕ) → IsAmong i found → IsAmong i s → ⊥
      none_erased found is i m k = (outside_located s e i ((among_found found is i).0 m)).1 k

      errors_found : (found : List ℕ) → found ≡ take degree (roots_below o same r b w) → AreLocationsOutside s e (ordered found)
      errors_found found is i = (
        (λ m. outside_located s e i ((among_found found is i).0 ((ordered_among found i).0 m))),
        (λ h. (ordered_among found i).1 ((among_found found is i).1 (located_outside s e i h.0 h.1))),
      )

      pub located_or_none : (answer : Option (List ℕ)) → Answers answer → MatchOption answer ⊥ (λ found. AreLocationsOutside s e found)
      located_or_none None (inl few) = absurd (omega (arith, few, roots_enough))
      located_or_none None (inr h) = none_erased (take degree (roots_below o same r b w)) refl h.0 h.1.0 h.1.1
      located_or_none (Some found) h = subst (AreLocationsOutside s e) (sym h.0) (errors_found (take degree (roots_below o same r b w)) refl)

  pub prepared : (b : K) (w : ℕ) (s : List ℕ) (items items' known known' left left' r r' : List K) (room degree n m : ℕ)
      → HasLongOrder o b w → AreErasures w s → known ≡ locators o b s → length s ≤ length items
      → items' ≡ items → known' ≡ known → IsKnockedOut o known' items' left → left' ≡ left → n ≡ length items → room ≡ n - length s
      → IsShortestWindow o (take room left') r → r' ≡ r → m ≡ length r → degree ≡ m - 1 → Steps b w s items left r' room degree
  prepared b w s items items' known known' left left' r r' room degree n m order erased locs fits same_items same_known knocked same_left size room_is short same_r len degree_is = record {
    order = order;
    erased = erased;
    room_is = omega arith;
    knocked = subst (λ u. IsKnockedOut o u items left) (same_known ∙ locs) (subst (λ u. IsKnockedOut o known' u left) same_items knocked);
    shortest = subst (λ u. IsShortestWindow o (take room left) u) (sym same_r) (subst (λ u. IsShortestWindow o (take room u) r) same_left short);
    degree_is = omega (arith, ap (λ u. length u) same_r, short.generates.degree, len, degree_is);
  }

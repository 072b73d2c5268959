-- Four errors are detected where no two remainders of single terms add up with one to a third.
use Rattle.std.specs.Prelude.{◌==◌, ◌≢◌, true, false}
use Rattle.std.specs.List.{AllByRecursion}
use Rattle.std.proofs.Common.{◌≡◌, ℕ, zero, suc, ◌-◌, ◌<◌, ◌≤◌, List, [], ◌∷◌, length, ◌⊎◌, inl, inr, sym, ap, subst, ◌∙◌, refl, arith}
use Rattle.std.proofs.lemmas.Bool.Decides.{eqb_tells}
use Rattle.bech32_gf.specs.Field.{Ops, IsField}
use Rattle.bech32_gf.specs.laws.Ring.{ring, neg_neg}
use Rattle.bech32_poly.specs.Distinct.{IsNotAmong, IsOnce}
use Rattle.bech32_poly.specs.Division.{zeros, top, push, step, remainder_of}
use Rattle.bech32_poly.specs.Pattern.{monomial, pattern_polynomial}
use Rattle.bech32_poly.specs.Polynomial.{IsSamePolynomial, coefficient, add, scale}
use Rattle.bech32_poly.proofs.Lists.{length-add, length-zeros, coefficient-zeros, add_comm, add_assoc, add_left_comm, zeros-add, scale-add, scale-zeros, scale-zero}
use Rattle.bech32_poly.proofs.Remainder.{length-push, length-remainder_of, remainder_exists, remainder_of-add, remainder_of-scale, remainder_unique, step-add}
use Rattle.bech32_poly.proofs.Zero.{no_zero_divisors, product_not_zero}
use Rattle.bech32_bch.specs.Pattern.{HasRemainder, IsPattern, locations}
use Rattle.bech32_bch.specs.Detection.{DetectsFour}
use Rattle.bech32_detect.specs.Rows.{term}

-- the remainder of a pattern
abbrev pub left : {F : Type 0} → Ops F → List F → List (ℕ × F) → List F
left f g e = remainder_of f g (pattern_polynomial f e)

-- r is the remainder of a single term above location 0 and below n
pub record IsTerm {F : Type 0} (f : Ops F) (g : List F) (n : ℕ) (r : List F) : Type 0 where
  pub location : ℕ
  pub value : F
  pub positive : 0 < location
  pub below : location < n
  pub not_zero : value ≢ f.zero
  pub is : r ≡ term f g location value

-- `has` holds of zero and of each such remainder, and of nothing else
pub record IsTable {F : Type 0} (f : Ops F) (g : List F) (n : ℕ) (has : List F → Type 0) : Type 0 where
  pub nothing : has (zeros f (length g))
  pub complete : (i : ℕ) (v : F) → 0 < i → i < n → v ≢ f.zero → has (term f g i v)
  pub sound : (r : List F) → has r → (r ≡ zeros f (length g)) ⊎ IsTerm f g n r

-- one place down
abbrev pub down : {F : Type 0} → List (ℕ × F) → List (ℕ × F)
down [] = []
down (p ∷ e) = (p.0 - 1, p.1) ∷ down e

pub length-down : {F : Type 0} (e : List (ℕ × F)) → length (down e) ≡ length e
length-down [] = refl
length-down (p ∷ e) = ap suc (length-down e)

abbrev pub Positive : {F : Type 0} → List (ℕ × F) → Type 0
Positive e = AllByRecursion (λ i. 0 < i) (locations e)

down-below : {F : Type 0} (n : ℕ) (e : List (ℕ × F)) → Positive e → AllByRecursion (λ (p : ℕ × F). p.0 < suc n) e → AllByRecursion (λ (p : ℕ × F). p.0 < n) (down e)
down-below n [] h k = tt
down-below n (p ∷ e) h k = let a : 0 < p.0 = h.0 in let b : p.0 < suc n = k.0 in (omega arith, down-below n e h.1 k.1)

down-values : {F : Type 0} (f : Ops F) (e : List (ℕ × F)) → AllByRecursion (λ (p : ℕ × F). p.1 ≢ f.zero) e → AllByRecursion (λ (p : ℕ × F). p.1 ≢ f.zero) (down e)
down-values f [] h = tt
down-values f (p ∷ e) h = (h.0, down-values f e h.1)

down-apart : {F : Type 0} (i : ℕ) (e : List (ℕ × F)) → 0 < i → Positive e → IsNotAmong i (locations e) → IsNotAmong (i - 1) (locations (down e))
down-apart i [] b h k = tt
down-apart i (p ∷ e) b h k = let c : 0 < p.0 = h.0 in (λ s. k.0 (omega arith), down-apart i e b h.1 k.1)

down-once : {F : Type 0} (e : List (ℕ × F)) → Positive e → IsOnce (locations e) → IsOnce (locations (down e))
down-once [] h k = tt
down-once (p ∷ e) h k = (down-apart p.0 e h.0 h.1 k.0, down-once e h.1 k.1)

module _ {F : Type 0} {f : Ops F} (l : IsField f) where
  length-left : (g : List F) (e : List (ℕ × F)) → length (left f g e) ≡ length g
  length-left g e = length-remainder_of l g (pattern_polynomial f e)

  left-cons : (g : List F) (p : ℕ × F) (e : List (ℕ × F)) → left f g (p ∷ e) ≡ add f (term f g p.0 p.1) (left f g e)
  left-cons g p e = remainder_of-add l g (monomial f p.0 p.1) (pattern_polynomial f e)

  zero_less : f.zero ≡ f.add f.zero f.zero
  zero_less = simp (ring, l)

  none_times : (c : F) → f.zero ≡ f.mul c f.zero
  none_times c = simp (ring, l)

  pair : (a b : F) (p q : List F) → a ≡ b → p ≡ q → a ∷ p ≡ b ∷ q
  pair a b p q e h = cc

  monomial-add : (i : ℕ) (v w : F) → monomial f i (f.add v w) ≡ add f (monomial f i v) (monomial f i w)
  monomial-add zero v w = refl
  monomial-add (suc i) v w = pair _ _ _ _ zero_less (monomial-add i v w)

  monomial-scale : (i : ℕ) (c v : F) → monomial f i (f.mul c v) ≡ scale f c (monomial f i v)
  monomial-scale zero c v = refl
  monomial-scale (suc i) c v = pair _ _ _ _ (none_times c) (monomial-scale i c v)

  pub term-add : (g : List F) (i : ℕ) (v w : F) → term f g i (f.add v w) ≡ add f (term f g i v) (term f g i w)
  term-add g i v w = ap (remainder_of f g) (monomial-add i v w) ∙ remainder_of-add l g (monomial f i v) (monomial f i w)

  pub term-scale : (g : List F) (i : ℕ) (c v : F) → term f g i (f.mul c v) ≡ scale f c (term f g i v)
  term-scale g i c v = ap (remainder_of f g) (monomial-scale i c v) ∙ remainder_of-scale l g c (monomial f i v)

  nothing_times : f.mul f.zero f.zero ≡ f.zero
  nothing_times = simp (ring, l)

  pub term-zero : (g : List F) (i : ℕ) → term f g i f.zero ≡ zeros f (length g)
  term-zero g i =
      ap (λ v. term f g i v) (sym nothing_times)
      ∙ term-scale g i f.zero f.zero
      ∙ scale-zero l (term f g i f.zero)
      ∙ ap (zeros f) (length-remainder_of l g (monomial f i f.zero))

  add-nothing : (g r : List F) → length r ≡ length g → add f r (zeros f (length g)) ≡ r
  add-nothing g r e = add_comm l r (zeros f (length g)) ∙ zeros-add l (length g) r e

  -- a pattern with no pair at 0 is one step above that one place down
  left-down : (g : List F) (e : List (ℕ × F)) → Positive e → left f g e ≡ step f g (left f g (down e)) f.zero
  left-down g [] h = sym (step-nothing)
    where
      step-nothing : step f g (zeros f (length g)) f.zero ≡ zeros f (length g)
      step-nothing = ap (λ u. step f g u f.zero) (sym (term-zero g 0)) ∙ rise 0
        where
          rise : (i : ℕ) → step f g (term f g i f.zero) f.zero ≡ zeros f (length g)
          rise i = term-zero g (suc i)
  left-down g (p ∷ e) h =
      left-cons g p e
      ∙ ap (λ u. add f u (left f g e)) (rises p.0 h.0)
      ∙ ap (add f (step f g (term f g (p.0 - 1) p.1) f.zero)) (left-down g e h.1)
      ∙ sym (step-add l g (term f g (p.0 - 1) p.1) (left f g (down e)) f.zero f.zero (length-remainder_of l g (monomial f (p.0 - 1) p.1) ∙ sym (length-left g (down e))))
      ∙ ap (step f g (add f (term f g (p.0 - 1) p.1) (left f g (down e)))) (sym zero_less)
      ∙ ap (λ u. step f g u f.zero) (sym (left-cons g (p.0 - 1, p.1) (down e)))
    where
      rises : (i : ℕ) → 0 < i → term f g i p.1 ≡ step f g (term f g (i - 1) p.1) f.zero
      rises zero k = absurd (omega arith)
      rises (suc i) k = let e : i ≡ suc i - 1 = omega arith in ap (λ j. step f g (term f g j p.1) f.zero) e

  -- a pattern at locations above 0 and below n
  pub record Above (n : ℕ) (e : List (ℕ × F)) : Type 0 where
    pub positive : Positive e
    pub below : AllByRecursion (λ (p : ℕ × F). p.0 < n) e
    pub values : AllByRecursion (λ (p : ℕ × F). p.1 ≢ f.zero) e

  -- the pair at 0, and the others
  pub record Split (g : List F) (n : ℕ) (e : List (ℕ × F)) : Type 0 where
    pub value : F
    pub rest : List (ℕ × F)
    pub not_zero : value ≢ f.zero
    pub others : Above n rest
    pub size : length e ≡ suc (length rest)
    pub is : left f g e ≡ add f (term f g 0 value) (left f g rest)

  apart-positive : (i : ℕ) (is : List ℕ) → i ≡ 0 → IsNotAmong i is → AllByRecursion (λ j. 0 < j) is
  apart-positive i [] z h = tt
  apart-positive i (j ∷ is) z h = (positive j h.0, apart-positive i is z h.1)
    where
      positive : (j : ℕ) → i ≢ j → 0 < j
      positive zero n = absurd (n z)
      positive (suc j) n = omega arith

  pub split : (g : List F) (n : ℕ) (e : List (ℕ × F)) → IsPattern f n e → Positive e ⊎ Split g n e
  split g n [] h = inl tt
  split g n (p ∷ e) h = by_location p.0 refl (split g n e (record { below = h.below.1; values = h.values.1; once = h.once.1 }))
    where
      by_location : (i : ℕ) → p.0 ≡ i → Positive e ⊎ Split g n e → Positive (p ∷ e) ⊎ Split g n (p ∷ e)
      by_location zero z r = inr (record {
        value = p.1;
        rest = e;
        not_zero = h.values.0;
        others = record { positive = apart-positive p.0 (locations e) z h.once.0; below = h.below.1; values = h.values.1 };
        size = refl;
        is = left-cons g p e ∙ ap (λ i. add f (term f g i p.1) (left f g e)) z;
      })
      by_location (suc i) z (inl k) = let above : 0 < p.0 = omega arith in inl (above, k)
      by_location (suc i) z (inr s) = let above : 0 < p.0 = omega arith in inr (record {
        value = s.value;
        rest = p ∷ s.rest;
        not_zero = s.not_zero;
        others = record { positive = (above, s.others.positive); below = (h.below.0, s.others.below); values = (h.values.0, s.others.values) };
        size = ap suc s.size;
        is =
            left-cons g p e
            ∙ ap (add f (term f g p.0 p.1)) s.is
            ∙ add_left_comm l (term f g p.0 p.1) (term f g 0 s.value) (left f g s.rest)
            ∙ ap (add f (term f g 0 s.value)) (sym (left-cons g p s.rest));
      })

  -- x is the sum of k things that `has` holds
  abbrev pub Sums : (List F → Type 0) → List F → ℕ → List F → Type 0
  Sums has g zero x = x ≡ zeros f (length g)
  Sums has g (suc k) x = (a : List F) × (b : List F) × has a × Sums has g k b × (x ≡ add f a b)

  pub sums : (g : List F) (n : ℕ) (has : List F → Type 0) (k : ℕ) (c : F) (e : List (ℕ × F)) → IsTable f g n has → c ≢ f.zero → Above n e → length e ≤ k → Sums has g k (scale f c (left f g e))
  sums g n has zero c [] t h a few = scale-zeros l c (length g)
  sums g n has zero c (p ∷ e) t h a few = absurd (omega arith)
  sums g n has (suc k) c [] t h a few = (
    zeros f (length g),
    scale f c (left f g []),
    t.nothing,
    sums g n has k c [] t h a (omega arith),
    sym (zeros-add l (length g) (scale f c (zeros f (length g))) (ap length (scale-zeros l c (length g)) ∙ length-zeros l (length g))),
  )
  sums g n has (suc k) c (p ∷ e) t h a few = (
    term f g p.0 (f.mul c p.1),
    scale f c (left f g e),
    t.complete p.0 (f.mul c p.1) a.positive.0 a.below.0 (product_not_zero l c p.1 h a.values.0),
    sums g n has k c e t h (record { positive = a.positive.1; below = a.below.1; values = a.values.1 }) (omega arith),
    ap (scale f c) (left-cons g p e) ∙ scale-add l c (term f g p.0 p.1) (left f g e) ∙ ap (λ u. add f u (scale f c (left f g e))) (sym (term-scale g p.0 c p.1)),
  )

  length-has : (g : List F) (n : ℕ) (has : List F → Type 0) (r : List F) → IsTable f g n has → has r → length r ≡ length g
  length-has g n has r t h = elim (t.sound r h) [
    | inl e ↦ ap length e ∙ length-zeros l (length g)
    | inr m ↦ ap length m.is ∙ length-remainder_of l g (monomial f m.location m.value)
  ]

  -- what 1, a and b add up to
  abbrev pub third : List F → List F → List F → List F
  third g a b = add f (add f (term f g 0 f.one) a) b

  doubled : ((x : F) → f.add x x ≡ f.zero) → (r : List F) → add f r r ≡ zeros f (length r)
  doubled two [] = refl
  doubled two (a ∷ r) = pair _ _ _ _ (two a) (doubled two r)

  -- what is added to y leaves nothing, so it is y
  same_as_other : ((x : F) → f.add x x ≡ f.zero) → (d : ℕ) (y c : List F) → length y ≡ d → length c ≡ d → add f y c ≡ zeros f d → c ≡ y
  same_as_other two d y c ey ec h =
      sym (zeros-add l d c ec)
      ∙ ap (λ u. add f u c) (ap (zeros f) (sym ey) ∙ sym (doubled two y))
      ∙ add_assoc l y y c
      ∙ ap (add f y) h
      ∙ add_comm l y (zeros f d)
      ∙ zeros-add l d y ey

  length-sum : (g a b : List F) → length a ≡ length g → length b ≡ length g → length (add f a b) ≡ length g
  length-sum g a b e h = length-add l a b (omega arith) ∙ e

  pub length-third : (g a b : List F) → length a ≡ length g → length b ≡ length g → length (third g a b) ≡ length g
  length-third g a b e h = length-sum g (add f (term f g 0 f.one) a) b (length-sum g (term f g 0 f.one) a (length-remainder_of l g (monomial f 0 f.one)) e) h

  -- three that make up for 1 are a, b and what these say
  three : ((x : F) → f.add x x ≡ f.zero) → (g : List F) (n : ℕ) (has : List F → Type 0) (x : List F) → IsTable f g n has → Sums has g 3 x →
      add f (term f g 0 f.one) x ≡ zeros f (length g) → (a : List F) × (b : List F) × has a × has b × has (third g a b)
  three two g n has x t (a, u, ha, (b, v, hb, (c, w, hc, last, ew), ev), eu) h =
      (a, b, ha, hb, subst has (same_as_other two (length g) (third g a b) c (length-third g a b la lb) lc gone) hc)
    where
      la : length a ≡ length g
      la = length-has g n has a t ha

      lb : length b ≡ length g
      lb = length-has g n has b t hb

      lc : length c ≡ length g
      lc = length-has g n has c t hc

      all : x ≡ add f a (add f b c)
      all = eu ∙ ap (add f a) (ev ∙ ap (add f b) (ew ∙ ap (add f c) last ∙ add-nothing g c lc))

      gone : add f (third g a b) c ≡ zeros f (length g)
      gone =
          add_assoc l (add f (term f g 0 f.one) a) b c
          ∙ add_assoc l (term f g 0 f.one) a (add f b c)
          ∙ ap (add f (term f g 0 f.one)) (sym all)
          ∙ h

  -- one pair at 0 and at most three others
  triple_of_split : ((x : F) → f.add x x ≡ f.zero) → (g : List F) (n : ℕ) (has : List F → Type 0) (e : List (ℕ × F)) → IsTable f g n has → Split g n e → length e ≤ 4 → left f g e ≡ zeros f (length g) →
      (a : List F) × (b : List F) × has a × has b × has (third g a b)
  triple_of_split two g n has e t s few none =
      three two g n has (scale f c (left f g s.rest)) t (sums g n has 3 c s.rest t inverse_not_zero s.others (omega (arith, s.size))) whole
    where
      c : F
      c = f.inv s.value

      unit : f.mul c s.value ≡ f.one
      unit = l.mul_comm c s.value ∙ l.mul_inv s.value s.not_zero

      inverse_not_zero : c ≢ f.zero
      inverse_not_zero z = l.one_not_zero (sym unit ∙ ap (λ x. f.mul x s.value) z ∙ none_at s.value)
        where
          none_at : (x : F) → f.mul f.zero x ≡ f.zero
          none_at x = simp (ring, l)

      whole : add f (term f g 0 f.one) (scale f c (left f g s.rest)) ≡ zeros f (length g)
      whole =
          ap (λ x. add f (term f g 0 x) (scale f c (left f g s.rest))) (sym unit)
          ∙ ap (λ u. add f u (scale f c (left f g s.rest))) (term-scale g 0 c s.value)
          ∙ sym (scale-add l c (term f g 0 s.value) (left f g s.rest))
          ∙ ap (scale f c) (sym s.is ∙ none)
          ∙ scale-zeros l c (length g)

  down-pattern : (n : ℕ) (e : List (ℕ × F)) → Positive e → IsPattern f (suc n) e → IsPattern f n (down e)
  down-pattern n e k h = record { below = down-below n e k h.below; values = down-values f e h.values; once = down-once e k h.once }

  more-below : (n m : ℕ) (e : List (ℕ × F)) → n ≤ m → AllByRecursion (λ (p : ℕ × F). p.0 < n) e → AllByRecursion (λ (p : ℕ × F). p.0 < m) e
  more-below n m [] le h = tt
  more-below n m (p ∷ e) le h = let b : p.0 < n = h.0 in (omega arith, more-below n m e le h.1)

  neg_zero : f.neg f.zero ≡ f.zero
  neg_zero = simp (ring, l)

  -- where a step leaves nothing, nothing fell out at the top
  no_top : (c t : F) → c ≢ f.zero → f.add f.zero (f.mul (f.neg t) c) ≡ f.zero → t ≡ f.zero
  no_top c t n k = no_zero_divisors l c t n (sym (neg_neg l (f.mul c t)) ∙ ap f.neg (sym turned ∙ k) ∙ neg_zero)
    where
      turned : f.add f.zero (f.mul (f.neg t) c) ≡ f.neg (f.mul c t)
      turned = simp (ring, l)

  push-nothing : (a : F) (r : List F) (n : ℕ) → push a r ≡ zeros f n → top a r ≡ f.zero → a ∷ r ≡ zeros f (suc (length r))
  push-nothing a [] n e t = pair a f.zero [] [] t refl
  push-nothing a (b ∷ r) zero e t = cc
  push-nothing a (b ∷ r) (suc n) e t =
      let first : a ≡ f.zero = cc in
      let rest : push b r ≡ zeros f n = cc in
      pair a f.zero (b ∷ r) (zeros f (suc (length r))) first (push-nothing b r n rest t)

  abbrev rest_of : List F → List F
  rest_of [] = []
  rest_of (x ∷ r) = r

  -- a step up of what is not zero leaves something, where the generator's constant coefficient is not zero
  pub lowered : (g r : List F) → coefficient f g 0 ≢ f.zero → length r ≡ length g → step f g r f.zero ≡ zeros f (length g) → r ≡ zeros f (length g)
  lowered [] r n e h = absurd (n refl)
  lowered (c ∷ g) [] n e h = absurd (omega arith)
  lowered (c ∷ g) (b ∷ r) n e h =
      let first : f.add f.zero (f.mul (f.neg (top b r)) c) ≡ f.zero = ap (λ u. coefficient f u 0) h in
      let none : top b r ≡ f.zero = no_top c (top b r) n first in
      let stays : push f.zero (b ∷ r) ≡ zeros f (suc (length g)) =
      sym (nothing_taken (c ∷ g) (push f.zero (b ∷ r)) (top b r) none (ap suc (length-push l b r) ∙ e)) ∙ h in
      ap rest_of (push-nothing f.zero (b ∷ r) (suc (length g)) stays none) ∙ ap (zeros f) e
    where
      nothing_taken : (low u : List F) (t : F) → t ≡ f.zero → length u ≡ length low → add f u (scale f (f.neg t) low) ≡ u
      nothing_taken low u t z same =
          ap (λ x. add f u (scale f x low)) (ap f.neg z ∙ neg_zero)
          ∙ ap (add f u) (scale-zero l low)
          ∙ add_comm l u (zeros f (length low))
          ∙ zeros-add l (length low) u same

  -- a pattern that leaves nothing gives three that the table holds
  pub triple : ((x : F) → f.add x x ≡ f.zero) → (g : List F) (n : ℕ) (has : List F → Type 0) → IsTable f g n has → coefficient f g 0 ≢ f.zero → (m : ℕ) (e : List (ℕ × F)) →
      m ≤ n → IsPattern f m e → 1 ≤ length e → length e ≤ 4 → left f g e ≡ zeros f (length g) → (a : List F) × (b : List F) × has a × has b × has (third g a b)
  triple two g n has t apart zero [] le h some few none = absurd (omega arith)
  triple two g n has t apart zero (p ∷ e) le h some few none = let b : p.0 < 0 = h.below.0 in absurd (omega arith)
  triple two g n has t apart (suc m) e le h some few none = by_split (split g (suc m) e h) (λ k.
      triple two g n has t apart m (down e) (omega arith) (down-pattern m e k h) (omega (arith, length-down e)) (omega (arith, length-down e))
      (lowered g (left f g (down e)) apart (length-left g (down e)) (sym (left-down g e k) ∙ none)))
    where
      widened : Split g (suc m) e → Split g n e
      widened s = record {
        value = s.value;
        rest = s.rest;
        not_zero = s.not_zero;
        others = record { positive = s.others.positive; below = more-below (suc m) n s.rest le s.others.below; values = s.others.values };
        size = s.size;
        is = s.is;
      }

      by_split : Positive e ⊎ Split g (suc m) e → (Positive e → (a : List F) × (b : List F) × has a × has b × has (third g a b)) → (a : List F) × (b : List F) × has a × has b × has (third g a b)
      by_split (inl k) r = r k
      by_split (inr s) r = triple_of_split two g n has e t (widened s) few none

  all_zero : (r : List F) → IsSamePolynomial f r [] → r ≡ zeros f (length r)
  all_zero [] h = refl
  all_zero (a ∷ r) h = pair a f.zero r (zeros f (length r)) (h 0) (all_zero r (λ i. h (suc i)))

  pub nothing_left : (g : List F) (e : List (ℕ × F)) → HasRemainder f g [] e → left f g e ≡ zeros f (length g)
  nothing_left g e (r, is, none) = sym (remainder_unique l g (pattern_polynomial f e) r is) ∙ all_zero r none ∙ ap (zeros f) is.short

  pub leaves_nothing : (g : List F) (e : List (ℕ × F)) → left f g e ≡ zeros f (length g) → HasRemainder f g [] e
  leaves_nothing g e h = (left f g e, remainder_exists l g (pattern_polynomial f e), λ i. ap (λ u. coefficient f u i) h ∙ coefficient-zeros l (length g) i)

  -- no such three: four errors are detected
  pub detects : ((x : F) → f.add x x ≡ f.zero) → (g : List F) (n : ℕ) (has : List F → Type 0) → IsTable f g n has → coefficient f g 0 ≢ f.zero →
      ((a b : List F) → has a → has b → has (third g a b) → ⊥) → DetectsFour f g n
  detects two g n has t apart never e h some few is = found (triple two g n has t apart n e (omega arith) h some few (nothing_left g e is))
    where
      found : (a : List F) × (b : List F) × has a × has b × has (third g a b) → ⊥
      found (a, b, ha, hb, hc) = never a b ha hb hc

  -- the pattern with v added at i
  pub record Added (g : List F) (n i : ℕ) (v : F) (e : List (ℕ × F)) : Type 0 where
    pub list : List (ℕ × F)
    pub few : length list ≤ suc (length e)
    pub above : Above n list
    pub once : IsOnce (locations list)
    pub apart : (j : ℕ) → j ≢ i → IsNotAmong j (locations e) → IsNotAmong j (locations list)
    pub sum : left f g list ≡ add f (term f g i v) (left f g e)

  left-behind : (g : List F) (i : ℕ) (v : F) (e : List (ℕ × F)) → term f g i v ≡ zeros f (length g) → add f (term f g i v) (left f g e) ≡ left f g e
  left-behind g i v e h = ap (λ u. add f u (left f g e)) h ∙ zeros-add l (length g) (left f g e) (length-left g e)

  tail-above : (n : ℕ) (p : ℕ × F) (e : List (ℕ × F)) → Above n (p ∷ e) → Above n e
  tail-above n p e a = record { positive = a.positive.1; below = a.below.1; values = a.values.1 }

  merged : (g : List F) (i : ℕ) (v : F) (p : ℕ × F) (e : List (ℕ × F)) → p.0 ≡ i → add f (term f g i v) (left f g (p ∷ e)) ≡ add f (term f g i (f.add v p.1)) (left f g e)
  merged g i v p e same =
      ap (add f (term f g i v)) (left-cons g p e ∙ ap (λ j. add f (term f g j p.1) (left f g e)) same)
      ∙ sym (add_assoc l (term f g i v) (term f g i p.1) (left f g e))
      ∙ ap (λ u. add f u (left f g e)) (sym (term-add g i v p.1))

  pub added : (g : List F) (n i : ℕ) (v : F) (e : List (ℕ × F)) → 0 < i → i < n → v ≢ f.zero → Above n e → IsOnce (locations e) → Added g n i v e
  added g n i v [] lo hi not_zero a o = record {
    list = (i, v) ∷ [];
    few = omega arith;
    above = record { positive = (lo, tt); below = (hi, tt); values = (not_zero, tt) };
    once = (tt, tt);
    apart = λ j k h. (k, tt);
    sum = left-cons g (i, v) [];
  }
  added g n i v (p ∷ e) lo hi not_zero a o = by_location (eqb_tells p.0 i) (l.same_or_not (f.add v p.1) f.zero) (added g n i v e lo hi not_zero (tail-above n p e a) o.1)
    where
      by_location : ((p.0 == i) ≡ true × (p.0 ≡ i)) ⊎ ((p.0 == i) ≡ false × (p.0 ≢ i)) → Dec (f.add v p.1 ≡ f.zero) → Added g n i v e → Added g n i v (p ∷ e)
      by_location (inl y) (yes z) r = record {
        list = e;
        few = omega arith;
        above = tail-above n p e a;
        once = o.1;
        apart = λ j k h. h.1;
        sum = sym (merged g i v p e y.1 ∙ left-behind g i (f.add v p.1) e (ap (λ x. term f g i x) z ∙ term-zero g i));
      }
      by_location (inl y) (no z) r = record {
        list = (i, f.add v p.1) ∷ e;
        few = omega arith;
        above = record { positive = (lo, a.positive.1); below = (hi, a.below.1); values = (z, a.values.1) };
        once = (subst (λ j. IsNotAmong j (locations e)) y.1 o.0, o.1);
        apart = λ j k h. (k, h.1);
        sum = left-cons g (i, f.add v p.1) e ∙ sym (merged g i v p e y.1);
      }
      by_location (inr y) d r = record {
        list = p ∷ r.list;
        few = omega (arith, r.few);
        above = record { positive = (a.positive.0, r.above.positive); below = (a.below.0, r.above.below); values = (a.values.0, r.above.values) };
        once = (r.apart p.0 y.1 o.0, r.once);
        apart = λ j k h. (h.0, r.apart j k h.1);
        sum =
            left-cons g p r.list
            ∙ ap (add f (term f g p.0 p.1)) r.sum
            ∙ add_left_comm l (term f g p.0 p.1) (term f g i v) (left f g e)
            ∙ ap (add f (term f g i v)) (sym (left-cons g p e));
      }

  -- the pattern with what the table holds added
  pub record Joined (g : List F) (n k : ℕ) (x : List F) : Type 0 where
    pub list : List (ℕ × F)
    pub few : length list ≤ k
    pub above : Above n list
    pub once : IsOnce (locations list)
    pub sum : left f g list ≡ x

  pub joined : (g : List F) (n k : ℕ) (has : List F → Type 0) (x r : List F) → IsTable f g n has → has r → Joined g n k x → Joined g n (suc k) (add f r x)
  joined g n k has x r t h j = elim (t.sound r h) [
    | inl e ↦ record {
      list = j.list;
      few = omega (arith, j.few);
      above = j.above;
      once = j.once;
      sum = j.sum ∙ sym (zeros-add l (length g) x (ap length (sym j.sum) ∙ length-left g j.list)) ∙ ap (λ u. add f u x) (sym e);
    }
    | inr m ↦
        let s : Added g n m.location m.value j.list = added g n m.location m.value j.list m.positive m.below m.not_zero j.above j.once in
        record {
          list = s.list;
          few = omega (arith, j.few, s.few);
          above = s.above;
          once = s.once;
          sum = s.sum ∙ ap (add f (term f g m.location m.value)) j.sum ∙ ap (λ u. add f u x) (sym m.is);
        }
  ]

  none-at-zero : (is : List ℕ) → AllByRecursion (λ i. 0 < i) is → IsNotAmong 0 is
  none-at-zero [] h = tt
  none-at-zero (i ∷ is) h = let b : 0 < i = h.0 in (λ e. absurd (omega arith), none-at-zero is h.1)

  -- such a three: four errors are not detected
  pub undetected : ((x : F) → f.add x x ≡ f.zero) → (g : List F) (n : ℕ) (has : List F → Type 0) → IsTable f g n has → 0 < n → (a b : List F) → has a → has b → has (third g a b) → DetectsFour f g n → ⊥
  undetected two g n has t some a b ha hb hc never =
      never ((0, f.one) ∷ j.list) (record { below = (some, j.above.below); values = (l.one_not_zero, j.above.values); once = (none-at-zero (locations j.list) j.above.positive, j.once) })
      (omega arith) (omega (arith, j.few)) (leaves_nothing g ((0, f.one) ∷ j.list) gone)
    where
      j : Joined g n 3 (add f (third g a b) (add f b (add f a (zeros f (length g)))))
      j = joined g n 2 has _ (third g a b) t hc (joined g n 1 has _ b t hb (joined g n 0 has _ a t ha (record { list = []; few = omega arith; above = record { positive = tt; below = tt; values = tt }; once = tt; sum = refl })))

      la : length a ≡ length g
      la = length-has g n has a t ha

      lb : length b ≡ length g
      lb = length-has g n has b t hb

      one : List F
      one = term f g 0 f.one

      -- b + a + 0, with 1, is what these say
      turned : add f one (add f b (add f a (zeros f (length g)))) ≡ third g a b
      turned =
          ap (λ u. add f one (add f b u)) (add-nothing g a la)
          ∙ ap (add f one) (add_comm l b a)
          ∙ sym (add_assoc l one a b)

      gone : left f g ((0, f.one) ∷ j.list) ≡ zeros f (length g)
      gone =
          left-cons g (0, f.one) j.list
          ∙ ap (add f one) j.sum
          ∙ add_left_comm l one (third g a b) (add f b (add f a (zeros f (length g))))
          ∙ ap (add f (third g a b)) turned
          ∙ doubled two (third g a b)
          ∙ ap (zeros f) (length-third g a b la lb)

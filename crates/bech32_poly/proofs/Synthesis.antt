-- The shortest register, item by item.
use Rattle.std.proofs.Common.{◌≡◌, ℕ, suc, ◌+◌, ◌<◌, ◌≤◌, List, [], ◌∷◌, length, ◌⊎◌, inl, inr, subst, sym, ap, ◌∙◌}
use Rattle.std.proofs.Common.{arith}
use Rattle.std.specs.Prelude.{◌≢◌}
use Rattle.std.proofs.Math.Decide.{dec_le, dec_lt}
use Rattle.bech32_gf.specs.Field.{Ops, IsField}
use Rattle.bech32_poly.specs.Polynomial.{add, scale}
use Rattle.bech32_poly.specs.Window.{act, top_of, shifted, Annihilates}
use Rattle.bech32_gf.specs.laws.Ring.{ring}
use Rattle.bech32_poly.proofs.Lists.{length-scale, length-add}
use Rattle.bech32_poly.proofs.WindowSums.{length-shifted, top_of-shifted, top_of-add, act-add, act-scale, act-shifted}
use Rattle.bech32_poly.proofs.Massey.{massey}

-- after n items: register r of length len; before the last change of length it was b, which then missed by old
pub record State {K : Type 0} (o : Ops K) (s : ℕ → K) (n len k : ℕ) (r b : List K) (old : K) : Type 0 where
  pub count : len + k ≡ n
  pub register : Annihilates o s n len r
  pub old_length : length b ≤ suc k
  pub old_nonzero : old ≢ o.zero
  pub old_windows : (t : ℕ) → suc t < len → act o b s t ≡ o.zero
  pub old_miss : (t : ℕ) → suc t ≡ len → act o b s t ≡ old
  pub best : (m : ℕ) (q : List K) → m ≤ n → Annihilates o s n m q → len ≤ m

module _ {K : Type 0} {o : Ops K} (l : IsField o) where
  -- what makes n + 1 items makes n
  pub fewer : (s : ℕ → K) (n m : ℕ) (q : List K) → Annihilates o s (suc n) m q → Annihilates o s n m q
  fewer s n m q h = record { degree = h.degree; monic = h.monic; windows = λ t within. h.windows t (omega arith) }

  still_best : (s : ℕ → K) (n len k : ℕ) (r b : List K) (old : K) → State o s n len k r b old → (m : ℕ) (q : List K) → m ≤ suc n → Annihilates o s (suc n) m q → len ≤ m
  still_best s n len k r b old h m q within good = step (split (dec_le m n))
    where
      split : Dec (m ≤ n) → (m ≤ n) ⊎ (m ≡ suc n)
      split (yes p) = inl p
      split (no p) = inr (omega arith)

      step : (m ≤ n) ⊎ (m ≡ suc n) → len ≤ m
      step (inl p) = h.best m q p (fewer s n m q good)
      step (inr p) = omega (arith, h.count)

  -- the next item is right
  pub right : (s : ℕ → K) (n len k : ℕ) (r b : List K) (old : K) → State o s n len k r b old → act o r s k ≡ o.zero → State o s (suc n) len (suc k) r b old
  right s n len k r b old h e = record {
    count = omega (arith, h.count);
    register = record { degree = h.register.degree; monic = h.register.monic; windows = windows };
    old_length = omega (arith, h.old_length);
    old_nonzero = h.old_nonzero;
    old_windows = h.old_windows;
    old_miss = h.old_miss;
    best = still_best s n len k r b old h;
  }
    where
      at_t : (t : ℕ) → t + len < suc n → (t + len < n) ⊎ (t ≡ k)
      at_t t within = elim (dec_lt (t + len) n) [ yes p ↦ inl p | no p ↦ inr (omega (arith, h.count)) ]

      windows : (t : ℕ) → t + len < suc n → act o r s t ≡ o.zero
      windows t within = elim (at_t t within) [ inl p ↦ h.register.windows t p | inr p ↦ ap (act o r s) p ∙ e ]

  cleared : (d old i : K) → o.mul old i ≡ o.one → o.add d (o.mul (o.neg (o.mul d i)) old) ≡ o.zero
  cleared d old i e = normal ∙ ap (λ w. o.add d (o.neg (o.mul d w))) e ∙ last
    where
      normal : o.add d (o.mul (o.neg (o.mul d i)) old) ≡ o.add d (o.neg (o.mul d (o.mul old i)))
      normal = simp (ring, l)

      last : o.add d (o.neg (o.mul d o.one)) ≡ o.zero
      last = simp (ring, l)

  nothing : (c u v : K) → u ≡ o.zero → v ≡ o.zero → o.add u (o.mul c v) ≡ o.zero
  nothing c u v e f = rw (e, f) (simp (ring, l))

  miss_mended : (d old u v : K) → old ≢ o.zero → u ≡ d → v ≡ old → o.add u (o.mul (o.neg (o.mul d (o.inv old))) v) ≡ o.zero
  miss_mended d old u v n e f = rw (e, f) (cleared d old (o.inv old) (l.mul_inv old n))

  -- what the mended register does
  pub act-mended : (r b : List K) (i j : ℕ) (c : K) (s : ℕ → K) (t : ℕ) → act o (add o (shifted o i r) (scale o c (shifted o j b))) s t ≡ o.add (act o r s (i + t)) (o.mul c (act o b s (j + t)))
  act-mended r b i j c s t =
      act-add l (shifted o i r) (scale o c (shifted o j b)) s t
      ∙ ap (λ w. o.add w (act o (scale o c (shifted o j b)) s t)) (act-shifted l i r s t)
      ∙ ap (o.add (act o r s (i + t))) (act-scale l c (shifted o j b) s t ∙ ap (o.mul c) (act-shifted l j b s t))

  -- the next item is missed, and the length stays
  pub stays : (s : ℕ → K) (n len k : ℕ) (r b : List K) (old : K) (j : ℕ) → State o s n len k r b old → act o r s k ≢ o.zero → suc (j + k) ≡ len →
      State o s (suc n) len (suc k) (add o r (scale o (o.neg (o.mul (act o r s k) (o.inv old))) (shifted o j b))) b old
  stays s n len k r b old j h missed shift = record {
    count = omega (arith, h.count);
    register = record {
      degree = length-add l r _ (size (omega (arith, h.old_length, h.register.degree))) ∙ h.register.degree;
      monic = top_of-add l r _ (size_below (omega (arith, h.old_length, h.register.degree))) ∙ h.register.monic;
      windows = λ t within. act-mended r b 0 j c s t ∙ window t (at_t t within);
    };
    old_length = omega (arith, h.old_length);
    old_nonzero = h.old_nonzero;
    old_windows = h.old_windows;
    old_miss = h.old_miss;
    best = still_best s n len k r b old h;
  }
    where
      c : K
      c = o.neg (o.mul (act o r s k) (o.inv old))

      whole : length (scale o c (shifted o j b)) ≡ j + length b
      whole = length-scale l c (shifted o j b) ∙ length-shifted l j b

      size : j + length b ≤ length r → length (scale o c (shifted o j b)) ≤ length r
      size e = omega (arith, whole)

      size_below : j + length b < length r → length (scale o c (shifted o j b)) < length r
      size_below e = omega (arith, whole)

      at_t : (t : ℕ) → t + len < suc n → (t < k) ⊎ (t ≡ k)
      at_t t within = elim (dec_lt t k) [ yes p ↦ inl p | no p ↦ inr (omega (arith, h.count)) ]

      first : (t : ℕ) → 0 + t ≡ t
      first t = omega arith

      window : (t : ℕ) → (t < k) ⊎ (t ≡ k) → o.add (act o r s (0 + t)) (o.mul c (act o b s (j + t))) ≡ o.zero
      window t (inl p) = nothing c _ _ (ap (act o r s) (first t) ∙ h.register.windows t (omega (arith, h.count))) (h.old_windows (j + t) (omega arith))
      window t (inr p) = miss_mended (act o r s k) old _ _ h.old_nonzero (ap (act o r s) (first t ∙ p)) (h.old_miss (j + t) (omega arith))

  -- the next item is missed, and the register grows
  pub grows : (s : ℕ → K) (n len k : ℕ) (r b : List K) (old : K) (j : ℕ) → State o s n len k r b old → act o r s k ≢ o.zero → j + len ≡ suc k →
      State o s (suc n) (suc k) len (add o (shifted o j r) (scale o (o.neg (o.mul (act o r s k) (o.inv old))) b)) r (act o r s k)
  grows s n len k r b old j h missed shift = record {
    count = omega (arith, h.count);
    register = record {
      degree = length-add l (shifted o j r) _ (omega (arith, whole, half, h.old_length, h.register.degree)) ∙ half ∙ omega (arith, h.register.degree);
      monic = top_of-add l (shifted o j r) _ (omega (arith, whole, half, h.old_length, h.register.degree)) ∙ top_kept r h.register.degree ∙ h.register.monic;
      windows = λ t within. act-mended r b j 0 c s t ∙ window t (at_t t within);
    };
    old_length = omega (arith, h.register.degree);
    old_nonzero = missed;
    old_windows = λ t within. h.register.windows t (omega (arith, h.count));
    old_miss = λ t e. ap (act o r s) (omega arith);
    best = λ m q within good. longer m q within good (split m within);
  }
    where
      c : K
      c = o.neg (o.mul (act o r s k) (o.inv old))

      whole : length (scale o c b) ≡ length b
      whole = length-scale l c b

      half : length (shifted o j r) ≡ j + length r
      half = length-shifted l j r

      top_kept : (p : List K) → length p ≡ suc len → top_of o (shifted o j p) ≡ top_of o p
      top_kept [] e = absurd (omega arith)
      top_kept (a ∷ p) e = top_of-shifted l j a p

      at_t : (t : ℕ) → t + suc k < suc n → (suc t < len) ⊎ (suc t ≡ len)
      at_t t within = elim (dec_lt (suc t) len) [ yes p ↦ inl p | no p ↦ inr (omega (arith, h.count)) ]

      first : (t : ℕ) → 0 + t ≡ t
      first t = omega arith

      window : (t : ℕ) → (suc t < len) ⊎ (suc t ≡ len) → o.add (act o r s (j + t)) (o.mul c (act o b s (0 + t))) ≡ o.zero
      window t (inl p) = nothing c _ _ (h.register.windows (j + t) (omega (arith, h.count))) (ap (act o b s) (first t) ∙ h.old_windows t p)
      window t (inr p) = miss_mended (act o r s k) old _ _ h.old_nonzero (ap (act o r s) (omega arith)) (ap (act o b s) (first t) ∙ h.old_miss t p)

      split : (m : ℕ) → m ≤ suc n → (m ≤ k) ⊎ (suc k ≤ m)
      split m within = elim (dec_le m k) [ yes p ↦ inl p | no p ↦ inr (omega arith) ]

      longer : (m : ℕ) (q : List K) → m ≤ suc n → Annihilates o s (suc n) m q → (m ≤ k) ⊎ (suc k ≤ m) → suc k ≤ m
      longer m q within good (inr p) = p
      longer m q within good (inl p) = absurd (massey l s len k m r q
          (subst (λ n'. Annihilates o s n' len r) (sym h.count) h.register) missed
          (subst (λ n'. Annihilates o s (suc n') m q) (sym h.count) good) p)

  -- the same state, written otherwise
  pub moved : (s : ℕ → K) (n len k n' len' k' : ℕ) (r b r' b' : List K) (old old' : K) → State o s n len k r b old → n ≡ n' → len ≡ len' → k ≡ k' → r ≡ r' → b ≡ b' → old ≡ old' → State o s n' len' k' r' b' old'
  moved s n len k n' len' k' r b r' b' old old' h e1 e2 e3 e4 e5 e6 =
      subst (λ x. State o s x len' k' r' b' old') e1 (subst (λ x. State o s n x k' r' b' old') e2 (subst (λ x. State o s n len x r' b' old') e3
      (subst (λ x. State o s n len k x b' old') e4 (subst (λ x. State o s n len k r x old') e5 (subst (λ x. State o s n len k r b x) e6 h)))))

pub mended_is : {K : Type 0} (o : Ops K) (x t r b b' : List K) (f m y i v d : K) (j : ℕ) → x ≡ add o t (scale o f (shifted o j b')) → t ≡ r → b' ≡ b → f ≡ o.neg y → y ≡ o.mul m i → i ≡ o.inv v → m ≡ d → x ≡ add o r (scale o (o.neg (o.mul d (o.inv v))) (shifted o j b))
mended_is o x t r b b' f m y i v d j e0 e1 e2 e3 e4 e5 e6 =
    e0 ∙ ap (λ u. add o u (scale o f (shifted o j b'))) e1
    ∙ ap (λ u. add o r (scale o f (shifted o j u))) e2
    ∙ ap (λ u. add o r (scale o u (shifted o j b))) (e3 ∙ ap o.neg (e4 ∙ ap (o.mul m) e5 ∙ ap (λ u. o.mul u (o.inv v)) e6))

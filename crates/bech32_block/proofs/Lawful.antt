-- The constants of the longest series of roots, and that they are lawful.
use Rattle.std.specs.List.{AllByRecursion, Contains}
use Rattle.std.proofs.Common.{◌≡◌, ℕ, zero, suc, ◌+◌, ◌-◌, ◌*◌, ◌%◌, ◌<◌, ◌≤◌, List, [], ◌∷◌, ◌++◌, length, map, sym, ap, ◌∙◌, refl, arith}
use Rattle.std.specs.Prelude.{◌≢◌}
use Rattle.std.proofs.Math.Decide.{dec_lt}
use Rattle.std.proofs.Math.Nat.{mod-add-mod}
use Rattle.std.proofs.lemmas.Nat.{mod_below}
use Rattle.std.proofs.lemmas.List.{length-append, length-map}
use Rattle.bech32_gf.specs.Field.{Ops, IsField, IsOrder, power, value_at}
use Rattle.bech32_gf.specs.laws.FieldLaws.{power-zero, power-mul, power_mod, IsOrder-not_zero}
use Rattle.bech32_gf.specs.declared.gf32.Fe32.{Fe32}
use Rattle.bech32_poly.specs.Distinct.{IsNotAmong, IsOnce}
use Rattle.bech32_poly.specs.Remainder.{monic}
use Rattle.bech32_poly.specs.Window.{top_of}
use Rattle.bech32_poly.proofs.Roots.{root_bound}
use Rattle.bech32_poly.proofs.Zero.{power_distinct, power_not_zero}
use Rattle.bech32_checksum.specs.Code.{Code}
use Rattle.bech32_checksum.specs.Roots.{HasLawfulRoots, generator_at}
use Rattle.bech32_block.specs.Series.{series_term, IsSeries, IsLongestSeries, IsLeastPower, IsPeriod}
use Rattle.bech32_block.specs.Roots.{RootField, AreOfLongestSeries, HasNoExponents}

top_of-monic : {K : Type 0} (o : Ops K) (low : List K) → top_of o (low ++ (o.one ∷ [])) ≡ o.one
top_of-monic o [] = refl
top_of-monic o (a ∷ []) = refl
top_of-monic o (a ∷ b ∷ low) = top_of-monic o (b ∷ low)

module _ {K : Type 0} {o : Ops K} (l : IsField o) (x : K) (n : ℕ) (ord : IsOrder o x n) where
  -- exponents below the order whose powers are the same are the same
  apart : (i j : ℕ) → i < n → j < n → i ≢ j → power o x i ≢ power o x j
  apart i j a b differ = elim (dec_lt i j) [
    | yes q ↦ power_distinct l x n i j ord (IsOrder-not_zero l x n ord) q b
    | no q ↦
        elim (dec_lt j i) [
          | yes r ↦ λ e. power_distinct l x n j i ord (IsOrder-not_zero l x n ord) r a (sym e)
          | no r ↦ absurd (differ (omega arith))
        ]
  ]

  -- the k-th power of the power `step` of x
  power_of_step : (step k : ℕ) → power o (power o x step) k ≡ power o x ((k * step) % n)
  power_of_step step k =
      let turned : step * k ≡ k * step = grind arith in
      sym (power-mul l x step k) ∙ ap (power o x) turned ∙ sym (power_mod l x (k * step) n ord.power_is_one)

  -- the base's powers from the start on are the series
  series_power : (first step start k : ℕ) → IsLeastPower n step first start
      → power o (power o x step) (start + k) ≡ power o x (series_term n first step k)
  series_power first step start k g = power_of_step step (start + k) ∙ ap (power o x) same
    where
      sum : (start + k) * step ≡ start * step + k * step
      sum = grind arith

      same : ((start + k) * step) % n ≡ series_term n first step k
      same = ap (λ y. y % n) sum ∙ sym (mod-add-mod (start * step) n (k * step)) ∙ ap (λ y. (y + k * step) % n) g.gives

  -- the base's order is the period
  base_order : (step k : ℕ) → IsPeriod n step k → IsOrder o (power o x step) k
  base_order step k per = record {
    positive = per.positive;
    power_is_one = power_of_step step k ∙ ap (power o x) per.returns ∙ power-zero l x;
    least = λ j some e. late j some e;
  }
    where
      late : (j : ℕ) → 0 < j → power o (power o x step) j ≡ o.one → k ≤ j
      late j some e = elim (dec_lt j k) [
        | yes less ↦ elim (dec_lt 0 ((j * step) % n)) [
          | yes p ↦
              let far : n ≤ (j * step) % n = ord.least ((j * step) % n) p (sym (power_of_step step j) ∙ e) in
              let near : (j * step) % n < n = mod_below (j * step) n ord.positive in
              absurd (omega arith)
          | no p ↦ absurd (per.least j some less (omega arith))
        ]
        | no p ↦ omega arith
      ]

  -- no power of the base is another root where none has its exponent
  other_power : (first step k : ℕ) → first < n → (k * step) % n ≢ first → power o (power o x step) k ≢ power o x first
  other_power first step k below differ e =
      apart ((k * step) % n) first (mod_below (k * step) n ord.positive) below differ (sym (power_of_step step k) ∙ e)

  -- the powers of x in a series, the last first
  abbrev series : (first step count : ℕ) → List K
  series first step zero = []
  series first step (suc c) = power o x (series_term n first step c) ∷ series first step c

  length-series : (first step count : ℕ) → length (series first step count) ≡ count
  length-series first step zero = refl
  length-series first step (suc c) = ap suc (length-series first step c)

  not_among : (first step c count : ℕ) → ((j k : ℕ) → j < k → k < suc c → series_term n first step j ≢ series_term n first step k)
      → count ≤ c → IsNotAmong (power o x (series_term n first step c)) (series first step count)
  not_among first step c zero differ within = tt
  not_among first step c (suc j) differ within = (
    apart (series_term n first step c) (series_term n first step j) (mod_below (first + c * step) n ord.positive) (mod_below (first + j * step) n ord.positive)
        (λ e. differ j c (omega arith) (omega arith) (sym e)),
    not_among first step c j differ (omega arith),
  )

  once : (first step count : ℕ) → ((j k : ℕ) → j < k → k < count → series_term n first step j ≢ series_term n first step k) → IsOnce (series first step count)
  once first step zero differ = tt
  once first step (suc c) differ =
      (not_among first step c c differ (omega arith), once first step c (λ j k less below. differ j k less (omega arith)))

  all_roots : (first step count : ℕ) (p : List K) → ((k : ℕ) → k < count → value_at o (power o x (series_term n first step k)) p ≡ o.zero)
      → AllByRecursion (λ y. value_at o y p ≡ o.zero) (series first step count)
  all_roots first step zero p roots = tt
  all_roots first step (suc c) p roots = (roots c (omega arith), all_roots first step c p (λ k below. roots k (omega arith)))

  -- a series has no more roots than the degree
  pub within_degree : (low : List K) (roots : List ℕ) (first step count : ℕ) → ((i : ℕ) → Contains roots i → value_at o (power o x i) (monic o low) ≡ o.zero)
      → IsSeries n roots first step count → count ≤ length low
  within_degree low roots first step count are s =
      let size : length (monic o low) ≡ suc (length low) = length-append low (o.one ∷ []) ∙ omega arith in
      let bound : length (series first step count) ≤ length low =
      root_bound l (length low) (monic o low) (series first step count) size (top_of-monic o low) (once first step count s.different)
      (all_roots first step count (monic o low) (λ k below. are (series_term n first step k) (s.are_roots k below))) in
      omega (arith, length-series first step count)

  pub lawful : (embed : Fe32 → K) (code : Code) (roots : List ℕ) (first step count start period : ℕ) → code.code_length ≡ period → 0 < count
      → ((i : ℕ) → Contains roots i → generator_at o embed code (power o x i) ≡ o.zero)
      → IsSeries n roots first step count → IsLeastPower n step first start → IsPeriod n step period
      → HasLawfulRoots o embed code (power o x step) start (start + (count - 1))
  lawful embed code roots first step count start period limit some are s g per large =
      let few : count ≤ length (map embed code.generator) = within_degree (map embed code.generator) roots first step count are s in
      let size : length (map embed code.generator) ≡ length code.generator = length-map code.generator embed in
      record {
        not_zero = power_not_zero l x (IsOrder-not_zero l x n ord) step;
        order = period;
        is_order = base_order step period per;
        long_enough = omega (arith, limit);
        ordered = omega arith;
        few = omega arith;
        are_roots = λ e low high. root e low high;
      }
    where
      root : (e : ℕ) → start ≤ e → e ≤ start + (count - 1) → generator_at o embed code (power o (power o x step) e) ≡ o.zero
      root e low high =
          let k : ℕ = e - start in
          let split : e ≡ start + k = omega arith in
          let below : k < count = omega arith in
          ap (λ i. generator_at o embed code (power o (power o x step) i)) split
          ∙ ap (generator_at o embed code) (series_power first step start k g)
          ∙ are (series_term n first step k) (s.are_roots k below)

-- the constants are those of the series
pub of_series : {K : Type 0} (f : RootField K) (l : IsField f.ops) (roots : List ℕ) (first step count start period : ℕ) → IsOrder f.ops f.generator f.order
    → IsLongestSeries f.order roots first step count → IsLeastPower f.order step first start → IsPeriod f.order step period
    → AreOfLongestSeries f roots (power f.ops f.generator step) start (start + (count - 1)) period
of_series f l roots first step count start period ord s g per = record {
  first = first;
  step = step;
  count = count;
  is_longest = s;
  base_is = refl;
  start_gives = power_of_step l f.generator f.order ord step start ∙ ap (power f.ops f.generator) g.gives;
  start_least = λ j less. other_power l f.generator f.order ord first step j s.below (g.least j less);
  end_is = refl;
  code_length_is = base_order l f.generator f.order ord step period per;
}

pub no_exponents : {K : Type 0} (f : RootField K) (l : IsField f.ops) (roots : List ℕ) (first step count : ℕ) → IsOrder f.ops f.generator f.order
    → IsLongestSeries f.order roots first step count → ((k : ℕ) → (k * step) % f.order ≢ first) → HasNoExponents f roots
no_exponents f l roots first step count ord s never = record {
  first = first;
  step = step;
  count = count;
  is_longest = s;
  no_power = λ k. other_power l f.generator f.order ord first step k s.below (never k);
}

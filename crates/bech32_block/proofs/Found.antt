-- What is found of the roots of a generator, over plain variables.
use Rattle.std.specs.List.{All, Contains}
use Rattle.std.specs.List.Sorted.{IsStrictlyIncreasing}
use Rattle.std.specs.Prelude.{◌↔◌, ◌≢◌, IsTrue}
use Rattle.std.proofs.Common.{◌≡◌, ◌<◌, ◌≤◌, ◌+◌, ◌-◌, ◌*◌, ◌%◌, ◌^◌, ℕ, List, length, sym, ap, subst, ◌∙◌, refl, arith}
use Rattle.bech32_gf.specs.Field.{IsField, IsOrder, power}
use Rattle.bech32_gf.specs.Fe32 as fe32
use Rattle.bech32_gf.specs.declared.gf32.Fe32.{Fe32}
use Rattle.bech32_poly.specs.Embedding.{Embeds}
use Rattle.bech32_checksum.specs.Roots.{HasLawfulRoots}
use Rattle.bech32_block.specs.Series.{IsLongestSeries, IsLeastPower, IsPeriod}
use Rattle.bech32_packing.specs.Words.{code_of_written}
use Rattle.bech32_block.specs.Roots.{RootField, AreOfLongestSeries, HasAllRoots, HasNoExponents, roots_of}
use Rattle.bech32_block.proofs.Lawful.{of_series, no_exponents, lawful}
use Rattle.bech32_block.proofs.Pairs.{at_least_two}
use Rattle.bech32_block.proofs.RootList.{roots-rise, roots-below, root_at}
use Rattle.bech32_block.proofs.Walks.{stops_end}

module _ {E : Type 0} (f : RootField E) (g : List Fe32) (items : List ℕ) (same : items ≡ roots_of f g) (n : ℕ) (is : n ≡ f.order) where
  pub rise : IsStrictlyIncreasing items
  rise = subst IsStrictlyIncreasing (sym same) (roots-rise f g)

  pub are_below : All (λ i. i < n) items
  are_below =
      subst (λ m. All (λ i. i < m) items) (sym is) (subst (All (λ i. i < f.order)) (sym same) (roots-below f g))

  pub wanting : length items ≢ length g → HasAllRoots f g → ⊥
  wanting differ all = differ (ap length same ∙ all)

  pub all_there : length items ≡ length g → HasAllRoots f g
  all_there e = sym (ap length same) ∙ e

  at_order : (first step count : ℕ) → IsLongestSeries n items first step count → IsLongestSeries f.order items first step count
  at_order first step count s = subst (λ m. IsLongestSeries m items first step count) is s

  pub none : (l : IsField f.ops) (first step count : ℕ) → IsOrder f.ops f.generator f.order
      → IsLongestSeries n items first step count → ((k : ℕ) → (k * step) % n ≢ first) → HasNoExponents f (roots_of f g)
  none l first step count ord s never =
      subst (HasNoExponents f) same
      (no_exponents f l items first step count ord (at_order first step count s)
      (subst (λ m. (k : ℕ) → (k * step) % m ≢ first) is never))

  pub constants : (l : IsField f.ops) (first step count start end period : ℕ) (base : E) → IsOrder f.ops f.generator f.order
      → base ≡ power f.ops f.generator step → end ≡ start + (count - 1)
      → IsLongestSeries n items first step count → IsLeastPower n step first start → IsPeriod n step period
      → AreOfLongestSeries f (roots_of f g) base start end period
  constants l first step count start end period base ord b e s least per =
      subst (λ xs. AreOfLongestSeries f xs base start end period) same
      (subst (λ y. AreOfLongestSeries f items y start end period) (sym b)
      (subst (λ y. AreOfLongestSeries f items (power f.ops f.generator step) start y period) (sym e)
      (of_series f l items first step count start period ord (at_order first step count s)
      (subst (λ m. IsLeastPower m step first start) is least) (subst (λ m. IsPeriod m step period) is per))))

  pub lawful_roots : (l : IsField f.ops) → Embeds fe32.ops f.ops f.embed → ((x y : E) → IsTrue (f.same x y) ↔ (x ≡ y))
      → (first step count start end period : ℕ) (base : E) (target : List Fe32) → IsOrder f.ops f.generator f.order → 2 ≤ length items
      → base ≡ power f.ops f.generator step → end ≡ start + (count - 1)
      → IsLongestSeries n items first step count → IsLeastPower n step first start → IsPeriod n step period
      → HasLawfulRoots f.ops f.embed (code_of_written g target period) base start end
  lawful_roots l into tells first step count start end period base target ord two b e s least per =
      let enough : 2 ≤ count = at_least_two n items first step count rise are_below two s in
      let longest = at_order first step count s in
      subst (λ y. HasLawfulRoots f.ops f.embed (code_of_written g target period) y start end) (sym b)
      (subst (λ y. HasLawfulRoots f.ops f.embed (code_of_written g target period) (power f.ops f.generator step) start y) (sym e)
      (lawful l f.generator f.order ord f.embed (code_of_written g target period) items first step count start period refl (omega arith)
      (λ i c. root_at f g l into tells target period i (subst (λ xs. Contains xs i) same c)) longest.series
      (subst (λ m. IsLeastPower m step first start) is least) (subst (λ m. IsPeriod m step period) is per)))

  -- the last exponent fits into a usize: a series has no more roots than there are powers
  pub last_fits : (first step count start : ℕ) → n < 2 ^ 63 → start < n → IsLongestSeries n items first step count
      → start + (count - 1) < 2 ^ 64
  last_fits first step count start small low s =
      let some : 0 < n = omega arith in
      let size : count ≤ n = stops_end n items first step n count some (omega arith) s.series in
      omega arith

  pub some_roots : (first step count : ℕ) → 2 ≤ length items → IsLongestSeries n items first step count → 2 ≤ count
  some_roots first step count two s = at_least_two n items first step count rise are_below two s

-- Roots of the generator in the larger field are usable.
use Rattle.std.proofs.Common.{◌≡◌, ◌≢◌, ℕ, ◌+◌, ◌-◌, ◌<◌, ◌≤◌, List, [], ◌∷◌, map, length, ap, ◌∙◌, arith}
use Rattle.bech32_gf.specs.Field.{Ops, IsOrder, power, value_at}
use Rattle.bech32_poly.specs.Remainder.{monic}
use Rattle.bech32_bch.specs.Search.{AreUsableRoots}

module _ {F K : Type 0} (f : Ops F) (o : Ops K) (embed : F → K) (one : embed f.one ≡ o.one) where
  monic-embedded : (g : List F) → map embed (monic f g) ≡ monic o (map embed g)
  monic-embedded [] = ap (λ x. x ∷ []) one
  monic-embedded (a ∷ g) = ap (λ u. embed a ∷ u) (monic-embedded g)

  pub usable : (b : K) (start end order w : ℕ) (g : List F) → b ≢ o.zero → IsOrder o b order → w ≤ order → start ≤ end → end - start < length g
      → ((e : ℕ) → start ≤ e → e ≤ end → value_at o (power o b e) (monic o (map embed g)) ≡ o.zero)
      → AreUsableRoots f o embed g b start (end - start + 1) w
  usable b start end order w g not_zero is_order long ordered few roots = record {
    order = record { not_zero = not_zero; order = order; is_order = is_order; long_enough = long };
    few = omega arith;
    roots = λ t h. ap (value_at o (power o b (start + t))) (monic-embedded g) ∙ roots (start + t) (omega arith) (omega arith);
  }

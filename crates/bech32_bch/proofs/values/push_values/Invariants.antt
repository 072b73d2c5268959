use Rattle.std.proofs.Common.{◌≡◌, ◌≢◌, ℕ, map, take, drop}
use Rattle.std.specs.List.{AllByRecursion}
use Rattle.bech32_poly.specs.Distinct.{IsAmong}
use Rattle.bech32_bch.specs.Pattern.{locations}
use Rattle.bech32_bch.specs.Search.{AreExplained}
use Rattle.bech32_bch.proofs.values.push_values.Given as goal

abbrev pub invariant-loop-k : goal.invariant-loop-k
invariant-loop-k g l = record {
  placed : locations l.listing ≡ take l.k l.wrong;
  not_zero : AllByRecursion (λ p. p.1 ≢ g.E.Extension.base_ops.zero) (drop l.given l.listing);
  explained : (v : ℕ → g.row.E-Base.Denot) → AreExplained g.E.Arithmetic.ops g.E.Extension.embed l.roots.base l.roots.start l.syndromes l.wrong v
      → ((i : ℕ) → IsAmong i (drop l.given l.wrong) → v i ≢ g.E.Extension.base_ops.zero) → l.listing ≡ map (λ i. (i, v i)) (take l.k l.wrong);
}

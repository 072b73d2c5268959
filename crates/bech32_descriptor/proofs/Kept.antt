-- All edits of each kind, one kind behind another.
use Rattle.std.proofs.Common.{◌≡◌, ℕ, ◌+◌, ◌<◌, List, [], ◌++◌, ◌⊎◌, inl, inr, arith}
use Rattle.std.proofs.Math.Decide.{dec_lt}
use Rattle.bech32_descriptor.specs.Edits.{AreAllMends, IsMendBefore, kind_of_change}
use Rattle.bech32_descriptor.specs.declared.edits.Change.{Change}
use Rattle.bech32_descriptor.specs.declared.edits.Change.TheVariants.{Changed, LeftOut, PutIn, Swapped}
use Rattle.bech32_descriptor.specs.declared.edits.Edit.{Edit}
use Rattle.bech32_descriptor.proofs.Listings.{both, nothing, same_all}

kind_few : (change : Change) → kind_of_change change < 4
kind_few (Changed b) = omega arith
kind_few Swapped = omega arith
kind_few LeftOut = omega arith
kind_few (PutIn b) = omega arith

module _ (A : Edit → Type 0) where
  abbrev OfKind : ℕ → Edit → Type 0
  OfKind k e = (kind_of_change e.change ≡ k) × A e

  abbrev Below : ℕ → Edit → Type 0
  Below k e = (kind_of_change e.change < k) × A e

  below_or_of : (k : ℕ) (e : Edit) → Below (k + 1) e → Below k e ⊎ OfKind k e
  below_or_of k e h = elim (dec_lt (kind_of_change e.change) k) [ yes less ↦ inl (less, h.1) | no more ↦ inr (omega (arith, more, h.0), h.1) ]

  next_kind : (k : ℕ) (xs ys : List Edit) → AreAllMends (Below k) xs → AreAllMends (OfKind k) ys → AreAllMends (Below (k + 1)) (xs ++ ys)
  next_kind k xs ys a b =
      both IsMendBefore (Below k) (OfKind k) (Below (k + 1)) xs ys a b (λ x y p q. inl (omega (arith, p.0, q.0)))
      (λ e p. (omega (arith, p.0), p.1)) (λ e q. (omega (arith, q.0), q.1)) (below_or_of k)

  pub all_kinds : (xs ys zs ws : List Edit) → AreAllMends (OfKind 0) xs → AreAllMends (OfKind 1) ys → AreAllMends (OfKind 2) zs → AreAllMends (OfKind 3) ws
      → AreAllMends A (((xs ++ ys) ++ zs) ++ ws)
  all_kinds xs ys zs ws a b c d =
      let first = next_kind 0 [] xs (nothing IsMendBefore (Below 0) (λ e h. omega (arith, h.0))) a in
      let second = next_kind 1 xs ys first b in
      let third = next_kind 2 (xs ++ ys) zs second c in
      let fourth = next_kind 3 ((xs ++ ys) ++ zs) ws third d in
      same_all IsMendBefore (Below 4) A (((xs ++ ys) ++ zs) ++ ws) (λ e p. p.1) (λ e p. (kind_few e.change, p)) fourth

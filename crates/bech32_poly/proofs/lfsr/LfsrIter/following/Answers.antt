use Rattle.std.proofs.Common.{◌≡◌, ◌<◌, ◌≤◌, ℕ, List, length, take, drop, subst, sym, refl, ap, ◌∙◌, arith}
use Rattle.bech32_poly.proofs.Rings.{following_is}
use Rattle.bech32_poly.proofs.lfsr.LfsrIter.following.Goals as goal

-- where the ring begins, a slice as long can be cut
can_cut : {F : Type 0} (cs ring xs read : List F) (start : ℕ) → 0 < length cs → (length ring ≡ length cs) × (0 < length ring → start < length ring)
    → length xs ≡ length cs → read ≡ xs → start ≤ length read
can_cut cs ring xs read start some is same e = omega (arith, is.0, is.1 (omega (arith, is.0)), ap (λ u. length u) e)

pub split_at-requires : goal.split_at-requires
split_at-requires g c =
    can_cut c.self.inside.coefficients c.self.inside.ring c.self.inside.coefficients c.as_slice.result.now c.self.inside.start
    (subst (λ v. 0 < length v.coefficients) (sym c.self.view_is) c.requires) c.self.invariant refl c.as_slice.ensures

pub split_at-requires-2 : goal.split_at-requires-2
split_at-requires-2 g c =
    can_cut c.self.inside.coefficients c.self.inside.ring c.self.inside.ring c.as_slice-2.result.now c.self.inside.start
    (subst (λ v. 0 < length v.coefficients) (sym c.self.view_is) c.requires) c.self.invariant c.self.invariant.0 c.as_slice-2.ensures

pub returns : goal.returns
returns g c =
    let some : 0 < length c.self.inside.coefficients = omega (arith, c.requires, ap (λ v. length v.coefficients) c.self.view_is) in
    let within : c.self.inside.start < length c.self.inside.ring = c.self.invariant.1 (omega (arith, c.self.invariant.0)) in
    rw (← c.self.view_is) (following_is g.met.F.Arithmetic.laws c.self.inside.coefficients c.self.inside.ring _ _ _ _ c.self.inside.start _ _ _ _
    (c.split_at.ensures.front ∙ ap (λ u. take c.self.inside.start u) c.as_slice.ensures)
    (c.split_at.ensures.back ∙ ap (λ u. drop c.self.inside.start u) c.as_slice.ensures)
    (c.split_at-2.ensures.front ∙ ap (λ u. take c.self.inside.start u) c.as_slice-2.ensures)
    (c.split_at-2.ensures.back ∙ ap (λ u. drop c.self.inside.start u) c.as_slice-2.ensures)
    (omega arith) c.self.invariant.0 c.weighted.ensures c.weighted-2.ensures c.plus.ensures c.negated.ensures)

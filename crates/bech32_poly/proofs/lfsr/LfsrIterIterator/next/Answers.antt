use Rattle.std.proofs.Common.{rules, ◌≡◌, ◌≤◌, length-set, ◌<◌, suc, ◌+◌, length, get_or, Some, refl, inl, inr, sym, ap, subst, ◌∙◌, arith}
use Rattle.bech32_poly.specs.Polynomial.{coefficient}
use Rattle.bech32_poly.specs.Register.{GivesNext, back_sum, from_place}
use Rattle.bech32_poly.proofs.Rings.{gives_next_at, gives_zero}
use Rattle.bech32_poly.proofs.lfsr.LfsrIterIterator.next.Goals as goal
use Rattle.bech32_poly.proofs.lfsr.LfsrIterIterator.next.Goals.{then-self-length, else-self-length}

pub returns-then-length-eq0-clause-steps : goal.returns-then-length-eq0-clause-steps
returns-then-length-eq0-clause-steps g c =
    let none : length c.self.inside.ring ≡ 0 = omega (arith, c.len-length.ensures) in
    subst (λ v. GivesNext g.F.Arithmetic.ops v (Some c.zero.result) v) c.self.view_is
    (gives_zero g.met.F.Arithmetic.laws c.self.inside.coefficients c.self.inside.ring c.self.inside.start c.zero.result
    (omega (arith, c.self.invariant.0)) none c.zero.ensures)

pub returns-clause-steps : goal.returns-clause-steps
returns-clause-steps g c =
    let o = g.F.Arithmetic.ops in
    let item = c.index-as_slice-self.result in
    let some : 0 < length c.self.inside.ring = omega (arith, c.len-length.ensures) in
    let within : c.self.inside.start < length c.self.inside.ring = c.self.invariant.1 some in
    let read : c.index-as_slice-self.result ≡ get_or c.self.inside.ring c.self.inside.start c.index-as_slice-self.result =
    c.index-as_slice-self.is ∙ ap (λ u. get_or u c.self.inside.start c.index-as_slice-self.result) c.as_slice.ensures in
    let comes : c.following-following.result ≡ o.neg (back_sum o c.self.inside.coefficients (coefficient o (from_place c.self.inside.start c.self.inside.ring)) (length c.self.inside.coefficients)) =
    subst (λ v. c.following-following.result ≡ o.neg (back_sum o v.coefficients (coefficient o v.coming) (length v.coefficients))) (sym c.self.view_is) c.following-following.ensures in
    elim c.if-self-length.branch [
      | then-self-length w ↦
          let end : suc c.self.inside.start ≡ length c.self.inside.ring = omega (arith, c.len-length.ensures) in
          subst (λ v. GivesNext o v (Some item) c.if-self-length.self) c.self.view_is (subst (λ v. GivesNext o (record { coefficients = c.self.inside.coefficients; coming = from_place c.self.inside.start c.self.inside.ring }) (Some item) v) (sym w.self-is) (gives_next_at g.met.F.Arithmetic.laws c.self.inside.coefficients c.self.inside.ring c.set.new.self c.self.inside.start 0 _ c.following-following.result
          c.self.invariant.0 within read comes c.set.ensures (inr (refl, end))))
      | else-self-length w ↦
          let next : c.self.inside.start + 1 ≡ suc c.self.inside.start = omega arith in
          subst (λ v. GivesNext o v (Some item) c.if-self-length.self) c.self.view_is (subst (λ v. GivesNext o (record { coefficients = c.self.inside.coefficients; coming = from_place c.self.inside.start c.self.inside.ring }) (Some item) v) (sym w.self-is) (gives_next_at g.met.F.Arithmetic.laws c.self.inside.coefficients c.self.inside.ring c.set.new.self c.self.inside.start (c.self.inside.start + 1) _ c.following-following.result
          c.self.invariant.0 within read comes c.set.ensures (inl next)))
    ]

pub offset_bounds-as_slice-self-inside : goal.offset_bounds-as_slice-self-inside
offset_bounds-as_slice-self-inside g c =
    let some : 0 < length c.self.inside.ring = omega (arith, c.len-length.ensures) in
    let within : c.self.inside.start ≤ length c.as_slice.result.now = omega (arith, c.self.invariant.1 some, ap (λ u. length u) c.as_slice.ensures) in
    search rules

pub bounds-as_slice-self-inside : goal.bounds-as_slice-self-inside
bounds-as_slice-self-inside g c =
    let some : 0 < length c.self.inside.ring = omega (arith, c.len-length.ensures) in
    omega (arith, c.self.invariant.1 some, ap (λ u. length u) c.as_slice.ensures)

pub set-requires : goal.set-requires
set-requires g c =
    let some : 0 < length c.self.inside.ring = omega (arith, c.len-length.ensures) in
    let within : c.self.inside.start < length c.self.inside.ring = c.self.invariant.1 some in
    search rules

pub overflow_add-self : goal.overflow_add-self
overflow_add-self g c =
    let some : 0 < length c.self.inside.ring = omega (arith, c.len-length.ensures) in
    omega (arith, c.self.invariant.1 some, c.as_slice.type_inv.0, ap (λ u. length u) c.as_slice.ensures)

pub invariant_of-self : goal.invariant_of-self
invariant_of-self g c =
    (ap (λ u. length u) c.set.ensures ∙ length-set c.self.inside.ring c.self.inside.start c.following-following.result ∙ c.self.invariant.0, λ some. some)

pub invariant_of-self-else-self-length : goal.invariant_of-self-else-self-length
invariant_of-self-else-self-length g c =
    let same : length c.set.new.self ≡ length c.self.inside.ring = ap (λ u. length u) c.set.ensures ∙ length-set c.self.inside.ring c.self.inside.start c.following-following.result in
    let some : 0 < length c.self.inside.ring = omega (arith, c.len-length.ensures) in
    let within : c.self.inside.start < length c.self.inside.ring = c.self.invariant.1 some in
    (same ∙ c.self.invariant.0, λ _. omega (arith, same, within, c.if-self-length.false, c.len-length.ensures))

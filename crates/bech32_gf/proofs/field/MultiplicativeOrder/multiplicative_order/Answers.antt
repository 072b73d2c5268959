use Rattle.std.proofs.Common.{◌≡◌, ◌<◌, ◌≤◌, ◌∙◌, sym, ap, subst, length, get_or, pos, w64, FitsSigned, to_z, below_more, arith, true, false}
use Rattle.std.proofs.lemmas.Int.{to_z_pos, fits_signed_from_abs}
use Rattle.bech32_gf.specs.Field.{Ops, power, signed_power, IsOrder}
use Rattle.bech32_gf.specs.laws.FieldLaws.{IsOrder-from_first}
use Rattle.bech32_gf.proofs.Orders.{divisor_fits, whole_listed}
use Rattle.bech32_gf.proofs.field.MultiplicativeOrder.multiplicative_order.Goals as goal

pub overflow_cast-divisor : goal.overflow_cast-divisor
overflow_cast-divisor g c =
    let i = c.loop-divisor.divisor-index in
    let law = g.met.Self.Field in
    let read = c.order_factors-divisor-items.ensures in
    let within : i < length g.Self.Field.divisors = subst (λ xs. i < length xs) read c.loop-divisor-test.true in
    subst (λ xs. FitsSigned w64 (pos (get_or xs i 0))) (sym read)
    (fits_signed_from_abs w64 (pos (get_or g.Self.Field.divisors i 0)) (divisor_fits _ _ law.fits_law.1 law.divisors_law i within))

pub returns-then-eq : goal.returns-then-eq
returns-then-eq g c =
    let o : Ops _ = g.Self.Arithmetic.ops in
    let i = c.loop-divisor.divisor-index in
    let x = c.args.self.now in
    let law = g.met.Self.Field in
    let read = c.order_factors-divisor-items.ensures in
    let within : i < length g.Self.Field.divisors = subst (λ xs. i < length xs) read c.loop-divisor-test.true in
    let powered : c.powi.result ≡ power o x (get_or g.Self.Field.divisors i 0) =
    c.powi.ensures ∙ ap (λ xs. signed_power o x (to_z w64 (get_or xs i 0))) read
    ∙ ap (signed_power o x) (to_z_pos w64 (get_or g.Self.Field.divisors i 0) (divisor_fits _ _ law.fits_law.1 law.divisors_law i within))
    in
    let here : power o x (get_or g.Self.Field.divisors i 0) ≡ o.one =
    sym powered ∙ (law.eq_law c.powi.result c.ONE.result).0 (sym c.eq.ensures ∙ c.if-eq.true) ∙ c.ONE.ensures ∙ law.one_law
    in
    subst (λ xs. IsOrder o x (get_or xs i 0)) (sym read)
    (IsOrder-from_first g.met.Self.Arithmetic.laws x _ _ law.fits_law.1.positive law.divisors_law (law.order_law x c.requires) i within
    c.loop-divisor.invariant here)

pub loop-divisor-preserved : goal.loop-divisor-preserved
loop-divisor-preserved g c =
    let o : Ops _ = g.Self.Arithmetic.ops in
    let i = c.loop-divisor.divisor-index in
    let x = c.args.self.now in
    let law = g.met.Self.Field in
    let read = c.order_factors-divisor-items.ensures in
    let within : i < length g.Self.Field.divisors = subst (λ xs. i < length xs) read c.loop-divisor-test.true in
    let powered : c.powi.result ≡ power o x (get_or g.Self.Field.divisors i 0) =
    c.powi.ensures ∙ ap (λ xs. signed_power o x (to_z w64 (get_or xs i 0))) read
    ∙ ap (signed_power o x) (to_z_pos w64 (get_or g.Self.Field.divisors i 0) (divisor_fits _ _ law.fits_law.1 law.divisors_law i within))
    in
    below_more _ _ c.loop-divisor.invariant
    (λ h.
    let equal : c.eq.result ≡ true =
    c.eq.ensures ∙ (law.eq_law c.powi.result c.ONE.result).1 (powered ∙ h ∙ sym law.one_law ∙ sym c.ONE.ensures)
    in let differs : c.eq.result ≡ false = c.if-eq.false in cc)

pub unreachable-requires : goal.unreachable-requires
unreachable-requires g c =
    let o : Ops _ = g.Self.Arithmetic.ops in
    let law = g.met.Self.Field in
    let at = whole_listed _ _ law.divisors_law in
    let all : length g.Self.Field.divisors ≤ c.loop-divisor.divisor-index =
    subst (λ xs. length xs ≤ c.loop-divisor.divisor-index) c.order_factors-divisor-items.ensures c.loop-divisor-test.false
    in
    let within : at.0 < length g.Self.Field.divisors = at.1 in
    c.loop-divisor.invariant at.0 (omega arith) (ap (power o c.args.self.now) at.2 ∙ law.order_law c.args.self.now c.requires)

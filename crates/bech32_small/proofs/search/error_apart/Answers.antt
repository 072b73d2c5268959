use Rattle.std.proofs.Common.{◌≡◌, ◌≢◌, ◌+◌, ◌%◌, ℕ, suc, [], ◌∷◌, subst, sym, ap, ◌∙◌, arith}
use Rattle.std.proofs.Math.Decide.{dec_lt}
use Rattle.bech32_gf.specs.Fe32.{ops, zero}
use Rattle.bech32_gf.specs.declared.gf32.Fe32.{Fe32}
use Rattle.bech32_poly.specs.Division.{zeros}
use Rattle.bech32_poly.specs.Polynomial.{appended}
use Rattle.bech32_small.proofs.Remainders.{Leaves, LeavesErrors, found_at, single_at, some_left}
use Rattle.bech32_small.proofs.search.error_apart.Goals as goal
use Rattle.bech32_small.proofs.search.error_apart.Goals.{else-row-lt32-via-then-row-lt32+else-location-apart, else-row-lt32-via-else-row-lt32}

pub loop-location-init : goal.loop-location-init
loop-location-init c = record {
  clear = c.requires.digits;
  some = c.requires.some;
  after = λ p h. h;
  before = λ p h. h;
  none = λ i v less differ h. absurd (omega (arith, less));
}

pub returns-then-location-apart : goal.returns-then-location-apart
returns-then-location-apart c =
    let is = c.from_low_bits.ensures in
    let inv = c.loop-location.invariant in (
      c.loop-location-test.true,
      (λ e. omega (arith, e, c.if-location-apart.true)),
      (λ z. let none : c.loop-location.row % 32 ≡ 0 = ap (λ (x : Fe32). x.value) (sym is ∙ z) in omega (arith, none, inv.some, c.if-row-lt32.true)),
      subst (λ (e : Fe32). LeavesErrors c.args.row ((c.loop-location.location, e) ∷ [])) (sym is)
          (found_at c.args.row c.loop-location.row c.loop-location.location c.if-row-lt32.true inv.after),
    )

pub loop-location-preserved : goal.loop-location-preserved
loop-location-preserved c =
    let first : ℕ = c.args.row in
    let row : ℕ = c.loop-location.row in
    let location : ℕ = c.loop-location.location in
    let inv = c.loop-location.invariant in
    let more : suc c.loop-location.location ≡ c.loop-location.location + 1 = omega arith in
    let here : (v : Fe32) → c.loop-location.location ≢ c.args.apart → LeavesErrors c.args.row ((c.loop-location.location, v) ∷ []) → ⊥ =
    λ v differ h.
    let is : c.loop-location.row ≡ v.value = single_at first row location v inv.clear inv.before h in
    elim c.else-row-lt32.branch [
      | else-row-lt32-via-then-row-lt32+else-location-apart b ↦ differ (omega (arith, b.if-location-apart.false))
      | else-row-lt32-via-else-row-lt32 b ↦ absurd (omega (arith, is, v.in_field, b.if-row-lt32.false))
    ] in
    record {
      clear = c.divided_by_x-row.ensures.clear;
      some = some_left row c.divided_by_x-row.result inv.clear inv.some c.divided_by_x-row.ensures.after;
      after = λ p h. subst (λ n. Leaves first (appended p (zeros ops n))) more (inv.after (zero ∷ p) (c.divided_by_x-row.ensures.after p h));
      before = λ p h. c.divided_by_x-row.ensures.before p (inv.before (zero ∷ p) (subst (λ n. Leaves first (appended p (zeros ops n))) (sym more) h));
      none = λ i v less differ h. elim (dec_lt i location) [
        | yes k ↦ inv.none i v k differ h
        | no k ↦ (
            let same : i ≡ c.loop-location.location = omega (arith, less, k) in
            here v (λ e. differ (same ∙ e)) (subst (λ n. LeavesErrors first ((n, v) ∷ [])) same h)
            )
      ];
    }

pub returns : goal.returns
returns c = λ i v below differ h. c.loop-location.invariant.none i v (omega (arith, below, c.loop-location-test.false)) differ h

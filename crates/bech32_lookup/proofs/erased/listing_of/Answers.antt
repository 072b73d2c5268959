use Rattle.std.specs.Prelude.{slice_index, true, false}
use Rattle.std.proofs.Common.{◌≡◌, ◌+◌, ◌++◌, ◌∷◌, [], ℕ, suc, length, ap, subst, sym, ◌∙◌, arith}
use Rattle.bech32_gf.specs.Fe32 as fe32
use Rattle.bech32_poly.specs.Polynomial.{coefficient}
use Rattle.bech32_bch.proofs.Loops.{get_any}
use Rattle.bech32_lookup.specs.Equations.{placed}
use Rattle.bech32_lookup.proofs.ErasedPatterns.{length-placed}
use Rattle.bech32_lookup.proofs.erased.listing_of.Goals as goal

refused : {P : Type 0} → false ≡ true → P
refused h = absurd (cc h)

pub loop-i-preserved : goal.loop-i-preserved
loop-i-preserved g c =
    let value = λ (k : ℕ). coefficient fe32.ops c.args.values.now (suc k) in
    let more : suc c.loop-i.i ≡ c.loop-i.i + 1 = omega arith in
    subst (λ n. c.push.new.self ≡ placed c.args.locations.now (λ k. coefficient fe32.ops c.args.values.now (suc k)) n) more
    (c.in_ok-push.ensures.ok
    ∙ ap (λ v. c.loop-i.listing ++ (slice_index c.args.locations.now c.loop-i.i, v) ∷ []) (get_any c.args.values.now (c.loop-i.i + 1) c.index-values-i.result fe32.zero (omega (arith, c.requires)) ∙ ap (coefficient fe32.ops c.args.values.now) (sym more))
    ∙ ap (λ l. l ++ (slice_index c.args.locations.now c.loop-i.i, coefficient fe32.ops c.args.values.now (suc c.loop-i.i)) ∷ []) c.loop-i.invariant)

pub returns-in_err-push-clause-in_place : goal.returns-in_err-push-clause-in_place
returns-in_err-push-clause-in_place g c = λ fits.
    let size : length c.loop-i.listing ≡ c.loop-i.i = ap length c.loop-i.invariant ∙ length-placed c.args.locations.now (λ k. coefficient fe32.ops c.args.values.now (suc k)) c.loop-i.i in
    refused (c.in_err-push.ensures.in_place (omega (arith, size, fits)))

pub returns-clause-items : goal.returns-clause-items
returns-clause-items g c =
    let end : c.loop-i.i ≡ length c.args.locations.now = omega arith in
    subst (λ n. c.loop-i.listing ≡ placed c.args.locations.now (λ k. coefficient fe32.ops c.args.values.now (suc k)) n) end c.loop-i.invariant

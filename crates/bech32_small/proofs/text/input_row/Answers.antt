use Rattle.std.proofs.Common.{ℕ, ◌∷◌, refl, reverse, subst, sym, take}
use Rattle.bech32_gf.specs.Fe32 as fe32
use Rattle.bech32_gf.specs.declared.gf32.Fe32.{Fe32}
use Rattle.bech32_poly.specs.Polynomial.{appended}
use Rattle.bech32_checksum.specs.Packed.{digits}
use Rattle.bech32_checksum.specs.Code.{IsResidueOf, bech32m}
use Rattle.bech32_checksum.proofs.Target.{appended_more, appended_all}
use Rattle.bech32_small.proofs.text.input_row.Goals as goal

pub loop-i-preserved : goal.loop-i-preserved
loop-i-preserved c p h =
    let row = c.args.row in
    let before = appended p (take c.loop-i.i (reverse (digits 6 row))) in
    let after : IsResidueOf (λ (n : ℕ). n) bech32m c.input_fe.new.self (fe32.element c.unpack.result ∷ before) =
    subst (λ (e : Fe32). IsResidueOf (λ (n : ℕ). n) bech32m c.input_fe.new.self (e ∷ before)) c.from_low_bits.ensures
    (c.input_fe.ensures before (c.loop-i.invariant p h)) in
    subst (IsResidueOf (λ (n : ℕ). n) bech32m c.input_fe.new.self)
    (sym (appended_more (digits 6 row) 6 row refl p c.loop-i.i c.unpack.result c.loop-i-test.true c.unpack.ensures.below c.unpack.ensures.value))
    after

pub returns : goal.returns
returns c p h =
    subst (IsResidueOf (λ (n : ℕ). n) bech32m c.loop-i.engine)
    (appended_all (digits 6 c.args.row) 6 c.args.row refl p c.loop-i.i c.loop-i-test.false)
    (c.loop-i.invariant p h)

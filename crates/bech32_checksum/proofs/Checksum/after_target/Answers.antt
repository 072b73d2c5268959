use Rattle.std.proofs.Common.{◌≡◌, ◌<◌, ◌≤◌, ◌-◌, ◌∷◌, ap, reverse, subst, sym, take}
use Rattle.bech32_gf.specs.Fe32 as fe32
use Rattle.bech32_gf.specs.declared.gf32.Fe32.{Fe32}
use Rattle.bech32_poly.specs.Polynomial.{appended}
use Rattle.bech32_checksum.specs.Packed.{digit_of}
use Rattle.bech32_checksum.specs.Code.{Code, IsResidueOf}
use Rattle.bech32_checksum.proofs.Target.{appended_more, appended_all}
use Rattle.bech32_checksum.proofs.Checksum.after_target.Goals as goal

pub loop-i-preserved : goal.loop-i-preserved
loop-i-preserved g c =
    let number = g.Self.MidstateRepr.PackedFe32.number in
    let code = g.Self.Checksum.code in
    let degree = g.Self.Checksum.CHECKSUM_LENGTH in
    let target = g.Self.Checksum.TARGET_RESIDUE in
    record {
      clear = c.after_one-next.ensures.clear;
      after = λ p h.
          let before = appended p (take c.loop-i.i (reverse code.target)) in
          let here : c.loop-i.i < degree = rw c.CHECKSUM_LENGTH-i-end.ensures at c.loop-i-test.true in
          let value : c.unpack.result ≡ (digit_of (number target) (degree - 1 - c.loop-i.i)).value =
          rw (c.TARGET_RESIDUE.ensures, c.CHECKSUM_LENGTH.ensures) at c.unpack.ensures.value in
          let after : IsResidueOf number code c.after_one-next.result (fe32.element c.unpack.result ∷ before) =
          subst (λ (e : Fe32). IsResidueOf number code c.after_one-next.result (e ∷ before)) c.from_low_bits.ensures
          (c.after_one-next.ensures.after before (c.loop-i.invariant.after p h)) in
          subst (IsResidueOf number code c.after_one-next.result)
          (sym (appended_more code.target degree (number target) (ap (λ (k : Code). k.target) g.met.Self.Checksum.code_law) p c.loop-i.i c.unpack.result here c.unpack.ensures.below value))
          after;
    }

pub returns-clause-after : goal.returns-clause-after
returns-clause-after g c p h =
    let number = g.Self.MidstateRepr.PackedFe32.number in
    let code = g.Self.Checksum.code in
    let degree = g.Self.Checksum.CHECKSUM_LENGTH in
    let all : degree ≤ c.loop-i.i = rw c.CHECKSUM_LENGTH-i-end.ensures at c.loop-i-test.false in
    subst (IsResidueOf number code c.loop-i.next)
    (appended_all code.target degree (number g.Self.Checksum.TARGET_RESIDUE) (ap (λ (k : Code). k.target) g.met.Self.Checksum.code_law) p c.loop-i.i all)
    (c.loop-i.invariant.after p h)

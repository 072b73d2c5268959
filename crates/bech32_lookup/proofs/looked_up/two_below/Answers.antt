use Rattle.std.proofs.Common.{◌≡◌, length, subst, arith}
use Rattle.bech32_gf.specs.Fe32 as fe32
use Rattle.bech32_checksum.specs.OneError.{AreOnlyValues}
use Rattle.bech32_bch.proofs.Loops.{get_any}
use Rattle.bech32_lookup.proofs.FewErasures.{two_erased, two_left, two_listed}
use Rattle.bech32_lookup.proofs.Valued.{none_placed}
use Rattle.bech32_lookup.proofs.looked_up.two_below.Goals as goal

pub returns-in-Absent : goal.returns-in-Absent
returns-in-Absent g c = (
  two_erased c.args.window c.args.given.now c.requires (omega (arith, c.if-one-window.false)) (omega (arith, c.if-two-window.false)) (λ e. omega (arith, e, c.if-one-two.false)),
  none_placed g.Ck.Checksum.code.generator c.args.residue.now c.args.given.now (subst (AreOnlyValues g.Ck.Checksum.code.generator c.args.residue.now c.args.given.now) c.in-Absent.is c.lookup_values.ensures),
)

pub returns-in-Found : goal.returns-in-Found
returns-in-Found g c =
    let s = c.args.given.now in
    let values = c.in-Found.values in
    let three : length c.in-Found.values ≡ 3 = omega arith in (
      two_erased c.args.window s c.requires (omega (arith, c.if-one-window.false)) (omega (arith, c.if-two-window.false)) (λ e. omega (arith, e, c.if-one-two.false)),
      (
        two_listed s c.requires,
        two_left g.Ck.Checksum.code.generator c.args.residue.now s values _ _ c.requires
            (get_any c.in-Found.values 0 c.index-values-0.result fe32.zero (omega (arith, three)))
            (get_any c.in-Found.values 1 c.index-values-1.result fe32.zero (omega (arith, three)))
            (subst (AreOnlyValues g.Ck.Checksum.code.generator c.args.residue.now c.args.given.now) c.in-Found.is c.lookup_values.ensures),
      ),
    )

use Rattle.std.proofs.Common.{◌≡◌, [], ◌∷◌, length, subst, sym, arith}
use Rattle.bech32_gf.specs.Fe32 as fe32
use Rattle.bech32_gf.specs.declared.gf32.Fe32.{Fe32}
use Rattle.bech32_bch.specs.Pattern.{HasRemainder}
use Rattle.bech32_bch.proofs.Loops.{get_any}
use Rattle.bech32_lookup.proofs.Beside.{one_valued}
use Rattle.bech32_lookup.proofs.looked_up.alone_at.Goals as goal

pub returns : goal.returns
returns g c =
    let values = c.in_ok-values.values in
    let three : length c.in_ok-values.values ≡ 3 = omega arith in
    subst (λ (v : Fe32). HasRemainder fe32.ops g.Ck.Checksum.code.generator c.args.residue.now ((c.args.erasure, v) ∷ [])) (sym (get_any c.in_ok-values.values 0 c.index-values-0.result fe32.zero (omega (arith, three))))
    (subst (HasRemainder fe32.ops g.Ck.Checksum.code.generator c.args.residue.now) (one_valued c.args.erasure values) c.in_ok-values.ensures)

use Rattle.std.proofs.Common.{◌-◌}
use Rattle.bech32_gf.specs.Fe32 as fe32
use Rattle.bech32_poly.specs.Pattern.{monomial}
use Rattle.bech32_checksum.specs.Code.{IsResidueOf}
use Rattle.bech32_detect.proofs.TermRows.{TermsBelow}
use Rattle.bech32_detect.proofs.rows.push_terms.Given as goal

abbrev pub invariant-loop : goal.invariant-loop
invariant-loop g l =
    TermsBelow g.Ck.Checksum.code.generator l.n l.fn.value l.initial.rows.items l.rows.items l.counter
    × IsResidueOf g.Ck.MidstateRepr.PackedFe32.number g.Ck.Checksum.code l.engine (monomial fe32.ops (l.counter - 1) l.fn.value)

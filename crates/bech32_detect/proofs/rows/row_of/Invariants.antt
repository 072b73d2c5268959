use Rattle.std.proofs.Common.{◌≡◌}
use Rattle.bech32_detect.proofs.RowDigits.{highest}
use Rattle.bech32_detect.proofs.rows.row_of.Given as goal

abbrev pub invariant-loop-i : goal.invariant-loop-i
invariant-loop-i g l = l.row ≡ highest g.Ck.Checksum.CHECKSUM_LENGTH (g.Ck.MidstateRepr.PackedFe32.number l.residue) l.i

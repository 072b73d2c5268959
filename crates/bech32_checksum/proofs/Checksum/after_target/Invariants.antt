use Rattle.std.proofs.Common.{List, take, reverse}
use Rattle.bech32_gf.specs.declared.gf32.Fe32.{Fe32}
use Rattle.bech32_poly.specs.Polynomial.{appended}
use Rattle.bech32_checksum.specs.Code.{IsResidueOf}
use Rattle.bech32_checksum.specs.Packed.{HasDigits}
use Rattle.bech32_checksum.proofs.Checksum.after_target.Given as goal

abbrev pub invariant-loop-i : goal.invariant-loop-i
invariant-loop-i g l =
    record {
      clear : HasDigits g.Self.Checksum.CHECKSUM_LENGTH (g.Self.MidstateRepr.PackedFe32.number l.next);
      after : (p : List Fe32)
          → IsResidueOf g.Self.MidstateRepr.PackedFe32.number g.Self.Checksum.code l.fn.residue p
          → IsResidueOf g.Self.MidstateRepr.PackedFe32.number g.Self.Checksum.code l.next (appended p (take l.i (reverse g.Self.Checksum.code.target)));
    }

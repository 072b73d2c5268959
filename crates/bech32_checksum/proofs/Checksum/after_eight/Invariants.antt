use Rattle.std.proofs.Common.{take}
use Rattle.bech32_checksum.specs.Code.{IsResidueAfter}
use Rattle.bech32_checksum.specs.Packed.{HasDigits}
use Rattle.bech32_checksum.proofs.Checksum.after_eight.Given as goal

abbrev pub invariant-loop-element : goal.invariant-loop-element
invariant-loop-element g l =
    let number = g.Self.MidstateRepr.PackedFe32.number in
    record {
      clear : HasDigits g.Self.Checksum.CHECKSUM_LENGTH (number l.next);
      after : IsResidueAfter number g.Self.Checksum.code l.fn.residue (take l.element-index l.fn.elements) l.next;
    }

use Rattle.std.proofs.Common.{◌≡◌, List}
use Rattle.bech32_gf.specs.declared.gf32.Fe32.{Fe32 as Element}
use Rattle.bech32_gf.specs.Fe32.{elements_of}
use Rattle.bech32_poly.specs.Polynomial.{appended}
use Rattle.bech32_checksum.specs.Code.{IsResidueOf}
use Rattle.bech32_checksum.specs.TextPolynomial.{text_polynomial}
use Rattle.bech32_decode.specs.Readers.{elements_left}
use Rattle.bech32_decode.proofs.residue.residue_of.Given as goal

abbrev pub invariant-loop-fe : goal.invariant-loop-fe
invariant-loop-fe g l =
    (p : List Element) × (appended p (elements_left l.fe-iterator) ≡ text_polynomial l.fn.part (elements_of l.fn.data_part))
    × IsResidueOf g.Ck.MidstateRepr.PackedFe32.number g.Ck.Checksum.code l.engine p

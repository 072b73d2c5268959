-- What an iterator of a human-readable part's elements has left.
use Rattle.std.specs.Prelude.{List, drop}
use Rattle.bech32_checksum.specs.TextPolynomial.{hrp_elements}
use Rattle.bech32_checksum.specs.declared.hrp_fes.HrpFe32Iter.{HrpFe32Iter}
use Rattle.bech32_gf.specs.declared.gf32.Fe32.{Fe32}

-- the elements that are to come
abbrev pub hrp_fes_rest : HrpFe32Iter → List Fe32
hrp_fes_rest s = drop s.place (hrp_elements s.bytes.now)

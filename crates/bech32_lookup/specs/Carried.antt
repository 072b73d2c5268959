-- The residue error that a checksum's refusal holds.
use Rattle.std.specs.Prelude.{Option, Some, None}
use Rattle.bech32_refusals.specs.declared.error.InvalidResidueError.{InvalidResidueError}
use Rattle.bech32_refusals.specs.declared.error.ChecksumError.{ChecksumError}
use Rattle.bech32_refusals.specs.declared.error.ChecksumError.TheVariants.{CodeLength}
use Rattle.bech32_refusals.specs.declared.error.ChecksumError.TheVariants.{InvalidResidue}
use Rattle.bech32_refusals.specs.declared.error.ChecksumError.TheVariants.{InvalidLength}

abbrev pub of_checksum : ChecksumError → Option InvalidResidueError
of_checksum (InvalidResidue e) = Some e
of_checksum (CodeLength e) = None
of_checksum InvalidLength = None

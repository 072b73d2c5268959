-- The residue error that an error holds.
use Rattle.std.specs.Prelude.{Option, None}
use Rattle.bech32_refusals.specs.declared.error.InvalidResidueError.{InvalidResidueError}
use Rattle.bech32_lookup.specs.Carried.{of_checksum}
use Rattle.bech32_refusals.specs.declared.error.CheckedHrpstringError.{CheckedHrpstringError}
use Rattle.bech32_refusals.specs.declared.error.CheckedHrpstringError.TheVariants as checked
use Rattle.bech32_refusals.specs.declared.error.SegwitHrpstringError.{SegwitHrpstringError}
use Rattle.bech32_refusals.specs.declared.error.SegwitHrpstringError.TheVariants as segwit
use Rattle.bech32_refusals.specs.declared.texts.DecodeError.{DecodeError}
use Rattle.bech32_refusals.specs.declared.texts.DecodeError.TheVariants as decoding

abbrev pub of_checked : CheckedHrpstringError → Option InvalidResidueError
of_checked (checked.Checksum e) = of_checksum e
of_checked (checked.Parse e) = None

abbrev pub of_segwit : SegwitHrpstringError → Option InvalidResidueError
of_segwit (segwit.Checksum e) = of_checksum e
of_segwit (segwit.Unchecked e) = None
of_segwit segwit.NoData = None
of_segwit (segwit.TooLong n) = None
of_segwit (segwit.InvalidWitnessVersion version) = None
of_segwit (segwit.Padding e) = None
of_segwit (segwit.WitnessLength e) = None
of_segwit segwit.Memory = None

abbrev pub of_decoding : DecodeError → Option InvalidResidueError
of_decoding (decoding.Checksum e) = of_checksum e
of_decoding (decoding.Parse e) = None
of_decoding decoding.Memory = None

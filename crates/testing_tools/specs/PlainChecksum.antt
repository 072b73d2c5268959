-- The checksums that the plain programs know by name.
use Rattle.bech32_checksum.specs.Code.{Code, bech32, bech32m}
use Rattle.testing_tools.specs.declared.plain.checksum.PlainChecksum.{PlainChecksum}
use Rattle.testing_tools.specs.declared.plain.checksum.PlainChecksum.TheVariants.{Bech32, Bech32m}

-- the code of a checksum (BIP-173, Checksum; BIP-350, Bech32m)
abbrev pub code_of_plain : PlainChecksum → Code
code_of_plain Bech32 = bech32
code_of_plain Bech32m = bech32m

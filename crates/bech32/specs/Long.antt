-- The checksums of long texts: Bech32 (BIP-173) and Bech32m (BIP-350) with another code length. It
-- is that of the longest invoices (BOLT 11), as readers of these have it.
use Rattle.std.specs.Prelude.{ℕ}
use Rattle.bech32_checksum.specs.Code.{Code, bech32, bech32m}

-- the most characters of a long text
abbrev pub max_long_text_length : ℕ
max_long_text_length = 7089

-- the code for long texts
abbrev pub long : Code → Code
long code = record {
  generator = code.generator;
  target = code.target;
  code_length = max_long_text_length;
}

abbrev pub long_bech32 : Code
long_bech32 = long bech32

abbrev pub long_bech32m : Code
long_bech32m = long bech32m

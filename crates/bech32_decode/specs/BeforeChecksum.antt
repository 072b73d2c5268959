-- A data part without its checksum.
use Rattle.std.specs.Prelude.{◌≡◌, ℕ, List, ◌++◌, length}
use Rattle.bech32_checksum.specs.Code.{Code}

-- the data part is these characters and then as many as a checksum has
pub record IsBeforeChecksum (code : Code) (data_part characters : List ℕ) : Type 0 where
  pub checksum : List ℕ
  pub data_part_is : data_part ≡ characters ++ checksum
  pub size : length checksum ≡ length code.generator

-- The checksum of output descriptors (BIP-380, Checksum).
use Rattle.std.specs.Prelude.{[], ◌∷◌, map}
use Rattle.bech32_gf.specs.Fe32 as fe32
use Rattle.bech32_checksum.specs.Code.{Code}

-- the generator x^8 + 30 x^7 + 23 x^6 + 15 x^5 + 14 x^4 + 10 x^3 + 6 x^2 + 12 x + 9 and the target
-- 1; the code length is the order of x by the generator
abbrev pub descriptor : Code
descriptor = record {
  generator = map fe32.element (9 ∷ 12 ∷ 6 ∷ 10 ∷ 14 ∷ 15 ∷ 23 ∷ 30 ∷ []);
  target = map fe32.element (1 ∷ 0 ∷ 0 ∷ 0 ∷ 0 ∷ 0 ∷ 0 ∷ 0 ∷ []);
  code_length = 32767;
}

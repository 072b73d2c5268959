-- Masks of whole bytes, one for each bit of a number.
use Rattle.std.specs.Prelude.{ℕ, ◌*◌, bit_and}

-- 255 at byte i + 1 for each set bit i below 5
abbrev pub masks_of : ℕ → ℕ
masks_of bits = bit_and (bits * 0x1020408100) 0x010101010100 * 255

-- sixteen bytes, each 1
abbrev pub repeated_byte : ℕ
repeated_byte = 0x01010101010101010101010101010101

-- Regrouping of bits: bytes as elements and back, on whole lists of bits
-- (BIP-173, Segwit address format).
use Rattle.std.specs.Prelude.{ℕ, zero, suc, ◌+◌, ◌*◌, ◌/◌, Bool, true}
use Rattle.std.specs.Prelude.{false, List, [], ◌∷◌, ◌++◌, replicate}
use Rattle.std.specs.List.{flat_map}
use Rattle.std.specs.Int.{bit_at}
use Rattle.bech32_gf.specs.Fe32.{element}
use Rattle.bech32_gf.specs.declared.gf32.Fe32.{Fe32}

-- the lowest k bits of n, highest first
abbrev pub bits : ℕ → ℕ → List ℕ
bits zero n = []
bits (suc k) n = bit_at n k ∷ bits k n

-- the bits of bytes, eight each, the highest of each byte first
abbrev pub byte_bits : List ℕ → List ℕ
byte_bits bytes = flat_map (bits 8) bytes

-- the bits of elements, five each
abbrev pub fe_bits : List Fe32 → List ℕ
fe_bits fes = flat_map (λ x. bits 5 x.value) fes

-- bits cut in fives, with zeros added at the end
abbrev pub cut_in_fives : List ℕ → List Fe32
cut_in_fives [] = []
cut_in_fives (a ∷ []) = element (16 * a) ∷ []
cut_in_fives (a ∷ b ∷ []) = element (16 * a + 8 * b) ∷ []
cut_in_fives (a ∷ b ∷ c ∷ []) = element (16 * a + 8 * b + 4 * c) ∷ []
cut_in_fives (a ∷ b ∷ c ∷ d ∷ []) = element (16 * a + 8 * b + 4 * c + 2 * d) ∷ []
cut_in_fives (a ∷ b ∷ c ∷ d ∷ e ∷ rest) =
    element (16 * a + 8 * b + 4 * c + 2 * d + e) ∷ cut_in_fives rest

-- bits cut in eights, with a last part shorter than eight dropped
abbrev pub cut_in_eights : List ℕ → List ℕ
cut_in_eights (a ∷ b ∷ c ∷ d ∷ e ∷ f ∷ g ∷ h ∷ rest) =
    (128 * a + 64 * b + 32 * c + 16 * d + 8 * e + 4 * f + 2 * g + h) ∷ cut_in_eights rest
cut_in_eights _ = []

-- bits cut in eights, with a last part filled with zeros: of seven zeros behind the bits it takes
-- those that it lacks, and the others are dropped
abbrev pub cut_in_eights_zeropad : List ℕ → List ℕ
cut_in_eights_zeropad bs = cut_in_eights (bs ++ replicate 7 0)

-- bits cut in eights, with a last part filled with zeros or dropped
abbrev pub cut_bytes : Bool → List ℕ → List ℕ
cut_bytes true bs = cut_in_eights_zeropad bs
cut_bytes false bs = cut_in_eights bs

-- the elements that stand for bytes: their bits in groups of five, padded with zeros
-- (BIP-173, Segwit address format)
abbrev pub to_fes : List ℕ → List Fe32
to_fes bytes = cut_in_fives (byte_bits bytes)

-- the bytes that elements stand for: their bits in groups of eight, an incomplete group discarded
-- (BIP-173, Segwit address format, Decoding)
abbrev pub to_bytes : List Fe32 → List ℕ
to_bytes fes = cut_in_eights (fe_bits fes)

-- the same, where an incomplete group is filled with zeros
abbrev pub to_bytes_zeropad : List Fe32 → List ℕ
to_bytes_zeropad fes = cut_in_eights_zeropad (fe_bits fes)

-- how many elements this many held bits and then n bytes give
abbrev pub fes_count : ℕ → ℕ → ℕ
fes_count held n = (8 * n + held + 4) / 5

-- how many bytes this many held bits and then n elements give
abbrev pub bytes_count : ℕ → ℕ → ℕ
bytes_count held n = (5 * n + held) / 8

-- the most bits that are added to a last part
abbrev pub filling : Bool → ℕ
filling true = 7
filling false = 0

-- the same, where a last part is filled or dropped
abbrev pub count_bytes : Bool → ℕ → ℕ → ℕ
count_bytes padded held n = (5 * n + held + filling padded) / 8

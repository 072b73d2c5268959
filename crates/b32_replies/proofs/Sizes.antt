-- No reply is longer than its room.
use Rattle.std.proofs.Common.{◌≡◌, ℕ, ◌+◌, ◌-◌, ◌*◌, ◌≤◌, ◌<◌, inl, inr, List, [], ◌∷◌, ◌++◌, map, length, drop, take, ap, ◌∙◌, refl, arith, length-append, codes}
use Rattle.std.proofs.lemmas.List.{length-map, length-take, take_at}
use Rattle.hex.proofs.HexLemmas.{length-encode_with}
use Rattle.hex.specs.Hex.{lower_digits}
use Rattle.bech32_gf.specs.Fe32.{element}
use Rattle.bech32_gf.specs.declared.gf32.Fe32.{Fe32}
use Rattle.bech32_bits.specs.Bits.{bits, cut_in_eights, fe_bits, fes_count, to_bytes, to_fes}
use Rattle.bech32_bits.proofs.RoundTrip.{length-to_fes}
use Rattle.bech32_checksum.specs.Code.{Code, bech32, bech32m}
use Rattle.bech32_checksum.proofs.Uniqueness.{length-encoded}
use Rattle.bech32_hrp.specs.Hrp.{lowered}
use Rattle.bech32_decode.specs.Acceptance.{IsAccepted, IsDecoded}
use Rattle.std.specs.Char.{to_ascii_lowercase, to_ascii_uppercase}
use Rattle.bech32_checksum.specs.Encoded.{IsEncodedText, char_of_element}
use Rattle.bech32_encode.specs.Buffers.{IsPutAsFits}
use Rattle.bech32_encode.specs.TextLength.{encoded_length_of}
use Rattle.bech32.specs.Elements.{Fits, elements_in}
use Rattle.bech32.specs.Spelling.{IsSpelledBy, IsSpelling}
use Rattle.b32_replies.specs.Hex.{hex_of}

-- ---- bits

-- each byte takes eight bits
length-eights : (bs : List ℕ) → 8 * length (cut_in_eights bs) ≤ length bs
length-eights (a ∷ b ∷ c ∷ d ∷ e ∷ f ∷ g ∷ h ∷ rest) = let ih = length-eights rest in omega arith
length-eights [] = omega arith
length-eights (a ∷ []) = omega arith
length-eights (a ∷ b ∷ []) = omega arith
length-eights (a ∷ b ∷ c ∷ []) = omega arith
length-eights (a ∷ b ∷ c ∷ d ∷ []) = omega arith
length-eights (a ∷ b ∷ c ∷ d ∷ e ∷ []) = omega arith
length-eights (a ∷ b ∷ c ∷ d ∷ e ∷ f ∷ []) = omega arith
length-eights (a ∷ b ∷ c ∷ d ∷ e ∷ f ∷ g ∷ []) = omega arith

-- each element gives five bits
length-fe_bits : (fes : _) → length (fe_bits fes) ≡ 5 * length fes
length-fe_bits [] = refl
length-fe_bits (x ∷ xs) = let ih = length-fe_bits xs in omega (arith, length-append (bits 5 x.value) (fe_bits xs))

-- eight elements give five bytes at most
mapped-size : (f : ℕ → _) (xs bytes : List ℕ) → bytes ≡ to_bytes (map f xs) → 8 * length bytes ≤ 5 * length xs
mapped-size f xs bytes e =
    omega (arith, ap length e, length-eights (fe_bits (map f xs)), length-fe_bits (map f xs), length-map xs f)

-- ---- texts and bytes

-- the word for bytes
pub length-hex_of : (bytes : List ℕ) → length (hex_of bytes) ≤ 2 * length bytes + 1
length-hex_of [] = omega arith
length-hex_of (b ∷ bs) = omega (arith, length-encode_with lower_digits (b ∷ bs))

-- the parts of a text that a checksum with so long a code accepts
accepted-sizes : (code : Code) (text hrp data_part : List ℕ) → code.code_length ≤ 1023 → IsAccepted code text hrp data_part → (length hrp ≤ 83) × (length data_part < 1023)
accepted-sizes code text hrp data_part n h = (
  h.grammar.is_hrp.not_long,
  let whole = ap length h.grammar.split ∙ length-append hrp (49 ∷ data_part) in omega (arith, h.text_length, whole),
)

-- the parts of a decoded text
pub decoded-sizes : (text hrp bytes : List ℕ) → IsDecoded text hrp bytes → (length hrp ≤ 83) × (length bytes ≤ 639)
decoded-sizes text hrp bytes h =
    let parts : (length hrp ≤ 83) × (length h.data_part < 1023) =
    elim h.accepted [ inl a ↦ accepted-sizes bech32m text hrp h.data_part (omega arith) a | inr a ↦ accepted-sizes bech32 text hrp h.data_part (omega arith) a ] in
    let size = mapped-size _ (take (length h.data_part - 6) h.data_part) bytes h.bytes_are in
    (parts.0, omega (arith, parts.1, size, length-take (length h.data_part - 6) h.data_part))

-- how long the reply to a text of these parts is, at most
pub parts-reply : (hrp bytes : List ℕ) → length (codes "ok " ++ (lowered hrp ++ (32 ∷ hex_of bytes))) ≤ 5 + length hrp + 2 * length bytes
parts-reply hrp bytes =
    omega (arith, length-hex_of bytes, length-append (codes "ok ") (lowered hrp ++ (32 ∷ hex_of bytes)), length-append (lowered hrp) (32 ∷ hex_of bytes), length-map hrp to_ascii_lowercase)

-- ---- texts that are the only ones of their elements

-- in either case a text has one length
spelling-length : (code : Code) (hrp : List ℕ) (fes : List Fe32) (text : List ℕ) (s : IsSpelling code hrp fes text) → length text ≡ length s.lower
spelling-length code hrp fes text s =
    elim s.in_one_case [ inl same ↦ ap length same | inr same ↦ ap length same ∙ length-map s.lower to_ascii_uppercase ]

-- its parts
spelled-sizes : (code : Code) (text hrp : List ℕ) (fes : List Fe32) → code.code_length ≤ 1023 → IsSpelledBy code text hrp fes
    → (1 ≤ length hrp) × (length hrp ≤ 83) × (length hrp + 1 + length fes + length code.generator ≤ 1023)
spelled-sizes code text hrp fes n h =
    let is = h.has_part.1.is_hrp in (
      is.not_empty,
      is.not_long,
      omega (
        arith,
        n,
        h.spelling.fits,
        spelling-length code hrp fes text h.spelling,
        length-encoded code hrp fes h.spelling.lower h.spelling.encoded,
      ),
    )

pub strict-sizes : (code : Code) (text hrp bytes : List ℕ) → code.code_length ≤ 1023 → IsSpelledBy code text hrp (to_fes bytes) → (length hrp ≤ 83) × (length bytes ≤ 639)
strict-sizes code text hrp bytes n h =
    let (some, part, rest) = spelled-sizes code text hrp (to_fes bytes) n h in
    let count : length (to_fes bytes) ≡ fes_count 0 (length bytes) = length-to_fes bytes in
    (part, omega (arith, rest, count))

pub elements-sizes : (code : Code) (text hrp values : List ℕ) → code.code_length ≤ 1023 → 6 ≤ length code.generator → IsSpelledBy code text hrp (elements_in values)
    → (1 ≤ length hrp) × (length hrp + length values ≤ 1016)
elements-sizes code text hrp values n degree h =
    let (some, part, rest) = spelled-sizes code text hrp (elements_in values) n h in
    let count : length (elements_in values) ≡ length values = length-map values element in
    (some, omega (arith, degree, rest, count))

-- a text of elements that is no longer than a code
pub elements-text-size : (code : Code) (hrp values text : List ℕ) → code.code_length ≤ 1023 → Fits code hrp values → IsEncodedText code hrp (elements_in values) text → length text ≤ 1023
elements-text-size code hrp values text n fits is =
    let within : encoded_length_of code hrp (elements_in values) ≤ code.code_length = fits in
    omega (arith, n, within, length-encoded code hrp (elements_in values) text is)

-- a text that is no longer than a code
pub encoded-size : (code : Code) (hrp bytes text : List ℕ) → code.code_length ≤ 1023 → encoded_length_of code hrp (to_fes bytes) ≤ code.code_length
    → IsEncodedText code hrp (to_fes bytes) text → length text ≤ 1023
encoded-size code hrp bytes text n fits h =
    let all = to_fes bytes ++ h.checksum in
    omega (arith, n, fits, h.is_checksum.size, ap length h.spelling, length-append (lowered hrp) (49 ∷ map char_of_element all), length-map hrp to_ascii_lowercase, length-map all char_of_element, length-append (to_fes bytes) h.checksum)

-- a buffer of the text's own length holds the text
pub put_exactly : (text old new : List ℕ) (count : ℕ) → IsPutAsFits text old new count → length text ≡ length old → new ≡ text
put_exactly text old new count put size =
    put.buffer ∙ take_at text (drop (length text) old) (length old) size

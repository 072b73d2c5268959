-- Output descriptors with their checksum (BIP-380, Checksum). A text is a list of bytes.
use Rattle.std.specs.Prelude.{◌≡◌, ◌≤◌, ◌+◌, ◌-◌, ◌*◌, ◌/◌, ◌==◌, ℕ, suc, List, [], ◌∷◌, ◌++◌, Bool}
use Rattle.std.specs.Prelude.{Option, Some, None, codes, drop, get_or, if◌then◌else◌, length, map}
use Rattle.std.specs.Prelude.{nat_lt, position, take}
use Rattle.bech32_gf.specs.Alphabet.{alphabet}
use Rattle.bech32_gf.specs.Fe32 as fe32
use Rattle.bech32_gf.specs.declared.gf32.Fe32.{Fe32}
use Rattle.bech32_poly.specs.Polynomial.{appended}
use Rattle.bech32_poly.specs.Remainder.{IsRemainder}
use Rattle.bech32_descriptor.specs.Code.{descriptor}
use Rattle.bech32_descriptor.specs.declared.error.CheckError.{CheckError}
use Rattle.bech32_descriptor.specs.declared.error.CheckError.TheVariants.{InvalidCharacter}
use Rattle.bech32_descriptor.specs.declared.error.CheckError.TheVariants.{NoChecksum, WrongChecksum}

-- the characters of a descriptor, in three groups: two of 32, and one of 31, which ends in the
-- quotation mark, the backslash and the space
abbrev pub descriptor_characters : List ℕ
descriptor_characters =
    codes "0123456789()[],'/*abcdefgh@:$%{}" ++ codes "IJKLMNOPQRSTUVWXYZ&+-.;<=>?!^_|~"
    ++ codes "ijklmnopqrstuvwxyzABCDEFGH`#" ++ 34 ∷ 92 ∷ 32 ∷ []

-- how many of some bytes stand before the first that is this one; all, where none is
abbrev pub place_among : List ℕ → ℕ → ℕ
place_among [] b = 0
place_among (c ∷ cs) b = if b == c then 0 else suc (place_among cs b)

-- the place of a byte among the characters of a descriptor: 95 of one that is none
unfoldable pub place_of : ℕ → ℕ
place_of b = place_among descriptor_characters b

-- and among those of a checksum, which are the characters of Bech32: 32 of one that is none
unfoldable pub checksum_place_of : ℕ → ℕ
checksum_place_of b = place_among alphabet b

-- the number of a character's group, 0 to 2
abbrev pub group : ℕ → ℕ
group b = place_of b / 32

-- the place of a character in its group, as an element
abbrev pub symbol : ℕ → Fe32
symbol b = fe32.element (place_of b)

-- the symbols of characters: three give their three places and the number that their groups make,
-- so do one or two at the end
abbrev pub symbols : List ℕ → List Fe32
symbols [] = []
symbols (a ∷ []) = symbol a ∷ fe32.element (group a) ∷ []
symbols (a ∷ b ∷ []) = symbol a ∷ symbol b ∷ fe32.element (3 * group a + group b) ∷ []
symbols (a ∷ b ∷ c ∷ more) =
    symbol a ∷ symbol b ∷ symbol c ∷ fe32.element (9 * group a + 3 * group b + group c)
    ∷ symbols more

-- the element of a character of a checksum
abbrev pub checksum_symbol : ℕ → Fe32
checksum_symbol b = fe32.element (checksum_place_of b)

-- from its highest coefficient: one, the symbols of the characters, the elements of the checksum
abbrev pub polynomial : List ℕ → List ℕ → List Fe32
polynomial payload checksum =
    appended (appended (fe32.one ∷ []) (symbols payload)) (map checksum_symbol checksum)

-- a text without its last nine bytes, and its last eight
abbrev pub descriptor_payload : List ℕ → List ℕ
descriptor_payload text = take (length text - 9) text

abbrev pub checksum_in : List ℕ → List ℕ
checksum_in text = drop (length text - 8) text

abbrev pub polynomial_of : List ℕ → List Fe32
polynomial_of text = polynomial (descriptor_payload text) (checksum_in text)

-- the text ends in `#` and eight bytes
pub record HasParts (text : List ℕ) : Type 0 where
  pub long : 9 ≤ length text
  pub mark : get_or text (length text - 9) 0 ≡ 35

-- whether a byte is no character of a descriptor, and none of a checksum
abbrev pub is_stranger : ℕ → Bool
is_stranger b = nat_lt 94 (place_of b)

abbrev pub is_checksum_stranger : ℕ → Bool
is_checksum_stranger b = nat_lt 31 (checksum_place_of b)

-- the first place, where there is one
abbrev pub first_place_of : Option ℕ → Option ℕ → Option ℕ
first_place_of None o = o
first_place_of (Some i) o = Some i

-- a place, so many further back
abbrev pub further : ℕ → Option ℕ → Option ℕ
further n None = None
further n (Some i) = Some (n + i)

-- the place of the first byte that may not stand where it does
abbrev pub stranger_in : List ℕ → Option ℕ
stranger_in text =
    first_place_of (position is_stranger (descriptor_payload text))
    (further (length text - 8) (position is_checksum_stranger (checksum_in text)))

-- characters, `#`, and eight characters of a checksum
pub record IsDescriptorText (text : List ℕ) : Type 0 where
  pub parts : HasParts text
  pub characters_are : stranger_in text ≡ None

-- the same, and the polynomial leaves the target
pub record IsDescriptor (text : List ℕ) : Type 0 where
  pub grammar : IsDescriptorText text
  pub has_target :
      IsRemainder fe32.ops descriptor.generator (polynomial_of text) descriptor.target

-- eight characters are the checksum of characters: with them these are a descriptor, and with no
-- other eight
pub record IsChecksum (payload checksum : List ℕ) : Type 0 where
  pub characters_are : position is_stranger payload ≡ None
  pub size : length checksum ≡ 8
  pub right : IsDescriptor (payload ++ 35 ∷ checksum)
  pub only : (other : List ℕ) → length other ≡ 8 → IsDescriptor (payload ++ 35 ∷ other)
      → other ≡ checksum

-- why a text is no descriptor with its checksum, the first that applies
abbrev pub IsCheckRefusal : List ℕ → CheckError → Type 0
IsCheckRefusal text NoChecksum = ¬ HasParts text
IsCheckRefusal text (InvalidCharacter i) = HasParts text × (stranger_in text ≡ Some i)
IsCheckRefusal text WrongChecksum = IsDescriptorText text
    × ¬ IsRemainder fe32.ops descriptor.generator (polynomial_of text) descriptor.target

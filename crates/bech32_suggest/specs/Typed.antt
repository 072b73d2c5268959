-- A typed text, as it is read: `?` stands for a character that cannot be read.
use Rattle.std.specs.Prelude.{◌==◌, if◌then◌else◌, ℕ, List, [], ◌∷◌, map, length, ◌+◌}
use Rattle.bech32_refusals.specs.SegwitRules.{max_address_length}

-- the most characters of a text for which others are tried: one more than those of an address
abbrev pub max_typed_length : ℕ
max_typed_length = max_address_length + 1

-- a character as it is read: `?`, which cannot be read, as `0`
abbrev pub typed_character : ℕ → ℕ
typed_character c = if c == 63 then 48 else c

-- the text as it is read
abbrev pub as_read : List ℕ → List ℕ
as_read typed = map typed_character typed

-- the locations of the characters that cannot be read, of which 0 is the last
abbrev pub unread_locations : List ℕ → List ℕ
unread_locations [] = []
unread_locations (c ∷ cs) = if c == 63 then length cs ∷ unread_locations cs else unread_locations cs

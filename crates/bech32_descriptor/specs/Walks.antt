-- What walks over the places of a text keep: words, rows of words, and the edits that were found.
use Rattle.std.specs.Prelude.{◌≡◌, ◌≢◌, ◌<◌, ◌≤◌, ◌+◌, ◌-◌, ◌*◌, ◌/◌, ◌==◌, ℕ, Bool, List, []}
use Rattle.std.specs.Prelude.{◌∷◌, ◌++◌, bit_xor, get_or, if◌then◌else◌, length, min, nat_lt}
use Rattle.std.specs.Prelude.{slice_set}
use Rattle.bech32_gf.specs.Fe32 as fe32
use Rattle.bech32_gf.specs.Fe32.{ops}
use Rattle.bech32_gf.specs.declared.gf32.Fe32.{Fe32}
use Rattle.bech32_poly.specs.Division.{zeros}
use Rattle.bech32_descriptor.specs.Descriptor.{IsDescriptor, checksum_symbol, group}
use Rattle.bech32_descriptor.specs.Descriptor.{descriptor_payload, polynomial_of, symbol}
use Rattle.bech32_descriptor.specs.Edits.{IsMend, IsMendWithin, IsPrinted, byte_put}
use Rattle.bech32_descriptor.specs.Edits.{kind_of_change}
use Rattle.bech32_descriptor.specs.Words.{IsWordOfSymbols}
use Rattle.bech32_descriptor.specs.declared.edits.Change.{Change}
use Rattle.bech32_descriptor.specs.declared.edits.Change.TheVariants.{Changed, PutIn}
use Rattle.bech32_descriptor.specs.declared.edits.Edit.{Edit}

-- the polynomial times so high a power of x
abbrev pub times_power_of_x : ℕ → List Fe32 → List Fe32
times_power_of_x n p = zeros ops n ++ p

-- the words of all elements times 1, then of all times x, and so on
pub record AreRows (rows : List ℕ) : Type 0 where
  pub each : (x : ℕ) → x < length rows
      → IsWordOfSymbols (get_or rows x 0) (times_power_of_x (x / 32) (fe32.element x ∷ []))

-- how many words changes in a text of this length need
abbrev pub rows_for : ℕ → ℕ
rows_for n = 32 * (n + n / 3 + 8)

-- rows that suffice for a text of so many characters
pub record SufficeFor (rows : List ℕ) (n : ℕ) : Type 0 where
  pub few : n ≤ 7501
  pub enough : rows_for n ≤ length rows
  pub rows_are : AreRows rows

-- a text that may have a mark and a checksum, with its word, and rows that suffice for it
pub record IsReady (rows text : List ℕ) (word : ℕ) : Type 0 where
  pub long : 9 ≤ length text
  pub few : length text ≤ 7501
  pub enough : rows_for (length text) ≤ length rows
  pub rows_are : AreRows rows
  pub word_is : IsWordOfSymbols word (polynomial_of text)

-- the word of an element times a power of x
abbrev pub word_in : List ℕ → ℕ → Fe32 → ℕ
word_in rows power x = get_or rows (32 * power + x.value) 0

-- the number of symbols of so many characters
abbrev pub count : ℕ → ℕ
count n = n + (n + 2) / 3

-- the place of the first character of the three that this one is of, and that behind them
abbrev pub first_at : ℕ → ℕ
first_at i = 3 * (i / 3)

abbrev pub end_at : ℕ → ℕ → ℕ
end_at n i = min (first_at i + 3) n

-- how many symbols stand behind the number of those three's groups, and behind the symbol of the
-- character
abbrev pub behind_group : ℕ → ℕ → ℕ
behind_group n i = count (n - end_at n i)

abbrev pub behind_symbol : ℕ → ℕ → ℕ
behind_symbol n i = behind_group n i + (end_at n i - i)

-- the number that the groups of three characters make, or of the last one or two
abbrev pub group_number : ℕ → ℕ → ℕ → ℕ → ℕ
group_number left a b c =
    if left == 1 then a else (if left == 2 then 3 * a + b else 9 * a + 3 * b + c)

-- that of the characters from a place on
abbrev pub group_from : List ℕ → ℕ → ℕ
group_from payload i =
    group_number (length payload - i) (group (get_or payload i 0))
    (group (get_or payload (i + 1) 0)) (group (get_or payload (i + 2) 0))

-- the sum of the words of a text without its mark and checksum, and of the same with another byte
abbrev pub payload_change : List ℕ → List ℕ → ℕ → ℕ → ℕ
payload_change rows payload i b =
    let n = length payload in
    bit_xor
    (word_in rows (8 + behind_symbol n i) (fe32.add (symbol b) (symbol (get_or payload i 0))))
    (word_in rows (8 + behind_group n i)
    (fe32.add (fe32.element (group_from (slice_set payload i b) (first_at i)))
    (fe32.element (group_from payload (first_at i)))))

-- the same of a text
abbrev pub change_in : List ℕ → List ℕ → ℕ → ℕ → ℕ
change_in rows text i b =
    if nat_lt (i + 9) (length text) then payload_change rows (descriptor_payload text) i b
    else (if i + 9 == length text then 0
    else word_in rows (length text - 1 - i)
    (fe32.add (checksum_symbol b) (checksum_symbol (get_or text i 0))))

-- a mend of one kind
abbrev pub IsMendOfKind : ℕ → List ℕ → Edit → Type 0
IsMendOfKind k text edit = (kind_of_change edit.change ≡ k) × IsMend text edit

-- a mend of one kind at one place
abbrev pub IsMendAt : ℕ → List ℕ → ℕ → Edit → Type 0
IsMendAt k text i edit = IsMendOfKind k text edit × (edit.place ≡ i)

-- what puts a byte somewhere: it is put in, or another is changed to it
abbrev pub change_that : Bool → ℕ → Change
change_that put_in b = if put_in then PutIn b else Changed b

-- a character other than one is put at a place, where it makes a descriptor of the text there
pub record IsPutAt (put_in : Bool) (kept i : ℕ) (text : List ℕ) (edit : Edit) : Type 0 where
  pub place_is : edit.place ≡ i
  pub change_is : edit.change ≡ change_that put_in (byte_put edit.change)
  pub printed : IsPrinted (byte_put edit.change)
  pub other : byte_put edit.change ≢ kept
  pub right : IsDescriptor (slice_set text i (byte_put edit.change))

-- the same, and it is this one
abbrev pub IsPutBy : Bool → ℕ → ℕ → List ℕ → ℕ → Edit → Type 0
IsPutBy put_in kept i text b edit =
    IsPutAt put_in kept i text edit × (byte_put edit.change ≡ b)

-- one of one kind that changes at most so many characters
abbrev pub IsWithinOfKind : ℕ → ℕ → List ℕ → Edit → Type 0
IsWithinOfKind k most text edit = (kind_of_change edit.change ≡ k) × IsMendWithin most text edit

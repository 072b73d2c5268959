-- What walks over the elements of a text keep: packed remainders, and the edits that were found.
use Rattle.std.specs.Prelude.{◌≡◌, ◌+◌, ◌≤◌, ◌-◌, ℕ, List, ◌∷◌, ◌++◌}
use Rattle.std.specs.Prelude.{drop, get_or, length, replicate, take, MatchResult, Result}
use Rattle.bech32_gf.specs.Fe32 as fe32
use Rattle.bech32_gf.specs.Fe32.{elements_of, ops}
use Rattle.bech32_gf.specs.declared.gf32.Fe32.{Fe32}
use Rattle.bech32_poly.specs.Division.{zeros}
use Rattle.bech32_poly.specs.Remainder.{IsRemainder}
use Rattle.bech32_checksum.specs.Code.{Code, IsResidueOf}
use Rattle.bech32_checksum.specs.Packed.{HasDigits}
use Rattle.bech32_checksum.specs.Encoded.{spelled}
use Rattle.bech32_checksum.specs.TextPolynomial.{text_polynomial}
use Rattle.bech32_decode.specs.Text.{IsText}
use Rattle.bech32_hrp.specs.HrpBytes.{hrp_bytes}
use Rattle.bech32_hrp.specs.declared.Hrp.{Hrp}
use Rattle.bech32_near.specs.edits.Edits.{AreAllOf, IsEdit, IsToldEdit, kind, value_put}
use Rattle.bech32_near.specs.declared.edits.edit.Edit.{Edit}

-- the packed word is the remainder of the polynomial, and has no bit above it
pub record IsWordOf {R : Type 0} (number : R → ℕ) (code : Code) (word : R) (p : List Fe32)
    : Type 0 where
  pub residue : IsResidueOf number code word p
  pub clear : HasDigits (length code.generator) (number word)

-- the polynomial times so high a power of x
abbrev pub times_power : ℕ → List Fe32 → List Fe32
times_power n p = zeros ops n ++ p

-- the words are the remainders of this many powers of x, from this one on, times 1, 2, 4, 8 and 16
pub record ArePowers {R : Type 0} (number : R → ℕ) (code : Code) (n count : ℕ)
    (one two four eight sixteen : R) : Type 0 where
  pub of_one : IsResidueOf number code one (times_power n (replicate count (fe32.element 1)))
  pub of_two : IsResidueOf number code two (times_power n (replicate count (fe32.element 2)))
  pub of_four : IsResidueOf number code four (times_power n (replicate count (fe32.element 4)))
  pub of_eight : IsResidueOf number code eight (times_power n (replicate count (fe32.element 8)))
  pub of_sixteen :
      IsResidueOf number code sixteen (times_power n (replicate count (fe32.element 16)))

-- the remainder of the polynomial is the target
abbrev pub LeavesTarget : Code → List Fe32 → Type 0
LeavesTarget code p = IsRemainder ops code.generator p code.target

-- a text with this human-readable part and this many characters of data is not longer than the
-- code, and has room for the checksum
abbrev pub HasLengthsFor : Code → List ℕ → ℕ → Type 0
HasLengthsFor code hrp n = (length hrp + 1 + n ≤ code.code_length) × (length code.generator ≤ n)

-- the checksum accepts the text of this human-readable part and these elements
pub record IsAcceptedData (code : Code) (hrp : List ℕ) (elements : List Fe32) : Type 0 where
  pub lengths : HasLengthsFor code hrp (length elements)
  pub has_target : LeavesTarget code (text_polynomial hrp elements)

-- the edit is told, and the checksum accepts what it makes
abbrev pub IsAcceptedEdit : Code → List ℕ → List Fe32 → Edit → Type 0
IsAcceptedEdit code hrp old edit =
    (new : List Fe32) × IsToldEdit edit old new × IsAcceptedData code hrp new

-- such an edit of one kind
abbrev pub IsAcceptedOfKind : ℕ → Code → List ℕ → List Fe32 → Edit → Type 0
IsAcceptedOfKind k code hrp old edit =
    (kind edit.change ≡ k) × IsAcceptedEdit code hrp old edit

-- there is such an edit
abbrev pub HasAcceptedEdit : Code → List ℕ → List Fe32 → Type 0
HasAcceptedEdit code hrp old = (edit : Edit) × IsAcceptedEdit code hrp old edit

-- all such edits of one kind that there are of a text were put behind those that were found; where
-- memory runs out, there is such an edit
abbrev pub AddsOfKind : {E : Type 0} → ℕ → Code → Hrp → List ℕ → (old new : List Edit)
    → Result (Unit {0}) E → Type 0
AddsOfKind {E} k code hrp characters old new result =
    MatchResult result
    (λ _. (edits : List Edit) × (new ≡ old ++ edits)
    × AreAllOf (IsAcceptedOfKind k code (hrp_bytes hrp) (elements_of characters)) edits)
    (λ _. HasAcceptedEdit code (hrp_bytes hrp) (elements_of characters))

-- such an edit of one kind, at one location
abbrev pub IsAcceptedAt : ℕ → Code → List ℕ → List Fe32 → ℕ → Edit → Type 0
IsAcceptedAt k code hrp old location edit =
    IsAcceptedOfKind k code hrp old edit × (edit.location ≡ location)

-- such an edit that puts in the element of one value
abbrev pub IsAcceptedValue : Code → List ℕ → List Fe32 → ℕ → ℕ → Edit → Type 0
IsAcceptedValue code hrp old location value edit =
    IsAcceptedAt 2 code hrp old location edit × (value_put edit.change ≡ value)

-- the elements above a location, and those below it
abbrev pub above : ℕ → List Fe32 → List Fe32
above location elements = take (length elements - location) elements

abbrev pub below : ℕ → List Fe32 → List Fe32
below location elements = drop (length elements - location) elements

-- the element at a location, of which 0 is that of the last
abbrev pub element_in : ℕ → List Fe32 → Fe32
element_in location elements = get_or elements (length elements - 1 - location) fe32.zero

-- the polynomial without the element at a location, and with a zero put in there
abbrev pub without_one : List ℕ → List Fe32 → ℕ → List Fe32
without_one hrp elements location =
    text_polynomial hrp (above (location + 1) elements ++ below location elements)

abbrev pub with_zero : List ℕ → List Fe32 → ℕ → List Fe32
with_zero hrp elements location =
    text_polynomial hrp (above location elements ++ fe32.zero ∷ below location elements)

-- P, where a text with one character more is not longer than the code, the word is the remainder
-- with a zero put in at the location, and these are the remainders of the power of x there
abbrev pub WherePutIn : {R : Type 0} → (R → ℕ) → Code → List ℕ → List ℕ → ℕ → R
    → (one two four eight sixteen : R) → Type 0 → Type 0
WherePutIn number code hrp characters location word one two four eight sixteen P =
    HasLengthsFor code hrp (length characters + 1)
    → IsWordOf number code word (with_zero hrp (elements_of characters) location)
    → ArePowers number code location 1 one two four eight sixteen → P

-- the edit makes some elements of those of the text
abbrev pub IsEditOf : List ℕ → Edit → Type 0
IsEditOf text edit = (hrp : List ℕ) × (data_part : List ℕ) × (new : List Fe32)
    × IsText text hrp data_part × IsEdit edit (elements_of data_part) new

-- the text is that of all elements that the edit makes of those of the other text
abbrev pub IsMadeText : Edit → List ℕ → List ℕ → Type 0
IsMadeText edit text made = (hrp : List ℕ) (data_part : List ℕ) (new : List Fe32)
    → IsText text hrp data_part → IsEdit edit (elements_of data_part) new
    → made ≡ spelled hrp new

-- The string at an index that texts give put into a buffer, and why none is.
use Rattle.std.specs.Prelude.{◌≡◌, ◌⊎◌, ◌<◌, ◌≤◌, ◌+◌, ◌==◌, ◌&&◌, nat_le, ℕ, Bool, true}
use Rattle.std.specs.Prelude.{false, List, [], ◌∷◌, length, take, drop, None, Some}
use Rattle.std.specs.List.{sum}
use Rattle.bech32_encode.specs.Buffers.{IsPut}
use Rattle.bech32_gf.specs.Fe32.{element_of}
use Rattle.codex32.specs.Derive.{DoContradict, IsDeriveIntoRefusal, IsDerivedString}
use Rattle.codex32.specs.Derive.{IsStringOfSet, IsWholeSet, size_of}
use Rattle.codex32.specs.Share.{AreSharesOf, IsEither}
use Rattle.codex32.specs.declared.share.Share.{Share}
use Rattle.codex32_calls.specs.Encode.{share_index_number_fault}
use Rattle.codex32_calls.specs.Share.{IsEitherFault}
use Rattle.codex32_calls.specs.declared.refusal.Refusal.{Refusal}
use Rattle.codex32_calls.specs.declared.refusal.Refusal.TheVariants as refusals

-- whether these are the lengths of at most 32 texts, one behind another
abbrev pub are_lengths : List ℕ → List ℕ → Bool
are_lengths texts lengths = nat_le (length lengths) 32 && sum lengths == length texts

-- the texts of these lengths, one behind another
abbrev pub texts_of : List ℕ → List ℕ → List (List ℕ)
texts_of texts [] = []
texts_of texts (n ∷ ns) = take n texts ∷ texts_of (drop n texts) ns

-- the first text that is no string of either length is refused so
abbrev pub IsTextsFault : List (List ℕ) → Refusal → Type 0
IsTextsFault [] e = ⊥
IsTextsFault (t ∷ ts) e = IsEitherFault t e ⊎ (IsEither t × IsTextsFault ts e)

-- the text is the string at an index that the shares of texts give
pub record IsDerivedOf (share_index : ℕ) (texts : List (List ℕ)) (text : List ℕ) : Type 0 where
  pub shares : List Share
  pub are : AreSharesOf texts shares
  pub whole : IsWholeSet shares (element_of share_index)
  pub is_derived : IsDerivedString shares (element_of share_index) text
  pub is_string : IsStringOfSet shares (element_of share_index) text

-- nothing is wrong with the lengths and the number of the share index
pub record IsAsked (share_index : ℕ) (texts lengths : List ℕ) : Type 0 where
  pub lengths_are : are_lengths texts lengths ≡ true
  pub index_is : share_index_number_fault share_index ≡ None

-- it is put into a buffer
pub record PutsDerived (share_index : ℕ) (texts lengths old new : List ℕ) (count : ℕ)
    : Type 0 where
  pub asked : IsAsked share_index texts lengths
  pub text : List ℕ
  pub is_text : IsDerivedOf share_index (texts_of texts lengths) text
  pub put : IsPut text old new count

-- Texts give a string at an index, and a buffer of this many bytes has room for it: each is a
-- string of either length; their shares are a whole set, which does not contradict itself. The
-- string is as long as each of them: three characters, and those of its elements.
pub record CanDerive (share_index : ℕ) (texts lengths : List ℕ) (room : ℕ) : Type 0 where
  pub asked : IsAsked share_index texts lengths
  pub shares : List Share
  pub are : AreSharesOf (texts_of texts lengths) shares
  pub whole : IsWholeSet shares (element_of share_index)
  pub agree : DoContradict shares → ⊥
  pub fits : 3 + size_of shares ≤ room

-- the string does not fit in a buffer of this many bytes
pub record LacksRoomForDerived (share_index : ℕ) (texts lengths : List ℕ) (room : ℕ)
    : Type 0 where
  pub asked : IsAsked share_index texts lengths
  pub text : List ℕ
  pub is_text : IsDerivedOf share_index (texts_of texts lengths) text
  pub lacks : room < length text

-- why texts give no string at an index, the first of: a text, in their order; what their shares are
-- refused for
abbrev pub IsTextsRefusal : ℕ → List (List ℕ) → Refusal → Type 0
IsTextsRefusal share_index texts (refusals.Derive e) =
    (shares : List Share) × AreSharesOf texts shares
    × IsDeriveIntoRefusal shares (element_of share_index) e
IsTextsRefusal share_index texts e = IsTextsFault texts e

-- why none is put into a buffer of this many bytes, the first of: the lengths, the share index,
-- that, too little room
abbrev pub IsDeriveFault : ℕ → List ℕ → List ℕ → ℕ → Refusal → Type 0
IsDeriveFault share_index texts lengths room refusals.BadLengths =
    are_lengths texts lengths ≡ false
IsDeriveFault share_index texts lengths room (refusals.Header e) =
    (are_lengths texts lengths ≡ true) × (share_index_number_fault share_index ≡ Some e)
IsDeriveFault share_index texts lengths room refusals.NoRoom =
    LacksRoomForDerived share_index texts lengths room
IsDeriveFault share_index texts lengths room e =
    IsAsked share_index texts lengths × IsTextsRefusal share_index (texts_of texts lengths) e

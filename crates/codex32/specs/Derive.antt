-- The strings that shares of one set give (BIP-93, Recovering Secret), and why they give none.
use Rattle.std.specs.Prelude.{◌≡◌, ◌⊎◌, nat_lt, ℕ}
use Rattle.std.specs.Prelude.{true, false, List, [], ◌∷◌, length, map, MatchResult, Result}
use Rattle.std.specs.List.{AllByRecursion}
use Rattle.bech32_gf.specs.Fe32 as fe32
use Rattle.bech32_gf.specs.Fe32.{elements_of}
use Rattle.bech32_gf.specs.declared.gf32.Fe32.{Fe32}
use Rattle.bech32_poly.specs.Distinct.{IsOnce}
use Rattle.bech32_checksum.specs.Encoded.{spelled}
use Rattle.codex32_steady.specs.shares.Shares.{DoAgree, IsGiven}
use Rattle.codex32.specs.HeaderParts.{points_of, secret_index, threshold_number}
use Rattle.codex32.specs.Share.{characters_of_share, identifier_of_share, index_of_share}
use Rattle.codex32.specs.Share.{IsShareString, threshold_of_share}
use Rattle.codex32.specs.ShareParts.{ms}
use Rattle.codex32.specs.declared.error.DeriveError.{DeriveError}
use Rattle.codex32.specs.declared.error.DeriveError.TheVariants as refusals
use Rattle.codex32.specs.declared.share.Share.{Share}

-- ---- a set

-- the indices of shares
abbrev pub indices_of : List Share → List Fe32
indices_of shares = map index_of_share shares

-- their elements, all behind the separator
abbrev pub rows_of : List Share → List (List Fe32)
rows_of shares = map (λ s. elements_of (characters_of_share s)) shares

-- the number of elements of each, by the first
abbrev pub size_of : List Share → ℕ
size_of [] = 0
size_of (s ∷ ss) = length (characters_of_share s)

-- how many of them give the others, by the first: the threshold, or one where that is 0
abbrev pub count_of : List Share → ℕ
count_of [] = 1
count_of (s ∷ ss) = points_of (threshold_of_share s)

-- two shares are of one set: they have the same threshold, identifier and length
pub record IsOfSet (first other : Share) : Type 0 where
  pub threshold : threshold_of_share other ≡ threshold_of_share first
  pub identifier : identifier_of_share other ≡ identifier_of_share first
  pub size : length (characters_of_share other) ≡ length (characters_of_share first)

-- all are of one set
abbrev pub AreOfSet : List Share → Type 0
AreOfSet [] = Unit {0}
AreOfSet (s ∷ ss) = AllByRecursion (IsOfSet s) (s ∷ ss)

-- ---- what they give

-- the string at the index x: at each place, one polynomial of degree below the threshold has the
-- elements of all shares at their indices, and the string's at x. It is spelled in lower case.
pub record IsDerivedString (shares : List Share) (x : Fe32) (text : List ℕ) : Type 0 where
  pub elements : List Fe32
  pub given : IsGiven fe32.ops (count_of shares) (indices_of shares) (rows_of shares)
      (size_of shares) x elements
  pub spelling : text ≡ spelled ms elements

-- the text is a string of either length with the threshold and the identifier of the first share,
-- at the index x
abbrev pub IsStringOfSet : List Share → Fe32 → List ℕ → Type 0
IsStringOfSet [] x text = ⊥
IsStringOfSet (s ∷ ss) x text =
    (payload : List ℕ)
    × IsShareString text (threshold_of_share s) (identifier_of_share s) x payload

-- the elements of the shares contradict each other: at some place, no polynomial of degree below
-- the threshold has those of all
abbrev pub DoContradict : List Share → Type 0
DoContradict shares =
    DoAgree fe32.ops (count_of shares) (indices_of shares) (rows_of shares) (size_of shares) → ⊥

-- ---- why they give none

-- the threshold is 0, and the index is not `s`
abbrev pub IsUnshared : List Share → Fe32 → Type 0
IsUnshared [] x = ⊥
IsUnshared (s ∷ ss) x = (threshold_number (threshold_of_share s) ≡ 0) × (x ≡ secret_index → ⊥)

-- of the indices, or of their number, nothing is wrong
pub record IsWholeSet (shares : List Share) (x : Fe32) : Type 0 where
  pub set : AreOfSet shares
  pub once : IsOnce (indices_of shares)
  pub shared : IsUnshared shares x → ⊥
  pub enough : nat_lt (length shares) (count_of shares) ≡ false

-- what is wrong with shares but for their elements, the first of: they are not of one set, an index
-- stands twice, the threshold is 0 and the index asked for is not `s`, they are too few
abbrev pub IsSetRefusal : List Share → Fe32 → DeriveError → Type 0
IsSetRefusal shares x e =
    ((e ≡ refusals.OtherSet) × (AreOfSet shares → ⊥))
    ⊎ (((e ≡ refusals.IndexTwice) × AreOfSet shares × (IsOnce (indices_of shares) → ⊥))
    ⊎ (((e ≡ refusals.Unshared) × AreOfSet shares × IsOnce (indices_of shares)
    × IsUnshared shares x)
    ⊎ ((e ≡ refusals.TooFew) × AreOfSet shares × IsOnce (indices_of shares)
    × (IsUnshared shares x → ⊥) × (nat_lt (length shares) (count_of shares) ≡ true))))

-- why shares give no string: the first of these; that they contradict each other; or, where nothing
-- of that is, out of memory
abbrev pub IsDeriveRefusal : List Share → Fe32 → DeriveError → Type 0
IsDeriveRefusal shares x e =
    IsSetRefusal shares x e
    ⊎ (((e ≡ refusals.Contradiction) × IsWholeSet shares x × DoContradict shares)
    ⊎ ((e ≡ refusals.Memory) × IsWholeSet shares x × (DoContradict shares → ⊥)))

-- the same where no memory is taken
abbrev pub IsDeriveIntoRefusal : List Share → Fe32 → DeriveError → Type 0
IsDeriveIntoRefusal shares x e =
    IsSetRefusal shares x e
    ⊎ ((e ≡ refusals.Contradiction) × IsWholeSet shares x × DoContradict shares)

-- shares give a string where nothing is wrong with them, and else are refused so
abbrev pub IsDerivedOrRefused : {A : Type 0} → (List Share → Fe32 → DeriveError → Type 0)
    → List Share → Fe32 → Result A DeriveError → Type 0
IsDerivedOrRefused IsRefusal shares x result =
    MatchResult result
    (λ _. IsWholeSet shares x × (DoContradict shares → ⊥))
    (λ e. IsRefusal shares x e)

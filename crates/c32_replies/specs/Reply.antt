-- What may be said of a request. Of lines that ask for nothing `line_program` says it.
use Rattle.std.specs.Prelude.{◌≡◌, ◌⊎◌, ◌<◌, ◌≤◌, ℕ, List, [], ◌∷◌, ◌++◌, codes, length, map}
use Rattle.std.specs.Prelude.{◌||◌, true, Option, None, Some, Result, Vec, vec_capacity}
use Rattle.std.specs.Global.{Global}
use Rattle.std.specs.List.{AllByRecursion}
use Rattle.bech32_bits.specs.Bits.{to_bytes}
use Rattle.bech32_checksum.specs.Encoded.{char_of_element}
use Rattle.bech32_gf.specs.Fe32.{elements_of}
use Rattle.bech32_gf.specs.declared.gf32.Fe32.{Fe32}
use Rattle.b32_replies.specs.Hex.{bytes_of, hex_of}
use Rattle.codex32.specs.Derive.{IsDeriveRefusal, IsDerivedString, IsStringOfSet}
use Rattle.codex32.specs.Derive.{IsWholeSet}
use Rattle.codex32.specs.Encode.{IsEncodeStringRefusal, IsEncodedString}
use Rattle.codex32.specs.Encode.{is_byte_count, is_long_byte_count}
use Rattle.codex32.specs.Header.{identifier_of_header, share_index_of_header}
use Rattle.codex32.specs.Header.{threshold_of_header}
use Rattle.codex32.specs.HeaderParts.{header_word_fault, identifier_elements, secret_index}
use Rattle.codex32.specs.HeaderParts.{share_index_of_word, share_index_word_fault}
use Rattle.codex32.specs.HeaderParts.{threshold_word}
use Rattle.codex32.specs.Nearest.{IsNearestLongText, IsNearestText, IsProposeLongRefusal}
use Rattle.codex32.specs.Damaged.{read_text}
use Rattle.codex32.specs.Nearest.{IsProposeRefusal}
use Rattle.codex32.specs.Share.{AreSharesOf, IsEither, IsShareRefusal, IsShareString}
use Rattle.codex32.specs.ShareParts.{bits_left_over}
use Rattle.codex32.specs.Strings.{IsString, IsStringRefusal, frame_refusal}
use Rattle.codex32.specs.Strings.{long_frame_refusal}
use Rattle.codex32.specs.declared.error.Codex32Error.{Codex32Error}
use Rattle.codex32.specs.declared.error.Codex32Error.TheVariants as text_errors
use Rattle.codex32.specs.declared.header.Header.{Header}
use Rattle.codex32.specs.declared.identifier.Identifier.{Identifier}
use Rattle.codex32.specs.declared.share.Share.{Share as CodexShare}
use Rattle.codex32.specs.declared.threshold.Threshold.{Threshold}
use Rattle.codex32.specs.Numbers.{number_of_codex32_error, number_of_header_error}
use Rattle.line_program.specs.Added.{AddsOrRefuses}
use Rattle.line_program.specs.Refused.{SaysRefusal}
use Rattle.c32_replies.specs.Numbers.{number_of_codex32_reply}
use Rattle.c32_replies.specs.Request.{Codex32Request, Parse, Propose, ProposeLong, Share}
use Rattle.c32_replies.specs.Request.{Encode, Derive, Recover, Split}
use Rattle.c32_replies.specs.Split.{IsSplitAnswer}
use Rattle.c32_replies.specs.declared.refusal.Refusal.{Refusal}
use Rattle.c32_replies.specs.declared.refusal.Refusal.TheVariants as refusals

-- what may be said is added, or nothing is, and the refusal with the error's number may be said;
-- the output keeps its room
pub record AddsAnswer {E : Type 0} (Says : List ℕ → Type 0) (number_of : E → ℕ)
    (result : Result (Unit {0}) E) (old new : Vec ℕ Global) : Type 0 where
  pub answer : AddsOrRefuses Says number_of result old.items new.items
  pub capacity : vec_capacity old ≤ vec_capacity new

-- the parts of a codex32 string are said, which are the text's own characters: the threshold, the
-- identifier, the share index and the payload
pub record SaysParts (text said : List ℕ) : Type 0 where
  pub hrp : List ℕ
  pub threshold : ℕ
  pub identifier : List ℕ
  pub share_index : ℕ
  pub payload : List ℕ
  pub checksum : List ℕ
  pub is_string : IsString text hrp threshold identifier share_index payload checksum
  pub spelling :
      said ≡ codes "ok " ++ (threshold ∷ 32 ∷ (identifier ++ (32 ∷ share_index ∷ 32 ∷ payload)))

-- the answer to `parse`, which allocates nothing
abbrev pub IsParseAnswer : List ℕ → List ℕ → Type 0
IsParseAnswer text said =
    SaysParts text said ⊎ SaysRefusal (IsStringRefusal text) number_of_codex32_error said

-- the nearest text is said, in lower case, of a text that has its grammar, its length and its
-- human-readable part right
pub record SaysNearest (IsNearest : List ℕ → List ℕ → Type 0)
    (fault : List ℕ → Option Codex32Error) (text said : List ℕ) : Type 0 where
  pub framed : fault (read_text text) ≡ None
  pub nearest : List ℕ
  pub is_nearest : IsNearest text nearest
  pub spelling : said ≡ codes "some " ++ nearest

-- said is that there is none, of a text that has its grammar, its length and its
-- human-readable part right
pub record SaysNoNearest (IsNearest : List ℕ → List ℕ → Type 0)
    (fault : List ℕ → Option Codex32Error) (text said : List ℕ) : Type 0 where
  pub none : (nearest : List ℕ) → IsNearest text nearest → ⊥
  pub framed : fault (read_text text) ≡ None
  pub spelling : said ≡ codes "none"

-- the answer to `propose`. It is refused for what is wrong with the text, or, where that has its
-- grammar, its length and its human-readable part right, out of memory
abbrev pub IsProposeAnswer : List ℕ → List ℕ → Type 0
IsProposeAnswer text said =
    SaysNearest IsNearestText frame_refusal text said
    ⊎ (SaysNoNearest IsNearestText frame_refusal text said
    ⊎ SaysRefusal (IsProposeRefusal text) number_of_codex32_error said)

-- the answer to `propose-long`
abbrev pub IsProposeLongAnswer : List ℕ → List ℕ → Type 0
IsProposeLongAnswer text said =
    SaysNearest IsNearestLongText long_frame_refusal text said
    ⊎ (SaysNoNearest IsNearestLongText long_frame_refusal text said
    ⊎ SaysRefusal (IsProposeLongRefusal text) number_of_codex32_error said)

-- the words for a header, in lower case, with a space behind each
abbrev pub header_words : Threshold → Identifier → Fe32 → List ℕ
header_words t i x =
    threshold_word t ++ (32 ∷ (map char_of_element (identifier_elements i)
    ++ (32 ∷ char_of_element x ∷ 32 ∷ [])))

-- the header and the bytes of a string of either length are said; at most four bits are left over
-- behind these
pub record SaysShare (text said : List ℕ) : Type 0 where
  pub threshold : Threshold
  pub identifier : Identifier
  pub share_index : Fe32
  pub payload : List ℕ
  pub is_string : IsShareString text threshold identifier share_index payload
  pub few : bits_left_over (length payload) ≤ 4
  pub spelling : said ≡ codes "ok " ++ (header_words threshold identifier share_index
      ++ hex_of (to_bytes (elements_of payload)))

-- why `share` is refused: the text is no string of either length; or it is one, and more than four
-- bits are left over behind the bytes of its payload
abbrev pub IsShareLineRefusal : List ℕ → Refusal → Type 0
IsShareLineRefusal text (refusals.Text e) = IsShareRefusal text e
IsShareLineRefusal text (refusals.Payload e) =
    (t : Threshold) × (i : Identifier) × (x : Fe32) × (payload : List ℕ)
    × IsShareString text t i x payload × (4 < bits_left_over (length payload))
IsShareLineRefusal text _ = ⊥

-- the answer to `share`, which allocates nothing
abbrev pub IsShareAnswer : List ℕ → List ℕ → Type 0
IsShareAnswer text said =
    SaysShare text said ⊎ SaysRefusal (IsShareLineRefusal text) number_of_codex32_reply said

-- the words for a header are those of this one
pub record AreWordsOf (threshold identifier share_index : List ℕ) (header : Header) : Type 0 where
  pub threshold_is : threshold ≡ threshold_word (threshold_of_header header)
  pub identifier_is :
      identifier_elements (identifier_of_header header) ≡ elements_of identifier
  pub share_index_is : share_index_of_header header ≡ share_index_of_word share_index

-- the string of a header and bytes, of which a string has that many, is said
pub record SaysEncoded (threshold identifier share_index hex said : List ℕ) : Type 0 where
  pub header : Header
  pub words : AreWordsOf threshold identifier share_index header
  pub fine : header_word_fault threshold identifier share_index ≡ None
  pub bytes : List ℕ
  pub digits : bytes_of hex ≡ Some bytes
  pub counted : is_byte_count (length bytes) || is_long_byte_count (length bytes) ≡ true
  pub text : List ℕ
  pub is_encoded : IsEncodedString header bytes text
  pub spelling : said ≡ codes "ok " ++ text

-- why `encode` is refused, the first of: the word for the bytes, the words for the header, the
-- number of the bytes, out of memory
abbrev pub IsEncodeLineRefusal : List ℕ → List ℕ → List ℕ → List ℕ → Refusal → Type 0
IsEncodeLineRefusal threshold identifier share_index hex refusals.BadHex = bytes_of hex ≡ None
IsEncodeLineRefusal threshold identifier share_index hex (refusals.Header e) =
    (bytes : List ℕ) × (bytes_of hex ≡ Some bytes)
    × (header_word_fault threshold identifier share_index ≡ Some e)
IsEncodeLineRefusal threshold identifier share_index hex (refusals.Encode e) =
    (bytes : List ℕ) × (bytes_of hex ≡ Some bytes)
    × (header_word_fault threshold identifier share_index ≡ None)
    × IsEncodeStringRefusal (length bytes) e
IsEncodeLineRefusal threshold identifier share_index hex _ = ⊥

-- the answer to `encode`
abbrev pub IsEncodeStringAnswer : List ℕ → List ℕ → List ℕ → List ℕ → List ℕ → Type 0
IsEncodeStringAnswer threshold identifier share_index hex said =
    SaysEncoded threshold identifier share_index hex said
    ⊎ SaysRefusal (IsEncodeLineRefusal threshold identifier share_index hex)
    number_of_codex32_reply said

-- each text is a string of either length
abbrev pub AreTexts : List (List ℕ) → Type 0
AreTexts texts = AllByRecursion IsEither texts

-- the first text that is no string of either length is refused so
abbrev pub IsTextRefusal : List (List ℕ) → Codex32Error → Type 0
IsTextRefusal [] e = ⊥
IsTextRefusal (t ∷ ts) e = IsShareRefusal t e ⊎ (IsEither t × IsTextRefusal ts e)

-- the string at an index that the shares of texts give, which are a whole set, is said
pub record SaysDerived (x : Fe32) (texts : List (List ℕ)) (said : List ℕ) : Type 0 where
  pub shares : List CodexShare
  pub are : AreSharesOf texts shares
  pub whole : IsWholeSet shares x
  pub text : List ℕ
  pub is_derived : IsDerivedString shares x text
  pub is_string : IsStringOfSet shares x text
  pub spelling : said ≡ codes "ok " ++ text

-- why no string is derived from texts, the first of: a text, in their order; what their shares are
-- refused for. Out of memory is said only where each text is a string
abbrev pub IsSharesRefusal : Fe32 → List (List ℕ) → Refusal → Type 0
IsSharesRefusal x texts (refusals.Text e) =
    IsTextRefusal texts e ⊎ ((e ≡ text_errors.Memory) × AreTexts texts)
IsSharesRefusal x texts (refusals.Derive e) =
    (shares : List CodexShare) × AreSharesOf texts shares × IsDeriveRefusal shares x e
IsSharesRefusal x texts _ = ⊥

-- the answer to texts at an index
abbrev pub IsSharesAnswer : Fe32 → List (List ℕ) → List ℕ → Type 0
IsSharesAnswer x texts said =
    SaysDerived x texts said ⊎ SaysRefusal (IsSharesRefusal x texts) number_of_codex32_reply said

-- the answer to `derive`: a word that is no share index is refused first
abbrev pub IsDeriveAnswer : List ℕ → List (List ℕ) → List ℕ → Type 0
IsDeriveAnswer share_index texts said =
    SaysRefusal (λ e. share_index_word_fault share_index ≡ Some e) number_of_header_error said
    ⊎ ((share_index_word_fault share_index ≡ None)
    × IsSharesAnswer (share_index_of_word share_index) texts said)

-- the answer to a request
abbrev pub IsCodex32Answer : Codex32Request → List ℕ → Type 0
IsCodex32Answer (Parse text) said = IsParseAnswer text said
IsCodex32Answer (Propose text) said = IsProposeAnswer text said
IsCodex32Answer (ProposeLong text) said = IsProposeLongAnswer text said
IsCodex32Answer (Share text) said = IsShareAnswer text said
IsCodex32Answer (Encode threshold identifier share_index hex) said =
    IsEncodeStringAnswer threshold identifier share_index hex said
IsCodex32Answer (Derive share_index texts) said = IsDeriveAnswer share_index texts said
IsCodex32Answer (Recover texts) said = IsSharesAnswer secret_index texts said
IsCodex32Answer (Split asked) said = IsSplitAnswer asked said

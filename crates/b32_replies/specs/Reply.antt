-- What may be said of a line.
use Rattle.std.specs.Prelude.{◌≡◌, ◌≢◌, ◌<◌, ◌≤◌, ◌⊎◌, ℕ, List, [], ◌∷◌}
use Rattle.std.specs.Prelude.{◌++◌, codes, length, MatchOption, Some}
use Rattle.std.specs.Fmt.{decimal}
use Rattle.bech32_gf.specs.declared.gf32.Fe32.{Fe32}
use Rattle.bech32_bits.specs.Bits.{to_fes}
use Rattle.bech32_checksum.specs.Code.{Code}
use Rattle.bech32_hrp.specs.Hrp.{IsHrp, lowered, hrp_refusal}
use Rattle.bech32_decode.specs.Acceptance.{Accepts, IsDecoded}
use Rattle.bech32_checksum.specs.Encoded.{IsEncodedText, char_of_element}
use Rattle.bech32_checksum.specs.Roots.{singleton_bound}
use Rattle.bech32_correction.specs.Mistyped.{HasNoListing, IsListingOf, IsMendedText, IsRefusal}
use Rattle.bech32_encode.specs.TextLength.{encoded_length_of}
use Rattle.bech32.specs.Elements.{AreValues, Fits, IsElementsEncodeRefusal, IsElementsDecodeRefusal}
use Rattle.bech32.specs.Elements.{elements_in}
use Rattle.bech32.specs.Refusals.{IsDecodeRefusal, IsEncodeRefusal}
use Rattle.bech32.specs.Spelling.{IsSpelledBy, IsStrictRefusal}
use Rattle.bech32_decode.specs.Segwit.{IsLowerAddress, IsAddress}
use Rattle.bech32_segwit.specs.SegwitDecoding.{IsSegwitDecodeRefusal}
use Rattle.bech32_segwit.specs.SegwitEncoding.{IsSegwitEncodeRefusal}
use Rattle.bech32_segwit.specs.declared.error.EncodeError.{EncodeError as SegwitEncodeError}
use Rattle.bech32_segwit.specs.declared.error.EncodeError.TheVariants.{Memory as no_address_memory}
use Rattle.blech32.specs.Words.{blech32_code}
use Rattle.liquid.specs.Confidential.{IsDecodedConfidential, IsLowerConfidential}
use Rattle.liquid.specs.Numbers.{number_of_confidential_encode_error, number_of_confidential_error}
use Rattle.liquid.specs.Refusals.{IsConfidentialRefusal}
use Rattle.liquid.specs.Writing.{IsConfidentialEncodeRefusal}
use Rattle.liquid.specs.declared.error.EncodeError.{EncodeError as ConfidentialEncodeError}
use Rattle.liquid.specs.declared.error.EncodeError.TheVariants.{Memory as no_confidential_memory}
use Rattle.line_program.specs.Refused.{SaysRefusal, err}
use Rattle.line_program.specs.Reply.{IsReplyBy}
use Rattle.b32_replies.specs.Hex.{AreBytes, bytes_of, hex_of}
use Rattle.bech32_numbers.specs.Numbers.{number_of_checked_error, number_of_hrp_error}
use Rattle.bech32_numbers.specs.Numbers.{number_of_decode_error, number_of_elements_error}
use Rattle.bech32_numbers.specs.Numbers.{number_of_text_decode_error}
use Rattle.bech32_numbers.specs.Numbers.{number_of_segwit_decode_error}
use Rattle.bech32_numbers.specs.Numbers.{number_of_segwit_encode_error}
use Rattle.b32_replies.specs.Numbers.{number_of_reply}
use Rattle.b32_replies.specs.declared.long_command.Kind.{Kind}
use Rattle.b32_replies.specs.declared.long_command.Kind.TheVariants.{Bytes, Elements}
use Rattle.b32_replies.specs.declared.refusal.Refusal.{Refusal}
use Rattle.b32_replies.specs.declared.refusal.Refusal.TheVariants.{Encode as EncodeRefusal}
use Rattle.b32_replies.specs.declared.refusal.Refusal.TheVariants.{Elements as ElementsRefusal}
use Rattle.bech32_refusals.specs.declared.texts.EncodeError.TheVariants.{Memory as no_encode_memory}
use Rattle.bech32_refusals.specs.declared.texts.ElementsError.TheVariants.{
  Memory as no_elements_memory,
}
use Rattle.bech32_refusals.specs.declared.texts.TextError.{TextError}
use Rattle.b32_replies.specs.Locations.{AreLocations, IsNoListOfLocations}
use Rattle.b32_replies.specs.Request.{Request, Encode, Decode, SegwitEncode, SegwitDecode}
use Rattle.b32_replies.specs.Request.{DecodeStrict, EncodeElements, DecodeElements}
use Rattle.b32_replies.specs.Request.{Correct, CorrectAt, code_of_name}
use Rattle.b32_replies.specs.LongRequest.{LongRequest, LongEncode, LongDecode, LiquidEncode}
use Rattle.b32_replies.specs.LongRequest.{LiquidDecode, LineRequest, Short, Long, code_of_long}
use Rattle.b32_replies.specs.LongRequest.{line_request_of, long_request_of}

-- the text of a human-readable part and bytes is said
pub record SaysText (code : Code) (hrp bytes said : List ℕ) : Type 0 where
  pub text : List ℕ
  pub is_text : IsEncodedText code hrp (to_fes bytes) text
  pub fits : encoded_length_of code hrp (to_fes bytes) ≤ code.code_length
  pub spelling : said ≡ codes "ok " ++ text

-- the answer to `encode`: bad hex is refused, then a bad human-readable part, then a text that is
-- longer than the code
abbrev pub IsEncodeAnswer : Code → List ℕ → List ℕ → List ℕ → Type 0
IsEncodeAnswer code hrp hex said =
    MatchOption (bytes_of hex)
    (said ≡ err 5)
    (λ bytes. MatchOption (hrp_refusal hrp)
    (SaysText code hrp bytes said
    ⊎ ((code.code_length < encoded_length_of code hrp (to_fes bytes)) × (said ≡ err 51)))
    (λ error. said ≡ err (number_of_hrp_error error)))

-- the human-readable part of a text is said, in lower case, and its bytes
pub record SaysBytes (text said : List ℕ) : Type 0 where
  pub hrp : List ℕ
  pub bytes : List ℕ
  pub is_decoded : IsDecoded text hrp bytes
  pub spelling : said ≡ codes "ok " ++ (lowered hrp ++ (32 ∷ hex_of bytes))

-- the answer to `decode`: out of memory only for a text that is accepted
abbrev pub IsDecodeAnswer : List ℕ → List ℕ → Type 0
IsDecodeAnswer text said =
    SaysBytes text said ⊎ SaysRefusal (IsDecodeRefusal text) number_of_decode_error said

-- the human-readable part, in lower case, and the bytes are said that the text is the only
-- spelling of
pub record SaysOnlyBytes (code : Code) (text said : List ℕ) : Type 0 where
  pub hrp : List ℕ
  pub bytes : List ℕ
  pub is_spelled : IsSpelledBy code text hrp (to_fes bytes)
  pub spelling : said ≡ codes "ok " ++ (lowered hrp ++ (32 ∷ hex_of bytes))

-- the answer to `decode-strict`
abbrev pub IsStrictAnswer : Code → List ℕ → List ℕ → Type 0
IsStrictAnswer code text said =
    SaysOnlyBytes code text said
    ⊎ SaysRefusal (IsStrictRefusal code text) number_of_text_decode_error said

-- the human-readable part of a text is said, in lower case, and its elements
pub record SaysElements (code : Code) (text said : List ℕ) : Type 0 where
  pub hrp : List ℕ
  pub values : List ℕ
  pub is_spelled : IsSpelledBy code text hrp (elements_in values)
  pub are_values : AreValues values
  pub spelling : said ≡ codes "ok " ++ (lowered hrp ++ (32 ∷ hex_of values))

-- the answer to `decode-elements`
abbrev pub IsElementsAnswer : Code → List ℕ → List ℕ → Type 0
IsElementsAnswer code text said =
    SaysElements code text said
    ⊎ SaysRefusal (IsElementsDecodeRefusal code text) number_of_text_decode_error said

-- the text of a human-readable part and elements is said
pub record SaysTextOfElements (code : Code) (hrp values said : List ℕ) : Type 0 where
  pub text : List ℕ
  pub is_text : IsEncodedText code hrp (elements_in values) text
  pub fits : Fits code hrp values
  pub are_values : AreValues values
  pub spelling : said ≡ codes "ok " ++ text

-- the answer to `encode-elements`: bad hex is refused, then a bad human-readable part; out of
-- memory only where nothing else is refused
abbrev pub IsEncodeElementsAnswer : Code → List ℕ → List ℕ → List ℕ → Type 0
IsEncodeElementsAnswer code hrp hex said =
    MatchOption (bytes_of hex)
    (said ≡ err 5)
    (λ values. MatchOption (hrp_refusal hrp)
    (SaysTextOfElements code hrp values said
    ⊎ SaysRefusal (IsElementsEncodeRefusal code hrp values) number_of_elements_error said)
    (λ error. said ≡ err (number_of_hrp_error error)))

-- the word is the number of a version, in decimal
abbrev pub IsVersionWord : List ℕ → Fe32 → Type 0
IsVersionWord word version = word ≡ decimal version.value

-- it is that of none
abbrev pub IsNoVersion : List ℕ → Type 0
IsNoVersion word = (version : Fe32) → IsVersionWord word version → ⊥

-- the address of a human-readable part, a version and a program is said
pub record SaysAddress (hrp : List ℕ) (version : Fe32) (program said : List ℕ) : Type 0 where
  pub text : List ℕ
  pub is_address : IsLowerAddress hrp version program text
  pub spelling : said ≡ codes "ok " ++ text

-- why the address of these is not written: `segwit-encode` allocates nothing
abbrev pub IsEncodedAddressFault : List ℕ → Fe32 → List ℕ → SegwitEncodeError → Type 0
IsEncodedAddressFault hrp version program e =
    IsSegwitEncodeRefusal hrp version program e × (e ≢ no_address_memory)

-- the answer to `segwit-encode` with this version: bad hex is refused, then
-- a bad human-readable part
abbrev pub IsVersionedAnswer : List ℕ → Fe32 → List ℕ → List ℕ → Type 0
IsVersionedAnswer hrp version hex said =
    MatchOption (bytes_of hex)
    (said ≡ err 5)
    (λ program. MatchOption (hrp_refusal hrp)
    (SaysAddress hrp version program said
    ⊎ SaysRefusal (IsEncodedAddressFault hrp version program) number_of_segwit_encode_error said)
    (λ error. said ≡ err (number_of_hrp_error error)))

-- and with any word: a bad number is refused first
abbrev pub IsSegwitEncodeAnswer : List ℕ → List ℕ → List ℕ → List ℕ → Type 0
IsSegwitEncodeAnswer hrp word hex said =
    (IsNoVersion word × (said ≡ err 4))
    ⊎ ((version : Fe32) × IsVersionWord word version × IsVersionedAnswer hrp version hex said)

-- the human-readable part of an address is said, in lower case, its version and its program
pub record SaysProgram (text said : List ℕ) : Type 0 where
  pub hrp : List ℕ
  pub version : Fe32
  pub program : List ℕ
  pub is_hrp : IsHrp hrp
  pub are_bytes : AreBytes program
  pub is_address : IsAddress hrp version program text
  pub spelling :
      said ≡ codes "ok " ++ (lowered hrp ++ (32 ∷ (decimal version.value ++ (32 ∷ hex_of program))))

-- the answer to `segwit-decode`
abbrev pub IsSegwitDecodeAnswer : List ℕ → List ℕ → Type 0
IsSegwitDecodeAnswer text said =
    SaysProgram text said
    ⊎ SaysRefusal (IsSegwitDecodeRefusal text) number_of_segwit_decode_error said

-- said is that the checksum accepts the text
pub record SaysFine (code : Code) (text said : List ℕ) : Type 0 where
  pub accepted : Accepts code text
  pub spelling : said ≡ codes "fine"

-- the items of a listing: each location, a colon, the lower-case character of the
-- element to add, and a space
abbrev pub listed : List (ℕ × Fe32) → List ℕ
listed [] = []
listed (p ∷ more) = (decimal p.0 ++ (58 ∷ char_of_element p.1 ∷ 32 ∷ [])) ++ listed more

-- said is how the text is to be mended, and the mended text, which the checksum accepts
pub record SaysMended (code : Code) (text given said : List ℕ) : Type 0 where
  pub listing : List (ℕ × Fe32)
  pub is_listing : IsListingOf code (singleton_bound 24 26) text given listing
  pub mended_text : List ℕ
  pub is_mended : IsMendedText listing text mended_text
  pub accepted : Accepts code mended_text
  pub spelling : said ≡ codes "ok " ++ (listed listing ++ mended_text)

-- said is that no pattern in the data part solves the residue
pub record SaysNone (code : Code) (text given said : List ℕ) : Type 0 where
  pub none : HasNoListing code (singleton_bound 24 26) text given
  pub spelling : said ≡ codes "none"

-- the answer to `correct`, where these locations are the erasures; a refusal is not for the residue
abbrev pub IsCorrectAnswer : Code → List ℕ → List ℕ → List ℕ → Type 0
IsCorrectAnswer code text given said =
    SaysFine code text said ⊎ (SaysMended code text given said
    ⊎ (SaysNone code text given said
    ⊎ SaysRefusal (IsRefusal code text) number_of_checked_error said))

-- the same where a word lists the locations: a word that lists none is refused
abbrev pub IsCorrectAtAnswer : Code → List ℕ → List ℕ → List ℕ → Type 0
IsCorrectAtAnswer code text word said =
    (IsNoListOfLocations word × (said ≡ err 4))
    ⊎ ((given : List ℕ) × AreLocations word given × IsCorrectAnswer code text given said)

-- the answer to a request
abbrev pub IsAnswer : Request → List ℕ → Type 0
IsAnswer (Encode checksum hrp hex) said = IsEncodeAnswer (code_of_name checksum) hrp hex said
IsAnswer (Decode text) said = IsDecodeAnswer text said
IsAnswer (DecodeStrict checksum text) said = IsStrictAnswer (code_of_name checksum) text said
IsAnswer (EncodeElements checksum hrp hex) said =
    IsEncodeElementsAnswer (code_of_name checksum) hrp hex said
IsAnswer (DecodeElements checksum text) said = IsElementsAnswer (code_of_name checksum) text said
IsAnswer (SegwitEncode hrp version hex) said = IsSegwitEncodeAnswer hrp version hex said
IsAnswer (SegwitDecode text) said = IsSegwitDecodeAnswer text said
IsAnswer (Correct checksum text) said = IsCorrectAnswer (code_of_name checksum) text [] said
IsAnswer (CorrectAt checksum text word) said =
    IsCorrectAtAnswer (code_of_name checksum) text word said

-- ---- long texts and confidential addresses

-- the elements of bytes, or of the numbers of elements
abbrev pub elements_by : Kind → List ℕ → List Fe32
elements_by Bytes values = to_fes values
elements_by Elements values = elements_in values

-- numbers that may be so
abbrev pub MayBe : Kind → List ℕ → Type 0
MayBe Bytes values = Unit {0}
MayBe Elements values = AreValues values

-- the text of a human-readable part and data, which fits in the code
pub record IsLongWritten (kind : Kind) (code : Code) (hrp values text : List ℕ)
    : Type 0 where
  pub is_text : IsEncodedText code hrp (elements_by kind values) text
  pub fits : encoded_length_of code hrp (elements_by kind values) ≤ code.code_length
  pub may_be : MayBe kind values

-- why it is not written
abbrev pub IsNotWritten : Kind → Code → List ℕ → List ℕ → Refusal → Type 0
IsNotWritten Bytes code hrp values (EncodeRefusal e) = IsEncodeRefusal code hrp (to_fes values) e
IsNotWritten Elements code hrp values (ElementsRefusal e) =
    IsElementsEncodeRefusal code hrp values e
IsNotWritten kind code hrp values _ = ⊥

-- the refusal of a text for which there is no memory
abbrev pub memory_refusal : Kind → Refusal
memory_refusal Bytes = EncodeRefusal no_encode_memory
memory_refusal Elements = ElementsRefusal no_elements_memory

-- the text is said
pub record SaysWritten (kind : Kind) (code : Code) (hrp values said : List ℕ) : Type 0 where
  pub text : List ℕ
  pub written : IsLongWritten kind code hrp values text
  pub spelling : said ≡ codes "ok " ++ text

-- the answer to `encode` and `encode-elements` of long texts: bad hex is refused, then a bad
-- human-readable part; out of memory only where nothing else is refused
abbrev pub IsLongEncodeAnswer : Kind → Code → List ℕ → List ℕ → List ℕ → Type 0
IsLongEncodeAnswer kind code hrp hex said =
    MatchOption (bytes_of hex)
    (said ≡ err 5)
    (λ values. MatchOption (hrp_refusal hrp)
    (SaysWritten kind code hrp values said
    ⊎ SaysRefusal (IsNotWritten kind code hrp values) number_of_reply said)
    (λ error. said ≡ err (number_of_hrp_error error)))

-- the text is the only spelling of a human-readable part and data
pub record IsLongRead (kind : Kind) (code : Code) (text hrp values : List ℕ) : Type 0 where
  pub is_spelled : IsSpelledBy code text hrp (elements_by kind values)
  pub may_be : MayBe kind values

-- why it is that of none
abbrev pub IsNotRead : Kind → Code → List ℕ → TextError → Type 0
IsNotRead Bytes code text e = IsStrictRefusal code text e
IsNotRead Elements code text e = IsElementsDecodeRefusal code text e

-- the human-readable part, in lower case, and the data are said
pub record SaysRead (kind : Kind) (code : Code) (text said : List ℕ) : Type 0 where
  pub hrp : List ℕ
  pub values : List ℕ
  pub is_read : IsLongRead kind code text hrp values
  pub spelling : said ≡ codes "ok " ++ (lowered hrp ++ (32 ∷ hex_of values))

-- the answer to `decode-strict` and `decode-elements` of long texts
abbrev pub IsLongDecodeAnswer : Kind → Code → List ℕ → List ℕ → Type 0
IsLongDecodeAnswer kind code text said =
    SaysRead kind code text said
    ⊎ SaysRefusal (IsNotRead kind code text) number_of_text_decode_error said

-- the word is the bytes of a blinding key
abbrev pub IsKeyWord : List ℕ → List ℕ → Type 0
IsKeyWord word key = (bytes_of word ≡ Some key) × (length key ≡ 33)

-- it is those of none
abbrev pub IsNoKey : List ℕ → Type 0
IsNoKey word = (key : List ℕ) → IsKeyWord word key → ⊥

-- the confidential address of a human-readable part, a version, a blinding key and a program is
-- said
pub record SaysConfidential (hrp : List ℕ) (version : Fe32) (key program said : List ℕ)
    : Type 0 where
  pub text : List ℕ
  pub is_address : IsLowerConfidential blech32_code hrp version key program text
  pub spelling : said ≡ codes "ok " ++ text

-- why there is no confidential address: `liquid-encode` allocates nothing
abbrev pub IsEncodedConfidentialFault : Fe32 → ℕ → ConfidentialEncodeError → Type 0
IsEncodedConfidentialFault version n e =
    IsConfidentialEncodeRefusal version n e × (e ≢ no_confidential_memory)

-- the answer to `liquid-encode` with this version and this blinding key: bad hex is refused, then a
-- bad human-readable part
abbrev pub IsKeyedAnswer : List ℕ → Fe32 → List ℕ → List ℕ → List ℕ → Type 0
IsKeyedAnswer hrp version key hex said =
    MatchOption (bytes_of hex)
    (said ≡ err 5)
    (λ program. MatchOption (hrp_refusal hrp)
    (SaysConfidential hrp version key program said
    ⊎ SaysRefusal (IsEncodedConfidentialFault version (length program))
    number_of_confidential_encode_error said)
    (λ error. said ≡ err (number_of_hrp_error error)))

-- and with any words: a bad number is refused first, then a word that is no blinding key
abbrev pub IsLiquidEncodeAnswer : List ℕ → List ℕ → List ℕ → List ℕ → List ℕ → Type 0
IsLiquidEncodeAnswer hrp number key_word hex said =
    (IsNoVersion number × (said ≡ err 4))
    ⊎ ((version : Fe32) × IsVersionWord number version
    × ((IsNoKey key_word × (said ≡ err 5))
    ⊎ ((key : List ℕ) × IsKeyWord key_word key × IsKeyedAnswer hrp version key hex said)))

-- the parts of a confidential address are said: its human-readable part, in lower case, its
-- version, its blinding key and its program
pub record SaysConfidentialParts (text said : List ℕ) : Type 0 where
  pub hrp : List ℕ
  pub version : Fe32
  pub key : List ℕ
  pub program : List ℕ
  pub decoded : IsDecodedConfidential blech32_code text hrp version key program
  pub are_bytes : AreBytes key × AreBytes program
  pub spelling : said ≡ codes "ok " ++ (lowered hrp ++ (32 ∷ (decimal version.value
      ++ (32 ∷ (hex_of key ++ (32 ∷ hex_of program))))))

-- the answer to `liquid-decode`
abbrev pub IsLiquidDecodeAnswer : List ℕ → List ℕ → Type 0
IsLiquidDecodeAnswer text said =
    SaysConfidentialParts text said
    ⊎ SaysRefusal (IsConfidentialRefusal blech32_code text) number_of_confidential_error said

-- the answer to such a request
abbrev pub IsLongAnswer : LongRequest → List ℕ → Type 0
IsLongAnswer (LongEncode kind checksum hrp hex) said =
    IsLongEncodeAnswer kind (code_of_long checksum) hrp hex said
IsLongAnswer (LongDecode kind checksum text) said =
    IsLongDecodeAnswer kind (code_of_long checksum) text said
IsLongAnswer (LiquidEncode hrp version key hex) said =
    IsLiquidEncodeAnswer hrp version key hex said
IsLongAnswer (LiquidDecode text) said = IsLiquidDecodeAnswer text said

-- ---- lines

-- what may be said of a line that is no other command: it is such a request, or none
abbrev pub IsLongOutcome : List ℕ → List ℕ → Type 0
IsLongOutcome line said =
    MatchOption (long_request_of line) (said ≡ err 3) (λ request. IsLongAnswer request said)

-- the answer to a request of either kind
abbrev pub IsLineAnswer : LineRequest → List ℕ → Type 0
IsLineAnswer (Short request) said = IsAnswer request said
IsLineAnswer (Long request) said = IsLongAnswer request said

-- a line may have this many bytes
abbrev pub line_limit : ℕ
line_limit = 4096

-- what may be said of a line
abbrev pub IsReply : List ℕ → List ℕ → Type 0
IsReply line said = IsReplyBy line_limit line_request_of IsLineAnswer line said

-- What a line asks for: its first word names a command, the others are its arguments.
use Rattle.std.specs.Prelude.{ℕ, if◌then◌else◌, List, [], ◌∷◌, codes, Option, Some, None}
use Rattle.std.specs.List.{list_any}
use Rattle.std.specs.Str.{bytes_eq}
use Rattle.bech32_checksum.specs.Code.{Code, bech32, bech32m}
use Rattle.b32_replies.specs.declared.command.ChecksumName.{ChecksumName}
use Rattle.b32_replies.specs.declared.command.ChecksumName.TheVariants.{Bech32, Bech32m}
use Rattle.b32_replies.specs.declared.command.Command.{Command}
use Rattle.b32_replies.specs.declared.command.Command.TheVariants.{Encode as EncodeCommand}
use Rattle.b32_replies.specs.declared.command.Command.TheVariants.{Decode as DecodeCommand}
use Rattle.b32_replies.specs.declared.command.Command.TheVariants.{
  DecodeBy as DecodeByCommand,
  EncodeElements as EncodeElementsCommand,
}
use Rattle.b32_replies.specs.declared.command.Command.TheVariants.{
  SegwitEncode as SegwitEncodeCommand,
  SegwitDecode as SegwitDecodeCommand,
}
use Rattle.b32_replies.specs.declared.command.Command.TheVariants.{Correct as CorrectCommand}
use Rattle.b32_replies.specs.declared.command.Command.TheVariants.{CorrectAt as CorrectAtCommand}
use Rattle.b32_replies.specs.declared.content.Content.{Content}
use Rattle.b32_replies.specs.declared.content.Content.TheVariants.{Bytes, Elements}
use Rattle.line_program.specs.Words.{is_empty, request_by}

-- the text of bytes, or the bytes of a text, which may have to be the only one of them; the text of
-- elements, or the elements of a text; the segwit address of a program, or the program of an
-- address; a mistyped text mended, with or without erasures; each argument as its word
pub data Request : Type 0 where
  Encode : (checksum : ChecksumName) (hrp hex : List ℕ) → Request
  Decode : (text : List ℕ) → Request
  DecodeStrict : (checksum : ChecksumName) (text : List ℕ) → Request
  EncodeElements : (checksum : ChecksumName) (hrp hex : List ℕ) → Request
  DecodeElements : (checksum : ChecksumName) (text : List ℕ) → Request
  SegwitEncode : (hrp version hex : List ℕ) → Request
  SegwitDecode : (text : List ℕ) → Request
  Correct : (checksum : ChecksumName) (text : List ℕ) → Request
  CorrectAt : (checksum : ChecksumName) (text locations : List ℕ) → Request

-- the checksum of a word
abbrev pub checksum_of_word : List ℕ → Option ChecksumName
checksum_of_word word =
    if bytes_eq word (codes "bech32") then Some Bech32
    else (if bytes_eq word (codes "bech32m") then Some Bech32m else None)

-- what a checksum's name stands for
abbrev pub code_of_name : ChecksumName → Code
code_of_name Bech32 = bech32
code_of_name Bech32m = bech32m

-- the text of bytes by the checksum of a word, if it is one
abbrev pub encode_under : Option ChecksumName → List ℕ → List ℕ → Option Request
encode_under None hrp hex = None
encode_under (Some checksum) hrp hex = Some (Encode checksum hrp hex)

-- `encode CHECKSUM HRP HEX`
abbrev pub encode_request : List (List ℕ) → Option Request
encode_request (checksum ∷ hrp ∷ hex ∷ []) = encode_under (checksum_of_word checksum) hrp hex
encode_request _ = None

-- `decode TEXT`
abbrev pub decode_request : List (List ℕ) → Option Request
decode_request (text ∷ []) = Some (Decode text)
decode_request _ = None

-- the bytes or the elements of a text by a checksum
abbrev pub content_request : Content → ChecksumName → List ℕ → Request
content_request Bytes checksum text = DecodeStrict checksum text
content_request Elements checksum text = DecodeElements checksum text

-- the same by the checksum of a word, if it is one
abbrev pub decode_by_under : Content → Option ChecksumName → List ℕ → Option Request
decode_by_under content None text = None
decode_by_under content (Some checksum) text = Some (content_request content checksum text)

-- `decode-strict CHECKSUM TEXT` and `decode-elements CHECKSUM TEXT`
abbrev pub decode_by_request : Content → List (List ℕ) → Option Request
decode_by_request content (checksum ∷ text ∷ []) =
    decode_by_under content (checksum_of_word checksum) text
decode_by_request content _ = None

-- the text of elements by the checksum of a word, if it is one
abbrev pub encode_elements_under : Option ChecksumName → List ℕ → List ℕ → Option Request
encode_elements_under None hrp hex = None
encode_elements_under (Some checksum) hrp hex = Some (EncodeElements checksum hrp hex)

-- `encode-elements CHECKSUM HRP HEX`
abbrev pub encode_elements_request : List (List ℕ) → Option Request
encode_elements_request (checksum ∷ hrp ∷ hex ∷ []) =
    encode_elements_under (checksum_of_word checksum) hrp hex
encode_elements_request _ = None

-- `segwit-encode HRP VERSION HEX`
abbrev pub segwit_encode_request : List (List ℕ) → Option Request
segwit_encode_request (hrp ∷ version ∷ hex ∷ []) = Some (SegwitEncode hrp version hex)
segwit_encode_request _ = None

-- `segwit-decode TEXT`
abbrev pub segwit_decode_request : List (List ℕ) → Option Request
segwit_decode_request (text ∷ []) = Some (SegwitDecode text)
segwit_decode_request _ = None

-- a text to be mended by the checksum of a word, if it is one
abbrev pub correct_under : Option ChecksumName → List ℕ → Option Request
correct_under None text = None
correct_under (Some checksum) text = Some (Correct checksum text)

-- the same with erasures
abbrev pub correct_at_under : Option ChecksumName → List ℕ → List ℕ → Option Request
correct_at_under None text locations = None
correct_at_under (Some checksum) text locations = Some (CorrectAt checksum text locations)

-- `correct CHECKSUM TEXT` and `correct CHECKSUM TEXT LOCATIONS`
abbrev pub correct_request : List (List ℕ) → Option Request
correct_request (checksum ∷ text ∷ []) = correct_under (checksum_of_word checksum) text
correct_request (checksum ∷ text ∷ locations ∷ []) =
    correct_at_under (checksum_of_word checksum) text locations
correct_request _ = None

-- what the words behind `correct` ask for, of which none is empty
abbrev pub correct_arguments : List (List ℕ) → Option Request
correct_arguments arguments =
    if list_any is_empty arguments then None else correct_request arguments

-- what those behind `decode-strict` and `decode-elements` do
abbrev pub decode_by_arguments : Content → List (List ℕ) → Option Request
decode_by_arguments content arguments =
    if list_any is_empty arguments then None else decode_by_request content arguments

-- what those behind `encode-elements` do
abbrev pub encode_elements_arguments : List (List ℕ) → Option Request
encode_elements_arguments arguments =
    if list_any is_empty arguments then None else encode_elements_request arguments

-- what words ask for
abbrev pub request_of_words : List (List ℕ) → Option Request
request_of_words [] = None
request_of_words (name ∷ arguments) =
    if bytes_eq name (codes "encode") then encode_request arguments
    else (if bytes_eq name (codes "decode") then decode_request arguments
    else (if bytes_eq name (codes "segwit-encode") then segwit_encode_request arguments
    else (if bytes_eq name (codes "segwit-decode") then segwit_decode_request arguments
    else (if bytes_eq name (codes "correct") then correct_request arguments
    else (if bytes_eq name (codes "decode-strict") then decode_by_request Bytes arguments
    else (if bytes_eq name (codes "encode-elements") then encode_elements_request arguments
    else (if bytes_eq name (codes "decode-elements") then decode_by_request Elements arguments
    else None)))))))

-- what a line asks for, which has no empty word
abbrev pub request_of : List ℕ → Option Request
request_of line = request_by request_of_words line

-- what a command asks for
abbrev pub request_of_command : Command → Request
request_of_command (EncodeCommand checksum hrp hex) = Encode checksum hrp.now hex.now
request_of_command (DecodeCommand text) = Decode text.now
request_of_command (DecodeByCommand checksum text content) =
    content_request content checksum text.now
request_of_command (EncodeElementsCommand checksum hrp hex) =
    EncodeElements checksum hrp.now hex.now
request_of_command (SegwitEncodeCommand hrp version hex) = SegwitEncode hrp.now version.now hex.now
request_of_command (SegwitDecodeCommand text) = SegwitDecode text.now
request_of_command (CorrectCommand checksum text) = Correct checksum text.now
request_of_command (CorrectAtCommand checksum text locations) =
    CorrectAt checksum text.now locations.now

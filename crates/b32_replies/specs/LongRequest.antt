-- What a line asks for by a checksum of long texts, or of a confidential address of Liquid.
use Rattle.std.specs.Prelude.{ℕ, if◌then◌else◌, List, [], ◌∷◌, codes, Option, Some, None}
use Rattle.std.specs.Str.{bytes_eq}
use Rattle.bech32_checksum.specs.Code.{Code}
use Rattle.bech32.specs.Long.{long_bech32, long_bech32m}
use Rattle.b32_replies.specs.declared.long_command.LongChecksum.{LongChecksum}
use Rattle.b32_replies.specs.declared.long_command.LongChecksum.TheVariants.{LongBech32}
use Rattle.b32_replies.specs.declared.long_command.LongChecksum.TheVariants.{LongBech32m}
use Rattle.b32_replies.specs.declared.long_command.Kind.{Kind}
use Rattle.b32_replies.specs.declared.long_command.Kind.TheVariants.{Bytes, Elements}
use Rattle.b32_replies.specs.declared.long_command.LongCommand.{LongCommand}
use Rattle.b32_replies.specs.declared.long_command.LongCommand.TheVariants as commands
use Rattle.b32_replies.specs.Counted.{four_of, one_of, three_of, two_of}
use Rattle.b32_replies.specs.Request.{Request, request_of}
use Rattle.line_program.specs.Words.{words}

-- the text of a human-readable part and bytes, or elements, or what a text is the only one of; a
-- confidential address, or its parts; each argument as its word
pub data LongRequest : Type 0 where
  LongEncode : (kind : Kind) (checksum : LongChecksum) (hrp hex : List ℕ) → LongRequest
  LongDecode : (kind : Kind) (checksum : LongChecksum) (text : List ℕ) → LongRequest
  LiquidEncode : (hrp version key hex : List ℕ) → LongRequest
  LiquidDecode : (text : List ℕ) → LongRequest

-- the checksum of a word
abbrev pub long_checksum_of_word : List ℕ → Option LongChecksum
long_checksum_of_word word =
    if bytes_eq word (codes "long-bech32") then Some LongBech32
    else (if bytes_eq word (codes "long-bech32m") then Some LongBech32m else None)

-- what a checksum's name stands for
abbrev pub code_of_long : LongChecksum → Code
code_of_long LongBech32 = long_bech32
code_of_long LongBech32m = long_bech32m

-- a checksum before what is there
abbrev pub with_checksum : {A : Type 0} → Option LongChecksum → A → Option (LongChecksum × A)
with_checksum None others = None
with_checksum (Some checksum) others = Some (checksum, others)

-- words of which the first names a checksum
abbrev pub by_long : {A : Type 0} → Option (List ℕ × A) → Option (LongChecksum × A)
by_long None = None
by_long (Some found) = with_checksum (long_checksum_of_word found.0) found.1

-- what arguments ask for, where they are as many as it takes
abbrev pub long_asks : {A : Type 0} → (A → LongRequest) → Option A → Option LongRequest
long_asks request None = None
long_asks request (Some arguments) = Some (request arguments)

-- what words ask for: `encode CHECKSUM HRP HEX`, `encode-elements CHECKSUM HRP HEX`,
-- `decode-strict CHECKSUM TEXT`, `decode-elements CHECKSUM TEXT`, `liquid-encode HRP VERSION KEY
-- HEX`, `liquid-decode TEXT`
abbrev pub long_request_of_words : List (List ℕ) → Option LongRequest
long_request_of_words [] = None
long_request_of_words (name ∷ others) =
    if bytes_eq name (codes "encode")
    then long_asks (λ a. LongEncode Bytes a.0 a.1.0 a.1.1) (by_long (three_of others))
    else (if bytes_eq name (codes "encode-elements")
    then long_asks (λ a. LongEncode Elements a.0 a.1.0 a.1.1) (by_long (three_of others))
    else (if bytes_eq name (codes "decode-strict")
    then long_asks (λ a. LongDecode Bytes a.0 a.1) (by_long (two_of others))
    else (if bytes_eq name (codes "decode-elements")
    then long_asks (λ a. LongDecode Elements a.0 a.1) (by_long (two_of others))
    else (if bytes_eq name (codes "liquid-encode")
    then long_asks (λ a. LiquidEncode a.0 a.1.0 a.1.1.0 a.1.1.1) (four_of others)
    else (if bytes_eq name (codes "liquid-decode") then long_asks LiquidDecode (one_of others)
    else None)))))

-- what a line asks for
abbrev pub long_request_of : List ℕ → Option LongRequest
long_request_of line = long_request_of_words (words line)

-- what a command asks for
abbrev pub request_of_long : LongCommand → LongRequest
request_of_long (commands.Encode kind a) = LongEncode kind a.0 a.1.0.now a.1.1.now
request_of_long (commands.Decode kind a) = LongDecode kind a.0 a.1.now
request_of_long (commands.LiquidEncode a) =
    LiquidEncode a.0.now a.1.0.now a.1.1.0.now a.1.1.1.now
request_of_long (commands.LiquidDecode text) = LiquidDecode text.now

-- ---- any line

-- a request of either kind
pub data LineRequest : Type 0 where
  Short : (request : Request) → LineRequest
  Long : (request : LongRequest) → LineRequest

-- a request of the first kind, or else of the other
abbrev pub or_long : Option Request → Option LongRequest → Option LineRequest
or_long (Some request) other = Some (Short request)
or_long None None = None
or_long None (Some request) = Some (Long request)

-- what a line asks for
abbrev pub line_request_of : List ℕ → Option LineRequest
line_request_of line = or_long (request_of line) (long_request_of line)

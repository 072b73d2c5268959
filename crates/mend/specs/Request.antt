-- What a line asks for: its first word names a command, the others are its arguments.
use Rattle.std.specs.Prelude.{◌==◌, ℕ, if◌then◌else◌, List, [], ◌∷◌, codes, Option, Some, None}
use Rattle.std.specs.List.{list_any}
use Rattle.std.specs.Str.{bytes_eq}
use Rattle.b32_replies.specs.Request.{checksum_of_word}
use Rattle.b32_replies.specs.declared.command.ChecksumName.{ChecksumName}
use Rattle.b32_replies.specs.Counted.{three_of, two_of}
use Rattle.line_program.specs.Words.{is_empty, request_by, words}
use Rattle.mend.specs.declared.command.Command.{Command}
use Rattle.mend.specs.declared.command.Command.TheVariants as commands

-- the texts near one, with or without locations that are known to be wrong; the texts that one edit
-- makes of one; why a checksum refuses a text; the addresses with a human-readable part that
-- someone who typed a text may have meant; which checksum accepts a text; the confidential
-- addresses near a text, with or without locations; the descriptors that one edit makes of a text,
-- why a text is no descriptor, the checksum of one; each argument as its word
pub data MendRequest : Type 0 where
  Nearest : (checksum : ChecksumName) (text errors : List ℕ) → MendRequest
  NearestAt : (checksum : ChecksumName) (text locations errors : List ℕ) → MendRequest
  Edits : (checksum : ChecksumName) (text : List ℕ) → MendRequest
  Fault : (checksum : ChecksumName) (text : List ℕ) → MendRequest
  Suggest : (part text : List ℕ) → MendRequest
  Checksum : (text : List ℕ) → MendRequest
  Liquid : (text errors : List ℕ) → MendRequest
  LiquidAt : (text locations errors : List ℕ) → MendRequest
  Descriptor : (text : List ℕ) → MendRequest
  DescriptorCheck : (text : List ℕ) → MendRequest
  DescriptorChecksum : (text : List ℕ) → MendRequest

-- how many errors a word allows
abbrev pub errors_of_word : List ℕ → Option ℕ
errors_of_word word =
    if bytes_eq word (codes "0") then Some 0
    else (if bytes_eq word (codes "1") then Some 1
    else (if bytes_eq word (codes "2") then Some 2 else None))

-- a request by the checksum of a word, if it is one
abbrev pub by_checksum : Option ChecksumName → (ChecksumName → MendRequest) → Option MendRequest
by_checksum None request = None
by_checksum (Some checksum) request = Some (request checksum)

-- `nearest CHECKSUM TEXT ERRORS` and `nearest CHECKSUM TEXT LOCATIONS ERRORS`
abbrev pub nearest_request : List (List ℕ) → Option MendRequest
nearest_request (checksum ∷ text ∷ errors ∷ []) =
    by_checksum (checksum_of_word checksum) (λ name. Nearest name text errors)
nearest_request (checksum ∷ text ∷ locations ∷ errors ∷ []) =
    by_checksum (checksum_of_word checksum) (λ name. NearestAt name text locations errors)
nearest_request _ = None

-- `edits CHECKSUM TEXT` and `fault CHECKSUM TEXT`
abbrev pub text_request : (ChecksumName → List ℕ → MendRequest) → List (List ℕ)
    → Option MendRequest
text_request request (checksum ∷ text ∷ []) =
    by_checksum (checksum_of_word checksum) (λ name. request name text)
text_request request _ = None

-- `suggest PART TEXT`
abbrev pub suggest_request : List (List ℕ) → Option MendRequest
suggest_request (part ∷ text ∷ []) = Some (Suggest part text)
suggest_request _ = None

-- `checksum TEXT`
abbrev pub checksum_request : List (List ℕ) → Option MendRequest
checksum_request (text ∷ []) = Some (Checksum text)
checksum_request _ = None

-- what words ask for
abbrev pub mend_request_of_words : List (List ℕ) → Option MendRequest
mend_request_of_words [] = None
mend_request_of_words (name ∷ arguments) =
    if bytes_eq name (codes "nearest") then nearest_request arguments
    else (if bytes_eq name (codes "edits") then text_request Edits arguments
    else (if bytes_eq name (codes "fault") then text_request Fault arguments
    else (if bytes_eq name (codes "suggest") then suggest_request arguments
    else (if bytes_eq name (codes "checksum") then checksum_request arguments
    else None))))

-- what a line asks for, which has no empty word
abbrev pub mend_request_of : List ℕ → Option MendRequest
mend_request_of line = request_by mend_request_of_words line

-- ---- confidential addresses, and descriptors

-- what arguments ask for, where they are there
abbrev pub asks : {A : Type 0} → (A → MendRequest) → Option A → Option MendRequest
asks request None = None
asks request (Some arguments) = Some (request arguments)

-- the first of two that asks for something
abbrev pub first_request : Option MendRequest → Option MendRequest → Option MendRequest
first_request None request = request
first_request (Some asked) request = Some asked

-- how many errors a word allows in a confidential address
abbrev pub liquid_errors_of_word : List ℕ → Option ℕ
liquid_errors_of_word word =
    if bytes_eq word (codes "3") then Some 3 else errors_of_word word

-- `liquid TEXT ERRORS` and `liquid TEXT LOCATIONS ERRORS`
abbrev pub liquid_request : List (List ℕ) → Option MendRequest
liquid_request arguments =
    first_request (asks (λ a. Liquid a.0 a.1) (two_of arguments))
    (asks (λ a. LiquidAt a.0 a.1.0 a.1.1) (three_of arguments))

abbrev pub liquid_request_of : List (List ℕ) → Option MendRequest
liquid_request_of [] = None
liquid_request_of (name ∷ arguments) =
    if bytes_eq name (codes "liquid") then liquid_request arguments else None

-- what stands behind a front, where a line has it
abbrev pub behind : List ℕ → List ℕ → Option (List ℕ)
behind [] line = Some line
behind (b ∷ bs) [] = None
behind (b ∷ bs) (c ∷ cs) = if b == c then behind bs cs else None

-- `descriptor TEXT`, `descriptor-check TEXT`, `descriptor-checksum TEXT`: the text is the rest of
-- the line, and may have spaces, or be empty
abbrev pub descriptor_request_of : List ℕ → Option MendRequest
descriptor_request_of line =
    first_request (asks Descriptor (behind (codes "descriptor ") line))
    (first_request (asks DescriptorCheck (behind (codes "descriptor-check ") line))
    (asks DescriptorChecksum (behind (codes "descriptor-checksum ") line)))

-- what a line asks for
abbrev pub mend_line_request_of : List ℕ → Option MendRequest
mend_line_request_of line =
    first_request (descriptor_request_of line)
    (first_request (liquid_request_of (words line)) (mend_request_of line))

-- ---- on the way

-- what the words behind `nearest` ask for, of which none is empty
abbrev pub nearest_arguments : List (List ℕ) → Option MendRequest
nearest_arguments arguments =
    if list_any is_empty arguments then None else nearest_request arguments

-- what the words of a checksum and a text ask for, of which none is empty
abbrev pub text_arguments : (ChecksumName → List ℕ → MendRequest) → List (List ℕ)
    → Option MendRequest
text_arguments request arguments =
    if list_any is_empty arguments then None else text_request request arguments

-- what the words of a human-readable part and a text ask for, of which none is empty
abbrev pub suggest_arguments : List (List ℕ) → Option MendRequest
suggest_arguments arguments =
    if list_any is_empty arguments then None else suggest_request arguments

-- what a command asks for
abbrev pub mend_request_of_command : Command → MendRequest
mend_request_of_command (commands.Nearest checksum text errors) =
    Nearest checksum text.now errors.now
mend_request_of_command (commands.NearestAt checksum text locations errors) =
    NearestAt checksum text.now locations.now errors.now
mend_request_of_command (commands.Edits checksum text) = Edits checksum text.now
mend_request_of_command (commands.Fault checksum text) = Fault checksum text.now
mend_request_of_command (commands.Suggest part text) = Suggest part.now text.now
mend_request_of_command (commands.Checksum text) = Checksum text.now
mend_request_of_command (commands.Liquid text errors) = Liquid text.now errors.now
mend_request_of_command (commands.LiquidAt text locations errors) =
    LiquidAt text.now locations.now errors.now
mend_request_of_command (commands.Descriptor text) = Descriptor text.now
mend_request_of_command (commands.DescriptorCheck text) = DescriptorCheck text.now
mend_request_of_command (commands.DescriptorChecksum text) = DescriptorChecksum text.now

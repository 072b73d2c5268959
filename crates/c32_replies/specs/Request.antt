-- What a line asks for: its first word names a command, the others are its arguments.
use Rattle.std.specs.Prelude.{ℕ, if◌then◌else◌, List, [], ◌∷◌, codes, Option, Some, None}
use Rattle.std.specs.List.{list_any}
use Rattle.std.specs.Str.{bytes_eq}
use Rattle.line_program.specs.Words.{is_empty, request_by, words}
use Rattle.c32_replies.specs.declared.command.Command.{Command}
use Rattle.c32_replies.specs.declared.command.Command.TheVariants as commands
use Rattle.c32_replies.specs.declared.command.SplitWords.{SplitWords}

-- the words of `split`
pub record AskedSplit : Type 0 where
  pub threshold : List ℕ
  pub count : List ℕ
  pub identifier : List ℕ
  pub hex : List ℕ
  pub random : List ℕ

-- the parts of a codex32 string, the nearest text to a damaged one, the same of long strings, the
-- header and the bytes of a string of either length, the string of bytes, the string at an index
-- from shares, the secret from shares, shares of a secret; each argument as its word
pub data Codex32Request : Type 0 where
  Parse : (text : List ℕ) → Codex32Request
  Propose : (text : List ℕ) → Codex32Request
  ProposeLong : (text : List ℕ) → Codex32Request
  Share : (text : List ℕ) → Codex32Request
  Encode : (threshold identifier share_index hex : List ℕ) → Codex32Request
  Derive : (share_index : List ℕ) (texts : List (List ℕ)) → Codex32Request
  Recover : (texts : List (List ℕ)) → Codex32Request
  Split : (asked : AskedSplit) → Codex32Request

-- a request of one word
abbrev pub one_word : (List ℕ → Codex32Request) → List (List ℕ) → Option Codex32Request
one_word request (text ∷ []) = Some (request text)
one_word request _ = None

-- `encode THRESHOLD IDENTIFIER INDEX HEX`
abbrev pub string_request : List (List ℕ) → Option Codex32Request
string_request (threshold ∷ identifier ∷ share_index ∷ hex ∷ []) =
    Some (Encode threshold identifier share_index hex)
string_request _ = None

-- `derive INDEX TEXT TEXT ..`
abbrev pub derive_request : List (List ℕ) → Option Codex32Request
derive_request (share_index ∷ text ∷ texts) = Some (Derive share_index (text ∷ texts))
derive_request _ = None

-- `recover TEXT TEXT ..`
abbrev pub recover_request : List (List ℕ) → Option Codex32Request
recover_request (text ∷ texts) = Some (Recover (text ∷ texts))
recover_request [] = None

-- `split THRESHOLD COUNT IDENTIFIER HEX RANDOM`
abbrev pub split_request : List (List ℕ) → Option Codex32Request
split_request (threshold ∷ count ∷ identifier ∷ hex ∷ random ∷ []) =
    Some (Split (record {
      threshold = threshold;
      count = count;
      identifier = identifier;
      hex = hex;
      random = random;
    }))
split_request _ = None

-- what words ask for
abbrev pub codex32_request_of_words : List (List ℕ) → Option Codex32Request
codex32_request_of_words [] = None
codex32_request_of_words (name ∷ arguments) =
    if bytes_eq name (codes "parse") then one_word Parse arguments
    else (if bytes_eq name (codes "propose") then one_word Propose arguments
    else (if bytes_eq name (codes "propose-long") then one_word ProposeLong arguments
    else (if bytes_eq name (codes "share") then one_word Share arguments
    else (if bytes_eq name (codes "encode") then string_request arguments
    else (if bytes_eq name (codes "derive") then derive_request arguments
    else (if bytes_eq name (codes "recover") then recover_request arguments
    else (if bytes_eq name (codes "split") then split_request arguments
    else None)))))))

-- what a line asks for, which has no empty word
abbrev pub codex32_request_of : List ℕ → Option Codex32Request
codex32_request_of line = request_by codex32_request_of_words line

-- ---- on the way

-- what the words behind `encode` ask for, of which none is empty
abbrev pub encode_arguments : List (List ℕ) → Option Codex32Request
encode_arguments arguments =
    if list_any is_empty arguments then None else string_request arguments

-- what the words behind `split` ask for, of which none is empty
abbrev pub split_arguments : List (List ℕ) → Option Codex32Request
split_arguments arguments =
    if list_any is_empty arguments then None else split_request arguments

-- words of which none is empty
abbrev pub nonempty_words : List (List ℕ) → Option (List (List ℕ))
nonempty_words texts = if list_any is_empty texts then None else Some texts

-- the words of `split` that were read
abbrev pub asked_by : SplitWords → AskedSplit
asked_by words = record {
  threshold = words.threshold.now;
  count = words.count.now;
  identifier = words.identifier.now;
  hex = words.hex.now;
  random = words.random.now;
}

-- what a command asks for
abbrev pub codex32_request_of_command : Command → Codex32Request
codex32_request_of_command (commands.Parse text) = Parse text.now
codex32_request_of_command (commands.Propose text) = Propose text.now
codex32_request_of_command (commands.ProposeLong text) = ProposeLong text.now
codex32_request_of_command (commands.Share text) = Share text.now
codex32_request_of_command (commands.Encode threshold identifier share_index hex) =
    Encode threshold.now identifier.now share_index.now hex.now
codex32_request_of_command (commands.Derive share_index texts) =
    Derive share_index.now (words texts.now)
codex32_request_of_command (commands.Recover texts) = Recover (words texts.now)
codex32_request_of_command (commands.Split words) = Split (asked_by words)

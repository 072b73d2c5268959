-- What is written of numbers, where a refusal may be another with the same number.
use Rattle.std.specs.Prelude.{◌≡◌, ℕ, List, Result, MatchResult}
use Rattle.bech32_checksum.specs.Code.{Code}
use Rattle.b32_replies.specs.Numbers.{number_of_reply}
use Rattle.b32_replies.specs.Reply.{IsLongWritten, IsNotWritten}
use Rattle.b32_replies.specs.declared.long_command.Kind.{Kind}
use Rattle.b32_replies.specs.declared.refusal.Refusal.{Refusal}

-- the text of a human-readable part and numbers, or a refusal with the number of one of theirs
abbrev pub IsTextOrRefusal : {S : Type 0} → (S → List ℕ) → Kind → Code → List ℕ → List ℕ
    → Result S Refusal → Type 0
IsTextOrRefusal bytes kind code hrp values result =
    MatchResult result
    (λ text. IsLongWritten kind code hrp values (bytes text))
    (λ e. (own : Refusal) × IsNotWritten kind code hrp values own
    × (number_of_reply e ≡ number_of_reply own))

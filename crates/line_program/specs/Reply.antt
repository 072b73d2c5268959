-- What may be said of a line, by what a text asks for and what may be said of that.
use Rattle.std.specs.Prelude.{◌≡◌, ◌⊎◌, ◌<◌, ◌≤◌, ℕ, List, length, nat_lt, Option, MatchOption}
use Rattle.std.specs.Prelude.{MatchBool}
use Rattle.std.specs.Str.{IsUtf8, is_utf8}
use Rattle.line_program.specs.Refused.{err}

-- what may be said of a text: it is no command, or it is answered
abbrev pub IsOutcomeBy : {Request : Type 0} → (List ℕ → Option Request)
    → (Request → List ℕ → Type 0) → List ℕ → List ℕ → Type 0
IsOutcomeBy request_of IsAnswer text said =
    MatchOption (request_of text) (said ≡ err 3) (λ request. IsAnswer request said)

-- what may be said of a line where one may have so many bytes: it is too long, or no text, in this
-- order, or the outcome of its text
abbrev pub IsReplyBy : {Request : Type 0} → ℕ → (List ℕ → Option Request)
    → (Request → List ℕ → Type 0) → List ℕ → List ℕ → Type 0
IsReplyBy limit request_of IsAnswer line said =
    MatchBool (nat_lt limit (length line))
    (said ≡ err 1)
    (MatchBool (is_utf8 line)
    (IsOutcomeBy request_of IsAnswer line said)
    (said ≡ err 2))

-- the text of a line that has no more bytes than the limit
pub record IsTextOfLine (limit : ℕ) (line text : List ℕ) : Type 0 where
  pub same : text ≡ line
  pub short : length line ≤ limit
  pub utf8 : IsUtf8 line

-- the number that a line is refused with where one may have so many bytes: it is too long, or no
-- text, in this order
abbrev pub IsLineRefusal : ℕ → List ℕ → ℕ → Type 0
IsLineRefusal limit line number =
    ((limit < length line) × (number ≡ 1))
    ⊎ ((length line ≤ limit) × (IsUtf8 line → ⊥) × (number ≡ 2))

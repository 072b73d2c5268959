-- What is written for lines, where a relation says what may be said of a line.
use Rattle.std.specs.Prelude.{◌≡◌, ◌⊎◌, ℕ, List, [], ◌∷◌, ◌++◌, take, Option}
use Rattle.std.specs.Io.KnownBytes.{Appends, Consumes, IsAtEnd}
use Rattle.line_program.specs.Lines.{lines_of, ended_lines}

-- a reply to each line in turn, each ended by the byte 10
abbrev pub IsOutput : (List ℕ → List ℕ → Type 0) → List (List ℕ) → List ℕ → Type 0
IsOutput IsReply [] out = out ≡ []
IsOutput IsReply (line ∷ lines) out =
    (said : List ℕ) × (rest : List ℕ) × IsReply line said × (out ≡ said ++ 10 ∷ rest)
    × IsOutput IsReply lines rest

-- nothing, or a front of the reply to the first of some lines
abbrev pub IsFront : (List ℕ → List ℕ → Type 0) → List (List ℕ) → List ℕ → Type 0
IsFront IsReply [] out = out ≡ []
IsFront IsReply (line ∷ lines) out =
    (out ≡ []) ⊎ ((said : List ℕ) × (n : ℕ) × IsReply line said × (out ≡ take n (said ++ 10 ∷ [])))

-- a beginning of an output: the replies to the first lines, and a front of the one to the next
pub record IsBeginning (IsReply : List ℕ → List ℕ → Type 0)
    (lines : List (List ℕ)) (out : List ℕ) : Type 0 where
  pub answered : List (List ℕ)
  pub others : List (List ℕ)
  pub split : lines ≡ answered ++ others
  pub replies : List ℕ
  pub output : IsOutput IsReply answered replies
  pub front : List ℕ
  pub is_front : IsFront IsReply others front
  pub out_is : out ≡ replies ++ front

-- Bytes left a source and others went out to a sink, where those are known: what may be said of a
-- line, what the source had left before and after, and what had gone out before and after.
module _ (IsReply : List ℕ → List ℕ → Type 0) (source source' sink sink' : Option (List ℕ)) where
  -- the source is at its end, and each line was answered
  pub record IsAnswered : Type 0 where
    pub read : List ℕ
    pub written : List ℕ
    pub consumed : Consumes source source' read
    pub end : IsAtEnd source'
    pub appended : Appends sink sink' written
    pub output : IsOutput IsReply (lines_of read) written

  -- each line that has ended was answered
  pub record IsAnsweredSoFar : Type 0 where
    pub read : List ℕ
    pub written : List ℕ
    pub consumed : Consumes source source' read
    pub appended : Appends sink sink' written
    pub output : IsOutput IsReply (ended_lines read) written

  -- a beginning of the answers went out
  pub record IsCutShort : Type 0 where
    pub read : List ℕ
    pub written : List ℕ
    pub consumed : Consumes source source' read
    pub appended : Appends sink sink' written
    pub beginning : IsBeginning IsReply (ended_lines read) written
        ⊎ (IsAtEnd source' × IsBeginning IsReply (lines_of read) written)

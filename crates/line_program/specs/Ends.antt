-- How it is told why a run ended early.
use Rattle.std.specs.Prelude.{ℕ, List, [], ◌∷◌, ◌++◌, codes}
use Rattle.line_program.specs.declared.error.RunError.{RunError}
use Rattle.line_program.specs.declared.error.RunError.TheVariants.{Read, Write, Memory}

-- the words for it
abbrev pub words_of_end : RunError → List ℕ
words_of_end Read = codes "reading failed"
words_of_end Write = codes "writing failed"
words_of_end Memory = codes "out of memory"

-- the line that a program of this name writes
abbrev pub end_line : List ℕ → List ℕ → List ℕ
end_line name words = name ++ (codes ": " ++ (words ++ 10 ∷ []))

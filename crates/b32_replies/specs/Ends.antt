-- Why a run ended, in the words of `b32` and of `line_program`.
use Rattle.std.specs.Prelude.{◌≡◌, ℕ, List, codes}
use Rattle.line_program.specs.declared.error.RunError.{RunError as EarlyEnd}
use Rattle.line_program.specs.declared.error.RunError.TheVariants.{Read as read_end}
use Rattle.line_program.specs.declared.error.RunError.TheVariants.{Write as write_end}
use Rattle.line_program.specs.declared.error.RunError.TheVariants.{Memory as memory_end}
use Rattle.b32_replies.specs.declared.error.RunError.{RunError}
use Rattle.b32_replies.specs.declared.error.RunError.TheVariants.{Read, Write, Memory}

-- the same, of this program
abbrev pub same_end : EarlyEnd → RunError → Type 0
same_end read_end e = e ≡ Read
same_end write_end e = e ≡ Write
same_end memory_end e = e ≡ Memory

-- the words for it
abbrev pub words_of_b32_end : RunError → List ℕ
words_of_b32_end Read = codes "reading failed"
words_of_b32_end Write = codes "writing failed"
words_of_b32_end Memory = codes "no memory"

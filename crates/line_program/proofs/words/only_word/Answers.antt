use Rattle.std.proofs.Common.{rules}
use Rattle.line_program.proofs.Split.{only-word, several-words, empty-word}
use Rattle.line_program.proofs.words.only_word.Goals.{then-is_empty-via-then-is_empty, then-is_empty-via-else-is_empty+then-is_some}
use Rattle.line_program.proofs.words.only_word.Goals as goal

pub returns-then-is_empty : goal.returns-then-is_empty
returns-then-is_empty c word h = elim c.then-is_empty.branch [
  | then-is_empty-via-then-is_empty w ↦ empty-word c.args.text.now word (search rules) h
  | then-is_empty-via-else-is_empty+then-is_some w ↦
      absurd (several-words c.args.text.now word w.memchr.result (search rules) (search rules) h)
]

pub returns : goal.returns
returns c = (only-word c.args.text.now c.memchr.result (search rules) (search rules), search rules)

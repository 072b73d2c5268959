use Rattle.std.proofs.Common.{◌∙◌, sym, arith}
use Rattle.std.proofs.lemmas.Bool.{eqb-false, eqb-true}
use Rattle.codex32_steady.proofs.FirstFault.{part-from_characters, refused_empty, refused_long}
use Rattle.codex32_steady.proofs.texts.parts.part_fault.Goals as goal

pub returns-then-is_empty : goal.returns-then-is_empty
returns-then-is_empty c = refused_empty c.args.front.now (eqb-true _ _ (sym c.is_empty.ensures ∙ c.if-is_empty.true))

pub returns-then-front-gt-MOST : goal.returns-then-front-gt-MOST
returns-then-front-gt-MOST c = refused_long c.args.front.now (omega arith)

pub returns : goal.returns
returns c = part-from_characters c.args.front.now c.character_fault.result (omega (arith, eqb-false _ _ (sym c.is_empty.ensures ∙ c.if-is_empty.false))) (omega arith) c.requires c.character_fault.ensures

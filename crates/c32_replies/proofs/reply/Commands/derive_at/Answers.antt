use Rattle.std.proofs.Common.{rules, ◌≡◌, ◌++◌, codes, string_bytes}
use Rattle.codex32.specs.Derive.{IsDerivedString, IsStringOfSet, IsWholeSet}
use Rattle.line_program.proofs.Pieces.{two-pieces}
use Rattle.line_program.specs.Words.{words}
use Rattle.c32_replies.proofs.Replies.{says-derived}
use Rattle.c32_replies.proofs.reply.Commands.derive_at.Goals as goal

pub returns-clause-answer : goal.returns-clause-answer
returns-clause-answer g c =
    let out = c.args.out.now.items in
    let shares = c.in_ok-shares.shares.items in
    let text = string_bytes c.in_ok-text.text in
    let same : c.deref.result.now ≡ shares = c.deref.ensures.value in
    let is : IsDerivedString shares c.args.index text = rw same at c.in_ok-text.ensures.value in
    let string : IsStringOfSet shares c.args.index text = rw same at c.in_ok-text.ensures.string in
    let whole : IsWholeSet shares c.args.index = rw same at c.in_ok-text.ensures.refused.0 in
    let first : c.append.new.out.items ≡ out ++ codes "ok " = search rules in
    let second : c.append-2.new.out.items ≡ c.append.new.out.items ++ text = search rules in
    says-derived c.args.index (words c.args.texts.now) shares text out _ c.in_ok-shares.ensures whole is string (two-pieces out (codes "ok ") text _ _ first second)

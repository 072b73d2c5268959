use Rattle.std.proofs.Common.{rules, get_or, length, Some, None, arith, ap}
use Rattle.std.proofs.lemmas.Bool.{eqb-true}
use Rattle.std.proofs.lemmas.Str.{IsCharBoundary-after_ascii}
use Rattle.memchr.specs.Find.{IsFirstByte, is_byte}
use Rattle.line_program.proofs.Split.{words-first_space, range_front}
use Rattle.line_program.proofs.words.first_word.Goals as goal

pub range_from-requires : goal.range_from-requires
range_from-requires c some =
    let text = c.args.text.now in
    let end = c.in_ok-end.end in
    let found : IsFirstByte (is_byte 32) text (Some end) = search rules in
    IsCharBoundary-after_ascii text end c.utf8.text found.0.high (omega (arith, eqb-true (get_or text end 0) 32 found.1))

pub returns-in_err-end : goal.returns-in_err-end
returns-in_err-end c =
    let e = words-first_space c.args.text.now None (search rules) in
    rw c.from_residual.ensures (λ first second rest h. cc)

pub returns : goal.returns
returns c =
    let found : IsFirstByte (is_byte 32) c.args.text.now (Some c.in_ok-end.end) = search rules in
    let e = words-first_space c.args.text.now (Some c.in_ok-end.end) found in
    (rw (c.range.ensures.value, c.range_from.ensures.value, range_front c.args.text.now c.in_ok-end.end) e, (λ none. c.if-end-eq0.false (omega (arith, ap length none, c.range.ensures.len))))

use Rattle.std.proofs.Common.{rules, ◌∙◌, refl}
use Rattle.std.proofs.lemmas.Result.{err_from_is_err_and}
use Rattle.b32_replies.proofs.ConfidentialReplies.{key-from_bytes, no-key-from_none, no-key-from_size}
use Rattle.b32_replies.proofs.confidential.key_of_word.Goals as goal

pub returns-in_err-size : goal.returns-in_err-size
returns-in_err-size c =
    let p = err_from_is_err_and c.from_residual.result c.from_residual.ensures.1 in
    let refused = c.in_err-size.ensures.put in
    rw p.1 (p.2 ∙ refused.0, no-key-from_none c.args.word.now refused.1)

pub returns-then-size-ne-KEY_LENGTH : goal.returns-then-size-ne-KEY_LENGTH
returns-then-size-ne-KEY_LENGTH c =
    let (bytes, is, size, there) = c.in_ok-size.ensures.put in
    (refl, no-key-from_size c.args.word.now bytes is (λ e. c.if-size-ne-KEY_LENGTH.true (size ∙ e)))

pub returns : goal.returns
returns c =
    let (bytes, is, size, there) = c.in_ok-size.ensures.put in
    key-from_bytes c.args.word.now bytes _ _ is c.if-size-ne-KEY_LENGTH.false there (search rules)

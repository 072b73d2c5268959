use Rattle.std.proofs.Common.{◌≡◌, ◌∷◌, refl, codes}
use Rattle.line_program.specs.Words.{words}
use Rattle.c32_replies.specs.Request.{Parse, Propose, ProposeLong, Share}
use Rattle.c32_replies.proofs.Words.{derive-no-index, derive-texts, no-text, recover-texts}
use Rattle.c32_replies.proofs.command.Command.parse.Goals as goal

pub returns-in_err-only_word-in-parse : goal.returns-in_err-only_word-in-parse
returns-in_err-only_word-in-parse c =
    let spelled : words c.args.line.now ≡ codes "parse" ∷ words c.in_ok-name.arguments.now = cc (c.in_ok-name.ensures.0, c.in-parse.is) in
    rw c.from_residual-in_err-only_word-in-parse.ensures (no-text Parse c.args.line.now (codes "parse") refl (λ rest. refl) _ spelled c.in_err-only_word-in-parse.ensures)

pub returns-in_err-only_word-in-propose : goal.returns-in_err-only_word-in-propose
returns-in_err-only_word-in-propose c =
    let spelled : words c.args.line.now ≡ codes "propose" ∷ words c.in_ok-name.arguments.now = cc (c.in_ok-name.ensures.0, c.in-propose.is) in
    rw c.from_residual-in_err-only_word-in-propose.ensures (no-text Propose c.args.line.now (codes "propose") refl (λ rest. refl) _ spelled c.in_err-only_word-in-propose.ensures)

pub returns-in_err-only_word-in-text : goal.returns-in_err-only_word-in-text
returns-in_err-only_word-in-text c =
    let spelled : words c.args.line.now ≡ codes "propose-long" ∷ words c.in_ok-name.arguments.now = cc (c.in_ok-name.ensures.0, c.in-text.is) in
    rw c.from_residual-in_err-only_word-in-text.ensures (no-text ProposeLong c.args.line.now (codes "propose-long") refl (λ rest. refl) _ spelled c.in_err-only_word-in-text.ensures)

pub returns-in_err-only_word-in-share : goal.returns-in_err-only_word-in-share
returns-in_err-only_word-in-share c =
    let spelled : words c.args.line.now ≡ codes "share" ∷ words c.in_ok-name.arguments.now = cc (c.in_ok-name.ensures.0, c.in-share.is) in
    rw c.from_residual-in_err-only_word-in-share.ensures (no-text Share c.args.line.now (codes "share") refl (λ rest. refl) _ spelled c.in_err-only_word-in-share.ensures)

pub returns-in_err-share_index-in-derive : goal.returns-in_err-share_index-in-derive
returns-in_err-share_index-in-derive c =
    let spelled : words c.args.line.now ≡ codes "derive" ∷ words c.in_ok-name.arguments.now = cc (c.in_ok-name.ensures.0, c.in-derive.is) in
    rw c.from_residual-in_err-share_index-in-derive.ensures (derive-no-index c.args.line.now _ spelled c.in_err-share_index-in-derive.ensures)

pub returns-in_ok-texts-in-derive : goal.returns-in_ok-texts-in-derive
returns-in_ok-texts-in-derive c =
    let given = c.in_ok-share_index-in-derive in
    let spelled : words c.args.line.now ≡ codes "derive" ∷ given.share_index.now ∷ words given.texts.now = cc (c.in_ok-name.ensures.0, c.in-derive.is, given.ensures.0) in
    derive-texts c.args.line.now given.share_index.now given.texts.now _ spelled given.ensures.1 c.in_ok-texts-in-derive.ensures

pub returns-in_ok-all_words-in-recover : goal.returns-in_ok-all_words-in-recover
returns-in_ok-all_words-in-recover c =
    let spelled : words c.args.line.now ≡ codes "recover" ∷ words c.in_ok-name.arguments.now = cc (c.in_ok-name.ensures.0, c.in-recover.is) in
    recover-texts c.args.line.now c.in_ok-name.arguments.now _ spelled c.in_ok-all_words-in-recover.ensures

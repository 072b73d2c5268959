use Rattle.std.proofs.lemmas.Result.{err_from_is_err_and}
use Rattle.bech32_checksum.specs.Roots.{singleton_bound}
use Rattle.blech32.specs.Words.{blech32_code}
use Rattle.mend.proofs.Replies.{refused_near}
use Rattle.mend.proofs.LiquidReplies.{says-liquid-found}
use Rattle.mend.proofs.liquid_near.said_near.Goals as goal

pub returns : goal.returns
returns c =
    says-liquid-found _ c.args.text.now c.args.given.now c.args.errors c.in_ok-near.field-0.texts.items c.as_slice.result.now _ c.as_slice.ensures.value c.in_ok-near.ensures.0
    c.in_ok-reply_of.ensures

pub returns-in_err-near : goal.returns-in_err-near
returns-in_err-near c =
    let p = err_from_is_err_and c.from_residual.result c.from_residual.ensures.1 in
    rw p.1 (rw p.2 (refused_near blech32_code (singleton_bound 1 6) c.args.text.now c.args.given.now c.args.errors c.in_err-near.field-0.0 c.in_err-near.ensures))

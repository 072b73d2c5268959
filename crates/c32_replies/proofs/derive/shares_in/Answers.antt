use Rattle.std.proofs.Common.{rules, []}
use Rattle.std.proofs.lemmas.Result.{err_from_is_err_and}
use Rattle.line_program.specs.Words.{words}
use Rattle.c32_replies.proofs.Texts.{refused-behind, refused-here, shares-last, shares-turn}
use Rattle.c32_replies.proofs.derive.shares_in.Goals as goal

pub returns-in_err-push_share : goal.returns-in_err-push_share
returns-in_err-push_share g c =
    let p = err_from_is_err_and c.from_residual.result c.from_residual.ensures.1 in
    rw p.1 (rw p.2 (refused-here (words c.texts.rest.now) (words c.in-Some.behind.now) c.in-Some.text.now c.in-Some.ensures (words c.args.texts.now) c.in_err-push_share.field-0.0 c.texts.invariant.refused c.in_err-push_share.ensures))

pub returns-in_err-push_share-2 : goal.returns-in_err-push_share-2
returns-in_err-push_share-2 g c =
    let p = err_from_is_err_and c.from_residual-in_err-push_share-2.result c.from_residual-in_err-push_share-2.ensures.1 in
    rw p.1 (rw p.2 (refused-here (words c.texts.rest.now) [] c.texts.rest.now c.in_default.ensures (words c.args.texts.now) c.in_err-push_share-2.field-0.0 c.texts.invariant.refused c.in_err-push_share-2.ensures))

pub texts-preserved : goal.texts-preserved
texts-preserved g c =
    let (s, is, more) = c.in_ok-push_share.ensures in
    let left = words c.texts.rest.now in
    let behind = words c.in-Some.behind.now in
    record {
      text = search rules;
      refused = refused-behind left behind c.in-Some.text.now c.in-Some.ensures (words c.args.texts.now) s c.texts.invariant.refused is;
      read = shares-turn left behind c.in-Some.text.now c.in-Some.ensures (words c.args.texts.now) c.texts.shares.items c.push_share.new.shares.items c.texts.invariant.read s is more;
    }

pub returns : goal.returns
returns g c =
    let (s, is, more) = c.in_ok-push_share-2.ensures in
    shares-last (words c.texts.rest.now) c.texts.rest.now c.in_default.ensures (words c.args.texts.now) c.texts.shares.items c.push_share-2.new.shares.items c.texts.invariant.read s is more

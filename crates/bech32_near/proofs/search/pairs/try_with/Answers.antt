use Rattle.std.proofs.Common.{min}
use Rattle.bech32_gf.specs.Fe32 as fe32
use Rattle.bech32_near.specs.search.Nearest.{IsEarlier}
use Rattle.bech32_near.specs.search.Steps.{HasHighest}
use Rattle.bech32_near.proofs.NearestLists.{added_none}
use Rattle.bech32_near.proofs.Tables.{none_with}
use Rattle.bech32_near.proofs.search.pairs.try_with.Goals as goal

pub returns-then-not-can_explain : goal.returns-then-not-can_explain
returns-then-not-can_explain g c = λ t beside is.
    let q = c.args.corrector.now in
    let code = g.Ck.Checksum.code in
    added_none (IsEarlier fe32.ops fe32.value q.erasures) (HasHighest fe32.ops code.generator q.residue q.erasures c.args.error 1) c.args.found.now.items
    (λ items h. none_with (min g.Ck.Checksum.CHECKSUM_LENGTH 12) code.generator q.erasures q.window c.args.table.now.rows.now c.args.table.now.columns.now c.args.table.now.entries.now t.table q.residue c.args.error c.args.key items beside.within t.wide is
    (c.can_explain.ensures.none c.if-not-can_explain.true) (c.can_explain.ensures.above t.table.entries_are.sorted c.if-not-can_explain.true) h)

pub returns : goal.returns
returns g c = λ t beside is. c.add_with.ensures t beside

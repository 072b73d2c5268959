use Rattle.std.proofs.Common.{rules, ◌≤◌, ◌<◌, ◌^◌, ℕ, List, length, min, sym, ap, subst, arith}
use Rattle.bech32_near.specs.search.Sketch.{IsTable}
use Rattle.bech32_near.proofs.NearestAnswers.{of_ok, put_back}
use Rattle.bech32_near.proofs.search.pairs.add_with.Goals as goal

pub returns : goal.returns
returns g c = λ t beside.
    let q = c.args.corrector.now in
    let left = c.in_ok-left.left in
    let small : length left.erasures ≤ g.Ck.Checksum.bound = omega (arith, ap (λ u. length u) c.in_ok-left.ensures.erasures, t.few) in
    let below : c.args.error.0 ≤ left.window = omega (arith, c.in_ok-left.ensures.window, beside.within) in
    let narrow : left.window < 2 ^ 24 = omega (arith, c.in_ok-left.ensures.window, t.wide) in
    let moved : IsTable (min g.Ck.Checksum.CHECKSUM_LENGTH 12) g.Ck.Checksum.code.generator left.erasures left.window c.args.table.now.rows.now c.args.table.now.columns.now c.args.table.now.entries.now =
    subst (λ (s : List ℕ). IsTable (min g.Ck.Checksum.CHECKSUM_LENGTH 12) g.Ck.Checksum.code.generator s left.window c.args.table.now.rows.now c.args.table.now.columns.now c.args.table.now.entries.now) (sym c.in_ok-left.ensures.erasures)
    (subst (λ (w : ℕ). IsTable (min g.Ck.Checksum.CHECKSUM_LENGTH 12) g.Ck.Checksum.code.generator q.erasures w c.args.table.now.rows.now c.args.table.now.columns.now c.args.table.now.entries.now) (sym c.in_ok-left.ensures.window) t.table) in
    put_back g.Ck.Checksum.code.generator q.residue left.residue q.erasures left.erasures c.args.error 1 c.in_ok-lower.lower.items c.add_single-gathered.new.found.items c.in_ok-left.ensures.erasures c.in_ok-lower.ensures.items
    (of_ok c.add_single-gathered.result (c.add_single-gathered.ensures c.args.table.now.columns.now below (record { few = small; wide = narrow; table = moved })) c.in_ok-push_with.ensures.was)
    c.args.found.now.items c.push_with.new.found.items c.in_ok-left.ensures.residue beside.outside beside.not_zero c.in_ok-push_with.ensures.raised

pub without_error-requires : goal.without_error-requires
without_error-requires g c = search rules

pub add_single-gathered-requires : goal.add_single-gathered-requires
add_single-gathered-requires g c = search rules

pub push_with-requires : goal.push_with-requires
push_with-requires g c = search rules

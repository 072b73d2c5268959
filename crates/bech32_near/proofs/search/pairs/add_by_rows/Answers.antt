use Rattle.std.specs.Prelude.{OnOk}
use Rattle.std.proofs.Common.{◌≡◌, ℕ, subst, sym, refl, arith}
use Rattle.bech32_gf.specs.Fe32 as fe32
use Rattle.bech32_near.specs.search.Nearest.{IsEarlier}
use Rattle.bech32_near.specs.search.Steps.{AreAdded, IsGathered}
use Rattle.bech32_near.proofs.Tables.{table_for}
use Rattle.bech32_near.proofs.search.pairs.add_by_rows.Goals as goal

pub returns-then-few-eq1 : goal.returns-then-few-eq1
returns-then-few-eq1 g c = λ few within wide forgotten some two.
    let q = c.args.corrector.now in
    let table = table_for g.Ck.Checksum.code g.Ck.Checksum.bound g.Ck.Checksum.CHECKSUM_LENGTH q c.args.rows.now c.window.result
    c.in_ok-columns.columns.items c.deref.result.now c.in_ok-columns.columns.items c.in_ok-entries.entries.items c.deref-then-few-eq1.result.now
    few wide forgotten c.window.ensures.value c.in_ok-columns.ensures c.deref.ensures.value refl c.in_ok-entries.ensures c.deref-then-few-eq1.ensures.value in
    subst (λ (n : ℕ). OnOk c.add_single.result (AreAdded (IsEarlier fe32.ops fe32.value q.erasures) (IsGathered fe32.ops g.Ck.Checksum.code.generator q.residue q.erasures c.args.few.limit n) c.args.found.now.items c.add_single.new.found.items))
    (sym c.if-few-eq1.true) (c.add_single.ensures c.in_ok-columns.columns.items within table)

pub returns : goal.returns
returns g c = λ few within wide forgotten some two.
    let q = c.args.corrector.now in
    let is : c.args.few.errors ≡ 2 = omega (arith, some, two, c.if-few-eq1.false) in
    let table = table_for g.Ck.Checksum.code g.Ck.Checksum.bound g.Ck.Checksum.CHECKSUM_LENGTH q c.args.rows.now c.window.result
    c.in_ok-columns.columns.items c.deref.result.now c.deref-2.result.now c.in_ok-entries.entries.items c.deref-3.result.now
    few wide forgotten c.window.ensures.value c.in_ok-columns.ensures c.deref.ensures.value c.deref-2.ensures.value c.in_ok-entries.ensures c.deref-3.ensures.value in
    subst (λ (n : ℕ). OnOk c.add_all.result (AreAdded (IsEarlier fe32.ops fe32.value q.erasures) (IsGathered fe32.ops g.Ck.Checksum.code.generator q.residue q.erasures c.args.few.limit n) c.args.found.now.items c.add_all.new.found.items))
    (sym is) (c.add_all.ensures table within)

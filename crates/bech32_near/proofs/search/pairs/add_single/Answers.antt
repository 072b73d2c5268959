use Rattle.std.specs.Prelude.{get_or}
use Rattle.std.proofs.Common.{rules, ◌≡◌, ◌≤◌, ◌<◌, ◌+◌, ◌-◌, ◌*◌, ◌/◌, ◌%◌, ◌^◌, ℕ, min, sym, ap, subst, ◌∙◌, refl, arith}
use Rattle.std.proofs.Math.Decide.{dec_lt}
use Rattle.bech32_gf.specs.Fe32 as fe32
use Rattle.bech32_gf.specs.laws.Fe32Laws.{is_field}
use Rattle.bech32_near.specs.search.Nearest.{IsEarlier}
use Rattle.bech32_near.specs.search.Sketch.{entry_number, sketch}
use Rattle.bech32_near.specs.search.Steps.{AreAdded, HasHighest}
use Rattle.bech32_near.proofs.Coded.{IsCodedBelow, coded_all, coded_first, coded_more}
use Rattle.bech32_near.proofs.Elements.{lowest, value_below}
use Rattle.bech32_near.proofs.Entries.{entry_is}
use Rattle.bech32_near.proofs.Skipped.{bare}
use Rattle.bech32_near.proofs.Tables.{on_to}
use Rattle.bech32_near.proofs.search.pairs.add_single.Goals as goal
use Rattle.bech32_near.proofs.search.pairs.add_single.Goals.{then-entry-next+in_ok-add_entry, else-entry-next}

pub loop-i-init : goal.loop-i-init
loop-i-init g c = λ columns within t.
    let q = c.args.corrector.now in
    let size : ℕ = min g.Ck.Checksum.CHECKSUM_LENGTH 12 in
    let key : ℕ = sketch c.args.rows.now size q.residue in
    let is : c.sketch_of-key.result ≡ key = c.sketch_of-key.ensures ∙ ap (sketch c.args.rows.now size) c.residue.ensures in
    let start : entry_number c.sketch_of-key.result 0 0 ≡ entry_number key 0 0 = ap (λ k. entry_number k 0 0) is in
    record {
      n = 0;
      next = omega (arith, c.entry_of-next.ensures, start);
      most = omega arith;
      passed = λ k low above. absurd (let le = c.first_of-i.ensures t.table.entries_are.sorted k low in omega (arith, le, start, above));
      added = coded_first is_field fe32.value lowest fe32.path value_below g.Ck.Checksum.code.generator q.residue q.erasures c.args.found.now.items c.add_bare.new.found.items
          (c.in_ok-add_bare.ensures t.few (λ items h. is ∙ bare c.args.rows.now size g.Ck.Checksum.code.generator q.erasures t.table.forgotten q.residue items h));
    }

pub loop-i-preserved : goal.loop-i-preserved
loop-i-preserved g c = λ columns within t. elim c.if-entry-next.branch [
  | then-entry-next+in_ok-add_entry w ↦
      let q = c.args.corrector.now in
      let code = g.Ck.Checksum.code in
      let size : ℕ = min g.Ck.Checksum.CHECKSUM_LENGTH 12 in
      let key : ℕ = sketch c.args.rows.now size q.residue in
      let start : ℕ = entry_number key 0 0 in
      let h = c.loop-i.invariant columns within t in
      let i : ℕ = c.loop-i.i in
      let limit : ℕ = c.args.limit in
      let found : ℕ = c.entry_at-entry.result in
      let code_of : ℕ = found - start in
      let is : c.sketch_of-key.result ≡ key = c.sketch_of-key.ensures ∙ ap (sketch c.args.rows.now size) c.residue.ensures in
      let end : c.entry_of-end.result ≡ start + (limit * 32 + 0) = c.entry_of-end.ensures ∙ ap (λ k. entry_number k limit 0) is ∙ entry_is key limit 0 (omega (arith, within, t.wide)) (omega arith) in
      let high : start + h.n ≤ found = omega (arith, h.next, w.if-entry-next.true) in
      let whole : found ≡ start + code_of = omega (arith, high) in
      let below : code_of < limit * 32 = omega (arith, whole, end, c.if-entry-end.false) in
      let wide_code : code_of < 2 ^ 29 = omega (arith, below, within, t.wide) in
      let location : found / 32 % 2 ^ 24 ≡ code_of / 32 = omega (arith, whole, wide_code) in
      let value : found % 32 ≡ code_of % 32 = omega (arith, whole) in
      let more = subst (λ v. AreAdded (IsEarlier fe32.ops fe32.value q.erasures) (HasHighest fe32.ops code.generator q.residue q.erasures (found / 32 % 2 ^ 24, fe32.element found) 0) c.loop-i.found.items v.items)
      (sym w.found-is) (w.in_ok-add_entry.ensures t.few (omega (arith, location, below, within))) in
      record {
        n = code_of + 1;
        next = w.next-is ∙ omega (arith, whole);
        most = omega (arith, below);
        passed = λ k low above. elim (dec_lt k i) [
          | yes p ↦ (let before = h.passed k p above in omega (arith, before, w.next-is, w.if-entry-next.true))
          | no p ↦
              let here : i ≡ k = omega (arith, p, low) in
              let same : found ≡ get_or c.args.entries.now k 0 = c.entry_at-entry.ensures ∙ ap (λ j. get_or c.args.entries.now j 0) here in
              omega (arith, same, w.next-is)
        ];
        added = coded_more is_field fe32.value lowest fe32.path value_below code.generator q.residue q.erasures code_of (code_of + 1) (found / 32 % 2 ^ 24, fe32.element found)
            c.args.found.now.items c.loop-i.found.items c.if-entry-next.found.items
            (omega (arith, location, value)) (omega arith)
            (on_to size code.generator q.erasures q.window c.args.rows.now columns c.args.entries.now t.table q.residue key i h.n code_of limit c.args.found.now.items c.loop-i.found.items
            refl (omega (arith, high, whole)) (omega (arith, below)) within t.wide
            (λ k low above. let before = h.passed k low above in omega (arith, before, h.next))
            (λ inside. omega (arith, whole, c.entry_at-entry.ensures))
            h.added)
            more;
      }
  | else-entry-next w ↦
      let h = c.loop-i.invariant columns within t in
      let i : ℕ = c.loop-i.i in
      record {
        n = h.n;
        next = w.next-is ∙ h.next;
        most = h.most;
        passed = λ k low above. elim (dec_lt k i) [
          | yes p ↦ (let before = h.passed k p above in omega (arith, before, w.next-is))
          | no p ↦
              let here : i ≡ k = omega (arith, p, low) in
              let same : c.entry_at-entry.result ≡ get_or c.args.entries.now k 0 = c.entry_at-entry.ensures ∙ ap (λ j. get_or c.args.entries.now j 0) here in
              omega (arith, same, w.next-is, w.if-entry-next.false)
        ];
        added = subst (λ v. AreAdded (IsEarlier fe32.ops fe32.value c.args.corrector.now.erasures)
            (IsCodedBelow is_field fe32.value lowest fe32.path value_below g.Ck.Checksum.code.generator c.args.corrector.now.residue c.args.corrector.now.erasures h.n)
            c.args.found.now.items v.items) (sym w.found-is) h.added;
      }
]

pub returns-then-entry-end : goal.returns-then-entry-end
returns-then-entry-end g c = λ columns within t.
    let q = c.args.corrector.now in
    let code = g.Ck.Checksum.code in
    let size : ℕ = min g.Ck.Checksum.CHECKSUM_LENGTH 12 in
    let key : ℕ = sketch c.args.rows.now size q.residue in
    let h = c.loop-i.invariant columns within t in
    let limit : ℕ = c.args.limit in
    let is : c.sketch_of-key.result ≡ key = c.sketch_of-key.ensures ∙ ap (sketch c.args.rows.now size) c.residue.ensures in
    let end : c.entry_of-end.result ≡ entry_number key 0 0 + (limit * 32 + 0) = c.entry_of-end.ensures ∙ ap (λ k. entry_number k limit 0) is ∙ entry_is key limit 0 (omega (arith, within, t.wide)) (omega arith) in
    coded_all is_field fe32.value lowest fe32.path value_below code.generator q.residue q.erasures limit c.args.found.now.items c.loop-i.found.items
    (on_to size code.generator q.erasures q.window c.args.rows.now columns c.args.entries.now t.table q.residue key c.loop-i.i h.n (limit * 32) limit c.args.found.now.items c.loop-i.found.items
    refl h.most (omega arith) within t.wide
    (λ k low above. let before = h.passed k low above in omega (arith, before, h.next))
    (λ inside. omega (arith, end, c.if-entry-end.true, c.entry_at-entry.ensures))
    h.added)

pub returns : goal.returns
returns g c = λ columns within t.
    let q = c.args.corrector.now in
    let code = g.Ck.Checksum.code in
    let size : ℕ = min g.Ck.Checksum.CHECKSUM_LENGTH 12 in
    let key : ℕ = sketch c.args.rows.now size q.residue in
    let h = c.loop-i.invariant columns within t in
    let limit : ℕ = c.args.limit in
    let is : c.sketch_of-key.result ≡ key = c.sketch_of-key.ensures ∙ ap (sketch c.args.rows.now size) c.residue.ensures in
    coded_all is_field fe32.value lowest fe32.path value_below code.generator q.residue q.erasures limit c.args.found.now.items c.loop-i.found.items
    (on_to size code.generator q.erasures q.window c.args.rows.now columns c.args.entries.now t.table q.residue key c.loop-i.i h.n (limit * 32) limit c.args.found.now.items c.loop-i.found.items
    refl h.most (omega arith) within t.wide
    (λ k low above. let before = h.passed k low above in omega (arith, before, h.next))
    (λ inside. absurd (omega (arith, inside, c.loop-i-test.false)))
    h.added)

pub add_entry-requires : goal.add_entry-requires
add_entry-requires g c = search rules

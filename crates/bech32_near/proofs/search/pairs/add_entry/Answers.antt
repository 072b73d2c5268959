use Rattle.std.specs.Prelude.{◌≢◌, OnOk}
use Rattle.std.proofs.Common.{◌≡◌, ◌/◌, ◌%◌, ◌^◌, sym, ap, subst, ◌∙◌, refl, arith}
use Rattle.bech32_gf.specs.Fe32 as fe32
use Rattle.bech32_gf.specs.declared.gf32.Fe32.{Fe32}
use Rattle.bech32_near.specs.search.Nearest.{IsEarlier}
use Rattle.bech32_near.specs.search.Steps.{AreAdded, HasHighest}
use Rattle.bech32_near.proofs.NearestAnswers.{among_of}
use Rattle.bech32_near.proofs.NearestLists.{added_none}
use Rattle.bech32_near.proofs.search.pairs.add_entry.Goals as goal

pub returns-then-value-eq0 : goal.returns-then-value-eq0
returns-then-value-eq0 g c = λ few within.
    let q = c.args.corrector.now in
    added_none (IsEarlier fe32.ops fe32.value q.erasures) (HasHighest fe32.ops g.Ck.Checksum.code.generator q.residue q.erasures (c.args.number / 32 % 2 ^ 24, fe32.element c.args.number) 0) c.args.found.now.items
    (λ items h. h.not_zero (fe32.path (fe32.element c.args.number) fe32.zero (omega (arith, c.if-value-eq0.true))))

pub returns-then-is_erasure : goal.returns-then-is_erasure
returns-then-is_erasure g c = λ few within.
    let q = c.args.corrector.now in
    added_none (IsEarlier fe32.ops fe32.value q.erasures) (HasHighest fe32.ops g.Ck.Checksum.code.generator q.residue q.erasures (c.args.number / 32 % 2 ^ 24, fe32.element c.args.number) 0) c.args.found.now.items
    (λ items h. h.outside (among_of q.erasures (c.args.number / 32 % 2 ^ 24) (sym c.is_erasure.ensures ∙ c.if-is_erasure.true)))

pub returns : goal.returns
returns g c = λ few within.
    let q = c.args.corrector.now in
    let same : c.from_low_bits.result ≡ fe32.element c.args.number =
    c.from_low_bits.ensures ∙ fe32.path (fe32.element (c.args.number % 32)) (fe32.element c.args.number) (omega arith) in
    let not_zero : c.from_low_bits.result ≢ fe32.zero = λ e. c.if-value-eq0.false (let k : fe32.value (fe32.element c.args.number) ≡ fe32.value fe32.zero = ap fe32.value (sym same ∙ e) in let z : fe32.value fe32.zero ≡ 0 = refl in omega (arith, k, z)) in
    subst (λ (v : Fe32). OnOk c.gather_with.result (AreAdded (IsEarlier fe32.ops fe32.value q.erasures) (HasHighest fe32.ops g.Ck.Checksum.code.generator q.residue q.erasures (c.args.number / 32 % 2 ^ 24, v) 0) c.args.found.now.items c.gather_with.new.found.items))
    same (c.gather_with.ensures few within (sym c.is_erasure.ensures ∙ c.if-is_erasure.false) not_zero)

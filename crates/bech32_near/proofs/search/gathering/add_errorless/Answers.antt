use Rattle.std.specs.List.{AllByRecursion}
use Rattle.std.specs.Prelude.{◌==◌, true, false, OnOk}
use Rattle.std.proofs.Common.{◌≡◌, ◌++◌, ◌∷◌, [], ℕ, List, length, sym, ap, subst, ◌∙◌, arith}
use Rattle.std.proofs.lemmas.Result.{on_ok_weaker}
use Rattle.bech32_gf.specs.Fe32 as fe32
use Rattle.bech32_gf.specs.declared.gf32.Fe32.{Fe32}
use Rattle.bech32_near.specs.search.Nearest.{IsEarlier}
use Rattle.bech32_near.specs.search.Steps.{AreAdded, IsGathered}
use Rattle.bech32_near.proofs.NearestErrorless.{errorless_none, errorless_one, no_items}
use Rattle.bech32_near.proofs.search.gathering.add_errorless.Goals as goal

pub returns-then-not-is_empty : goal.returns-then-not-is_empty
returns-then-not-is_empty g c = λ few. c.add_answer.ensures (omega (arith, few)) (omega arith)

pub returns-then-not-are_zero : goal.returns-then-not-are_zero
returns-then-not-are_zero g c = λ few.
    let q = c.args.corrector.now in
    let found = c.args.found.now.items in
    let none : q.erasures ≡ [] = no_items q.erasures (ap (λ u. length u == 0) (sym c.erasures.ensures.value) ∙ sym c.is_empty.ensures ∙ c.if-not-is_empty.false) in
    subst (λ (s : List ℕ). AreAdded (IsEarlier fe32.ops fe32.value s) (IsGathered fe32.ops g.Ck.Checksum.code.generator q.residue s 0 0) found found) (sym none)
    (errorless_none g.Ck.Checksum.code.generator q.residue found
    (λ z. let no : false ≡ true = sym c.if-not-are_zero.true ∙ c.are_zero.ensures.1 (subst (λ (u : List Fe32). AllByRecursion (λ (x : Fe32). x ≡ fe32.zero) u) (sym c.residue.ensures) z) in cc no))

pub returns : goal.returns
returns g c = λ few.
    let q = c.args.corrector.now in
    let found = c.args.found.now.items in
    let new = c.push_listing.new.found.items in
    let none : q.erasures ≡ [] = no_items q.erasures (ap (λ u. length u == 0) (sym c.erasures.ensures.value) ∙ sym c.is_empty.ensures ∙ c.if-not-is_empty.false) in
    let zeros = subst (λ (u : List Fe32). AllByRecursion (λ (x : Fe32). x ≡ fe32.zero) u) c.residue.ensures (c.are_zero.ensures.0 c.if-not-are_zero.false) in
    subst (λ (s : List ℕ). OnOk c.push_listing.result (AreAdded (IsEarlier fe32.ops fe32.value s) (IsGathered fe32.ops g.Ck.Checksum.code.generator q.residue s 0 0) found new)) (sym none)
    (on_ok_weaker c.push_listing.result
    (λ pushed. errorless_one g.Ck.Checksum.code.generator q.residue found new (pushed ∙ ap (λ (u : List (ℕ × Fe32)). found ++ u ∷ []) c.new.ensures) zeros)
    c.push_listing.ensures)

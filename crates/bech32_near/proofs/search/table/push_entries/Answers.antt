use Rattle.std.specs.List.{Contains}
use Rattle.std.proofs.Common.{◌≡◌, ◌∷◌, ◌++◌, [], ℕ, List, sym, ap, subst, ◌∙◌, arith, rules}
use Rattle.std.proofs.Math.Decide.{dec_lt}
use Rattle.std.proofs.lemmas.List.Elements.{Contains-append_left, Contains-push}
use Rattle.bech32_near.specs.search.Sketch.{entry_number, key_of}
use Rattle.bech32_near.proofs.search.table.push_entries.Goals as goal

pub loop-value-init : goal.loop-value-init
loop-value-init g c = record { kept = λ number m. m; new = λ value some low. absurd (omega (arith, some, low)) }

pub loop-value-preserved : goal.loop-value-preserved
loop-value-preserved g c =
    let before : List ℕ = c.loop-value.entries.items in
    let pushed : c.push.new.self.items ≡ before ++ (c.entry_of.result ∷ []) = search rules in
    let stays : (number : ℕ) → Contains before number → Contains c.push.new.self.items number =
    λ number m. subst (λ (u : List ℕ). Contains u number) (sym pushed) (Contains-append_left before (c.entry_of.result ∷ []) number m) in
    let is : c.entry_of.result ≡ entry_number (key_of c.args.five c.loop-value.value) c.args.location c.loop-value.value =
    c.entry_of.ensures ∙ ap (λ k. entry_number k c.args.location c.loop-value.value) c.key_of.ensures in
    record {
      kept = λ number m. stays number (c.loop-value.invariant.kept number m);
      new = λ value some low. elim (dec_lt value c.loop-value.value) [
        | yes p ↦ stays _ (c.loop-value.invariant.new value some p)
        | no p ↦
            let same : c.loop-value.value ≡ value = omega (arith, p, low) in
            subst (λ n. Contains c.push.new.self.items (entry_number (key_of c.args.five n) c.args.location n)) same
            (subst (λ n. Contains c.push.new.self.items n) is (subst (λ (u : List ℕ). Contains u c.entry_of.result) (sym pushed) (Contains-push before c.entry_of.result)))
      ];
    }

pub returns-clause-kept : goal.returns-clause-kept
returns-clause-kept g c = c.loop-value.invariant.kept

pub returns-clause-new : goal.returns-clause-new
returns-clause-new g c = λ value some low. c.loop-value.invariant.new value some (omega (arith, low))

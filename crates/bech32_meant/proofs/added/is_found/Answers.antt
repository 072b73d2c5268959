use Rattle.std.specs.Prelude.{map, string_bytes}
use Rattle.std.proofs.Common.{rules, ◌≡◌, true, false, refl, ap, sym, subst, ◌∙◌}
use Rattle.std.proofs.lemmas.List.{take_all}
use Rattle.bech32_poly.specs.Distinct.{IsAmong}
use Rattle.bech32_suggest.proofs.Adding.{found_at, not_yet}
use Rattle.bech32_meant.proofs.added.is_found.Goals as goal

pub returns-then-eq : goal.returns-then-eq
returns-then-eq g c =
    let same : string_bytes c.one-item.result.text ≡ c.args.text.now = search rules in (
      (λ _. found_at (λ s. string_bytes s.text) c.args.text.now c.args.found.now c.loop-one.one-index c.one-item.result c.loop-one-test.true (ap (λ s. string_bytes s.text) (sym c.one-item.is) ∙ same)),
      (λ _. refl),
    )

pub loop-one-preserved : goal.loop-one-preserved
loop-one-preserved g c =
    let other : string_bytes c.one-item.result.text ≡ c.args.text.now → ⊥ = search rules in
    not_yet (λ s. string_bytes s.text) c.args.text.now c.args.found.now c.loop-one.one-index c.one-item.result c.loop-one-test.true (λ e. other (ap (λ s. string_bytes s.text) c.one-item.is ∙ e)) c.loop-one.invariant

pub returns : goal.returns
returns g c = (
  (λ yes. let k : false ≡ true = yes in absurd (cc k)),
  (λ m. absurd (c.loop-one.invariant (subst (λ l. IsAmong c.args.text.now (map (λ s. string_bytes s.text) l)) (sym (take_all c.loop-one.one-index c.args.found.now c.loop-one-test.false)) m))),
)

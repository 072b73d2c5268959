use Rattle.std.proofs.Common.{◌≡◌, ℕ, [], ◌∷◌, ◌++◌, sym, ap, ◌∙◌, arith, rules}
use Rattle.bech32_gf.specs.laws.FieldLaws.{power-zero}
use Rattle.bech32_poly.proofs.RootTerms.{power_next}
use Rattle.bech32_block.specs.Roots.{RootField}
use Rattle.bech32_block.proofs.RootList.{root_found, root_missed, all_found}
use Rattle.bech32_block.proofs.roots.root_exponents.Goals.{then-eq+in_ok-push, else-eq}
use Rattle.bech32_block.proofs.roots.root_exponents.Goals as goal

pub loop-exponent-init : goal.loop-exponent-init
loop-exponent-init g c = record {
  power_is = c.ONE-power.ensures ∙ g.met.E.Field.one_law ∙ sym (power-zero g.met.E.Arithmetic.laws _);
  roots_are = c.new-roots.ensures.items;
}

pub loop-exponent-preserved : goal.loop-exponent-preserved
loop-exponent-preserved g c =
    let f : RootField _ = record { ops = g.E.Arithmetic.ops; same = g.E.PartialEq.eq; embed = g.E.Extension.embed; generator = g.E.Field.GENERATOR; order = g.E.Field.MULTIPLICATIVE_ORDER } in
    let n : ℕ = c.loop-exponent.exponent in
    let found = c.loop-exponent.roots.items in
    let inv = c.loop-exponent.invariant in
    record {
      power_is = power_next g.met.E.Arithmetic.laws f.generator c.loop-exponent.power c.mul-power.result n inv.power_is (g.met.E.Field.mul_law _ _ _ c.mul-power.ensures ∙ ap (f.ops.mul c.loop-exponent.power) c.GENERATOR.ensures);
      roots_are = elim c.if-eq.branch [
        | then-eq+in_ok-push w ↦
            let pushed : w.push.new.self.items ≡ found ++ (n ∷ []) = search rules in
            root_found f c.args.generator.now n c.loop-exponent.power c.generator_at.result c.ZERO.result c.eq.result found c.if-eq.roots.items inv.power_is c.generator_at.ensures (c.ZERO.ensures ∙ g.met.E.Field.zero_law) c.eq.ensures
            w.if-eq.true inv.roots_are (ap (λ v. v.items) w.roots-is ∙ pushed)
        | else-eq w ↦
            root_missed f c.args.generator.now n c.loop-exponent.power c.generator_at.result c.ZERO.result c.eq.result found c.if-eq.roots.items inv.power_is c.generator_at.ensures (c.ZERO.ensures ∙ g.met.E.Field.zero_law) c.eq.ensures
            w.if-eq.false inv.roots_are (ap (λ v. v.items) w.roots-is)
      ];
    }

pub returns : goal.returns
returns g c =
    let f : RootField _ = record { ops = g.E.Arithmetic.ops; same = g.E.PartialEq.eq; embed = g.E.Extension.embed; generator = g.E.Field.GENERATOR; order = g.E.Field.MULTIPLICATIVE_ORDER } in
    let last : c.loop-exponent.exponent ≡ c.MULTIPLICATIVE_ORDER-exponent-end.result = omega arith in
    all_found f c.args.generator.now c.loop-exponent.exponent c.loop-exponent.roots.items (last ∙ c.MULTIPLICATIVE_ORDER-exponent-end.ensures) c.loop-exponent.invariant.roots_are

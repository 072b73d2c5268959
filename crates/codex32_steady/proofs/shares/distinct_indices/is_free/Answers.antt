use Rattle.std.proofs.Common.{◌≡◌, ◌≢◌, ◌-◌, ◌<◌, ℕ, Bool, true, false, nat_eq, length, map, sym, ap, subst, ◌∙◌, refl, arith}
use Rattle.std.proofs.lemmas.Bool.{eqb-true, eq-eqb}
use Rattle.bech32_gf.specs.Fe32 as fe32
use Rattle.bech32_gf.specs.declared.gf32.Fe32.{Fe32}
use Rattle.bech32_poly.specs.Distinct.{IsNotAmong}
use Rattle.bech32_poly.proofs.Loops.{drop_back}
use Rattle.codex32_steady.proofs.OnePlaceMore.{all_at}
use Rattle.codex32_steady.proofs.Written.{length-mapped, map_at}
use Rattle.codex32_steady.proofs.shares.distinct_indices.is_free.Goals as goal

same : (x y r : Fe32) (b : Bool) → r ≡ y → b ≡ nat_eq r.value x.value → b ≡ true → x ≡ y
same x y r b e h t = sym (fe32.path r x (eqb-true r.value x.value (sym h ∙ t))) ∙ e

other : (x y r : Fe32) (b : Bool) → r ≡ y → b ≡ nat_eq r.value x.value → b ≡ false → x ≢ y
other x y r b e h f k = absurd (let t = eq-eqb r.value x.value (ap (λ (z : Fe32). z.value) (e ∙ sym k)) in cc)

pub returns-then-eq : goal.returns-then-eq
returns-then-eq g c = (
  λ yes. absurd (let e = yes in cc),
  λ free.
      let f = g.T.IndexedText.index_of in
      let texts = c.args.texts.now in
      let i : ℕ = c.loop-i.i - 1 in
      let within : i < length texts = omega (arith, c.loop-i-test.true, c.loop-i.invariant.within) in
      let other = all_at (λ y. c.args.index ≢ y) (map f texts) i (f c.index-texts-i.result) free (omega (arith, within, length-mapped f texts))
      (map_at f texts i c.index-texts-i.result (f c.index-texts-i.result) within c.index-texts-i.is refl) in
      absurd (other (same c.args.index (f c.index-texts-i.result) c.index.result c.eq.result c.index.ensures c.eq.ensures c.if-eq.true)),
)

pub loop-i-preserved : goal.loop-i-preserved
loop-i-preserved g c =
    let f = g.T.IndexedText.index_of in
    let texts = c.args.texts.now in
    let i : ℕ = c.loop-i.i - 1 in
    let within : i < length texts = omega (arith, c.loop-i-test.true, c.loop-i.invariant.within) in
    let y = f c.index-texts-i.result in
    record {
      within = omega (arith, c.loop-i.invariant.within);
      free =
          subst (IsNotAmong c.args.index)
          (sym (drop_back (map f texts) c.loop-i.i y c.loop-i-test.true (omega (arith, length-mapped f texts, c.loop-i.invariant.within)) (map_at f texts i c.index-texts-i.result y within c.index-texts-i.is refl)))
          (other c.args.index y c.index.result c.eq.result c.index.ensures c.eq.ensures c.if-eq.false, c.loop-i.invariant.free);
    }

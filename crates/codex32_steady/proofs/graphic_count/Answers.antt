use Rattle.std.proofs.Common.{◌+◌, ◌&&◌, ℕ, refl, sym, subst, arith}
use Rattle.codex32_steady.proofs.Places.{IsRead, read_all, read_more}
use Rattle.codex32_steady.proofs.graphic_count.Goals as goal

pub loop-b-init : goal.loop-b-init
loop-b-init c = record {
  few = omega arith;
  front = refl;
  all = λ _. refl;
  cut = λ t. absurd (cc);
}

pub loop-b-preserved : goal.loop-b-preserved
loop-b-preserved c =
    let bytes = c.args.bytes.now in
    let more = read_more bytes c.loop-b.b-index c.loop-b.count c.loop-b.graphic c.is_ascii_graphic-graphic.result c.loop-b-test.true c.is_ascii_graphic-graphic.ensures.value c.loop-b.invariant in
    subst (λ (n : ℕ). IsRead bytes (c.loop-b.b-index + 1) (c.loop-b.graphic && c.is_ascii_graphic-graphic.result) (c.loop-b.count + n)) (sym c.from-count.ensures) more

pub returns-clause-behind : goal.returns-clause-behind
returns-clause-behind c = read_all c.args.bytes.now c.loop-b.b-index c.loop-b.count c.loop-b.graphic (omega (arith, c.loop-b-test.false)) c.loop-b.invariant

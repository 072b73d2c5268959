use Rattle.std.proofs.Common.{rules, ◌≡◌, ◌++◌, ◌-◌, [], ◌∷◌, arith, sym, ◌∙◌}
use Rattle.std.proofs.lemmas.Bool.{eqb-false, eqb-true}
use Rattle.codex32.proofs.Reading.{unreadable_all, unreadable_more, unreadable_passed}
use Rattle.codex32.proofs.unreadable.unreadable_in.Goals as goal

pub loop-c-preserved-then-not-is_unreadable : goal.loop-c-preserved-then-not-is_unreadable
loop-c-preserved-then-not-is_unreadable g c = record {
  place = omega arith;
  so_far = unreadable_passed c.args.data_part.now c.loop-c.places.items c.loop-c.c-index c.loop-c-test.true c.loop-c.invariant.so_far (eqb-false _ _ (sym c.is_unreadable.ensures ∙ c.if-not-is_unreadable.true));
}

pub loop-c-preserved : goal.loop-c-preserved
loop-c-preserved g c =
    let pushed : c.push.new.self.items ≡ c.loop-c.places.items ++ ((c.loop-c.behind - 1) ∷ []) = search rules in
    record {
      place = omega arith;
      so_far = rw pushed (unreadable_more c.args.data_part.now c.loop-c.places.items c.loop-c.c-index (c.loop-c.behind - 1) c.loop-c-test.true c.loop-c.invariant.so_far (eqb-true _ _ (sym c.is_unreadable.ensures ∙ c.if-not-is_unreadable.false)) (omega arith));
    }

pub returns : goal.returns
returns g c = unreadable_all c.args.data_part.now c.loop-c.places.items c.loop-c.c-index c.loop-c-test.false c.loop-c.invariant.so_far

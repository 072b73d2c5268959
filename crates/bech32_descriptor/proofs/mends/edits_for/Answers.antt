use Rattle.std.proofs.Common.{◌+◌, ℕ, List, length, subst, sym, arith}
use Rattle.bech32_descriptor.specs.Walks.{SufficeFor}
use Rattle.bech32_descriptor.proofs.mends.edits_for.Goals as goal

pub edits_of-requires : goal.edits_of-requires
edits_of-requires g c = record {
  long = c.requires.long;
  rows = subst (λ (r : List ℕ). SufficeFor r (length c.args.text.now + 1)) (sym c.deref.ensures.value) (record {
    few = omega (arith, c.requires.few);
    enough = omega (arith, c.in_ok-rows.ensures.1);
    rows_are = c.in_ok-rows.ensures.0;
  });
}

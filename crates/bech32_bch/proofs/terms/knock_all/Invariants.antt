use Rattle.std.proofs.Common.{◌≤◌, length, drop}
use Rattle.bech32_bch.specs.Search.{IsKnockedOut}
use Rattle.bech32_bch.proofs.terms.knock_all.Given as goal

abbrev pub invariant-loop-i : goal.invariant-loop-i
invariant-loop-i g l = record {
  within : l.i ≤ length l.locators;
  so_far : IsKnockedOut g.K.Arithmetic.ops (drop l.i l.locators) l.fn.items l.items;
}

abbrev pub decreases-loop-i : goal.decreases-loop-i
decreases-loop-i g l = l.i

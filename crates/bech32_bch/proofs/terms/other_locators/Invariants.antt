use Rattle.std.proofs.Common.{◌≡◌, ◌≤◌, take, length}
use Rattle.bech32_bch.specs.Knock.{without}
use Rattle.bech32_bch.specs.Search.{locators}
use Rattle.bech32_bch.proofs.terms.other_locators.Given as goal

abbrev pub invariant-loop-k : goal.invariant-loop-k
invariant-loop-k g l = record {
  so_far : l.others ≡ locators g.K.Arithmetic.ops l.fn.base (without l.location (take l.k l.locations));
  fits : length l.others ≤ l.k;
}

use Rattle.std.proofs.Common.{◌≡◌, ◌++◌, take, drop}
use Rattle.bech32_poly.specs.Division.{push, top}
use Rattle.bech32_poly.proofs.polynomial.division.push_below.Given as goal

abbrev pub invariant-loop-i : goal.invariant-loop-i
invariant-loop-i g l = record {
  moved : l.rest ≡ take l.i (push l.fn.next l.fn.rest) ++ drop l.i l.fn.rest;
  out : l.coming ≡ top l.fn.next (take l.i l.fn.rest);
}

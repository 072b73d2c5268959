use Rattle.std.proofs.Common.{◌≡◌, ◌≤◌, ◌-◌, ◌++◌, length}
use Rattle.bech32_poly.specs.RootSearch.{left_of}
use Rattle.bech32_bch.proofs.locations.push_roots.Given as goal

abbrev pub invariant-loop-location : goal.invariant-loop-location
invariant-loop-location g l = record {
  few : length l.found ≤ l.degree;
  size : length l.factors ≡ length l.terms;
  whole : l.found ++ left_of g.K.Arithmetic.ops g.K.Arithmetic.same (record { terms = l.terms; factors = l.factors; next = l.location; end = l.window })
      ≡ left_of g.K.Arithmetic.ops g.K.Arithmetic.same (record { terms = l.fn.terms; factors = l.factors; next = 0; end = l.window });
}

abbrev pub decreases-loop-location : goal.decreases-loop-location
decreases-loop-location g l = l.window - l.location

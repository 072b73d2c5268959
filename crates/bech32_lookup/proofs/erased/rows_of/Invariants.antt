use Rattle.std.proofs.Common.{◌≡◌, ◌<◌, ℕ, suc, length}
use Rattle.std.specs.Prelude.{slice_index}
use Rattle.bech32_gf.specs.Fe32 as fe32
use Rattle.bech32_poly.specs.Division.{remainder_of}
use Rattle.bech32_poly.specs.Pattern.{monomial}
use Rattle.bech32_poly.specs.Polynomial.{coefficient}
use Rattle.bech32_lookup.specs.Equations.{entry}
use Rattle.bech32_lookup.proofs.erased.rows_of.Given as goal

abbrev pub invariant-loop-i : goal.invariant-loop-i
invariant-loop-i g l =
    let generator = g.Ck.Checksum.code.generator in
    record {
      room : length l.rows ≡ 26;
      first : (place : ℕ) → place < length generator → entry l.rows 0 place ≡ coefficient fe32.ops l.residue place;
      others : (k place : ℕ) → k < l.i → place < length generator
          → entry l.rows (suc k) place ≡ coefficient fe32.ops (remainder_of fe32.ops generator (monomial fe32.ops (slice_index l.erasures k) fe32.one)) place;
    }

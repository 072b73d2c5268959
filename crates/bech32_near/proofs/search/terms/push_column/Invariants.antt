use Rattle.std.proofs.Common.{◌≡◌, ◌++◌, min}
use Rattle.bech32_gf.specs.Fe32 as fe32
use Rattle.bech32_poly.specs.Pattern.{monomial}
use Rattle.bech32_checksum.specs.Code.{IsResidueOf}
use Rattle.bech32_checksum.specs.Packed.{tabulate}
use Rattle.bech32_near.specs.search.Sketch.{sketch_at}
use Rattle.bech32_near.proofs.search.terms.push_column.Given as goal

abbrev pub invariant-loop : goal.invariant-loop
invariant-loop g l = record {
  items : l.columns.items ≡ l.fn.columns.items
      ++ tabulate l.counter (λ location. sketch_at l.rows (min g.Ck.Checksum.CHECKSUM_LENGTH 12) g.Ck.Checksum.code.generator location l.fn.value);
  term : IsResidueOf g.Ck.MidstateRepr.PackedFe32.number g.Ck.Checksum.code l.engine (monomial fe32.ops l.counter l.fn.value);
}

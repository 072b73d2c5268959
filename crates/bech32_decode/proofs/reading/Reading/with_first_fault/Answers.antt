use Rattle.std.proofs.Common.{ℕ, List}
use Rattle.bech32_gf.specs.laws.Fe32Laws.{is_field}
use Rattle.bech32_poly.proofs.Remainder.{remainder_unique}
use Rattle.bech32_decode.proofs.reading.Reading.with_first_fault.Goals as goal

pub invariant_of-result : goal.invariant_of-result
invariant_of-result g c =
    let code = g.Ck.Checksum.code in
    let degree = g.met.Ck.Checksum.degree_law in
    record {
      is_reading = record {
        grammar = c.in_ok-hrp.ensures.1;
        clear = rw degree c.residue_of.ensures.clear;
        leaves = remainder_unique is_field code.generator _ _ c.residue_of.ensures.residue;
      };
    }

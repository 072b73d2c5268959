use Rattle.std.specs.Prelude.{◌≢◌, slice_index}
use Rattle.std.proofs.Common.{◌≡◌, ◌<◌, ◌+◌, ℕ, suc, [], length, slice_set, sym, ap, ◌∙◌, refl, arith}
use Rattle.std.proofs.Math.Decide.{dec_lt}
use Rattle.std.proofs.lemmas.List.{length-set}
use Rattle.bech32_gf.specs.Fe32 as fe32
use Rattle.bech32_gf.specs.laws.Fe32Laws.{is_field}
use Rattle.bech32_poly.specs.Division.{remainder_of}
use Rattle.bech32_poly.specs.Pattern.{monomial}
use Rattle.bech32_poly.specs.Polynomial.{coefficient}
use Rattle.bech32_lookup.specs.Equations.{entry}
use Rattle.bech32_lookup.specs.declared.erased.Row.{Row}
use Rattle.bech32_lookup.proofs.Elimination.{entry-other, entry-same}
use Rattle.bech32_lookup.proofs.erased.rows_of.Goals as goal

pub first_of-requires : goal.first_of-requires
first_of-requires g c = omega (arith, c.CHECKSUM_LENGTH.ensures, g.met.Ck.Checksum.packing_laws.fits, g.met.Ck.MidstateRepr.PackedFe32.wide_law)

pub loop-i-init : goal.loop-i-init
loop-i-init g c = record {
  room = refl;
  first = λ place less. c.first_of.ensures place (omega (arith, less, c.CHECKSUM_LENGTH.ensures, g.met.Ck.Checksum.degree_law));
  others = λ k place h less. absurd (omega arith);
}

pub loop-i-preserved : goal.loop-i-preserved
loop-i-preserved g c =
    let i : ℕ = c.loop-i.i in
    let items = λ (r : Row). r.items in
    let none : Row = record { items = [] } in
    let rows = c.loop-i.rows in
    let generator = g.Ck.Checksum.code.generator in
    let room : i + 1 < length rows = omega (arith, c.loop-i.invariant.room, c.requires) in
    let other : 0 ≢ i + 1 = λ e. omega (arith, e) in
    record {
      room = length-set _ _ _ ∙ c.loop-i.invariant.room;
      first = λ place less. entry-other is_field items none rows (i + 1) 0 c.row_of.result place other ∙ c.loop-i.invariant.first place less;
      others = λ k place h less. elim (dec_lt k i) [
        | yes below ↦ entry-other is_field items none rows (i + 1) (suc k) c.row_of.result place (λ e. omega (arith, e, below)) ∙ c.loop-i.invariant.others k place below less
        | no above ↦ (
            let same : k ≡ c.loop-i.i = omega arith in
            let next : suc k ≡ c.loop-i.i + 1 = omega (arith, same) in
            ap (λ n. entry (slice_set rows (i + 1) c.row_of.result) n place) next
            ∙ entry-same is_field items none rows (i + 1) c.row_of.result place room
            ∙ c.row_of.ensures place less
            ∙ ap (λ n. coefficient fe32.ops (remainder_of fe32.ops generator (monomial fe32.ops (slice_index c.args.erasures.now n) fe32.one)) place) (sym same)
            )
      ];
    }

pub returns-clause-others : goal.returns-clause-others
returns-clause-others g c = λ k place h less. c.loop-i.invariant.others k place (omega (arith, h, c.loop-i-test.false)) less

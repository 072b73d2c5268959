use Rattle.std.proofs.Common.{◌+◌, ◌-◌, ◌∷◌, [], ℕ, subst, arith}
use Rattle.bech32_gf.specs.Fe32 as fe32
use Rattle.bech32_gf.specs.laws.Fe32Laws.{is_field}
use Rattle.bech32_poly.specs.Pattern.{pattern_polynomial}
use Rattle.bech32_checksum.specs.Code.{IsResidueOf}
use Rattle.bech32_bch.proofs.Loops.{all_below}
use Rattle.bech32_bch.proofs.Patterns.{values_from, whole_pattern}
use Rattle.bech32_lookup.proofs.Remainders.{same_remainder, values_from-more}
use Rattle.bech32_lookup.proofs.division.listed_engine.Goals as goal

pub loop-location-init : goal.loop-location-init
loop-location-init g c =
    let highest : ℕ = c.highest_location-location.result in
    record {
      count = 0;
      above = all_below c.args.listing.now highest (highest + 0) (omega arith) c.highest_location-location.ensures.bound;
      so_far = subst (λ v. IsResidueOf g.Ck.MidstateRepr.PackedFe32.number g.Ck.Checksum.code c.input_fe.new.self (v ∷ [])) c.value_at_location.ensures (c.input_fe.ensures [] c.zero-engine.ensures);
    }

pub loop-location-preserved : goal.loop-location-preserved
loop-location-preserved g c =
    let n : ℕ = c.loop-location.invariant.count in
    let location : ℕ = c.loop-location.location in
    let holds = IsResidueOf g.Ck.MidstateRepr.PackedFe32.number g.Ck.Checksum.code c.input_fe-in-loop-location.new.self in
    record {
      count = n + 1;
      above = all_below c.args.listing.now (location + n) (location - 1 + (n + 1)) (omega arith) c.loop-location.invariant.above;
      so_far = subst holds (values_from-more fe32.ops c.args.listing.now location n (omega arith))
          (subst (λ v. holds (v ∷ values_from fe32.ops c.args.listing.now location (n + 1))) c.value_at_location-in-loop-location.ensures
          (c.input_fe-in-loop-location.ensures (values_from fe32.ops c.args.listing.now location (n + 1)) c.loop-location.invariant.so_far));
    }

pub returns : goal.returns
returns g c =
    same_remainder is_field g.Ck.Checksum.code.generator (values_from fe32.ops c.args.listing.now c.loop-location.location (c.loop-location.invariant.count + 1)) (pattern_polynomial fe32.ops c.args.listing.now) _
    (whole_pattern is_field g.Ck.Checksum.code.generator c.args.listing.now c.loop-location.location c.loop-location.invariant.count (omega arith) c.loop-location.invariant.above)
    c.loop-location.invariant.so_far

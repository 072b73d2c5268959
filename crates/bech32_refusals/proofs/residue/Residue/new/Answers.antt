use Rattle.std.proofs.Common.{◌∙◌, ◌<◌, length, arith, refl, ap}
use Rattle.std.proofs.lemmas.List.{length-set}
use Rattle.bech32_gf.specs.Fe32.{element}
use Rattle.bech32_refusals.proofs.Coefficients.{coefficient-replicate, element-digit_of, read-more, rest-less, read-all}
use Rattle.bech32_refusals.proofs.residue.Residue.new.Goals as goal

pub loop-i-init : goal.loop-i-init
loop-i-init g c = record {
  room = refl;
  read = λ n h. absurd (omega arith);
  rest = λ n h. coefficient-replicate 25 n _;
}

pub loop-i-preserved : goal.loop-i-preserved
loop-i-preserved g c =
    let number = g.R.PackedFe32.number c.args.packed.now in
    let wide = g.met.R.PackedFe32.wide_law in
    let end = c.WIDTH-i-end.ensures in
    let room = c.loop-i.invariant.room in
    let there : c.loop-i.i < length c.loop-i.digits = omega arith in
    record {
      room = length-set _ _ _ ∙ room;
      read = read-more c.loop-i.digits number c.loop-i.i c.from_low_bits.result there
          (c.from_low_bits.ensures ∙ ap element c.unpack.ensures.value ∙ element-digit_of number c.loop-i.i) c.loop-i.invariant.read;
      rest = rest-less c.loop-i.digits c.loop-i.i c.from_low_bits.result c.loop-i.invariant.rest;
    }

pub invariant_of-result : goal.invariant_of-result
invariant_of-result g c = record { full = c.loop-i.invariant.room }

pub returns : goal.returns
returns g c =
    let number = g.R.PackedFe32.number c.args.packed.now in
    let end = c.WIDTH-i-end.ensures in
    read-all c.loop-i.digits number g.R.PackedFe32.WIDTH c.requires
    (λ n h. c.loop-i.invariant.read n (omega arith))
    (λ n h. c.loop-i.invariant.rest n (omega arith))

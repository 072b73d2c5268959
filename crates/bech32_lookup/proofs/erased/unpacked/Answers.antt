use Rattle.std.proofs.Common.{◌<◌, ℕ, length, ◌∙◌, refl, arith}
use Rattle.std.proofs.lemmas.List.{length-set}
use Rattle.bech32_gf.specs.laws.Fe32Laws.{is_field}
use Rattle.bech32_checksum.specs.Packed.{digit_of}
use Rattle.bech32_lookup.proofs.Elimination.{one_more_at}
use Rattle.bech32_lookup.proofs.erased.unpacked.Goals as goal

pub loop-place-init : goal.loop-place-init
loop-place-init g c = record { room = refl; read = λ n h. absurd (omega arith) }

pub loop-place-preserved : goal.loop-place-preserved
loop-place-preserved g c =
    let place : ℕ = c.loop-place.place in
    let there : place < length c.loop-place.items = omega (arith, c.loop-place.invariant.room, c.requires.size) in
    record {
      room = length-set _ _ _ ∙ c.loop-place.invariant.room;
      read = one_more_at is_field c.loop-place.items (digit_of (g.R.PackedFe32.number c.args.row.now)) place c.packed_coefficient.result there c.packed_coefficient.ensures c.loop-place.invariant.read;
    }

pub returns : goal.returns
returns g c = λ n h. c.loop-place.invariant.read n (omega arith)

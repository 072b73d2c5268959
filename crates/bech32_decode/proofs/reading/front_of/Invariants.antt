use Rattle.std.proofs.Common.{length, ◌-◌, ◌+◌, ◌*◌, ◌^◌, ◌≡◌, ◌≤◌, true, take}
use Rattle.std.specs.List.{list_all}
use Rattle.bech32_hrp.specs.Hrp.{is_graphic, is_lower, is_upper}
use Rattle.bech32_decode.specs.Letters.{letter_count}
use Rattle.bech32_decode.proofs.reading.front_of.Given as goal

abbrev pub invariant-loop-front : goal.invariant-loop-front
invariant-loop-front l =
    let taken = take l.front.length l.text in
    record {
      bound : l.front.length ≤ length l.text;
      few : l.front.length ≤ 84;
      graphic : list_all is_graphic taken ≡ true;
      counts : l.front.counts ≡ letter_count is_lower taken + 2 ^ 12 * letter_count is_upper taken;
    }

abbrev pub decreases-loop-front : goal.decreases-loop-front
decreases-loop-front l = length l.text - l.front.length

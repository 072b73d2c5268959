use Rattle.std.proofs.Common.{◌≡◌, ◌<◌, ◌*◌, ◌^◌, ℕ, get_or}
use Rattle.bech32_checksum.specs.Packed.{digit_of, sum_of_words}
use Rattle.bech32_checksum.proofs.PartialProduct.{partial_product}
use Rattle.bech32_checksum.proofs.Checksum.generator_times.Given as goal

abbrev pub invariant-loop-i : goal.invariant-loop-i
invariant-loop-i g l =
    let number = g.Self.MidstateRepr.PackedFe32.number in
    let word = number (get_or g.Self.Checksum.GENERATOR_SH 0 g.Self.Checksum.TARGET_RESIDUE) in
    record {
      clear : number l.sum < 2 ^ (5 * g.Self.Checksum.CHECKSUM_LENGTH);
      digits : (n : ℕ) → digit_of (number l.sum) n ≡ partial_product l.i l.bits (digit_of word n);
      words : number l.sum ≡ sum_of_words (λ i. number (get_or g.Self.Checksum.GENERATOR_SH i g.Self.Checksum.TARGET_RESIDUE)) l.i l.bits;
    }

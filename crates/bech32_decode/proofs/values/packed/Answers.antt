use Rattle.std.proofs.Common.{arith, refl}
use Rattle.bech32_decode.proofs.ValueWords.{word_bytes}
use Rattle.bech32_decode.proofs.values.packed.Goals as goal

pub returns : goal.returns
returns c =
    let p = word_bytes c.args.bytes _ _ _ (omega arith) c.requires refl refl refl in
    record { elements = p.0; small = p.1 }

use Rattle.std.proofs.Common.{◌∷◌, [], sym, ◌∙◌}
use Rattle.bech32_gf.specs.Fe32.{one}
use Rattle.bech32_descriptor.proofs.Checksums.{is_checksum}
use Rattle.bech32_descriptor.proofs.checks.checksum.Goals as goal

pub returns : goal.returns
returns c =
    let held = c.input_target_residue.ensures _ (c.input_characters.ensures (one ∷ []) c.new-engine.ensures) in
    rw c.letters.ensures (rw c.residue.ensures.value (is_checksum c.args.text.now c.input_target_residue.new.self (sym c.first_stranger.ensures ∙ c.in_default.is) held))

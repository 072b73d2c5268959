use Rattle.std.proofs.Common.{◌+◌, ◌*◌, ℕ, get_or, ap, ◌∙◌}
use Rattle.bech32_checksum.specs.Syndromes.{pair_at}
use Rattle.bech32_checksum.specs.declared.checksums.syndromes.TheConstants.{SYNDROMES}
use Rattle.bech32_checksum.proofs.Syndromes.{entry}
use Rattle.bech32_checksum.proofs.checksums.beside.syndromes_at.Goals as goal

pub returns : goal.returns
returns c j below =
    ap (λ (v : ℕ). pair_at (get_or SYNDROMES (32 * c.args.place + v) 0) j) c.to_u8.ensures
    ∙ entry c.args.place j c.args.element c.requires below

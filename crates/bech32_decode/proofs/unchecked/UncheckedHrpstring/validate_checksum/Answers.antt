use Rattle.std.proofs.Common.{◌∙◌, sym, ap}
use Rattle.bech32_checksum.specs.Code.{Code}
use Rattle.bech32_decode.proofs.Checksums.{has_target-degree_0}
use Rattle.bech32_decode.proofs.unchecked.UncheckedHrpstring.validate_checksum.Goals as goal

pub returns-then-CHECKSUM_LENGTH-eq0 : goal.returns-then-CHECKSUM_LENGTH-eq0
returns-then-CHECKSUM_LENGTH-eq0 g c =
    let laws = g.met.Ck.Checksum in
    let degree = laws.degree_law in
    let lengths = c.in_ok-validate_lengths.ensures in
    let none = sym c.CHECKSUM_LENGTH.ensures ∙ c.if-CHECKSUM_LENGTH-eq0.true in
    (lengths.0, lengths.1, has_target-degree_0 g.Ck.Checksum.code _ _ degree (ap (λ (k : Code). k.target) laws.code_law) none _)

pub returns-in-Ok : goal.returns-in-Ok
returns-in-Ok g c =
    let lengths = c.in_ok-validate_lengths.ensures in
    (lengths.0, lengths.1, c.in-Ok.ensures _ (rw c.part.ensures at c.residue_of-residue.ensures.residue))

pub returns-in-Err : goal.returns-in-Err
returns-in-Err g c =
    let lengths = c.in_ok-validate_lengths.ensures in
    (lengths.0, lengths.1, c.in-Err.ensures _ (rw c.part.ensures at c.residue_of-residue.ensures.residue))

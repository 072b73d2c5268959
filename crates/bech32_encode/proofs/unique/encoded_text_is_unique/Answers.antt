use Rattle.bech32_checksum.proofs.Digits.{length-tabulate}
use Rattle.bech32_encode.proofs.ChecksumEnds.{target-length}
use Rattle.bech32_encode.proofs.OneText.{one_checksum, one_text, one_in_case}
use Rattle.bech32_encode.proofs.unique.encoded_text_is_unique.Goals as goal

pub returns-clause-checksum : goal.returns-clause-checksum
returns-clause-checksum g c =
    let laws = g.met.Ck.Checksum in
    one_checksum g.Ck.Checksum.code (target-length g.Ck.Checksum.code _ _ laws.code_law (length-tabulate _ _) laws.degree_law)

pub returns-clause-text : goal.returns-clause-text
returns-clause-text g c =
    let laws = g.met.Ck.Checksum in
    one_text g.Ck.Checksum.code (target-length g.Ck.Checksum.code _ _ laws.code_law (length-tabulate _ _) laws.degree_law)

pub returns-clause-in_case : goal.returns-clause-in_case
returns-clause-in_case g c upper hrp elements =
    let laws = g.met.Ck.Checksum in
    one_in_case g.Ck.Checksum.code (target-length g.Ck.Checksum.code _ _ laws.code_law (length-tabulate _ _) laws.degree_law) hrp elements upper

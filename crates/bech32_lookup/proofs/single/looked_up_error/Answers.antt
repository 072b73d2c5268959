use Rattle.bech32_lookup.proofs.Trimmed.{single_of}
use Rattle.bech32_lookup.proofs.single.looked_up_error.Goals as goal

pub returns-in-Some : goal.returns-in-Some
returns-in-Some g c =
    single_of g.Ck.Checksum.code.generator c.in-Some.list.now c.args.residue.now g.Ck.Checksum.CODE_LENGTH c.one_error.result
    (rw c.in-Some.is at c.trimmed.ensures) c.one_error.ensures

use Rattle.std.proofs.Common.{ap}
use Rattle.bech32_checksum.specs.Code.{Code}
use Rattle.bech32_decode.proofs.Checksums.{accepts-degree_0}
use Rattle.bech32_decode.proofs.Decoding.{accepted-from_checked}
use Rattle.bech32_decode.proofs.checked.CheckedHrpstring.new.Goals as goal

pub returns-clause-accepts : goal.returns-clause-accepts
returns-clause-accepts g c = accepted-from_checked g.Ck.Checksum.code c.args.s.now c.utf8.s c.read.result c.read.ensures

pub returns-clause-no_checksum : goal.returns-clause-no_checksum
returns-clause-no_checksum g c none =
    let laws = g.met.Ck.Checksum in
    let read = accepted-from_checked g.Ck.Checksum.code c.args.s.now c.utf8.s c.read.result c.read.ensures in
    let same = accepts-degree_0 g.Ck.Checksum.code _ _ laws.degree_law (ap (λ (k : Code). k.target) laws.code_law) g.Ck.Checksum.CODE_LENGTH laws.code_length_law none c.args.s.now in
    (λ ok. same.0 (read.0 ok), λ h. read.1 (same.1 h))

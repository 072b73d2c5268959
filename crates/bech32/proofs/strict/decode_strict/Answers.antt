use Rattle.bech32.proofs.Spellings.{bytes_back, decoded-from_strict, spelled-from_outcome}
use Rattle.bech32.proofs.strict.decode_strict.Goals as goal

pub returns-clause-value : goal.returns-clause-value
returns-clause-value g c = spelled-from_outcome (λ v. v.items) g.Ck.Checksum.code c.args.s.now c.content_in.result c.content_in.ensures.value

pub returns-clause-accepts : goal.returns-clause-accepts
returns-clause-accepts g c = decoded-from_strict g.Ck.Checksum.code c.args.s.now c.utf8.s c.content_in.result c.content_in.ensures.refused

pub returns-clause-refused : goal.returns-clause-refused
returns-clause-refused g c = c.content_in.ensures.refused

pub returns-clause-back : goal.returns-clause-back
returns-clause-back g c = bytes_back (λ v. v.items) g.Ck.Checksum.code c.args.s.now c.utf8.s c.content_in.result c.content_in.ensures.value c.content_in.ensures.refused

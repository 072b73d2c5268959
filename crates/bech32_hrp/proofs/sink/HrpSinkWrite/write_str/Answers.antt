use Rattle.std.proofs.Common.{rules}
use Rattle.bech32_hrp.proofs.Pieces.{kept_by, Holds-more, whole_more}
use Rattle.bech32_hrp.proofs.sink.HrpSinkWrite.write_str.Goals as goal

pub invariant_of-self : goal.invariant_of-self
invariant_of-self c =
    let k = kept_by c.args.self.now.buf c.args.s.now c.put.new.buf c.args.self.now.length c.min-kept.result c.saturating_add-self.result c.min-at.result (search rules) (search rules) (search rules) (search rules) (search rules) in
    record { whole = whole_more _ _ _ _ _ (search rules) k (search rules) c.args.self.now.whole c.utf8.s }

pub returns-clause-piece : goal.returns-clause-piece
returns-clause-piece c = λ text held.
    let k = kept_by c.args.self.now.buf c.args.s.now c.put.new.buf c.args.self.now.length c.min-kept.result c.saturating_add-self.result c.min-at.result (search rules) (search rules) (search rules) (search rules) (search rules) in
    let h = Holds-more c.args.self.now.buf c.args.s.now c.put.new.buf text c.args.self.now.length c.saturating_add-self.result k (search rules) held.front held.count in
    record { front = h.0; count = h.1 }

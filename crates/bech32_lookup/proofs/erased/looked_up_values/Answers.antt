use Rattle.bech32_checksum.specs.OneError.{valued}
use Rattle.bech32_lookup.proofs.Trimmed.{left_of}
use Rattle.bech32_lookup.proofs.Valued.{left_behind}
use Rattle.bech32_lookup.proofs.erased.looked_up_values.Goals as goal

pub returns : goal.returns
returns g c =
    left_behind g.Ck.Checksum.code.generator c.args.residue.now c.args.erasures.now c.in_ok-found.found c.behind_first.result c.behind_first.ensures
    (left_of g.Ck.Checksum.code.generator c.in_ok-list.list.now c.args.residue.now (valued c.args.erasures.now c.in_ok-found.found) c.in_ok-list.ensures c.in_ok-found.ensures)

use Rattle.std.proofs.Common.{◌-◌, length, drop, arith, take_all, length-drop}
use Rattle.bech32_decode.proofs.unchecked.UncheckedHrpstring.remove_witness_version.Goals as goal

pub returns-clause-rest : goal.returns-clause-rest
returns-clause-rest c =
    let characters = c.args.self.now.data_part_ascii.now in
    take_all (length characters - 1) (drop 1 characters) (omega (arith, length-drop 1 characters))

use Rattle.bech32_checksum.proofs.Beside.{element_said}
use Rattle.bech32_checksum.proofs.NoValues.{less_taken, six_packed}
use Rattle.bech32_checksum.proofs.checksums.beside.element_beside.Goals as goal

pub value_at_one-requires : goal.value_at_one-requires
value_at_one-requires c =
    less_taken c.packed_list.result c.multiple_of-row.result _ c.args.error.1
    (six_packed c.args.residue.now c.packed_list.result c.requires.six c.packed_list.ensures) c.multiple_of-row.ensures

pub returns : goal.returns
returns c =
    element_said c.args.residue.now c.packed_list.result c.multiple_of-row.result c.args.location c.args.error c.value_at_one.result c.requires.six c.packed_list.ensures
    c.requires.small c.requires.error c.multiple_of-row.ensures c.value_at_one.ensures

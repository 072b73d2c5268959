use Rattle.bech32_checksum.proofs.Erased.{one_found}
use Rattle.bech32_checksum.proofs.NoValues.{none_of_one, six_packed}
use Rattle.bech32_checksum.proofs.checksums.erased.value_by_row.Goals as goal

pub value_at_one-requires : goal.value_at_one-requires
value_at_one-requires c = six_packed c.args.residue.now c.packed_list.result c.requires.six c.packed_list.ensures

pub returns-in-Found : goal.returns-in-Found
returns-in-Found c =
    one_found c.args.locations.now c.args.residue.now c.packed_list.result c.in-Some.first
    c.in-Found.value _ _
    c.requires.one c.requires.six c.packed_list.ensures (rw c.in-Some.is at c.row_at.ensures) (rw c.in-Found.is at c.value_at_one.ensures)

pub returns-in-Absent : goal.returns-in-Absent
returns-in-Absent c =
    none_of_one c.args.locations.now c.args.residue.now c.packed_list.result c.in-Some.first _
    c.requires.one c.requires.six c.packed_list.ensures (rw c.in-Some.is at c.row_at.ensures) (rw c.in-Absent.is at c.value_at_one.ensures)

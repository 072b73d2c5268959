use Rattle.bech32_checksum.proofs.Erased.{two_found}
use Rattle.bech32_checksum.proofs.NoValues.{none_of_two, six_packed}
use Rattle.bech32_checksum.proofs.checksums.erased.values_by_two_rows.Goals as goal

pub values_at_two-requires : goal.values_at_two-requires
values_at_two-requires c = six_packed c.args.residue.now c.packed_list.result c.requires.six c.packed_list.ensures

pub returns-in-Found : goal.returns-in-Found
returns-in-Found c =
    two_found c.args.locations.now c.args.residue.now c.packed_list.result c.in-Some.first c.in-Some-row_at.second
    c.in-Found.values.0 c.in-Found.values.1 _ _ _
    c.requires.two c.requires.six c.packed_list.ensures (rw c.in-Some.is at c.row_at.ensures) (rw c.in-Some-row_at.is at c.row_at-2.ensures) (rw c.in-Found.is at c.values_at_two.ensures)

pub returns-in-Absent : goal.returns-in-Absent
returns-in-Absent c =
    none_of_two c.args.locations.now c.args.residue.now c.packed_list.result c.in-Some.first c.in-Some-row_at.second _ _
    c.requires.two c.requires.six c.packed_list.ensures (rw c.in-Some.is at c.row_at.ensures) (rw c.in-Some-row_at.is at c.row_at-2.ensures) (rw c.in-Absent.is at c.values_at_two.ensures)

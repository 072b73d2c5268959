use Rattle.bech32_checksum.proofs.Erased.{three_found}
use Rattle.bech32_checksum.proofs.NoValues.{none_of_three, six_packed}
use Rattle.bech32_checksum.proofs.checksums.erased.values_by_three_rows.Goals as goal

pub values_at_three-requires : goal.values_at_three-requires
values_at_three-requires c = six_packed c.args.residue.now c.packed_list.result c.requires.six c.packed_list.ensures

pub returns-in-Found : goal.returns-in-Found
returns-in-Found c =
    three_found c.args.locations.now c.args.residue.now c.packed_list.result c.in-Some.first c.in-Some-row_at.second c.in-Some-row_at-2.third
    c.in-Found.values.0 c.in-Found.values.1 c.in-Found.values.2 _ _ _ _
    c.requires.three c.requires.six c.packed_list.ensures (rw c.in-Some.is at c.row_at.ensures) (rw c.in-Some-row_at.is at c.row_at-2.ensures) (rw c.in-Some-row_at-2.is at c.row_at-3.ensures) (rw c.in-Found.is at c.values_at_three.ensures)

pub returns-in-Absent : goal.returns-in-Absent
returns-in-Absent c =
    none_of_three c.args.locations.now c.args.residue.now c.packed_list.result c.in-Some.first c.in-Some-row_at.second c.in-Some-row_at-2.third _ _ _
    c.requires.three c.requires.six c.packed_list.ensures (rw c.in-Some.is at c.row_at.ensures) (rw c.in-Some-row_at.is at c.row_at-2.ensures) (rw c.in-Some-row_at-2.is at c.row_at-3.ensures) (rw c.in-Absent.is at c.values_at_three.ensures)

use Rattle.std.proofs.Common.{◌≡◌, ℕ, List, [], ◌∷◌, length, eqb-true, sym, ◌∙◌}
use Rattle.bech32_lookup.proofs.OneError.{empty}
use Rattle.bech32_correction.proofs.Outcomes.{found_listing, found_none}
use Rattle.bech32_correction.proofs.in_place.lookup_listing.Goals as goal

pub returns-in-Found : goal.returns-in-Found
returns-in-Found g c =
    let given = c.args.erasures.now in
    let none : given ≡ [] = empty given (eqb-true (length given) 0 (sym c.is_empty.ensures ∙ c.if-is_empty.true)) in
    found_listing g.Ck.Checksum.code g.Ck.Checksum.bound c.args.reading.now.text.now given c.in-Found.error c.of_one.result none c.of_one.ensures
    (rw c.in-Found.is at c.error_of_read.ensures)

pub returns-in-Absent : goal.returns-in-Absent
returns-in-Absent g c =
    let given = c.args.erasures.now in
    let none : given ≡ [] = empty given (eqb-true (length given) 0 (sym c.is_empty.ensures ∙ c.if-is_empty.true)) in
    found_none g.Ck.Checksum.code g.Ck.Checksum.bound c.args.reading.now.text.now given none (rw c.in-Absent.is at c.error_of_read.ensures)

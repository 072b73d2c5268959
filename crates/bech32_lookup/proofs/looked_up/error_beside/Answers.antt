use Rattle.std.proofs.Common.{arith}
use Rattle.bech32_lookup.proofs.OneError.{not_zero_by_eq}
use Rattle.bech32_lookup.proofs.looked_up.error_beside.Goals as goal

pub returns-in-Absent : goal.returns-in-Absent
returns-in-Absent g c = rw c.in-Absent.is at c.lookup_error_beside.ensures

pub returns : goal.returns
returns g c =
    let both = rw c.in-Found.is at c.lookup_error_beside.ensures in
    (both.0, (λ e. omega (arith, e, c.if-location-erasure.false), (not_zero_by_eq c.in-Found.found.1.1 c.eq.result c.eq.ensures c.if-eq.false, both.1)))

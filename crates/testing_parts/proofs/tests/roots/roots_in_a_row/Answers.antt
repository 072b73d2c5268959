use Rattle.std.proofs.Common.{◌≡◌, ◌<◌, ◌≤◌, ◌-◌, arith}
use Rattle.bech32_checksum.proofs.RootTests.{lawful_exponents}
use Rattle.testing_parts.proofs.tests.roots.roots_in_a_row.Goals as goal

pub overflow_sub-result : goal.overflow_sub-result
overflow_sub-result g c =
    let start = g.Ck.Checksum.ROOT_EXPONENTS_START in
    let end = g.Ck.Checksum.ROOT_EXPONENTS_END in
    let degree = g.Ck.Checksum.CHECKSUM_LENGTH in
    let start_read : c.ROOT_EXPONENTS_START.result ≡ start = c.ROOT_EXPONENTS_START.ensures in
    let end_read : c.ROOT_EXPONENTS_END.result ≡ end = c.ROOT_EXPONENTS_END.ensures in
    let exponents : (start ≤ end) × (end - start < degree) =
    lawful_exponents _ _ _ _ start end degree
    g.met.Ck.Checksum.degree_law
    c.requires.positive c.requires.lawful in
    omega arith

pub overflow_add-result : goal.overflow_add-result
overflow_add-result g c =
    let start = g.Ck.Checksum.ROOT_EXPONENTS_START in
    let end = g.Ck.Checksum.ROOT_EXPONENTS_END in
    let degree = g.Ck.Checksum.CHECKSUM_LENGTH in
    let start_read : c.ROOT_EXPONENTS_START.result ≡ start = c.ROOT_EXPONENTS_START.ensures in
    let end_read : c.ROOT_EXPONENTS_END.result ≡ end = c.ROOT_EXPONENTS_END.ensures in
    let exponents : (start ≤ end) × (end - start < degree) =
    lawful_exponents _ _ _ _ start end degree
    g.met.Ck.Checksum.degree_law
    c.requires.positive c.requires.lawful in
    let fits : degree ≤ g.Ck.MidstateRepr.PackedFe32.WIDTH = g.met.Ck.Checksum.packing_laws.fits in
    let wide : g.Ck.MidstateRepr.PackedFe32.WIDTH ≤ 25 = g.met.Ck.MidstateRepr.PackedFe32.wide_law in
    omega arith

use Rattle.std.proofs.Common.{◌≤◌, length, subst, arith}
use Rattle.bech32_gf.specs.Fe32 as fe32
use Rattle.bech32_gf.specs.laws.Fe32Laws.{is_field}
use Rattle.bech32_checksum.specs.TextPolynomial.{hrp_elements}
use Rattle.codex32_steady.specs.shares.Shares.{IsDerived}
use Rattle.codex32_steady.proofs.OfChecksum.{all, back}
use Rattle.codex32_steady.proofs.Strings.{derived_string, one_size}
use Rattle.codex32_steady.proofs.shares.laws.derived_strings_are_strings.Goals as goal

pub returns : goal.returns
returns c = λ code hrp header n m xs ps texts x text two shares are derived.
    let these = all code hrp header n xs ps texts are in
    let some : 1 ≤ length xs = omega arith in
    let size = one_size is_field (hrp_elements hrp) code.generator code.target header n xs ps texts m some shares these in
    let h = derived_string is_field (hrp_elements hrp) code.generator code.target header n xs ps texts x text shares.once two these
    (subst (λ k. IsDerived fe32.ops xs texts k x text) size derived) in
    (h.0, back code hrp header n x h.0 text h.1, h.2)

-- Strings are not longer than the codes of their checksums, and have room for these.
use Rattle.std.specs.Prelude.{◌≡◌, ◌≤◌, ◌+◌, ℕ, true, length, nat_le}
use Rattle.std.proofs.Common.{arith}
use Rattle.std.proofs.lemmas.Bool.{and_parts, leb-true}
use Rattle.codex32.specs.Code.{codex32, long_codex32}
use Rattle.codex32.specs.Strings.{is_within, is_within_long}

pub short_fits : (n : ℕ) → is_within n ≡ true
    → (n ≤ codex32.code_length) × (length codex32.generator + 3 ≤ n)
short_fits n h =
    let parts = and_parts (nat_le 48 n) (nat_le n 93) h in
    let least : 48 ≤ n = leb-true 48 n parts.0 in
    let most : n ≤ 93 = leb-true n 93 parts.1 in
    (most, omega (arith, least))

pub long_fits : (n : ℕ) → is_within_long n ≡ true
    → (n ≤ long_codex32.code_length) × (length long_codex32.generator + 3 ≤ n)
long_fits n h =
    let parts = and_parts (nat_le 125 n) (nat_le n 127) h in
    let least : 125 ≤ n = leb-true 125 n parts.0 in
    let most : n ≤ 127 = leb-true n 127 parts.1 in
    (omega (arith, most), omega (arith, least))

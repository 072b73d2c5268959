-- The checksum of a polynomial as a list, and what is made of elements that it stands behind.
use Rattle.std.specs.Prelude.{ℕ, List, ◌++◌, reverse, length, Option, Some, None}
use Rattle.bech32_gf.specs.Fe32 as fe32
use Rattle.bech32_gf.specs.declared.gf32.Fe32.{Fe32}
use Rattle.bech32_poly.specs.Polynomial.{appended}
use Rattle.bech32_poly.specs.Division.{remainder_of}
use Rattle.bech32_checksum.specs.Code.{Code}
use Rattle.bech32_checksum.specs.Packed.{digits}

-- the elements which, put below a polynomial, make it have the target as remainder: the remainder
-- that it leaves with the target put below it, the highest first (BIP-173, Checksum)
unfoldable pub checksum_of : Code → List Fe32 → List Fe32
checksum_of code p =
    reverse (remainder_of fe32.ops code.generator (appended p (reverse code.target)))

-- elements, and behind them their checksum, where the polynomial before them leaves a packed
-- residue; once they have ended the residue is the checksum, of which this many elements are to
-- come
abbrev pub then_checksum : {R : Type 0} → (R → ℕ) → Code → R → Option ℕ → List Fe32 → List Fe32
then_checksum number code residue None xs =
    xs ++ checksum_of code (appended (digits (length code.generator) (number residue)) xs)
then_checksum number code residue (Some n) xs = xs ++ reverse (digits n (number residue))

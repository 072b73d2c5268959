-- The table of characters at eight places, computed over all bytes.
use Rattle.std.proofs.Common.{◌≡◌, ◌<◌, ◌+◌, ◌-◌, ◌*◌, ◌^◌, ◌==◌, ℕ, zero, suc, [], get_or, refl, arith}
use Rattle.std.proofs.lemmas.Bool.{eqb-true}
use Rattle.bech32_gf.specs.Alphabet.{value_of, value_of-lt, is_of_alphabet}
use Rattle.bech32_gf.specs.laws.Below.{each_below, each_below-at}
use Rattle.bech32_decode.specs.Cases.{counts_as_lower, counts_as_upper}
use Rattle.bech32_decode.specs.declared.places.TheConstants.{PLACES}
use Rattle.bech32_decode.proofs.Cases.{counts_as_lower-le, counts_as_upper-le}

-- a character at the place of a power of two
abbrev at_power : ℕ → ℕ → ℕ
at_power k c = value_of c * 2 ^ k + counts_as_lower c * 2 ^ 40 + counts_as_upper c * 2 ^ 52

pub entry : (p c : ℕ) → p < 8 → c < 256 → get_or (get_or PLACES p []) c 0
    ≡ value_of c * 2 ^ (35 - 5 * p) + counts_as_lower c * 2 ^ 40 + counts_as_upper c * 2 ^ 52
unfolding value_of is_of_alphabet
entry p c place byte =
    eqb-true _ _ (each_below-at 256 (λ i. get_or (get_or PLACES p []) i 0 == at_power (35 - 5 * p) i)
    (each_below-at 8 (λ q. each_below 256 (λ i. get_or (get_or PLACES q []) i 0 == at_power (35 - 5 * q) i)) refl p place) c byte)

small-power : (k c n : ℕ) → value_of c * 2 ^ k < 2 ^ 40 → n ≡ at_power k c → n < 2 ^ 53
small-power k c n below is = omega (arith, below, is, counts_as_lower-le c, counts_as_upper-le c)

pub entry-small : (p c n : ℕ) → p < 8 → n ≡ value_of c * 2 ^ (35 - 5 * p) + counts_as_lower c * 2 ^ 40 + counts_as_upper c * 2 ^ 52 → n < 2 ^ 53
entry-small zero c n place is = let v = value_of-lt c in small-power 35 c n (omega (arith, v)) is
entry-small (suc zero) c n place is = let v = value_of-lt c in small-power 30 c n (omega (arith, v)) is
entry-small (suc (suc zero)) c n place is = let v = value_of-lt c in small-power 25 c n (omega (arith, v)) is
entry-small (suc (suc (suc zero))) c n place is = let v = value_of-lt c in small-power 20 c n (omega (arith, v)) is
entry-small (suc (suc (suc (suc zero)))) c n place is = let v = value_of-lt c in small-power 15 c n (omega (arith, v)) is
entry-small (suc (suc (suc (suc (suc zero))))) c n place is = let v = value_of-lt c in small-power 10 c n (omega (arith, v)) is
entry-small (suc (suc (suc (suc (suc (suc zero)))))) c n place is = let v = value_of-lt c in small-power 5 c n (omega (arith, v)) is
entry-small (suc (suc (suc (suc (suc (suc (suc zero))))))) c n place is = let v = value_of-lt c in small-power 0 c n (omega (arith, v)) is
entry-small (suc (suc (suc (suc (suc (suc (suc (suc p)))))))) c n place is = absurd (omega (arith, place))

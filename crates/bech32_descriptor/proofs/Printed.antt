-- Bytes of which all are characters of a descriptor.
use Rattle.std.specs.Prelude.{nat_le, nat_lt, not, position}
use Rattle.std.specs.List.{list_all, position_or_len}
use Rattle.std.proofs.Common.{◌≡◌, ◌<◌, ◌+◌, ◌&&◌, ℕ, suc, Bool, true, cond, Some, None, List, [], ◌∷◌, length, ap, refl, ◌∙◌, arith}
use Rattle.std.proofs.lemmas.Bool.{agree_below_at, and_parts, le-ltb}
use Rattle.bech32_descriptor.specs.Descriptor.{is_stranger, place_of}

-- the characters are the graphic bytes of ASCII, and the space
pub printed : (b : ℕ) → b < 256 → (nat_le 32 b && nat_lt b 127) ≡ not (is_stranger b)
unfolding place_of
printed b h = agree_below_at (λ b. nat_le 32 b && nat_lt b 127) (λ b. not (is_stranger b)) 256 b refl h

all_passed : (p : ℕ → Bool) (xs : List ℕ) → list_all (λ b. not (p b)) xs ≡ true → position_or_len p xs ≡ length xs
all_passed p [] h = refl
all_passed p (x ∷ xs) h =
    let (here, rest) = and_parts (not (p x)) (list_all (λ b. not (p b)) xs) h in
    let more : 1 + position_or_len p xs ≡ suc (length xs) = omega (arith, all_passed p xs rest) in
    ap (λ t. cond t (1 + position_or_len p xs) 0) here ∙ more

-- where all pass, there is no first one that does not
pub none_found : (p : ℕ → Bool) (xs : List ℕ) → list_all (λ b. not (p b)) xs ≡ true → position p xs ≡ None
none_found p xs h =
    let n = length xs in
    ap (λ (k : ℕ). cond (nat_lt k n) (Some k) None) (all_passed p xs h)
    ∙ ap (λ b. cond b (Some n) None) (le-ltb n n (omega arith))

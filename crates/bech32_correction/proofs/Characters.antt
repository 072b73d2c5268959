-- The characters of elements stand for them.
use Rattle.std.proofs.Common.{◌≡◌, ◌<◌, ℕ, true, ◌&&◌, eqb, refl}
use Rattle.std.proofs.lemmas.Bool.{and_parts, agree_below_at, eqb-true}
use Rattle.bech32_gf.specs.Alphabet.{char_of, is_of_alphabet, value_of}
use Rattle.bech32_gf.specs.Fe32.{element_of, path}
use Rattle.bech32_gf.specs.declared.gf32.Fe32.{Fe32}

both : (v : ℕ) → v < 32 → (is_of_alphabet (char_of v) && eqb (value_of (char_of v)) v) ≡ true
unfolding is_of_alphabet value_of
both v l = agree_below_at (λ v. is_of_alphabet (char_of v) && eqb (value_of (char_of v)) v) (λ _. true) 32 v refl l

pub of_alphabet : (x : Fe32) → is_of_alphabet (char_of x.value) ≡ true
of_alphabet x = (and_parts (is_of_alphabet (char_of x.value)) (eqb (value_of (char_of x.value)) x.value) (both x.value x.in_field)).0

pub element_back : (x : Fe32) → element_of (char_of x.value) ≡ x
element_back x =
    path (element_of (char_of x.value)) x
    (eqb-true (value_of (char_of x.value)) x.value (and_parts (is_of_alphabet (char_of x.value)) (eqb (value_of (char_of x.value)) x.value) (both x.value x.in_field)).1)

-- Lower-cased bytes, lowered again.
use Rattle.std.proofs.Common.{◌≡◌, ℕ, List, [], ◌∷◌, map, refl, ap, ◌∙◌, arith}
use Rattle.std.proofs.lemmas.Bool.Decides.{nat_tests}
use Rattle.std.specs.Char.{to_ascii_lowercase, to_ascii_uppercase}
use Rattle.bech32_hrp.specs.Hrp.{lowered}

lower_twice : (b : ℕ) → to_ascii_lowercase (to_ascii_lowercase b) ≡ to_ascii_lowercase b
lower_twice b = grind (arith, nat_tests)

lower_raised : (b : ℕ) → to_ascii_lowercase (to_ascii_uppercase (to_ascii_lowercase b)) ≡ to_ascii_lowercase b
lower_raised b = grind (arith, nat_tests)

map-same : (f g : ℕ → ℕ) → ((b : ℕ) → f b ≡ g b) → (bytes : List ℕ) → map f bytes ≡ map g bytes
map-same f g h [] = refl
map-same f g h (b ∷ bs) = ap (λ (c : ℕ). c ∷ map f bs) (h b) ∙ ap (λ (l : List ℕ). g b ∷ l) (map-same f g h bs)

map-twice : (f g : ℕ → ℕ) (bytes : List ℕ) → map f (map g bytes) ≡ map (λ b. f (g b)) bytes
map-twice f g [] = refl
map-twice f g (b ∷ bs) = ap (λ (l : List ℕ). f (g b) ∷ l) (map-twice f g bs)

pub lowered-lowered : (hrp : List ℕ) → lowered (lowered hrp) ≡ lowered hrp
lowered-lowered hrp = map-twice to_ascii_lowercase to_ascii_lowercase hrp ∙ map-same _ to_ascii_lowercase lower_twice hrp

pub lowered-raised : (hrp : List ℕ) → lowered (map to_ascii_uppercase (lowered hrp)) ≡ lowered hrp
lowered-raised hrp =
    ap lowered (map-twice to_ascii_uppercase to_ascii_lowercase hrp) ∙ map-twice to_ascii_lowercase (λ b. to_ascii_uppercase (to_ascii_lowercase b)) hrp
    ∙ map-same _ to_ascii_lowercase lower_raised hrp

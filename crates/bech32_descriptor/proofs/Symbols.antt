-- The symbols of characters, some characters at a time.
use Rattle.std.proofs.Common.{◌≡◌, ◌<◌, ◌≤◌, ◌+◌, ◌*◌, ℕ, suc, List, [], ◌∷◌, ◌++◌, length, drop, get_or, map, add-one, ap, sym, ◌∙◌, refl, arith}
use Rattle.std.proofs.Math.Seq.{drop-cons}
use Rattle.bech32_gf.specs.Fe32.{element}
use Rattle.bech32_gf.specs.declared.gf32.Fe32.{Fe32}
use Rattle.bech32_poly.specs.Polynomial.{appended}
use Rattle.bech32_descriptor.specs.Descriptor.{checksum_symbol, group, symbol, symbols}

-- the symbols of three characters
abbrev pub three : ℕ → ℕ → ℕ → List Fe32
three a b c = symbol a ∷ symbol b ∷ symbol c ∷ element (9 * group a + 3 * group b + group c) ∷ []

pub three_more : (q : List Fe32) (rest : List ℕ) → 3 ≤ length rest
    → appended (appended q (three (get_or rest 0 0) (get_or rest 1 0) (get_or rest 2 0))) (symbols (drop 3 rest)) ≡ appended q (symbols rest)
three_more q [] h = absurd (omega arith)
three_more q (a ∷ []) h = absurd (omega arith)
three_more q (a ∷ b ∷ []) h = absurd (omega arith)
three_more q (a ∷ b ∷ c ∷ more) h = refl

-- those of six
pub six_more : (q : List Fe32) (rest : List ℕ) → 6 ≤ length rest
    → appended (appended q (three (get_or rest 0 0) (get_or rest 1 0) (get_or rest 2 0) ++ three (get_or rest 3 0) (get_or rest 4 0) (get_or rest 5 0))) (symbols (drop 6 rest))
    ≡ appended q (symbols rest)
six_more q [] h = absurd (omega arith)
six_more q (a ∷ []) h = absurd (omega arith)
six_more q (a ∷ b ∷ []) h = absurd (omega arith)
six_more q (a ∷ b ∷ c ∷ []) h = absurd (omega arith)
six_more q (a ∷ b ∷ c ∷ d ∷ []) h = absurd (omega arith)
six_more q (a ∷ b ∷ c ∷ d ∷ e ∷ []) h = absurd (omega arith)
six_more q (a ∷ b ∷ c ∷ d ∷ e ∷ f ∷ more) h = refl

pub two_left : (rest : List ℕ) → length rest < 3 → 2 ≤ length rest
    → symbols rest ≡ symbol (get_or rest 0 0) ∷ symbol (get_or rest 1 0) ∷ element (3 * group (get_or rest 0 0) + group (get_or rest 1 0)) ∷ []
two_left [] h l = absurd (omega arith)
two_left (a ∷ []) h l = absurd (omega arith)
two_left (a ∷ b ∷ []) h l = refl
two_left (a ∷ b ∷ c ∷ rest) h l = absurd (omega arith)

-- one character of a checksum more
pub checksum_more : (bytes : List ℕ) (i : ℕ) (e : Fe32) (q whole : List Fe32) → i < length bytes → e ≡ checksum_symbol (get_or bytes i 0)
    → appended q (map checksum_symbol (drop i bytes)) ≡ whole
    → appended (e ∷ q) (map checksum_symbol (drop (i + 1) bytes)) ≡ whole
checksum_more bytes i e q whole below is so_far =
    ap (λ (k : ℕ). appended (e ∷ q) (map checksum_symbol (drop k bytes))) (add-one i)
    ∙ ap (λ (x : Fe32). appended (x ∷ q) (map checksum_symbol (drop (suc i) bytes))) is
    ∙ ap (λ (xs : List ℕ). appended q (map checksum_symbol xs)) (sym (drop-cons bytes i 0 below))
    ∙ so_far

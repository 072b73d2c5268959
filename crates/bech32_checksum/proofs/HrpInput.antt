-- A human-readable part goes into an engine byte by byte.
use Rattle.std.proofs.Common.{◌≡◌, ◌<◌, ◌+◌, ◌∙◌, ℕ, suc, List, ◌∷◌, length, map, drop, get_or, sym, ap, add-one}
use Rattle.std.proofs.Math.Seq.{drop-cons}
use Rattle.std.specs.Char.{to_ascii_lowercase}
use Rattle.bech32_gf.specs.declared.gf32.Fe32.{Fe32}
use Rattle.bech32_poly.specs.Polynomial.{appended}
use Rattle.bech32_hrp.specs.Hrp.{lowered}

-- one byte more
pub appended-byte : (f : ℕ → Fe32) (bytes : List ℕ) (i : ℕ) (e : Fe32) (q whole : List Fe32) → i < length bytes
    → e ≡ f (to_ascii_lowercase (get_or bytes i 0))
    → appended q (map f (lowered (drop i bytes))) ≡ whole
    → appended (e ∷ q) (map f (lowered (drop (i + 1) bytes))) ≡ whole
appended-byte f bytes i e q whole below is so_far =
    ap (λ (k : ℕ). appended (e ∷ q) (map f (lowered (drop k bytes)))) (add-one i)
    ∙ ap (λ (x : Fe32). appended (x ∷ q) (map f (lowered (drop (suc i) bytes)))) is
    ∙ ap (λ (xs : List ℕ). appended q (map f (lowered xs))) (sym (drop-cons bytes i 0 below))
    ∙ so_far

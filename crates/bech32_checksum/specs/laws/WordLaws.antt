-- The code of packed words has their degree and their code length.
use Rattle.std.specs.Prelude.{◌≡◌, ℕ, zero, suc, List, length, refl}
use Rattle.std.proofs.Common.{◌∙◌, ap}
use Rattle.bech32_checksum.specs.Packed.{tabulate}
use Rattle.bech32_checksum.specs.Code.{Code, code_of}

pub length-tabulate : {A : Type 0} → (n : ℕ) (f : ℕ → A) → length (tabulate n f) ≡ n
length-tabulate zero f = refl
length-tabulate (suc n) f = ap suc (length-tabulate n (λ i. f (suc i)))

pub degree_of : {R : Type 0} (number : R → ℕ) (code_length degree : ℕ) (words : List R) (target : R)
    {code : Code} → code ≡ code_of number code_length degree words target
    → length code.generator ≡ degree
degree_of number code_length degree words target same =
    ap (λ (c : Code). length c.generator) same ∙ length-tabulate degree _

pub code_length_of : {R : Type 0} (number : R → ℕ) (code_length degree : ℕ) (words : List R)
    (target : R) {code : Code} → code ≡ code_of number code_length degree words target
    → code.code_length ≡ code_length
code_length_of number code_length degree words target same =
    ap (λ (c : Code). c.code_length) same

-- Two bytes as four elements, whose last has a single bit of them.
use Rattle.std.proofs.Common.{◌≡◌, ◌≤◌, ◌<◌, ◌∙◌, ◌+◌, ◌*◌, ◌/◌, ◌%◌, ◌^◌, ◌++◌, ℕ, List, [], ◌∷◌, length, take, drop, get_or, set, refl, ap, sym, arith, append_assoc}
use Rattle.std.proofs.lemmas.List.{take-append-drop}
use Rattle.bech32_gf.specs.Fe32.{element}
use Rattle.bech32_gf.specs.declared.gf32.Fe32.{Fe32}
use Rattle.bech32_bits.specs.Bits.{bits, cut_in_fives, to_fes}
use Rattle.bech32_bits.proofs.BitLists.{bits-cat, cut-last, element-path, take-held}
use Rattle.bech32_checksum.specs.Word.{two_elements}
use Rattle.bech32_encode.proofs.WholeGroups.{set_next}

-- the bits of two bytes, as those of one number
both_bits : (a b : ℕ) → b < 256 → bits 8 a ++ (bits 8 b ++ []) ≡ bits 16 (a * 256 + b) ++ []
both_bits a b l = sym (append_assoc (bits 8 a) (bits 8 b) []) ∙ ap (λ (bs : List ℕ). bs ++ []) (sym (bits-cat 8 8 a b l))

-- the four elements of a number of sixteen bits
four_cut : (m n : ℕ) → n ≡ m * 16 → cut_in_fives (bits 16 m ++ []) ≡ two_elements (n / 1024) ++ two_elements (n % 1024)
four_cut m n is =
    let i : (n / 1024 / 2 ^ 5) % 32 ≡ (m / 2 ^ 11) % 32 = omega arith in
    let j : (n / 1024 / 2 ^ 0) % 32 ≡ (m / 2 ^ 6) % 32 = omega arith in
    let k : (n % 1024 / 2 ^ 5) % 32 ≡ (m / 2 ^ 1) % 32 = omega arith in
    let l : (m * 2 ^ 4 % 256) % 32 ≡ (n % 1024 / 2 ^ 0) % 32 = omega arith in
    take-held 16 m (element (n / 1024 / 2 ^ 5)) [] (omega arith) (element-path _ _ i)
    ∙ ap (λ (xs : List Fe32). element (n / 1024 / 2 ^ 5) ∷ xs) (take-held 11 m (element (n / 1024 / 2 ^ 0)) [] (omega arith) (element-path _ _ j)
    ∙ ap (λ (xs : List Fe32). element (n / 1024 / 2 ^ 0) ∷ xs) (take-held 6 m (element (n % 1024 / 2 ^ 5)) [] (omega arith) (element-path _ _ k)
    ∙ ap (λ (xs : List Fe32). element (n % 1024 / 2 ^ 5) ∷ xs) (cut-last 1 m (omega arith) (omega arith)
    ∙ ap (λ (x : Fe32). x ∷ []) (element-path _ _ l))))

-- a list of two is its bytes
two_of : (bs : List ℕ) → length bs ≡ 2 → bs ≡ get_or bs 0 0 ∷ get_or bs 1 0 ∷ []
two_of [] e = absurd (omega arith)
two_of (_ ∷ []) e = absurd (omega arith)
two_of (_ ∷ _ ∷ []) e = refl
two_of (_ ∷ _ ∷ _ ∷ bs) e = absurd (omega arith)

-- the elements of two bytes are those of the number of their bits and four zeros
pub elements_of_two : (bs : List ℕ) (a b n : ℕ) → length bs ≡ 2 → a ≡ get_or bs 0 0 → b ≡ get_or bs 1 0 → b < 256 → n ≡ (a * 256 + b) * 16
    → to_fes bs ≡ two_elements (n / 1024) ++ two_elements (n % 1024)
elements_of_two bs a b n two first second small is =
    ap to_fes (two_of bs two)
    ∙ ap (λ (x : ℕ). to_fes (x ∷ get_or bs 1 0 ∷ [])) (sym first)
    ∙ ap (λ (x : ℕ). to_fes (a ∷ x ∷ [])) (sym second)
    ∙ ap cut_in_fives (both_bits a b small)
    ∙ four_cut (a * 256 + b) n is

-- four bytes, one after another
pub four_set : (a b c d : ℕ) (old : List ℕ) (at : ℕ) → at + 4 ≤ length old
    → set (set (set (set old at a) (at + 1) b) (at + 2) c) (at + 3) d ≡ take at old ++ ((a ∷ b ∷ c ∷ d ∷ []) ++ drop (at + 4) old)
four_set a b c d old at room =
    let one = set_next [] old old at at (at + 1) a (omega arith) (omega arith) (omega arith) refl (sym (take-append-drop at old)) in
    let two = set_next (a ∷ []) old _ at (at + 1) (at + 2) b (omega arith) (omega arith) (omega arith) (omega arith) one in
    let three = set_next (a ∷ b ∷ []) old _ at (at + 2) (at + 3) c (omega arith) (omega arith) (omega arith) (omega arith) two in
    set_next (a ∷ b ∷ c ∷ []) old _ at (at + 3) (at + 4) d (omega arith) (omega arith) (omega arith) (omega arith) three

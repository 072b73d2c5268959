-- Bytes as elements and back; how long the lists are, and what they hold.
use Rattle.std.proofs.Common.{◌≡◌, ℕ, zero, suc, ◌+◌, ◌*◌, ◌/◌, ◌%◌, ◌<◌, Bool, true, List, [], ◌∷◌, ◌++◌, length, get_or, replicate, Fits, w8, lit<, ap, ◌∙◌, refl, arith, append_assoc, length-append}
use Rattle.std.specs.Prelude.{nat_lt, ◌&&◌}
use Rattle.std.specs.List.{list_all}
use Rattle.std.specs.Int.{bit_at}
use Rattle.std.proofs.lemmas.Bool.{ltb-true, lt-ltb}
use Rattle.bech32_gf.specs.declared.gf32.Fe32.{Fe32}
use Rattle.bech32_bits.specs.Bits.{bits, byte_bits, fe_bits, cut_in_fives, cut_in_eights, to_fes, to_bytes, fes_count, bytes_count}
use Rattle.bech32_bits.proofs.BitLists.{cut-eight, both-true, AreBits, AreBits-byte_bits}

-- ---- there and back

-- five bits of the number that they make
five-back : (a b c d e : ℕ) → a < 2 → b < 2 → c < 2 → d < 2 → e < 2
    → bits 5 ((16 * a + 8 * b + 4 * c + 2 * d + e) % 32) ≡ a ∷ b ∷ c ∷ d ∷ e ∷ []
five-back a b c d e p q r s t =
    let n = (16 * a + 8 * b + 4 * c + 2 * d + e) % 32 in
    let one : bit_at n 4 ≡ a = omega arith in
    let two : bit_at n 3 ≡ b = omega arith in
    let three : bit_at n 2 ≡ c = omega arith in
    let four : bit_at n 1 ≡ d = omega arith in
    let five : bit_at n 0 ≡ e = omega arith in
    cc

-- the bits of the elements are the bits that were cut, and up to four zeros
abbrev pub IsPadded : List ℕ → List ℕ → Type 0
IsPadded more less = (k : ℕ) × (k < 5) × (more ≡ less ++ replicate k 0)

abbrev five_bits : ℕ → List ℕ
five_bits n = bits 5 (n % 32)

pub fe_bits-cut : (bs : List ℕ) → AreBits bs → IsPadded (fe_bits (cut_in_fives bs)) bs
fe_bits-cut [] h = (0, omega arith, refl)
fe_bits-cut (a ∷ []) (p, _) = (4, omega arith, ap five_bits (omega arith) ∙ five-back a 0 0 0 0 p (lit< tt) (lit< tt) (lit< tt) (lit< tt))
fe_bits-cut (a ∷ b ∷ []) (p, (q, _)) = (3, omega arith, ap five_bits (omega arith) ∙ five-back a b 0 0 0 p q (lit< tt) (lit< tt) (lit< tt))
fe_bits-cut (a ∷ b ∷ c ∷ []) (p, (q, (r, _))) = (2, omega arith, ap five_bits (omega arith) ∙ five-back a b c 0 0 p q r (lit< tt) (lit< tt))
fe_bits-cut (a ∷ b ∷ c ∷ d ∷ []) (p, (q, (r, (s, _)))) = (1, omega arith, ap five_bits (omega arith) ∙ five-back a b c d 0 p q r s (lit< tt))
fe_bits-cut (a ∷ b ∷ c ∷ d ∷ e ∷ rest) h =
    let (k, few, more) = fe_bits-cut rest h.1.1.1.1.1 in
    (k, few, ap (λ l. l ++ fe_bits (cut_in_fives rest)) (five-back a b c d e h.0 h.1.0 h.1.1.0 h.1.1.1.0 h.1.1.1.1.0) ∙ ap (λ l. a ∷ b ∷ c ∷ d ∷ e ∷ l) more)

-- zeros that are no whole byte are dropped
no-byte : (k : ℕ) → k < 5 → cut_in_eights (replicate k 0) ≡ []
no-byte zero h = refl
no-byte (suc zero) h = refl
no-byte (suc (suc zero)) h = refl
no-byte (suc (suc (suc zero))) h = refl
no-byte (suc (suc (suc (suc zero)))) h = refl
no-byte (suc (suc (suc (suc (suc k))))) h = absurd (omega arith)

cut-byte_bits : (bytes : List ℕ) (k : ℕ) → k < 5 → list_all (λ b. nat_lt b 256) bytes ≡ true → cut_in_eights (byte_bits bytes ++ replicate k 0) ≡ bytes
cut-byte_bits [] k few h = no-byte k few
cut-byte_bits (b ∷ bytes) k few h =
    let (here, others) = both-true (nat_lt b 256) (list_all (λ b. nat_lt b 256) bytes) h in
    let below : b < 256 = ltb-true b 256 here in
    let same : b % 256 ≡ b = omega arith in
    ap cut_in_eights (append_assoc (bits 8 b) (byte_bits bytes) (replicate k 0))
    ∙ cut-eight b (byte_bits bytes ++ replicate k 0)
    ∙ ap (λ (n : ℕ). n ∷ cut_in_eights (byte_bits bytes ++ replicate k 0)) same
    ∙ ap (λ (l : List ℕ). b ∷ l) (cut-byte_bits bytes k few others)

-- bytes as elements, and these as bytes
pub to_bytes-to_fes : (bytes : List ℕ) → list_all (λ b. nat_lt b 256) bytes ≡ true → to_bytes (to_fes bytes) ≡ bytes
to_bytes-to_fes bytes h =
    let (k, few, padded) = fe_bits-cut (byte_bits bytes) (AreBits-byte_bits bytes) in
    ap cut_in_eights padded ∙ cut-byte_bits bytes k few h

-- ---- lengths

pub length-bits : (k n : ℕ) → length (bits k n) ≡ k
length-bits zero n = refl
length-bits (suc k) n = ap suc (length-bits k n)

pub length-byte_bits : (bytes : List ℕ) → length (byte_bits bytes) ≡ 8 * length bytes
length-byte_bits [] = refl
length-byte_bits (b ∷ bytes) =
    let more : length (byte_bits bytes) ≡ 8 * length bytes = length-byte_bits bytes in
    omega arith

pub length-fe_bits : (fes : List Fe32) → length (fe_bits fes) ≡ 5 * length fes
length-fe_bits [] = refl
length-fe_bits (x ∷ fes) =
    let more : length (fe_bits fes) ≡ 5 * length fes = length-fe_bits fes in
    omega arith

length-cut_in_fives : (bs : List ℕ) → length (cut_in_fives bs) ≡ (length bs + 4) / 5
length-cut_in_fives [] = refl
length-cut_in_fives (a ∷ []) = refl
length-cut_in_fives (a ∷ b ∷ []) = refl
length-cut_in_fives (a ∷ b ∷ c ∷ []) = refl
length-cut_in_fives (a ∷ b ∷ c ∷ d ∷ []) = refl
length-cut_in_fives (a ∷ b ∷ c ∷ d ∷ e ∷ rest) =
    let more : length (cut_in_fives rest) ≡ (length rest + 4) / 5 = length-cut_in_fives rest in
    omega arith

pub length-cut_in_eights : (bs : List ℕ) → length (cut_in_eights bs) ≡ length bs / 8
length-cut_in_eights [] = refl
length-cut_in_eights (a ∷ []) = refl
length-cut_in_eights (a ∷ b ∷ []) = refl
length-cut_in_eights (a ∷ b ∷ c ∷ []) = refl
length-cut_in_eights (a ∷ b ∷ c ∷ d ∷ []) = refl
length-cut_in_eights (a ∷ b ∷ c ∷ d ∷ e ∷ []) = refl
length-cut_in_eights (a ∷ b ∷ c ∷ d ∷ e ∷ f ∷ []) = refl
length-cut_in_eights (a ∷ b ∷ c ∷ d ∷ e ∷ f ∷ g ∷ []) = refl
length-cut_in_eights (a ∷ b ∷ c ∷ d ∷ e ∷ f ∷ g ∷ h ∷ rest) =
    let more : length (cut_in_eights rest) ≡ length rest / 8 = length-cut_in_eights rest in
    omega arith

-- how many elements bytes give
pub length-to_fes : (bytes : List ℕ) → length (to_fes bytes) ≡ fes_count 0 (length bytes)
length-to_fes bytes =
    let all : length (byte_bits bytes) ≡ 8 * length bytes = length-byte_bits bytes in
    length-cut_in_fives (byte_bits bytes) ∙ (omega arith)

-- how many bytes elements give
pub length-to_bytes : (fes : List Fe32) → length (to_bytes fes) ≡ bytes_count 0 (length fes)
length-to_bytes fes =
    let all : length (fe_bits fes) ≡ 5 * length fes = length-fe_bits fes in
    length-cut_in_eights (fe_bits fes) ∙ (omega arith)

-- how many elements this many bits of a number and then bytes give
pub length-fives : (k n : ℕ) (bytes : List ℕ) → length (cut_in_fives (bits k n ++ byte_bits bytes)) ≡ fes_count k (length bytes)
length-fives k n bytes =
    let all : length (byte_bits bytes) ≡ 8 * length bytes = length-byte_bits bytes in
    let held : length (bits k n) ≡ k = length-bits k n in
    length-cut_in_fives (bits k n ++ byte_bits bytes) ∙ simp length-append (omega arith)

-- how many bytes this many bits of a number and then elements give
pub length-eights : (k n : ℕ) (fes : List Fe32) → length (cut_in_eights (bits k n ++ fe_bits fes)) ≡ bytes_count k (length fes)
length-eights k n fes =
    let all : length (fe_bits fes) ≡ 5 * length fes = length-fe_bits fes in
    let held : length (bits k n) ≡ k = length-bits k n in
    length-cut_in_eights (bits k n ++ fe_bits fes) ∙ simp length-append (omega arith)

-- ---- what is given is a byte

-- the elements of a slice are bytes
pub bytes-below : (bytes : List ℕ) → ((i : ℕ) → Fits w8 (get_or bytes i 0)) → list_all (λ b. nat_lt b 256) bytes ≡ true
bytes-below [] h = refl
bytes-below (b ∷ bytes) h =
    let fits : Fits w8 b = h 0 in
    ap (λ (t : Bool). t && list_all (λ b. nat_lt b 256) bytes) (lt-ltb b 256 (omega arith)) ∙ bytes-below bytes (λ i. h (suc i))

-- Whole groups: eight elements and five bytes are words of 40 bits, and a list is regrouped group by group.
use Rattle.std.proofs.Common.{◌≡◌, ℕ, ◌+◌, ◌*◌, ◌/◌, ◌%◌, ◌^◌, ◌<◌, List, [], ◌∷◌, ◌++◌, length, get_or, refl, sym, ap, ◌∙◌, arith, append_assoc}
use Rattle.std.proofs.lemmas.List.Concat.{flat_map-append}
use Rattle.bech32_gf.specs.Fe32.{element}
use Rattle.bech32_gf.specs.declared.gf32.Fe32.{Fe32}
use Rattle.bech32_bits.specs.Bits.{bits, byte_bits, fe_bits, cut_in_fives, cut_in_eights, to_fes, to_bytes}
use Rattle.bech32_bits.proofs.BitLists.{bits-split, bits-cat, cut-eight, take-held, join-five}
use Rattle.bech32_bits.proofs.RoundTrip.{length-byte_bits, length-fe_bits}

-- ---- five bytes

-- the highest byte of a number of bits, and the others
cut_byte : (k n : ℕ) (more : List ℕ) → cut_in_eights (bits (8 + k) n ++ more) ≡ n / 2 ^ k % 256 ∷ cut_in_eights (bits k n ++ more)
cut_byte k n more =
    ap (λ (l : List ℕ). cut_in_eights (l ++ more)) (bits-split 8 k n)
    ∙ ap cut_in_eights (append_assoc (bits 8 (n / 2 ^ k)) (bits k n) more)
    ∙ cut-eight (n / 2 ^ k) (bits k n ++ more)

word_bytes : (n : ℕ) (more : List ℕ) → cut_in_eights (bits 40 n ++ more)
    ≡ n / 2 ^ 32 % 256 ∷ n / 2 ^ 24 % 256 ∷ n / 2 ^ 16 % 256 ∷ n / 2 ^ 8 % 256 ∷ n / 2 ^ 0 % 256 ∷ cut_in_eights more
word_bytes n more =
    cut_byte 32 n more
    ∙ ap (λ (l : List ℕ). n / 2 ^ 32 % 256 ∷ l) (cut_byte 24 n more
    ∙ ap (λ (l : List ℕ). n / 2 ^ 24 % 256 ∷ l) (cut_byte 16 n more
    ∙ ap (λ (l : List ℕ). n / 2 ^ 16 % 256 ∷ l) (cut_byte 8 n more
    ∙ ap (λ (l : List ℕ). n / 2 ^ 8 % 256 ∷ l) (cut_byte 0 n more))))

-- the bits of four elements, as those of one number
join_four : (a b c d n : ℕ) (more : List ℕ) → b < 32 → c < 32 → d < 32 → n ≡ ((a * 32 + b) * 32 + c) * 32 + d
    → bits 5 a ++ (bits 5 b ++ (bits 5 c ++ (bits 5 d ++ more))) ≡ bits 20 n ++ more
join_four a b c d n more p q r e =
    join-five 5 a b (bits 5 c ++ (bits 5 d ++ more)) p
    ∙ join-five 10 (a * 32 + b) c (bits 5 d ++ more) q
    ∙ join-five 15 ((a * 32 + b) * 32 + c) d more r
    ∙ ap (λ (m : ℕ). bits 20 m ++ more) (sym e)

-- the bits of eight elements, as those of one number, in its halves
join_eight : (high low : ℕ) (more : List ℕ) → low < 2 ^ 20 → bits 20 high ++ (bits 20 low ++ more) ≡ bits 40 (high * 2 ^ 20 + low) ++ more
join_eight high low more l =
    sym (append_assoc (bits 20 high) (bits 20 low) more) ∙ ap (λ (bs : List ℕ). bs ++ more) (sym (bits-cat 20 20 high low l))

-- the bytes of eight elements are those of the number of their bits
pub bytes_of_word : (a b c d e f g h : Fe32) (high low n : ℕ)
    → high ≡ ((a.value * 32 + b.value) * 32 + c.value) * 32 + d.value
    → low ≡ ((e.value * 32 + f.value) * 32 + g.value) * 32 + h.value → low < 2 ^ 20
    → n ≡ high * 2 ^ 20 + low
    → to_bytes (a ∷ b ∷ c ∷ d ∷ e ∷ f ∷ g ∷ h ∷ [])
    ≡ n / 2 ^ 32 % 256 ∷ n / 2 ^ 24 % 256 ∷ n / 2 ^ 16 % 256 ∷ n / 2 ^ 8 % 256 ∷ n / 2 ^ 0 % 256 ∷ []
bytes_of_word a b c d e f g h high low n front back small is =
    ap cut_in_eights
    (join_four a.value b.value c.value d.value high (fe_bits (e ∷ f ∷ g ∷ h ∷ [])) b.in_field c.in_field d.in_field front
    ∙ ap (λ (l : List ℕ). bits 20 high ++ l) (join_four e.value f.value g.value h.value low [] f.in_field g.in_field h.in_field back)
    ∙ join_eight high low [] small
    ∙ ap (λ (m : ℕ). bits 40 m ++ []) (sym is))
    ∙ word_bytes n []

-- ---- eight elements

word_elements : (n : ℕ) (a b c d e f g h : Fe32) (more : List ℕ)
    → a ≡ element (n / 2 ^ 35) → b ≡ element (n / 2 ^ 30) → c ≡ element (n / 2 ^ 25) → d ≡ element (n / 2 ^ 20)
    → e ≡ element (n / 2 ^ 15) → f ≡ element (n / 2 ^ 10) → g ≡ element (n / 2 ^ 5) → h ≡ element (n / 2 ^ 0)
    → cut_in_fives (bits 40 n ++ more) ≡ a ∷ b ∷ c ∷ d ∷ e ∷ f ∷ g ∷ h ∷ cut_in_fives more
word_elements n a b c d e f g h more i j k l m o p q =
    take-held 40 n a more (omega arith) i
    ∙ ap (λ (xs : List Fe32). a ∷ xs) (take-held 35 n b more (omega arith) j
    ∙ ap (λ (xs : List Fe32). b ∷ xs) (take-held 30 n c more (omega arith) k
    ∙ ap (λ (xs : List Fe32). c ∷ xs) (take-held 25 n d more (omega arith) l
    ∙ ap (λ (xs : List Fe32). d ∷ xs) (take-held 20 n e more (omega arith) m
    ∙ ap (λ (xs : List Fe32). e ∷ xs) (take-held 15 n f more (omega arith) o
    ∙ ap (λ (xs : List Fe32). f ∷ xs) (take-held 10 n g more (omega arith) p
    ∙ ap (λ (xs : List Fe32). g ∷ xs) (take-held 5 n h more (omega arith) q)))))))

-- the bits of a byte after others, as those of one number
join_byte : (c h b : ℕ) (more : List ℕ) → b < 256 → bits c h ++ (bits 8 b ++ more) ≡ bits (c + 8) (h * 256 + b) ++ more
join_byte c h b more l = sym (append_assoc (bits c h) (bits 8 b) more) ∙ ap (λ (bs : List ℕ). bs ++ more) (sym (bits-cat c 8 h b l))

-- the elements of five bytes are those of the number of their bits
pub elements_of_word : (a b c d e n : ℕ) (s t u v w x y z : Fe32) → b < 256 → c < 256 → d < 256 → e < 256
    → n ≡ (((a * 256 + b) * 256 + c) * 256 + d) * 256 + e
    → s ≡ element (n / 2 ^ 35) → t ≡ element (n / 2 ^ 30) → u ≡ element (n / 2 ^ 25) → v ≡ element (n / 2 ^ 20)
    → w ≡ element (n / 2 ^ 15) → x ≡ element (n / 2 ^ 10) → y ≡ element (n / 2 ^ 5) → z ≡ element (n / 2 ^ 0)
    → to_fes (a ∷ b ∷ c ∷ d ∷ e ∷ []) ≡ s ∷ t ∷ u ∷ v ∷ w ∷ x ∷ y ∷ z ∷ []
elements_of_word a b c d e n s t u v w x y z p q r o is i j k l m f g h =
    ap cut_in_fives
    (join_byte 8 a b (byte_bits (c ∷ d ∷ e ∷ [])) p
    ∙ join_byte 16 (a * 256 + b) c (byte_bits (d ∷ e ∷ [])) q
    ∙ join_byte 24 ((a * 256 + b) * 256 + c) d (byte_bits (e ∷ [])) r
    ∙ join_byte 32 (((a * 256 + b) * 256 + c) * 256 + d) e [] o
    ∙ ap (λ (m : ℕ). bits 40 m ++ []) (sym is))
    ∙ word_elements n s t u v w x y z [] i j k l m f g h

-- ---- lists of eight, and of five

-- a list of eight is its elements
pub eight_of : {A : Type 0} (xs : List A) (a b c d e f g h : A) → length xs ≡ 8
    → xs ≡ get_or xs 0 a ∷ get_or xs 1 b ∷ get_or xs 2 c ∷ get_or xs 3 d ∷ get_or xs 4 e ∷ get_or xs 5 f ∷ get_or xs 6 g ∷ get_or xs 7 h ∷ []
eight_of [] a b c d e f g h n = absurd (omega arith)
eight_of (_ ∷ []) a b c d e f g h n = absurd (omega arith)
eight_of (_ ∷ _ ∷ []) a b c d e f g h n = absurd (omega arith)
eight_of (_ ∷ _ ∷ _ ∷ []) a b c d e f g h n = absurd (omega arith)
eight_of (_ ∷ _ ∷ _ ∷ _ ∷ []) a b c d e f g h n = absurd (omega arith)
eight_of (_ ∷ _ ∷ _ ∷ _ ∷ _ ∷ []) a b c d e f g h n = absurd (omega arith)
eight_of (_ ∷ _ ∷ _ ∷ _ ∷ _ ∷ _ ∷ []) a b c d e f g h n = absurd (omega arith)
eight_of (_ ∷ _ ∷ _ ∷ _ ∷ _ ∷ _ ∷ _ ∷ []) a b c d e f g h n = absurd (omega arith)
eight_of (s ∷ t ∷ u ∷ v ∷ w ∷ x ∷ y ∷ z ∷ []) a b c d e f g h n = refl
eight_of (_ ∷ _ ∷ _ ∷ _ ∷ _ ∷ _ ∷ _ ∷ _ ∷ _ ∷ xs) a b c d e f g h n = absurd (omega arith)

-- and one of five
pub five_of : (xs : List ℕ) → length xs ≡ 5 → xs ≡ get_or xs 0 0 ∷ get_or xs 1 0 ∷ get_or xs 2 0 ∷ get_or xs 3 0 ∷ get_or xs 4 0 ∷ []
five_of [] n = absurd (omega arith)
five_of (_ ∷ []) n = absurd (omega arith)
five_of (_ ∷ _ ∷ []) n = absurd (omega arith)
five_of (_ ∷ _ ∷ _ ∷ []) n = absurd (omega arith)
five_of (_ ∷ _ ∷ _ ∷ _ ∷ []) n = absurd (omega arith)
five_of (s ∷ t ∷ u ∷ v ∷ w ∷ []) n = refl
five_of (_ ∷ _ ∷ _ ∷ _ ∷ _ ∷ _ ∷ xs) n = absurd (omega arith)

-- ---- group by group

cut_in_eights-append : (xs ys : List ℕ) → length xs % 8 ≡ 0 → cut_in_eights (xs ++ ys) ≡ cut_in_eights xs ++ cut_in_eights ys
cut_in_eights-append [] ys w = refl
cut_in_eights-append (a ∷ []) ys w = absurd (omega arith)
cut_in_eights-append (a ∷ b ∷ []) ys w = absurd (omega arith)
cut_in_eights-append (a ∷ b ∷ c ∷ []) ys w = absurd (omega arith)
cut_in_eights-append (a ∷ b ∷ c ∷ d ∷ []) ys w = absurd (omega arith)
cut_in_eights-append (a ∷ b ∷ c ∷ d ∷ e ∷ []) ys w = absurd (omega arith)
cut_in_eights-append (a ∷ b ∷ c ∷ d ∷ e ∷ f ∷ []) ys w = absurd (omega arith)
cut_in_eights-append (a ∷ b ∷ c ∷ d ∷ e ∷ f ∷ g ∷ []) ys w = absurd (omega arith)
cut_in_eights-append (a ∷ b ∷ c ∷ d ∷ e ∷ f ∷ g ∷ h ∷ xs) ys w =
    let less : length xs % 8 ≡ 0 = omega arith in
    ap (λ (l : List ℕ). (128 * a + 64 * b + 32 * c + 16 * d + 8 * e + 4 * f + 2 * g + h) ∷ l) (cut_in_eights-append xs ys less)

cut_in_fives-append : (xs ys : List ℕ) → length xs % 5 ≡ 0 → cut_in_fives (xs ++ ys) ≡ cut_in_fives xs ++ cut_in_fives ys
cut_in_fives-append [] ys w = refl
cut_in_fives-append (a ∷ []) ys w = absurd (omega arith)
cut_in_fives-append (a ∷ b ∷ []) ys w = absurd (omega arith)
cut_in_fives-append (a ∷ b ∷ c ∷ []) ys w = absurd (omega arith)
cut_in_fives-append (a ∷ b ∷ c ∷ d ∷ []) ys w = absurd (omega arith)
cut_in_fives-append (a ∷ b ∷ c ∷ d ∷ e ∷ xs) ys w =
    let less : length xs % 5 ≡ 0 = omega arith in
    ap (λ (l : List Fe32). element (16 * a + 8 * b + 4 * c + 2 * d + e) ∷ l) (cut_in_fives-append xs ys less)

-- the bytes of groups of eight elements, and of the others
pub to_bytes-append : (xs ys : List Fe32) → length xs % 8 ≡ 0 → to_bytes (xs ++ ys) ≡ to_bytes xs ++ to_bytes ys
to_bytes-append xs ys w =
    let size : length (fe_bits xs) ≡ 5 * length xs = length-fe_bits xs in
    ap cut_in_eights (flat_map-append (λ (x : Fe32). bits 5 x.value) xs ys)
    ∙ cut_in_eights-append (fe_bits xs) (fe_bits ys) (omega arith)

-- the elements of groups of five bytes, and of the others
pub to_fes-append : (xs ys : List ℕ) → length xs % 5 ≡ 0 → to_fes (xs ++ ys) ≡ to_fes xs ++ to_fes ys
to_fes-append xs ys w =
    let size : length (byte_bits xs) ≡ 8 * length xs = length-byte_bits xs in
    ap cut_in_fives (flat_map-append (bits 8) xs ys)
    ∙ cut_in_fives-append (byte_bits xs) (byte_bits ys) (omega arith)

-- Lists of bits, joined and cut.
use Rattle.std.proofs.Common.{◌≡◌, ◌≢◌, ℕ, zero, suc, ◌+◌, ◌-◌, ◌*◌, ◌/◌, ◌%◌, ◌^◌, ◌<◌, ◌≤◌, Bool, true, false, List, [], ◌∷◌, ◌++◌, sym, ap, ◌∙◌, refl, arith, append_assoc}
use Rattle.std.specs.Prelude.{nat_lt, ◌&&◌}
use Rattle.std.specs.List.{list_all}
use Rattle.std.specs.Int.{bit_at}
use Rattle.std.proofs.lemmas.Bool.{ltb-true, lt-ltb}
use Rattle.std.specs.Coded.{le_prop}
use Rattle.std.proofs.lemmas.Nat.{shr-shr}
use Rattle.std.proofs.lemmas.Nat.Bits.{bit_at_cat_low, bit_at_cat_high}
use mathlib.Core.HLevel.{is_prop→PathP}
use Rattle.bech32_gf.specs.Fe32.{element}
use Rattle.bech32_gf.specs.declared.gf32.Fe32.{Fe32}
use Rattle.bech32_bits.specs.Bits.{bits, byte_bits, fe_bits, cut_in_fives, cut_in_eights}

-- ---- bits

-- a number's bits are those of the number shifted right, and then its lowest
pub bits-split : (j k n : ℕ) → bits (j + k) n ≡ bits j (n / 2 ^ k) ++ bits k n
bits-split zero k n =
    let e : zero + k ≡ k = omega arith in
    ap (λ (i : ℕ). bits i n) e
bits-split (suc j) k n =
    let e : suc j + k ≡ suc (j + k) = omega arith in
    let turned : k + j ≡ j + k = omega arith in
    let one : bit_at (n / 2 ^ k) j ≡ bit_at n (j + k) = ap (λ (q : ℕ). q % 2) (shr-shr n k j ∙ ap (λ (i : ℕ). n / 2 ^ i) turned) in
    let more : bits (j + k) n ≡ bits j (n / 2 ^ k) ++ bits k n = bits-split j k n in
    ap (λ (i : ℕ). bits i n) e ∙ (cc)

-- the lowest bits of `(a << k) + b`
pub bits-low : (j k a b : ℕ) → j ≤ k → bits j (a * 2 ^ k + b) ≡ bits j b
bits-low zero k a b l = refl
bits-low (suc j) k a b l =
    let one : bit_at (a * 2 ^ k + b) j ≡ bit_at b j = bit_at_cat_low a k b j (omega arith) in
    let more : bits j (a * 2 ^ k + b) ≡ bits j b = bits-low j k a b (omega arith) in
    cc

-- and all of them
pub bits-cat : (j k a b : ℕ) → b < 2 ^ k → bits (j + k) (a * 2 ^ k + b) ≡ bits j a ++ bits k b
bits-cat zero k a b l =
    let e : zero + k ≡ k = omega arith in
    ap (λ (n : ℕ). bits n (a * 2 ^ k + b)) e ∙ bits-low k k a b (omega arith)
bits-cat (suc j) k a b l =
    let e : suc j + k ≡ suc (j + k) = omega arith in
    let h : bit_at (a * 2 ^ k + b) (j + k) ≡ bit_at a ((j + k) - k) = bit_at_cat_high a k b (j + k) l (omega arith) in
    let i : (j + k) - k ≡ j = omega arith in
    let one : bit_at (a * 2 ^ k + b) (j + k) ≡ bit_at a j = h ∙ ap (bit_at a) i in
    let more : bits (j + k) (a * 2 ^ k + b) ≡ bits j a ++ bits k b = bits-cat j k a b l in
    ap (λ (n : ℕ). bits n (a * 2 ^ k + b)) e ∙ (cc)

-- ---- elements

-- numbers with the same five lowest bits have one element
pub element-path : (m n : ℕ) → m % 32 ≡ n % 32 → element m ≡ element n
element-path m n e = path (element m) (element n) e
  where
    path : (x y : Fe32) → x.value ≡ y.value → x ≡ y
    path x y e = λ i. record { value = e i; in_field = is_prop→PathP (λ j. e j < 32) (λ j. le_prop) x.in_field y.in_field i }

five-is : (n : ℕ) → (16 * bit_at n 4 + 8 * bit_at n 3 + 4 * bit_at n 2 + 2 * bit_at n 1 + bit_at n 0) % 32 ≡ n % 32
five-is n = omega arith

eight-is : (n : ℕ) → 128 * bit_at n 7 + 64 * bit_at n 6 + 32 * bit_at n 5 + 16 * bit_at n 4 + 8 * bit_at n 3 + 4 * bit_at n 2 + 2 * bit_at n 1 + bit_at n 0 ≡ n % 256
eight-is n = omega arith

pub cut-five : (n : ℕ) (more : List ℕ) → cut_in_fives (bits 5 n ++ more) ≡ element n ∷ cut_in_fives more
cut-five n more = ap (λ (x : Fe32). x ∷ cut_in_fives more) (element-path _ n (five-is n))

pub cut-eight : (n : ℕ) (more : List ℕ) → cut_in_eights (bits 8 n ++ more) ≡ n % 256 ∷ cut_in_eights more
cut-eight n more = ap (λ (b : ℕ). b ∷ cut_in_eights more) (eight-is n)

-- ---- elements of bytes

-- five and more bits of a byte
pub take-held : (c h : ℕ) (x : Fe32) (more : List ℕ) → 5 ≤ c → x ≡ element (h / 2 ^ (c - 5)) → cut_in_fives (bits c h ++ more) ≡ x ∷ cut_in_fives (bits (c - 5) h ++ more)
take-held c h x more l e =
    let n : c ≡ 5 + (c - 5) = omega arith in
    let all : bits c h ≡ bits 5 (h / 2 ^ (c - 5)) ++ bits (c - 5) h = ap (λ (i : ℕ). bits i h) n ∙ bits-split 5 (c - 5) h in
    ap (λ (l : List ℕ). cut_in_fives (l ++ more)) all
    ∙ ap cut_in_fives (append_assoc (bits 5 (h / 2 ^ (c - 5))) (bits (c - 5) h) more)
    ∙ cut-five (h / 2 ^ (c - 5)) (bits (c - 5) h ++ more)
    ∙ ap (λ (y : Fe32). y ∷ cut_in_fives (bits (c - 5) h ++ more)) (sym e)

-- fewer bits, and a byte after them
pub take-byte : (c h b : ℕ) (x : Fe32) (more : List ℕ) → c < 5 → b < 256 → x ≡ element ((h * 256 + b) / 2 ^ (c + 3))
    → cut_in_fives (bits c h ++ (bits 8 b ++ more)) ≡ x ∷ cut_in_fives (bits (c + 3) b ++ more)
take-byte c h b x more l f e =
    let n : (c + 8) - 5 ≡ c + 3 = omega arith in
    ap cut_in_fives (sym (append_assoc (bits c h) (bits 8 b) more) ∙ ap (λ (l : List ℕ). l ++ more) (sym (bits-cat c 8 h b f)))
    ∙ take-held (c + 8) (h * 256 + b) x more (omega arith) (e ∙ ap (λ (i : ℕ). element ((h * 256 + b) / 2 ^ i)) (sym n))
    ∙ ap (λ (i : ℕ). x ∷ cut_in_fives (bits i (h * 256 + b) ++ more)) n
    ∙ ap (λ (l : List ℕ). x ∷ cut_in_fives (l ++ more)) (bits-low (c + 3) 8 h b (omega arith))

-- what is left at the end, with zeros after it
pub cut-last : (c h : ℕ) → 0 < c → c < 5 → cut_in_fives (bits c h ++ []) ≡ element (h * 2 ^ (5 - c) % 256) ∷ []
cut-last zero h p l = absurd (omega arith)
cut-last (suc zero) h p l = ap (λ (x : Fe32). x ∷ []) (element-path _ _ (omega arith))
cut-last (suc (suc zero)) h p l = ap (λ (x : Fe32). x ∷ []) (element-path _ _ (omega arith))
cut-last (suc (suc (suc zero))) h p l = ap (λ (x : Fe32). x ∷ []) (element-path _ _ (omega arith))
cut-last (suc (suc (suc (suc zero)))) h p l = ap (λ (x : Fe32). x ∷ []) (element-path _ _ (omega arith))
cut-last (suc (suc (suc (suc (suc c))))) h p l = absurd (omega arith)

pub end-none : (c h : ℕ) (rest : List ℕ) → c ≡ 0 → rest ≡ [] → cut_in_fives (bits c h ++ byte_bits rest) ≡ []
end-none c h rest e z = ap (λ (n : ℕ). cut_in_fives (bits n h ++ byte_bits rest)) e ∙ ap (λ (l : List ℕ). cut_in_fives (byte_bits l)) z

pub end-some : (c h : ℕ) (x : Fe32) (rest : List ℕ) → c ≢ 0 → c < 5 → x ≡ element (h * 2 ^ (5 - c) % 256) → rest ≡ [] → cut_in_fives (bits c h ++ byte_bits rest) ≡ x ∷ cut_in_fives (byte_bits rest)
end-some c h x rest p l e z =
    ap (λ (l : List ℕ). cut_in_fives (bits c h ++ byte_bits l)) z ∙ cut-last c h (omega arith) l
    ∙ ap (λ (y : Fe32). y ∷ []) (sym e)
    ∙ ap (λ (l : List ℕ). x ∷ cut_in_fives (byte_bits l)) (sym z)

-- ---- bytes of elements

-- the bits of an element after others, as those of one number
pub join-five : (c h f : ℕ) (more : List ℕ) → f < 32 → bits c h ++ (bits 5 f ++ more) ≡ bits (c + 5) (h * 32 + f) ++ more
join-five c h f more l = sym (append_assoc (bits c h) (bits 5 f) more) ∙ ap (λ (l : List ℕ). l ++ more) (sym (bits-cat c 5 h f l))

-- three and more bits, and an element after them
pub take-one : (c h f b : ℕ) (more : List ℕ) → 3 ≤ c → c ≤ 8 → f < 32 → b ≡ (h * 32 + f) / 2 ^ (c - 3) % 256
    → cut_in_eights (bits c h ++ (bits 5 f ++ more)) ≡ b ∷ cut_in_eights (bits (c - 3) f ++ more)
take-one c h f b more l u k e =
    let v = h * 32 + f in
    let n : c + 5 ≡ 8 + (c - 3) = omega arith in
    let all : bits (c + 5) v ≡ bits 8 (v / 2 ^ (c - 3)) ++ bits (c - 3) v = ap (λ (i : ℕ). bits i v) n ∙ bits-split 8 (c - 3) v in
    ap cut_in_eights (join-five c h f more k)
    ∙ ap (λ (l : List ℕ). cut_in_eights (l ++ more)) all
    ∙ ap cut_in_eights (append_assoc (bits 8 (v / 2 ^ (c - 3))) (bits (c - 3) v) more)
    ∙ cut-eight (v / 2 ^ (c - 3)) (bits (c - 3) v ++ more)
    ∙ ap (λ (n : ℕ). n ∷ cut_in_eights (bits (c - 3) v ++ more)) (sym e)
    ∙ ap (λ (l : List ℕ). b ∷ cut_in_eights (l ++ more)) (bits-low (c - 3) 5 h f (omega arith))

-- fewer bits, and two elements after them
pub take-two : (c h f g b : ℕ) (more : List ℕ) → c < 3 → f < 32 → g < 32 → b ≡ ((h * 32 + f) * 32 + g) / 2 ^ (c + 2) % 256
    → cut_in_eights (bits c h ++ (bits 5 f ++ (bits 5 g ++ more))) ≡ b ∷ cut_in_eights (bits (c + 2) g ++ more)
take-two c h f g b more l k m e =
    let n : (c + 5) - 3 ≡ c + 2 = omega arith in
    ap cut_in_eights (join-five c h f (bits 5 g ++ more) k)
    ∙ take-one (c + 5) (h * 32 + f) g b more (omega arith) (omega arith) m (e ∙ ap (λ (i : ℕ). ((h * 32 + f) * 32 + g) / 2 ^ i % 256) (sym n))
    ∙ ap (λ (i : ℕ). b ∷ cut_in_eights (bits i g ++ more)) n

-- fewer than eight bits give no byte
pub few-bits : (c h : ℕ) → c < 8 → cut_in_eights (bits c h ++ []) ≡ []
few-bits zero h l = refl
few-bits (suc zero) h l = refl
few-bits (suc (suc zero)) h l = refl
few-bits (suc (suc (suc zero))) h l = refl
few-bits (suc (suc (suc (suc zero)))) h l = refl
few-bits (suc (suc (suc (suc (suc zero))))) h l = refl
few-bits (suc (suc (suc (suc (suc (suc zero)))))) h l = refl
few-bits (suc (suc (suc (suc (suc (suc (suc zero))))))) h l = refl
few-bits (suc (suc (suc (suc (suc (suc (suc (suc c)))))))) h l = absurd (omega arith)

pub both-true : (a b : Bool) → a && b ≡ true → (a ≡ true) × (b ≡ true)
both-true true b e = (refl, e)
both-true false b e = absurd cc

-- ---- lists of zeros and ones

abbrev pub AreBits : List ℕ → Type 0
AreBits [] = Unit {0}
AreBits (b ∷ bs) = (b < 2) × AreBits bs

pub AreBits-bits : (k n : ℕ) (more : List ℕ) → AreBits more → AreBits (bits k n ++ more)
AreBits-bits zero n more h = h
AreBits-bits (suc k) n more h = (omega arith, AreBits-bits k n more h)

pub AreBits-byte_bits : (bytes : List ℕ) → AreBits (byte_bits bytes)
AreBits-byte_bits [] = tt
AreBits-byte_bits (b ∷ bytes) = AreBits-bits 8 b (byte_bits bytes) (AreBits-byte_bits bytes)

pub AreBits-fe_bits : (fes : List Fe32) → AreBits (fe_bits fes)
AreBits-fe_bits [] = tt
AreBits-fe_bits (x ∷ fes) = AreBits-bits 5 x.value (fe_bits fes) (AreBits-fe_bits fes)

pub AreBits-from_list_all : (bs : List ℕ) → list_all (λ b. nat_lt b 2) bs ≡ true → AreBits bs
AreBits-from_list_all [] h = tt
AreBits-from_list_all (b ∷ bs) h =
    let (here, others) = both-true (nat_lt b 2) (list_all (λ b. nat_lt b 2) bs) h in
    (ltb-true b 2 here, AreBits-from_list_all bs others)

pub list_all-from_AreBits : (bs : List ℕ) → AreBits bs → list_all (λ b. nat_lt b 2) bs ≡ true
list_all-from_AreBits [] h = refl
list_all-from_AreBits (b ∷ bs) h = ap (λ (t : Bool). t && list_all (λ b. nat_lt b 2) bs) (lt-ltb b 2 h.0) ∙ list_all-from_AreBits bs h.1

-- eight bits make a byte
pub byte_of_bits : (a b c d e f g h : ℕ) (rest : List ℕ) → AreBits (a ∷ b ∷ c ∷ d ∷ e ∷ f ∷ g ∷ h ∷ rest)
    → 128 * a + 64 * b + 32 * c + 16 * d + 8 * e + 4 * f + 2 * g + h < 256
byte_of_bits a b c d e f g h rest (i, (j, (k, (l, (m, (n, (o, (p, _)))))))) = omega arith

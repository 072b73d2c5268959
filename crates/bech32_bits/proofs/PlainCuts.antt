-- Lists of bits, cut from a place on.
use Rattle.std.proofs.Common.{◌≡◌, ◌≢◌, ℕ, zero, suc, ◌+◌, ◌-◌, ◌*◌, ◌%◌, ◌<◌, ◌≤◌, true, List, [], ◌∷◌, ◌++◌, length, drop, get_or, sym, ap, ◌∙◌, refl, arith, append_assoc, append-nil, length-drop, get_or-drop, ◌/◌, ◌^◌}
use Rattle.std.proofs.lemmas.List.{drop-drop}
use Rattle.std.proofs.lemmas.Nat.Bits.{shr_and_one}
use Rattle.std.specs.Int.{bit_at}
use Rattle.std.specs.Prelude.{nat_lt, bit_and}
use Rattle.std.specs.List.{list_all}
use Rattle.bech32_gf.specs.Fe32.{element}
use Rattle.bech32_gf.specs.declared.gf32.Fe32.{Fe32}
use Rattle.bech32_bits.specs.Bits.{bits, cut_in_fives, cut_in_eights}
use Rattle.bech32_bits.proofs.BitLists.{element-path, AreBits, AreBits-from_list_all, byte_of_bits}

-- what has been cut, one more, and the others
pub cut_more : {A : Type 0} (done now others whole out : List A) (x : A) → done ++ now ≡ whole → now ≡ x ∷ others → out ≡ done ++ (x ∷ []) → out ++ others ≡ whole
cut_more done now others whole out x so_far one is =
    ap (λ l. l ++ others) is ∙ append_assoc done (x ∷ []) others ∙ ap (λ l. done ++ l) (sym one) ∙ so_far

-- a zero where five does not divide the length
pub pad-one : (xs : List ℕ) → length xs % 5 ≢ 0 → cut_in_fives (xs ++ (0 ∷ [])) ≡ cut_in_fives xs
pad-one [] h = absurd (h refl)
pad-one (a ∷ []) h = ap (λ (x : Fe32). x ∷ []) (element-path _ _ (omega arith))
pad-one (a ∷ b ∷ []) h = ap (λ (x : Fe32). x ∷ []) (element-path _ _ (omega arith))
pad-one (a ∷ b ∷ c ∷ []) h = ap (λ (x : Fe32). x ∷ []) (element-path _ _ (omega arith))
pad-one (a ∷ b ∷ c ∷ d ∷ []) h = ap (λ (x : Fe32). x ∷ []) (element-path _ _ (omega arith))
pad-one (a ∷ b ∷ c ∷ d ∷ e ∷ rest) h =
    let less : length rest % 5 ≢ 0 = omega arith in
    ap (λ (l : List Fe32). element (16 * a + 8 * b + 4 * c + 2 * d + e) ∷ l) (pad-one rest less)

-- the first five bits, and the others
first-five : (xs rest : List ℕ) (a b c d e : ℕ) → 5 ≤ length xs → rest ≡ drop 5 xs
    → a ≡ get_or xs 0 0 → b ≡ get_or xs 1 0 → c ≡ get_or xs 2 0 → d ≡ get_or xs 3 0 → e ≡ get_or xs 4 0
    → cut_in_fives xs ≡ element (16 * a + 8 * b + 4 * c + 2 * d + e) ∷ cut_in_fives rest
first-five [] rest a b c d e l i j k m n o = absurd (omega arith)
first-five (p ∷ []) rest a b c d e l i j k m n o = absurd (omega arith)
first-five (p ∷ q ∷ []) rest a b c d e l i j k m n o = absurd (omega arith)
first-five (p ∷ q ∷ r ∷ []) rest a b c d e l i j k m n o = absurd (omega arith)
first-five (p ∷ q ∷ r ∷ s ∷ []) rest a b c d e l i j k m n o = absurd (omega arith)
first-five (p ∷ q ∷ r ∷ s ∷ t ∷ xs) rest a b c d e l i j k m n o = cc

at-drop : (at i : ℕ) (all : List ℕ) → get_or all (at + i) 0 ≡ get_or (drop at all) i 0
at-drop at i all = sym (get_or-drop at all i 0)

at-drop_first : (at : ℕ) (all : List ℕ) → get_or all at 0 ≡ get_or (drop at all) 0 0
at-drop_first at all = ap (λ (i : ℕ). get_or all i 0) (omega arith) ∙ at-drop at 0 all

-- the five bits from a place on, and the others
pub fives_from : (at : ℕ) (all : List ℕ) (x : Fe32) → at + 5 ≤ length all
    → x ≡ element (16 * get_or all at 0 + 8 * get_or all (at + 1) 0 + 4 * get_or all (at + 2) 0 + 2 * get_or all (at + 3) 0 + get_or all (at + 4) 0)
    → cut_in_fives (drop at all) ≡ x ∷ cut_in_fives (drop (at + 5) all)
fives_from at all x l is =
    first-five (drop at all) (drop (at + 5) all) _ _ _ _ _ (simp length-drop (omega arith)) (sym (drop-drop 5 at all))
    (at-drop_first at all) (at-drop at 1 all) (at-drop at 2 all) (at-drop at 3 all) (at-drop at 4 all)
    ∙ ap (λ (y : Fe32). y ∷ cut_in_fives (drop (at + 5) all)) (sym is)

-- the first eight bits, and the others
first-eight : (xs rest : List ℕ) (a b c d e f g h : ℕ) → 8 ≤ length xs → AreBits xs → rest ≡ drop 8 xs
    → a ≡ get_or xs 0 0 → b ≡ get_or xs 1 0 → c ≡ get_or xs 2 0 → d ≡ get_or xs 3 0 → e ≡ get_or xs 4 0 → f ≡ get_or xs 5 0 → g ≡ get_or xs 6 0 → h ≡ get_or xs 7 0
    → cut_in_eights xs ≡ (128 * a + 64 * b + 32 * c + 16 * d + 8 * e + 4 * f + 2 * g + h) % 256 ∷ cut_in_eights rest
first-eight [] rest a b c d e f g h l t z i j k m n o p q = absurd (omega arith)
first-eight (s ∷ []) rest a b c d e f g h l t z i j k m n o p q = absurd (omega arith)
first-eight (s ∷ u ∷ []) rest a b c d e f g h l t z i j k m n o p q = absurd (omega arith)
first-eight (s ∷ u ∷ v ∷ []) rest a b c d e f g h l t z i j k m n o p q = absurd (omega arith)
first-eight (s ∷ u ∷ v ∷ w ∷ []) rest a b c d e f g h l t z i j k m n o p q = absurd (omega arith)
first-eight (s ∷ u ∷ v ∷ w ∷ x ∷ []) rest a b c d e f g h l t z i j k m n o p q = absurd (omega arith)
first-eight (s ∷ u ∷ v ∷ w ∷ x ∷ y ∷ []) rest a b c d e f g h l t z i j k m n o p q = absurd (omega arith)
first-eight (s ∷ u ∷ v ∷ w ∷ x ∷ y ∷ A ∷ []) rest a b c d e f g h l t z i j k m n o p q = absurd (omega arith)
first-eight (s ∷ u ∷ v ∷ w ∷ x ∷ y ∷ A ∷ B ∷ xs) rest a b c d e f g h l t z i j k m n o p q =
    let number = 128 * s + 64 * u + 32 * v + 16 * w + 8 * x + 4 * y + 2 * A + B in
    let below : number < 256 = byte_of_bits s u v w x y A B xs t in
    let same : number % 256 ≡ number = omega arith in
    cc

all-drop : (n : ℕ) (bs : List ℕ) → AreBits bs → AreBits (drop n bs)
all-drop zero bs h = h
all-drop (suc n) [] h = tt
all-drop (suc n) (b ∷ bs) h = all-drop n bs h.1

-- the eight bits from a place on, and the others
pub eights_from : (at : ℕ) (all : List ℕ) (x : ℕ) → at + 8 ≤ length all → list_all (λ b. nat_lt b 2) all ≡ true
    → x ≡ (128 * get_or all at 0 + 64 * get_or all (at + 1) 0 + 32 * get_or all (at + 2) 0 + 16 * get_or all (at + 3) 0 + 8 * get_or all (at + 4) 0 + 4 * get_or all (at + 5) 0 + 2 * get_or all (at + 6) 0 + get_or all (at + 7) 0) % 256
    → cut_in_eights (drop at all) ≡ x ∷ cut_in_eights (drop (at + 8) all)
eights_from at all x l t is =
    first-eight (drop at all) (drop (at + 8) all) _ _ _ _ _ _ _ _ (simp length-drop (omega arith)) (all-drop at all (AreBits-from_list_all all t)) (sym (drop-drop 8 at all))
    (at-drop_first at all) (at-drop at 1 all) (at-drop at 2 all) (at-drop at 3 all) (at-drop at 4 all) (at-drop at 5 all) (at-drop at 6 all) (at-drop at 7 all)
    ∙ ap (λ (y : ℕ). y ∷ cut_in_eights (drop (at + 8) all)) (sym is)

-- fewer than eight bits from a place on
short : (xs : List ℕ) → length xs < 8 → cut_in_eights xs ≡ []
short [] l = refl
short (a ∷ []) l = refl
short (a ∷ b ∷ []) l = refl
short (a ∷ b ∷ c ∷ []) l = refl
short (a ∷ b ∷ c ∷ d ∷ []) l = refl
short (a ∷ b ∷ c ∷ d ∷ e ∷ []) l = refl
short (a ∷ b ∷ c ∷ d ∷ e ∷ f ∷ []) l = refl
short (a ∷ b ∷ c ∷ d ∷ e ∷ f ∷ g ∷ []) l = refl
short (a ∷ b ∷ c ∷ d ∷ e ∷ f ∷ g ∷ h ∷ rest) l = absurd (omega arith)

pub eights_end : (at : ℕ) (all out : List ℕ) → length all - at < 8 → out ++ cut_in_eights (drop at all) ≡ cut_in_eights all → out ≡ cut_in_eights all
eights_end at all out l h =
    let few : length (drop at all) < 8 = simp length-drop l in
    sym (append-nil out) ∙ ap (λ (r : List ℕ). out ++ r) (sym (short (drop at all) few)) ∙ h

-- one bit more of a number
pub bit_more : (out done whole : List ℕ) (n p : ℕ) → 0 < p → done ++ bits p n ≡ whole → out ≡ done ++ (bit_and (n / 2 ^ (p - 1)) 1 ∷ []) → out ++ bits (p - 1) n ≡ whole
bit_more out done whole n zero l h is = absurd (omega arith)
bit_more out done whole n (suc p) l h is =
    let e : suc p - 1 ≡ p = omega arith in
    let one : bit_and (n / 2 ^ (suc p - 1)) 1 ≡ bit_at n p = ap (λ (i : ℕ). bit_and (n / 2 ^ i) 1) e ∙ shr_and_one n p in
    let added : out ≡ done ++ (bit_at n p ∷ []) = is ∙ ap (λ (b : ℕ). done ++ (b ∷ [])) one in
    ap (λ (i : ℕ). out ++ bits i n) e ∙ cut_more done (bits (suc p) n) (bits p n) whole out (bit_at n p) h refl added

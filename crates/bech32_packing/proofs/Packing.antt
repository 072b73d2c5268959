-- The packed words of a generator keep the packing laws, and are those of its code.
use Rattle.std.specs.List.{All}
use Rattle.std.specs.Prelude.{slice_get, nat_le, if◌then◌else◌}
use Rattle.std.proofs.Common.{◌≡◌, ◌<◌, ◌≤◌, ◌+◌, ◌*◌, ◌%◌, ◌^◌, ℕ, zero, suc, Bool, true, false, List, [], ◌∷◌, ◌++◌, map, reverse, length, get_or, Some, refl, sym, ◌∙◌, ap, subst, arith}
use Rattle.std.proofs.Math.Pow.{pow_mono}
use Rattle.std.proofs.lemmas.Bool.{leb-true}
use Rattle.std.proofs.lemmas.List.{length-map, map-append}
use Rattle.std.proofs.lemmas.List.Elements.{All-map}
use Rattle.bech32_gf.specs.Gf32.{product}
use Rattle.bech32_gf.specs.Fe32 as fe32
use Rattle.bech32_gf.specs.laws.Fe32Laws as fe32_laws
use Rattle.bech32_gf.specs.laws.FieldLaws.{zero_mul}
use Rattle.bech32_gf.specs.declared.gf32.Fe32.{Fe32}
use Rattle.bech32_poly.proofs.Lists.{same_cons}
use Rattle.bech32_poly.proofs.Registers.{reverse_cons}
use Rattle.bech32_poly.specs.Polynomial.{coefficient}
use Rattle.bech32_checksum.specs.Code.{Code, code_of}
use Rattle.bech32_checksum.specs.Packed.{digit_of, digits, number_of_digits}
use Rattle.bech32_checksum.specs.PackingLaws.{KeepsPackingLaws}
use Rattle.bech32_checksum.proofs.DigitRows.{coefficient-digits}
use Rattle.bech32_checksum.proofs.PackedRows.{number_of_digits-lt, number_of_digits-more, digits-number_of_digits}
use Rattle.bech32_packing.specs.Words.{code_of_written, packed_times, width_of}

-- ---- the digits of a packed word

abbrev times : Fe32 → Fe32 → Fe32
times factor x = fe32.mul x factor

abbrev row : Fe32 → List Fe32 → List ℕ
row factor xs = map (λ x. (fe32.mul x factor).value) xs

row-small : (factor : Fe32) (xs : List Fe32) → All (λ v. v < 32) (row factor xs)
row-small factor xs =
    All-map (λ v. v < 32) (λ (x : Fe32). (fe32.mul x factor).value) xs (λ k d below. (fe32.mul (get_or xs k d) factor).in_field)

length-row : (factor : Fe32) (xs : List Fe32) → length (row factor xs) ≡ length xs
length-row factor xs = length-map xs (λ x. (fe32.mul x factor).value)

pub packed_times-lt : (factor : Fe32) (xs : List Fe32) → packed_times factor xs < 2 ^ (5 * length xs)
packed_times-lt factor xs =
    subst (λ n. packed_times factor xs < 2 ^ (5 * n)) (length-row factor xs) (number_of_digits-lt (row factor xs) (row-small factor xs))

element_of_value : (x : Fe32) → fe32.element x.value ≡ x
element_of_value x = fe32.path _ _ (omega (arith, x.in_field))

elements_of_row : (factor : Fe32) (xs : List Fe32) → map fe32.element (row factor xs) ≡ map (times factor) xs
elements_of_row factor [] = refl
elements_of_row factor (x ∷ xs) = same_cons _ _ _ _ (element_of_value (fe32.mul x factor)) (elements_of_row factor xs)

reverse-row : (factor : Fe32) (xs : List Fe32) → row factor (reverse xs) ≡ reverse (row factor xs)
reverse-row factor [] = refl
reverse-row factor (x ∷ xs) =
    ap (row factor) (reverse_cons x xs)
    ∙ map-append (λ (y : Fe32). (fe32.mul y factor).value) (reverse xs) (x ∷ [])
    ∙ ap (λ (ys : List ℕ). ys ++ ((fe32.mul x factor).value ∷ [])) (reverse-row factor xs)
    ∙ sym (reverse_cons ((fe32.mul x factor).value) (row factor xs))

digits_of_packed : (factor : Fe32) (xs : List Fe32) → digits (length xs) (packed_times factor xs) ≡ map (times factor) (reverse xs)
digits_of_packed factor xs =
    ap (λ n. digits n (packed_times factor xs)) (sym (length-row factor xs))
    ∙ digits-number_of_digits (row factor xs) (row-small factor xs)
    ∙ ap (map fe32.element) (sym (reverse-row factor xs))
    ∙ elements_of_row factor (reverse xs)

-- ---- each word is the one before it with each digit times 2

times-twice : (a b : Fe32) (ys : List Fe32) → b ≡ fe32.mul a fe32.generator → (n : ℕ)
    → coefficient fe32.ops (map (times b) ys) n ≡ fe32.mul (coefficient fe32.ops (map (times a) ys) n) fe32.generator
times-twice a b [] e n = sym (zero_mul fe32_laws.is_field fe32.generator)
times-twice a b (y ∷ ys) e zero = ap (fe32.mul y) e ∙ sym (fe32_laws.is_field.mul_assoc y a fe32.generator)
times-twice a b (y ∷ ys) e (suc n) = times-twice a b ys e n

digit_is : (factor : Fe32) (xs : List Fe32) (n : ℕ) → digit_of (packed_times factor xs) n ≡ coefficient fe32.ops (map (times factor) (reverse xs)) n
digit_is factor xs n =
    sym (coefficient-digits (length xs) (packed_times factor xs) n (packed_times-lt factor xs))
    ∙ ap (λ ds. coefficient fe32.ops ds n) (digits_of_packed factor xs)

step : (xs : List Fe32) (a b w v : ℕ) → b % 32 ≡ product (a % 32) 2
    → packed_times (fe32.element a) xs ≡ w → packed_times (fe32.element b) xs ≡ v
    → (n : ℕ) → digit_of v n ≡ fe32.mul (digit_of w n) fe32.generator
step xs a b w v twice e f n =
    ap (λ y. digit_of y n) (sym f)
    ∙ digit_is (fe32.element b) xs n
    ∙ times-twice (fe32.element a) (fe32.element b) (reverse xs) (fe32.path _ _ twice) n
    ∙ ap (λ d. fe32.mul d fe32.generator) (sym (digit_is (fe32.element a) xs n) ∙ ap (λ y. digit_of y n) e)

-- the words of a generator
abbrev pub words_of : List Fe32 → List ℕ
words_of xs =
    packed_times (fe32.element 1) xs
    ∷ packed_times (fe32.element 2) xs
    ∷ packed_times (fe32.element 4) xs
    ∷ packed_times (fe32.element 8) xs
    ∷ packed_times (fe32.element 16) xs
    ∷ []

shifts : (xs : List Fe32) (i w v : ℕ) → slice_get (words_of xs) i ≡ Some w → slice_get (words_of xs) (suc i) ≡ Some v
    → (n : ℕ) → digit_of v n ≡ fe32.mul (digit_of w n) fe32.generator
unfolding product
shifts xs zero w v e f n = step xs 1 2 w v refl (cc) (cc) n
shifts xs (suc zero) w v e f n = step xs 2 4 w v refl (cc) (cc) n
shifts xs (suc (suc zero)) w v e f n = step xs 4 8 w v refl (cc) (cc) n
shifts xs (suc (suc (suc zero))) w v e f n = step xs 8 16 w v refl (cc) (cc) n
shifts xs (suc (suc (suc (suc i)))) w v e f n = cc

below : (xs : List Fe32) (a w : ℕ) → packed_times (fe32.element a) xs ≡ w → w < 2 ^ (5 * length xs)
below xs a w e = subst (λ x. x < 2 ^ (5 * length xs)) e (packed_times-lt (fe32.element a) xs)

clear : (xs : List Fe32) (i w : ℕ) → slice_get (words_of xs) i ≡ Some w → w < 2 ^ (5 * length xs)
clear xs zero w e = below xs 1 w (cc)
clear xs (suc zero) w e = below xs 2 w (cc)
clear xs (suc (suc zero)) w e = below xs 4 w (cc)
clear xs (suc (suc (suc zero))) w e = below xs 8 w (cc)
clear xs (suc (suc (suc (suc zero)))) w e = below xs 16 w (cc)
clear xs (suc (suc (suc (suc (suc i))))) w e = cc

-- a degree fits into the integer that is chosen for it
fits : (degree : ℕ) → degree ≤ 25 → degree ≤ width_of degree
fits degree few = first (nat_le degree 6) refl
  where
    second : (b : Bool) → nat_le degree 12 ≡ b → degree ≤ (if b then 12 else 25)
    second true e = leb-true degree 12 e
    second false e = few

    first : (b : Bool) → nat_le degree 6 ≡ b → degree ≤ (if b then 6 else (if nat_le degree 12 then 12 else 25))
    first true e = leb-true degree 6 e
    first false e = second (nat_le degree 12) refl

pub keeps : (g t : List Fe32) → 0 < length g → length g ≤ 25 → length t ≡ length g
    → KeepsPackingLaws (λ n. n) (width_of (length g)) (length g) (words_of g) (packed_times (fe32.element 1) t)
keeps g t some few size = record {
  fits = fits (length g) few;
  empty = λ e. absurd (omega (arith, e, some));
  five = refl;
  shifts = shifts g;
  words_clear = clear g;
  target_clear = subst (λ n. packed_times (fe32.element 1) t < 2 ^ (5 * n)) size (packed_times-lt (fe32.element 1) t);
}

-- ---- the code of the words

once : (xs : List Fe32) → map (times (fe32.element 1)) xs ≡ xs
once [] = refl
once (x ∷ xs) = same_cons _ _ _ _ (fe32_laws.is_field.mul_one x) (once xs)

digits_of_once : (xs : List Fe32) → digits (length xs) (packed_times (fe32.element 1) xs) ≡ reverse xs
digits_of_once xs = digits_of_packed (fe32.element 1) xs ∙ once (reverse xs)

abbrev made : List Fe32 → List Fe32 → ℕ → Code
made generator target n = record { generator = generator; target = target; code_length = n }

same_code : (a b c d : List Fe32) (n : ℕ) → a ≡ b → c ≡ d → made a c n ≡ made b d n
same_code a b c d n e f = ap (λ g. made g c n) e ∙ ap (λ t. made b t n) f

pub packs : (g t : List Fe32) → length t ≡ length g → (code_length : ℕ)
    → code_of (λ n. n) code_length (length g) (words_of g) (packed_times (fe32.element 1) t) ≡ code_of_written g t code_length
packs g t size code_length =
    same_code _ _ _ _ code_length (digits_of_once g)
    (ap (λ n. digits n (packed_times (fe32.element 1) t)) (sym size) ∙ digits_of_once t)

-- ---- the walk through the elements

pub packed_more : (factor : Fe32) (xs : List Fe32) (x : Fe32) → packed_times factor (xs ++ (x ∷ [])) ≡ packed_times factor xs * 32 + (fe32.mul x factor).value
packed_more factor xs x =
    ap number_of_digits (map-append (λ (y : Fe32). (fe32.mul y factor).value) xs (x ∷ []))
    ∙ number_of_digits-more (row factor xs) ((fe32.mul x factor).value)

pub room : (factor : Fe32) (xs : List Fe32) → length xs < 25 → packed_times factor xs * 32 + 31 < 2 ^ 128
room factor xs few =
    let small : packed_times factor xs < 2 ^ (5 * length xs) = packed_times-lt factor xs in
    let place : 5 * length xs ≤ 120 = omega arith in
    let wide : 2 ^ (5 * length xs) ≤ 2 ^ 120 = pow_mono place in
    omega arith

-- ---- the words, as they are made

-- these numbers are the words of a generator and the word of a target
pub record AreWords (g t : List Fe32) (a b c d e w : ℕ) : Type 0 where
  pub first : a ≡ packed_times (fe32.element 1) g
  pub second : b ≡ packed_times (fe32.element 2) g
  pub third : c ≡ packed_times (fe32.element 4) g
  pub fourth : d ≡ packed_times (fe32.element 8) g
  pub fifth : e ≡ packed_times (fe32.element 16) g
  pub last : w ≡ packed_times (fe32.element 1) t

same_words : (P : List ℕ → ℕ → Type 0) (g t : List Fe32) (a b c d e w : ℕ) → AreWords g t a b c d e w
    → P (words_of g) (packed_times (fe32.element 1) t) → P (a ∷ b ∷ c ∷ d ∷ e ∷ []) w
same_words P g t a b c d e w h p =
    subst (P (a ∷ b ∷ c ∷ d ∷ e ∷ [])) (sym h.last)
    (subst (λ ws. P ws (packed_times (fe32.element 1) t))
    (sym (same_cons _ _ _ _ h.first (same_cons _ _ _ _ h.second (same_cons _ _ _ _ h.third (same_cons _ _ _ _ h.fourth (same_cons _ _ _ _ h.fifth refl)))))) p)

pub words_keep : (g t : List Fe32) (a b c d e w : ℕ) → AreWords g t a b c d e w → 0 < length g → length g ≤ 25 → length t ≡ length g
    → KeepsPackingLaws (λ n. n) (width_of (length g)) (length g) (a ∷ b ∷ c ∷ d ∷ e ∷ []) w
words_keep g t a b c d e w h some few size =
    same_words (λ ws v. KeepsPackingLaws (λ n. n) (width_of (length g)) (length g) ws v) g t a b c d e w h (keeps g t some few size)

pub words_pack : (g t : List Fe32) (a b c d e w : ℕ) → AreWords g t a b c d e w → length t ≡ length g → (code_length : ℕ)
    → code_of (λ n. n) code_length (length g) (a ∷ b ∷ c ∷ d ∷ e ∷ []) w ≡ code_of_written g t code_length
words_pack g t a b c d e w h size code_length =
    same_words (λ ws v. code_of (λ n. n) code_length (length g) ws v ≡ code_of_written g t code_length) g t a b c d e w h
    (packs g t size code_length)

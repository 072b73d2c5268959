-- Numbers below a hundred in decimal.
use Rattle.std.proofs.Common.{◌≡◌, ◌≢◌, ◌⊎◌, ℕ, ◌+◌, ◌*◌, ◌/◌, ◌%◌, ◌<◌, ◌≤◌, List, [], ◌∷◌, ◌++◌, ◌∙◌, length, ap, sym, arith, inl, inr, ⊎_elim}
use Rattle.std.proofs.lemmas.Bool.{cases_lt}
use Rattle.std.proofs.lemmas.Fmt.{decimal_digit, decimal_step, decimal_injective}
use Rattle.std.specs.Fmt.{decimal}
use Rattle.bech32_gf.specs.declared.gf32.Fe32.{Fe32}
use Rattle.b32_replies.specs.Reply.{IsNoVersion}
use Rattle.line_program.proofs.Split.{length-zero}

pub two_digits : (tens units : ℕ) → 0 < tens → tens < 10 → units < 10 → decimal (10 * tens + units) ≡ (48 + tens) ∷ (48 + units) ∷ []
two_digits tens units some few less =
    let n = 10 * tens + units in
    let high : n / 10 ≡ tens = omega arith in
    let low : n % 10 ≡ units = omega arith in
    decimal_step n (omega arith) (omega arith)
    ∙ ap (λ (k : ℕ). decimal k ++ ((48 + n % 10) ∷ [])) high
    ∙ ap (λ (t : List ℕ). t ++ ((48 + n % 10) ∷ [])) (decimal_digit tens few)
    ∙ ap (λ (k : ℕ). (48 + tens) ∷ (48 + k) ∷ []) low

-- a word of such a number has one digit, or two
record IsNumberWord (word : List ℕ) : Type 0 where
  first : ℕ
  others : List ℕ
  word_is : word ≡ first ∷ others
  digit : (48 ≤ first) × (first ≤ 57)
  behind : (others ≡ []) ⊎ ((second : ℕ) × (others ≡ second ∷ []) × (48 < first) × (48 ≤ second) × (second ≤ 57))

number_word : (word : List ℕ) (n : ℕ) → n < 100 → word ≡ decimal n → IsNumberWord word
number_word word n small e =
    ⊎_elim
    (λ (one : n < 10). record {
      first = 48 + n;
      others = [];
      word_is = e ∙ decimal_digit n one;
      digit = (omega arith, omega arith);
      behind = inl (nothing);
    })
    (λ (two : 10 ≤ n).
    let split : n ≡ 10 * (n / 10) + n % 10 = omega arith in record {
      first = 48 + n / 10;
      others = (48 + n % 10) ∷ [];
      word_is = e ∙ ap decimal split ∙ two_digits (n / 10) (n % 10) (omega arith) (omega arith) (omega arith);
      digit = (omega arith, omega arith);
      behind = inr (48 + n % 10, same, omega arith, omega arith, omega arith);
    })
    (cases_lt n 10)
  where
    nothing : ◌≡◌ {A = List ℕ} [] []
    nothing = cc

    same : {xs : List ℕ} → xs ≡ xs
    same = cc

heads : (a b : ℕ) (xs ys : List ℕ) → a ∷ xs ≡ b ∷ ys → (a ≡ b) × (xs ≡ ys)
heads a b xs ys e = (cc, cc)

-- no digit at all
pub no_first : (word : List ℕ) (n : ℕ) → word ≡ [] → n < 100 → word ≢ decimal n
no_first word n none small e = let w = number_word word n small e in absurd (let both : [] ≡ w.first ∷ w.others = sym none ∙ w.word_is in cc)

-- the first byte is not a digit
pub no_digit : (word : List ℕ) (n first : ℕ) (others : List ℕ) → word ≡ first ∷ others → (first < 48) ⊎ (57 < first) → n < 100 → word ≢ decimal n
no_digit word n first others is off small e =
    let w = number_word word n small e in
    let same : first ≡ w.first = (heads first w.first others w.others (sym is ∙ w.word_is)).0 in
    let low = w.digit.0 in
    let high = w.digit.1 in
    absurd (⊎_elim (λ (below : first < 48). omega arith) (λ (above : 57 < first). omega arith) off)

-- a second byte, where the first is `0` or a third follows
pub no_more : (word : List ℕ) (n first second : ℕ) (more : List ℕ) → word ≡ first ∷ second ∷ more → (first ≡ 48) ⊎ (more ≢ []) → n < 100 → word ≢ decimal n
no_more word n first second more is off small e =
    let w = number_word word n small e in
    let both = heads first w.first (second ∷ more) w.others (sym is ∙ w.word_is) in
    absurd (⊎_elim
    (λ (none : w.others ≡ []). let no : second ∷ more ≡ [] = both.1 ∙ none in cc)
    (λ (two : (last : ℕ) × (w.others ≡ last ∷ []) × (48 < w.first) × (48 ≤ last) × (last ≤ 57)).
    let above : 48 < w.first = two.2 in
    let first_is : first ≡ w.first = both.0 in
    ⊎_elim (λ (zero_ : first ≡ 48). omega arith) (λ (some : more ≢ []). some ((heads second two.0 more [] (both.1 ∙ two.1)).1)) off)
    w.behind)

-- the second byte is not a digit
pub no_second_digit : (word : List ℕ) (n first second : ℕ) (more : List ℕ) → word ≡ first ∷ second ∷ more → (second < 48) ⊎ (57 < second) → n < 100 → word ≢ decimal n
no_second_digit word n first second more is off small e =
    let w = number_word word n small e in
    let both = heads first w.first (second ∷ more) w.others (sym is ∙ w.word_is) in
    absurd (⊎_elim
    (λ (none : w.others ≡ []). let no : second ∷ more ≡ [] = both.1 ∙ none in cc)
    (λ (two : (last : ℕ) × (w.others ≡ last ∷ []) × (48 < w.first) × (48 ≤ last) × (last ≤ 57)).
    let same : second ≡ two.0 = (heads second two.0 more [] (both.1 ∙ two.1)).0 in
    let low : 48 ≤ two.0 = two.3 in
    let high : two.0 ≤ 57 = two.4 in
    ⊎_elim (λ (below : second < 48). omega arith) (λ (above : 57 < second). omega arith) off)
    w.behind)

-- ---- versions

-- nor is a number above 31
pub no_version-from_number : (word : List ℕ) (n : ℕ) → n < 100 → word ≡ decimal n → 31 < n → IsNoVersion word
no_version-from_number word n small is over version e =
    let fits : version.value < 32 = version.in_field in
    let same : n ≡ version.value = decimal_injective n version.value (omega arith) (omega arith) (sym is ∙ e) in
    absurd (omega arith)

-- its number has two digits at most
pub length-version : (version : Fe32) → length (decimal version.value) ≤ 2
length-version version =
    let fits : version.value < 32 = version.in_field in
    ⊎_elim
    (λ (one : version.value < 10). omega (arith, ap length (decimal_digit version.value one)))
    (λ (two : 10 ≤ version.value).
    let split : version.value ≡ 10 * (version.value / 10) + version.value % 10 = omega arith in
    omega (arith, ap length (ap decimal split ∙ two_digits (version.value / 10) (version.value % 10) (omega arith) (omega arith) (omega arith))))
    (cases_lt version.value 10)

-- ---- digits that are read

pub one_digit : (word : List ℕ) (tens first : ℕ) (others : List ℕ) → word ≡ first ∷ others → length others ≡ 0 → tens < 10 → first ≡ 48 + tens → word ≡ decimal tens
one_digit word tens first others is none small digit =
    is ∙ ap (λ (l : List ℕ). first ∷ l) (length-zero others none) ∙ ap (λ (c : ℕ). c ∷ []) digit ∙ sym (decimal_digit tens small)

pub both_digits : (word : List ℕ) (tens units first second : ℕ) (others more : List ℕ) → word ≡ first ∷ others → others ≡ second ∷ more → length more ≡ 0
    → 0 < tens → tens < 10 → first ≡ 48 + tens → units < 10 → second ≡ 48 + units → word ≡ decimal (10 * tens + units)
both_digits word tens units first second others more is next none some few digit less digit' =
    is ∙ ap (λ (l : List ℕ). first ∷ l) (next ∙ ap (λ (l : List ℕ). second ∷ l) (length-zero more none))
    ∙ ap (λ (c : ℕ). c ∷ second ∷ []) digit ∙ ap (λ (c : ℕ). (48 + tens) ∷ c ∷ []) digit'
    ∙ sym (two_digits tens units some few less)

-- A text in its parts, and the one checksum that makes it a descriptor.
use Rattle.std.specs.Prelude.{nat_lt}
use Rattle.std.specs.List.{position_or_len}
use Rattle.std.proofs.Common.{◌≡◌, ◌<◌, ◌≤◌, ◌+◌, ◌-◌, ◌%◌, ◌==◌, ℕ, suc, Bool, false, cond, Option, Some, None, List, [], ◌∷◌, ◌++◌, length, get_or, drop, map, reverse, length-append, append_assoc, sym, ap, subst, ◌∙◌, refl, arith}
use Rattle.std.specs.Prelude.{not, position}
use Rattle.std.proofs.lemmas.Bool.{cond_both, eqb-true, le-ltb, ltb-false, not-true}
use Rattle.std.proofs.lemmas.List.{drop_at, get_or_at, get_or_default, get_or-map, length-map, same_lists, take_at}
use Rattle.std.proofs.lemmas.List.Sums.{fails_before_first}
use Rattle.bech32_gf.specs.Alphabet.{alphabet, char_of}
use Rattle.bech32_gf.specs.Fe32 as fe32
use Rattle.bech32_gf.specs.Fe32.{ops}
use Rattle.bech32_gf.specs.laws.Below.{each_below-at}
use Rattle.bech32_gf.specs.laws.Fe32Laws.{is_field}
use Rattle.bech32_gf.specs.declared.gf32.Fe32.{Fe32}
use Rattle.bech32_poly.specs.Polynomial.{appended}
use Rattle.bech32_poly.specs.Remainder.{IsRemainder}
use Rattle.bech32_poly.proofs.Appended.{checksum_of_target, checksum_unique}
use Rattle.bech32_checksum.specs.Packed.{digits}
use Rattle.bech32_descriptor.specs.Code.{descriptor}
use Rattle.bech32_descriptor.specs.Descriptor.{IsCheckRefusal, IsChecksum, IsDescriptor, checksum_in, checksum_place_of, checksum_symbol, first_place_of, further, is_checksum_stranger, is_stranger, descriptor_payload, place_among, polynomial, polynomial_of, stranger_in, symbols}
use Rattle.bech32_descriptor.specs.declared.error.CheckError.{CheckError}
use Rattle.bech32_descriptor.specs.declared.error.CheckError.TheVariants.{InvalidCharacter, NoChecksum, WrongChecksum}

-- ---- characters of a checksum

abbrev pub letter : Fe32 → ℕ
letter x = char_of x.value

pub letter_symbol : (x : Fe32) → checksum_symbol (letter x) ≡ x
unfolding checksum_place_of
letter_symbol x = fe32.path _ x (eqb-true _ _ (each_below-at 32 (λ v. (checksum_symbol (char_of v)).value == v) refl x.value x.in_field))

letter_fine : (x : Fe32) → is_checksum_stranger (letter x) ≡ false
unfolding checksum_place_of
letter_fine x = not-true _ (each_below-at 32 (λ v. not (is_checksum_stranger (char_of v))) refl x.value x.in_field)

all_fine : (es : List Fe32) → position_or_len is_checksum_stranger (map letter es) ≡ length (map letter es)
all_fine [] = refl
all_fine (x ∷ es) =
    ap (λ t. cond (not t) (1 + position_or_len is_checksum_stranger (map letter es)) 0) (letter_fine x)
    ∙ ap (λ (n : ℕ). 1 + n) (all_fine es) ∙ more
  where
    more : 1 + length (map letter es) ≡ suc (length (map letter es))
    more = omega arith

pub letters_fine : (es : List Fe32) → position is_checksum_stranger (map letter es) ≡ None
letters_fine es =
    let n = length (map letter es) in
    ap (λ (k : ℕ). cond (nat_lt k n) (Some k) None) (all_fine es)
    ∙ ap (λ b. cond b (Some n) None) (le-ltb n n (omega arith))

restored : (es : List Fe32) → map checksum_symbol (map letter es) ≡ es
restored [] = refl
restored (x ∷ es) = λ i. letter_symbol x i ∷ restored es i

-- no place is found where the test holds nowhere
some_none : (i : ℕ) → Some i ≡ None → ⊥
some_none i h = cc

all_passed : (p : ℕ → Bool) (xs : List ℕ) → position p xs ≡ None → length xs ≤ position_or_len p xs
all_passed p xs h =
    cond_both (nat_lt (position_or_len p xs) (length xs)) (Some (position_or_len p xs)) None
    (λ o. o ≡ None → length xs ≤ position_or_len p xs)
    (λ e none. absurd (some_none _ none))
    (λ e none. ltb-false _ _ e) h

fails : (p : ℕ → Bool) (xs : List ℕ) → position p xs ≡ None → (k : ℕ) → k < length xs → p (get_or xs k 0) ≡ false
fails p xs h k low =
    let all = all_passed p xs h in
    fails_before_first p xs k 0 (omega arith)

place-found : (cs : List ℕ) (b : ℕ) → place_among cs b < length cs → get_or cs (place_among cs b) 0 ≡ b
place-found [] b h = absurd (omega arith)
place-found (c ∷ cs) b h =
    cond_both (b == c) 0 (suc (place_among cs b))
    (λ n. n < length (c ∷ cs) → get_or (c ∷ cs) n 0 ≡ b)
    (λ e low. sym (eqb-true b c e))
    (λ e low. place-found cs b (omega arith)) h

letter_of : (b : ℕ) → is_checksum_stranger b ≡ false → letter (checksum_symbol b) ≡ b
unfolding checksum_place_of
letter_of b h =
    let low : checksum_place_of b < 32 = omega (arith, ltb-false 31 (checksum_place_of b) h) in
    let same : checksum_place_of b % 32 ≡ checksum_place_of b = omega arith in
    ap (λ (n : ℕ). char_of n) same ∙ place-found alphabet b low

pub respelled : (xs : List ℕ) → position is_checksum_stranger xs ≡ None → map letter (map checksum_symbol xs) ≡ xs
respelled xs h =
    let size = length-map (map checksum_symbol xs) letter ∙ length-map xs checksum_symbol in
    same_lists (map letter (map checksum_symbol xs)) xs size
    (λ k d low.
    let in_xs : k < length xs = omega arith in
    let in_map : k < length (map checksum_symbol xs) = omega (arith, length-map xs checksum_symbol) in
    get_or-map letter (map checksum_symbol xs) k fe32.zero d in_map
    ∙ ap letter (get_or-map checksum_symbol xs k 0 fe32.zero in_xs)
    ∙ letter_of (get_or xs k 0) (fails is_checksum_stranger xs h k in_xs)
    ∙ get_or_default xs k 0 d in_xs)

-- ---- a text in its parts

first_none : (n : ℕ) (a b : Option ℕ) → first_place_of a (further n b) ≡ None → (a ≡ None) × (b ≡ None)
first_none n None None h = (refl, refl)
first_none n None (Some j) h = absurd (cc)
first_none n (Some i) b h = absurd (cc)

module _ (payload sum : List ℕ) (size : length sum ≡ 8) where
  abbrev whole : List ℕ
  whole = payload ++ 35 ∷ sum

  pub whole-length : length whole ≡ length payload + 9
  whole-length = omega (arith, length-append payload (35 ∷ sum), size)

  pub whole-payload : descriptor_payload whole ≡ payload
  whole-payload = take_at payload (35 ∷ sum) (length whole - 9) (omega (arith, whole-length))

  pub whole-checksum : checksum_in whole ≡ sum
  whole-checksum =
      ap (drop (length whole - 8)) (sym (append_assoc payload (35 ∷ []) sum))
      ∙ drop_at (payload ++ 35 ∷ []) sum (length whole - 8) (omega (arith, length-append payload (35 ∷ []), whole-length))

  pub whole-mark : get_or whole (length whole - 9) 0 ≡ 35
  whole-mark = get_or_at payload 35 sum 0 (length whole - 9) (omega (arith, whole-length))

  whole-stranger : stranger_in whole ≡ first_place_of (position is_stranger payload) (further (length whole - 8) (position is_checksum_stranger sum))
  whole-stranger = λ i. first_place_of (position is_stranger (whole-payload i)) (further (length whole - 8) (position is_checksum_stranger (whole-checksum i)))

  whole-polynomial : polynomial_of whole ≡ polynomial payload sum
  whole-polynomial = λ i. polynomial (whole-payload i) (whole-checksum i)

  pub whole-right : position is_stranger payload ≡ None → position is_checksum_stranger sum ≡ None
      → IsRemainder ops descriptor.generator (polynomial payload sum) descriptor.target → IsDescriptor whole
  whole-right a b h = record {
    grammar = record {
      parts = record { long = omega (arith, whole-length); mark = whole-mark };
      characters_are = whole-stranger ∙ (λ i. first_place_of (a i) (further (length whole - 8) (b i)));
    };
    has_target = subst (λ (p : List Fe32). IsRemainder ops descriptor.generator p descriptor.target) (sym whole-polynomial) h;
  }

  pub whole-fine : IsDescriptor whole → position is_checksum_stranger sum ≡ None
  whole-fine d = (first_none (length whole - 8) (position is_stranger payload) (position is_checksum_stranger sum) (sym whole-stranger ∙ d.grammar.characters_are)).1

  pub whole-target : IsDescriptor whole → IsRemainder ops descriptor.generator (polynomial payload sum) descriptor.target
  whole-target d = subst (λ (p : List Fe32). IsRemainder ops descriptor.generator p descriptor.target) whole-polynomial d.has_target

-- ---- the checksum

abbrev pub start : List ℕ → List Fe32
start payload = appended (fe32.one ∷ []) (symbols payload)

pub is_checksum : (payload : List ℕ) (word : ℕ) → position is_stranger payload ≡ None
    → IsRemainder ops descriptor.generator (appended (start payload) (reverse descriptor.target)) (digits 8 word)
    → IsChecksum payload (map letter (reverse (digits 8 word)))
is_checksum payload word fine leaves =
    let low = descriptor.generator in
    let es = reverse (digits 8 word) in
    let sum = map letter es in
    let size : length sum ≡ 8 = refl in
    let target = checksum_of_target is_field low (start payload) descriptor.target (digits 8 word) (λ x. refl) refl leaves in
    let right = subst (λ (u : List Fe32). IsRemainder ops low (appended (start payload) u) descriptor.target) (sym (restored es)) target in
    record {
      characters_are = fine;
      size = size;
      right = whole-right payload sum size fine (letters_fine es) right;
      only = λ other eight d.
          let same : map checksum_symbol other ≡ map checksum_symbol sum =
          checksum_unique is_field low (start payload) (map checksum_symbol other) (map checksum_symbol sum) descriptor.target
          (length-map other checksum_symbol ∙ eight) (length-map sum checksum_symbol ∙ size)
          (whole-target payload other eight d) right in
          sym (respelled other (whole-fine payload other eight d)) ∙ ap (map letter) same ∙ respelled sum (letters_fine es);
    }

-- ---- refusals

pub not_refused : (text : List ℕ) (e : CheckError) → IsCheckRefusal text e → IsDescriptor text → ⊥
not_refused text NoChecksum h d = h d.grammar.parts
not_refused text (InvalidCharacter i) h d =
    let none : stranger_in text ≡ None = d.grammar.characters_are in
    let some : stranger_in text ≡ Some i = h.1 in
    some_none i (sym some ∙ none)
not_refused text WrongChecksum h d = h.1 d.has_target

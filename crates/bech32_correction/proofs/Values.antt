-- Values added one after another.
use Rattle.std.specs.Prelude.{map}
use Rattle.std.specs.List.{AllByRecursion}
use Rattle.std.proofs.Common.{◌≡◌, ℕ, zero, suc, ◌+◌, ◌-◌, ◌<◌, ◌≤◌, true, List, [], ◌∷◌, ◌++◌, length, length-append, take, set, get_or, inl, inr, sym, ap, ◌∙◌, refl, arith}
use Rattle.std.proofs.lemmas.List.{length-map, take_more, map-set, get_or-map, get_or-append_right, set-append_right}
use Rattle.bech32_gf.specs.Alphabet.{is_of_alphabet}
use Rattle.bech32_gf.specs.Fe32 as fe32
use Rattle.bech32_gf.specs.Fe32.{element_of, ops}
use Rattle.bech32_gf.specs.declared.gf32.Fe32.{Fe32}
use Rattle.bech32_gf.specs.Field.{Ops, IsField}
use Rattle.bech32_gf.specs.laws.Fe32Laws.{is_field}
use Rattle.bech32_gf.specs.laws.FieldLaws.{zero_add}
use Rattle.bech32_poly.specs.Pattern.{value_of_pattern_at}
use Rattle.bech32_poly.proofs.Lists.{same_cons}
use Rattle.bech32_checksum.specs.Encoded.{char_of_element}
use Rattle.bech32_bch.proofs.Patterns.{at_absent, at_first}
use Rattle.bech32_correction.specs.MendedElements.{EndsIn, mended}
use Rattle.bech32_correction.proofs.Characters.{element_back, of_alphabet}
use Rattle.bech32_correction.proofs.Sums.{length-mended}

module _ {F : Type 0} {f : Ops F} (fl : IsField f) where
  pub mended-none : (xs : List F) → mended f [] xs ≡ xs
  mended-none [] = refl
  mended-none (x ∷ xs) = same_cons _ _ _ _ (fl.add_zero x) (mended-none xs)

  value-append : (e e' : List (ℕ × F)) (i : ℕ) → value_of_pattern_at f (e ++ e') i ≡ f.add (value_of_pattern_at f e i) (value_of_pattern_at f e' i)
  value-append [] e' i = sym (zero_add fl (value_of_pattern_at f e' i))
  value-append (p ∷ e) e' i = ap (f.add _) (value-append e e' i) ∙ sym (fl.add_assoc _ (value_of_pattern_at f e i) (value_of_pattern_at f e' i))

  pub mended-append : (e e' : List (ℕ × F)) (xs : List F) → mended f (e ++ e') xs ≡ mended f e' (mended f e xs)
  mended-append e e' [] = refl
  mended-append e e' (x ∷ xs) = same_cons _ _ _ _ first (mended-append e e' xs)
    where
      first : f.add x (value_of_pattern_at f (e ++ e') (length xs)) ≡ f.add (f.add x (value_of_pattern_at f e (length xs))) (value_of_pattern_at f e' (length (mended f e xs)))
      first =
          ap (f.add x) (value-append e e' (length xs))
          ∙ sym (fl.add_assoc x (value_of_pattern_at f e (length xs)) (value_of_pattern_at f e' (length xs)))
          ∙ ap (λ (n : ℕ). f.add (f.add x (value_of_pattern_at f e (length xs))) (value_of_pattern_at f e' n)) (sym (length-mended f e xs))

  absent : (i n : ℕ) (v x : F) → n < i → f.add x (value_of_pattern_at f ((i, v) ∷ []) n) ≡ x
  absent i n v x less = ap (f.add x) (at_absent fl ((i, v) ∷ []) n (λ m. elim m [ inl e ↦ omega (arith, e, less) | inr k ↦ k ])) ∙ fl.add_zero x

  absent_above : (i n : ℕ) (v x : F) → i < n → f.add x (value_of_pattern_at f ((i, v) ∷ []) n) ≡ x
  absent_above i n v x less = ap (f.add x) (at_absent fl ((i, v) ∷ []) n (λ m. elim m [ inl e ↦ omega (arith, e, less) | inr k ↦ k ])) ∙ fl.add_zero x

  mended-past : (i : ℕ) (v : F) (xs : List F) → length xs ≤ i → mended f ((i, v) ∷ []) xs ≡ xs
  mended-past i v [] h = refl
  mended-past i v (x ∷ xs) h = same_cons _ _ _ _ (absent i (length xs) v x (omega arith)) (mended-past i v xs (omega arith))

  -- one value is added at its place
  pub mended-one : (i : ℕ) (v : F) (xs : List F) (k : ℕ) → k + suc i ≡ length xs → mended f ((i, v) ∷ []) xs ≡ set xs k (f.add (get_or xs k v) v)
  mended-one i v [] k e = absurd (omega arith)
  mended-one i v (x ∷ xs) zero e =
      let here : i ≡ length xs = omega arith in
      same_cons _ _ _ _ (ap (λ (n : ℕ). f.add x (value_of_pattern_at f ((i, v) ∷ []) n)) (sym here) ∙ ap (f.add x) (at_first fl (i, v) [] tt)) (mended-past i v xs (omega arith))
  mended-one i v (x ∷ xs) (suc k) e = same_cons _ _ _ _ (absent_above i (length xs) v x (omega arith)) (mended-one i v xs k (omega arith))

-- ---- in a text that ends in the elements' characters

module _ (text front : List ℕ) (elements : List Fe32) (ends : EndsIn text front elements) (i place : ℕ) (v : Fe32) (inside : i < length elements) (place_is : place ≡ length text - 1 - i) where
  size : length text ≡ length front + length elements
  size = ap length ends ∙ length-append front (map char_of_element elements) ∙ ap (λ (n : ℕ). length front + n) (length-map elements char_of_element)

  at_place : place - length front ≡ length elements - 1 - i
  at_place = omega (arith, size)

  from_front : length front ≤ place
  from_front = omega (arith, size)

  character : get_or text place 0 ≡ char_of_element (get_or elements (length elements - 1 - i) v)
  character =
      ap (λ (t : List ℕ). get_or t place 0) ends
      ∙ get_or-append_right front (map char_of_element elements) (length front) place 0 refl from_front
      ∙ ap (λ (k : ℕ). get_or (map char_of_element elements) k 0) at_place
      ∙ get_or-map char_of_element elements (length elements - 1 - i) v 0 (omega arith)

  pub at_alphabet : is_of_alphabet (get_or text place 0) ≡ true
  at_alphabet = ap is_of_alphabet character ∙ of_alphabet (get_or elements (length elements - 1 - i) v)

  pub ends-set : (c : ℕ) → c ≡ char_of_element (fe32.add (element_of (get_or text place 0)) v) → EndsIn (set text place c) front (mended ops ((i, v) ∷ []) elements)
  ends-set c is =
      ap (λ (t : List ℕ). set t place c) ends
      ∙ set-append_right front (map char_of_element elements) (length front) place c refl from_front
      ∙ ap (λ (k : ℕ). front ++ set (map char_of_element elements) k c) at_place
      ∙ ap (λ (y : ℕ). front ++ set (map char_of_element elements) (length elements - 1 - i) y) (is ∙ ap (λ (x : Fe32). char_of_element (fe32.add x v)) element)
      ∙ ap (λ (l : List ℕ). front ++ l) (sym (map-set char_of_element elements (length elements - 1 - i) (fe32.add (get_or elements (length elements - 1 - i) v) v)))
      ∙ ap (λ (l : List Fe32). front ++ map char_of_element l) (sym (mended-one is_field i v elements (length elements - 1 - i) (omega arith)))
    where
      element : element_of (get_or text place 0) ≡ get_or elements (length elements - 1 - i) v
      element = ap element_of character ∙ element_back (get_or elements (length elements - 1 - i) v)

-- one more value of a listing
pub mended-more : (listing : List (ℕ × Fe32)) (n : ℕ) (d : ℕ × Fe32) (elements : List Fe32) → n < length listing
    → mended ops (take (n + 1) listing) elements ≡ mended ops (get_or listing n d ∷ []) (mended ops (take n listing) elements)
mended-more listing n d elements less =
    ap (λ (e : List (ℕ × Fe32)). mended ops e elements) (take_more listing n d less) ∙ mended-append is_field (take n listing) (get_or listing n d ∷ []) elements

pub all_at : {A : Type 0} (P : A → Type 0) (xs : List A) (n : ℕ) (d : A) → n < length xs → AllByRecursion P xs → P (get_or xs n d)
all_at P [] n d less h = absurd (omega arith)
all_at P (x ∷ xs) zero d less h = h.0
all_at P (x ∷ xs) (suc n) d less h = all_at P xs n d (omega arith) h.1

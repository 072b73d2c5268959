-- What is found at one location of a text's characters.
use Rattle.std.specs.Prelude.{◌≢◌, IsTrue}
use Rattle.std.proofs.Common.{◌≡◌, ◌↔◌, false, ℕ, ◌+◌, ◌-◌, ◌<◌, ◌≤◌, Bool, List, [], ◌∷◌, ◌++◌, append-nil, length, replicate, take, subst, sym, ap, ◌∙◌, arith}
use Rattle.std.proofs.lemmas.List.{length-map, take-map, take_all}
use Rattle.bech32_gf.specs.Fe32 as fe32
use Rattle.bech32_gf.specs.Fe32.{element_of, elements_of, ops}
use Rattle.bech32_gf.specs.declared.gf32.Fe32.{Fe32}
use Rattle.bech32_poly.specs.Polynomial.{add, appended}
use Rattle.bech32_checksum.specs.Code.{Code}
use Rattle.bech32_checksum.specs.TextPolynomial.{text_polynomial}
use Rattle.bech32_near.specs.edits.Edits.{AreAllOf, StartsWith}
use Rattle.bech32_near.specs.edits.Walks.{ArePowers, HasLengthsFor, LeavesTarget, IsAcceptedAt, IsAcceptedValue, IsWordOf, above, below, element_in, times_power, with_zero, without_one}
use Rattle.bech32_near.specs.declared.edits.edit.Change.TheVariants.{LeftOut, PutIn, Swapped}
use Rattle.bech32_near.proofs.Parts.{above-next, below-lowest, below-next, length-below, whole, whole-at, whole-two}
use Rattle.bech32_near.proofs.Sums.{changed_one, in_place_of_zero, polynomial-parts, zero_above}
use Rattle.bech32_near.proofs.Verdicts.{left_out_not_told, left_out_told, put_in_not_told, put_in_told, swap_not_told, swap_told}

module _ (code : Code) (hrp characters : List ℕ) (location : ℕ) where
  abbrev old : List Fe32
  old = elements_of characters

  pub size : length old ≡ length characters
  size = length-map characters element_of

  pub lengths : (n : ℕ) (m : ℕ) → n ≡ m → HasLengthsFor code hrp n → HasLengthsFor code hrp m
  lengths n m e h = subst (HasLengthsFor code hrp) e h

  -- ---- swaps

  module _ (h l : Fe32) (h_is : h ≡ element_in (location + 1) old) (l_is : l ≡ element_in location old) (two : location + 1 < length characters) where
    abbrev top : List Fe32
    top = text_polynomial hrp (above (location + 1 + 1) old)

    swap_parts : old ≡ above (location + 1 + 1) old ++ h ∷ l ∷ below location old
    swap_parts = whole-two old location (omega (arith, two, size)) ∙ (λ i. above (location + 1 + 1) old ++ sym h_is i ∷ sym l_is i ∷ below location old)

    bottom : length (below location old) ≡ location
    bottom = length-below old location (omega (arith, two, size))

    abbrev IsRight : Type 0
    IsRight = (h ≢ l) × LeavesTarget code (appended (h ∷ l ∷ top) (below location old))

    pub swap_right : {R : Type 0} (number : R → ℕ) (word one two four eight sixteen : R) (b : Bool)
        → ((p behind : List Fe32) → IsWordOf number code word (appended (l ∷ h ∷ p) behind) → ArePowers number code (length behind) 2 one two four eight sixteen
        → IsTrue b ↔ ((h ≢ l) × LeavesTarget code (appended (h ∷ l ∷ p) behind)))
        → IsWordOf number code word (text_polynomial hrp old) → ArePowers number code location 2 one two four eight sixteen → IsTrue b ↔ IsRight
    swap_right number word one two four eight sixteen b said w powers =
        said top (below location old)
        (subst (IsWordOf number code word) (ap (text_polynomial hrp) swap_parts ∙ polynomial-parts hrp (above (location + 1 + 1) old) (h ∷ l ∷ below location old)) w)
        (subst (λ n. ArePowers number code n 2 one two four eight sixteen) (sym bottom) powers)

    pub swap_some : HasLengthsFor code hrp (length characters) → IsRight → AreAllOf (IsAcceptedAt 0 code hrp old location) (record { location = location; change = Swapped h l } ∷ [])
    swap_some room right =
        swap_told code hrp old (above (location + 1 + 1) old) (below location old) location bottom h l swap_parts (lengths (length characters) (length old) (sym size) room) right

    pub swap_none : (IsRight → ⊥) → AreAllOf (IsAcceptedAt 0 code hrp old location) []
    swap_none wrong = swap_not_told code hrp old (above (location + 1 + 1) old) (below location old) location bottom h l swap_parts wrong

  -- ---- elements left out

  module _ (x : Fe32) (x_is : x ≡ element_in location old) (low : location < length characters) where
    left_parts : old ≡ above (location + 1) old ++ x ∷ below location old
    left_parts = whole-at old location (omega (arith, low, size)) ∙ (λ i. above (location + 1) old ++ sym x_is i ∷ below location old)

    left_bottom : length (below location old) ≡ location
    left_bottom = length-below old location (omega (arith, low, size))

    abbrev IsRightRest : Type 0
    IsRightRest = (StartsWith x (below location old) → ⊥) × LeavesTarget code (without_one hrp old location)

    pub left_out_some : HasLengthsFor code hrp (length characters - 1) → IsRightRest → AreAllOf (IsAcceptedAt 1 code hrp old location) (record { location = location; change = LeftOut x } ∷ [])
    left_out_some room right =
        left_out_told code hrp old (above (location + 1) old) (below location old) location left_bottom x left_parts
        (lengths (length characters - 1) (length old - 1) (omega (arith, size)) room) right

    pub left_out_none : (IsRightRest → ⊥) → AreAllOf (IsAcceptedAt 1 code hrp old location) []
    left_out_none wrong = left_out_not_told code hrp old (above (location + 1) old) (below location old) location left_bottom x left_parts wrong

  -- ---- elements put in

  module _ (x : Fe32) (low : location ≤ length characters) where
    put_bottom : length (below location old) ≡ location
    put_bottom = length-below old location (omega (arith, low, size))

    abbrev IsRightElement : Type 0
    IsRightElement = (StartsWith x (below location old) → ⊥) × LeavesTarget code (appended (x ∷ text_polynomial hrp (above location old)) (below location old))

    -- what is left with the element
    pub word_with : {R : Type 0} (number : R → ℕ) (word : R)
        → IsWordOf number code word (add ops (with_zero hrp old location) (times_power location (replicate 1 x)))
        → IsWordOf number code word (appended (x ∷ text_polynomial hrp (above location old)) (below location old))
    word_with number word w =
        subst (IsWordOf number code word)
        ((λ i. add ops (polynomial-parts hrp (above location old) (fe32.zero ∷ below location old) i) (times_power (sym put_bottom i) (replicate 1 x)))
        ∙ in_place_of_zero (text_polynomial hrp (above location old)) (below location old) x) w

    pub put_in_some : HasLengthsFor code hrp (length characters + 1) → IsRightElement → AreAllOf (IsAcceptedValue code hrp old location x.value) (record { location = location; change = PutIn x } ∷ [])
    put_in_some room right =
        put_in_told code hrp old (above location old) (below location old) location put_bottom x (whole old location)
        (lengths (length characters + 1) (length old + 1) (omega (arith, size)) room) right

    pub put_in_none : (IsRightElement → ⊥) → AreAllOf (IsAcceptedValue code hrp old location x.value) []
    put_in_none wrong = put_in_not_told code hrp old (above location old) (below location old) location put_bottom x (whole old location) wrong

  -- ---- on to the next location

  -- the element above is left out in place of that at the location
  pub word_without : {R : Type 0} (number : R → ℕ) (word : R) (x y : Fe32) → x ≡ element_in (location + 1) old → y ≡ element_in location old → location + 1 < length characters
      → IsWordOf number code word (add ops (without_one hrp old location) (times_power location (replicate 1 (fe32.add y x))))
      → IsWordOf number code word (without_one hrp old (location + 1))
  word_without number word x y x_is y_is h w =
      let below_one : location + 1 < length old = omega (arith, h, size) in
      let low : location < length old = omega (arith, h, size) in
      let bottom : length (below location old) ≡ location = length-below old location (omega (arith, low)) in
      let top : List Fe32 = above (location + 1 + 1) old in
      let before : without_one hrp old location ≡ appended (x ∷ text_polynomial hrp top) (below location old) =
      polynomial-parts hrp (above (location + 1) old) (below location old)
      ∙ ap (λ (u : List Fe32). appended (text_polynomial hrp u) (below location old)) (above-next old (location + 1) below_one ∙ (λ i. top ++ sym x_is i ∷ []))
      ∙ ap (λ (u : List Fe32). appended u (below location old)) (polynomial-parts hrp top (x ∷ [])) in
      let after : without_one hrp old (location + 1) ≡ appended (y ∷ text_polynomial hrp top) (below location old) =
      ap (λ (u : List Fe32). text_polynomial hrp (top ++ u)) (below-next old location low ∙ (λ i. sym y_is i ∷ below location old))
      ∙ polynomial-parts hrp top (y ∷ below location old) in
      subst (IsWordOf number code word)
      ((λ i. add ops (before i) (times_power (sym bottom i) (replicate 1 (fe32.add y x)))) ∙ changed_one (text_polynomial hrp top) (below location old) x y ∙ sym after) w

  -- the zero stands above the element at the location in place of below it
  pub word_with_zero : {R : Type 0} (number : R → ℕ) (word : R) (x : Fe32) → x ≡ element_in location old → location < length characters
      → IsWordOf number code word (add ops (with_zero hrp old location) (times_power location (replicate 2 x)))
      → IsWordOf number code word (with_zero hrp old (location + 1))
  word_with_zero number word x x_is h w =
      let low : location < length old = omega (arith, h, size) in
      let bottom : length (below location old) ≡ location = length-below old location (omega (arith, low)) in
      let top : List Fe32 = above (location + 1) old in
      let before : with_zero hrp old location ≡ appended (fe32.zero ∷ x ∷ text_polynomial hrp top) (below location old) =
      polynomial-parts hrp (above location old) (fe32.zero ∷ below location old)
      ∙ ap (λ (u : List Fe32). appended (fe32.zero ∷ text_polynomial hrp u) (below location old)) (above-next old location low ∙ (λ i. top ++ sym x_is i ∷ []))
      ∙ ap (λ (u : List Fe32). appended (fe32.zero ∷ u) (below location old)) (polynomial-parts hrp top (x ∷ [])) in
      let after : with_zero hrp old (location + 1) ≡ appended (x ∷ fe32.zero ∷ text_polynomial hrp top) (below location old) =
      ap (λ (u : List Fe32). text_polynomial hrp (top ++ fe32.zero ∷ u)) (below-next old location low ∙ (λ i. sym x_is i ∷ below location old))
      ∙ polynomial-parts hrp top (fe32.zero ∷ x ∷ below location old) in
      subst (IsWordOf number code word)
      ((λ i. add ops (before i) (times_power (sym bottom i) (replicate 2 x))) ∙ zero_above (text_polynomial hrp top) (below location old) x ∙ sym after) w

-- ---- at the lowest location

-- all characters but the last are left
pub first_without : (hrp characters : List ℕ) → text_polynomial hrp (elements_of (take (length characters - 1) characters)) ≡ without_one hrp (elements_of characters) 0
first_without hrp characters =
    let old : List Fe32 = elements_of characters in
    let same : length characters - 1 ≡ length old - (0 + 1) = omega (arith, length-map characters element_of) in
    ap (text_polynomial hrp)
    (sym (take-map element_of (length characters - 1) characters)
    ∙ ap (λ n. take n old) same
    ∙ sym (append-nil (above (0 + 1) old))
    ∙ ap (λ (u : List Fe32). above (0 + 1) old ++ u) (sym (below-lowest old)))

-- a zero stands behind all of them
pub first_with : (hrp : List ℕ) (old : List Fe32) → fe32.zero ∷ text_polynomial hrp old ≡ with_zero hrp old 0
first_with hrp old =
    sym (polynomial-parts hrp old (fe32.zero ∷ []))
    ∙ ap (text_polynomial hrp) (λ i. sym (take_all (length old - 0) old (omega arith)) i ++ fe32.zero ∷ sym (below-lowest old) i)

-- a test that says no
pub never : IsTrue false → ⊥
never e = cc

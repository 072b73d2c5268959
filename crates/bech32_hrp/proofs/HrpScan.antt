-- The first bad character of a text, read character by character.
use Rattle.std.proofs.Common.{◌≡◌, ℕ, Bool, true, false, List, [], ◌∷◌, ◌++◌, length, Option, Some, None, ◌||◌, ◌&&◌, refl, sym, ap, subst, ◌∙◌, cond, leb}
use Rattle.std.proofs.Common.{append_assoc, append-nil}
use Rattle.std.proofs.lemmas.Bool.{cond-true, cond-false, le-leb, lt-leb, ltb-true, ltb-false, and_from}
use Rattle.std.proofs.lemmas.List.Folds.{list_any-append, list_all-append}
use Rattle.std.proofs.lemmas.List.{nil_from_length}
use Rattle.std.proofs.lemmas.Str.{encode_ascii, chars-nil, chars_past_char, IsUtf8-past_char}
use Rattle.std.proofs.Math.Utf8.{encode}
use Rattle.std.specs.Str.{chars, IsUtf8}
use Rattle.std.specs.Char.{is_ascii}
use Rattle.std.specs.List.{list_any, list_all}
use Rattle.bech32_hrp.specs.declared.Error.{Error}
use Rattle.bech32_hrp.specs.declared.Error.TheVariants.{NonAsciiChar, InvalidAsciiByte, MixedCase}
use Rattle.bech32_hrp.specs.Hrp.{is_lower, is_upper, is_graphic, first_of, bad_case, bad_after, first_bad}

-- the front of the text that was read, and what the flags say of it
pub record Scanned (text rest : List ℕ) (has_lower has_upper : Bool) : Type 0 where
  pub before : List ℕ
  pub split : text ≡ before ++ rest
  pub rest_is_text : IsUtf8 rest
  pub graphic : list_all is_graphic before ≡ true
  pub same : first_bad before (chars rest) ≡ first_bad [] (chars text)
  pub lower : has_lower ≡ list_any is_lower before
  pub upper : has_upper ≡ list_any is_upper before

-- nothing is read yet
pub Scanned-start : (text rest : List ℕ) → IsUtf8 text → rest ≡ text → Scanned text rest false false
Scanned-start text rest u e =
    subst (λ (x : List ℕ). Scanned text x false false) (sym e)
    (record { before = []; split = refl; rest_is_text = u; graphic = refl; same = refl; lower = refl; upper = refl })

or_false : (b : Bool) → (b || false) ≡ b
or_false true = refl
or_false false = refl

-- a flag, one character on
flag-more : (p : ℕ → Bool) (before : List ℕ) (c : ℕ) (flag : Bool) → flag ≡ list_any p before → (flag || p c) ≡ list_any p (before ++ c ∷ [])
flag-more p before c flag e =
    ap (λ (b : Bool). b || p c) e ∙ sym (list_any-append p before (c ∷ []) ∙ ap (λ (b : Bool). list_any p before || b) (or_false (p c)))

-- the first fault behind `before`, one character on
first_bad-next : (before rest t : List ℕ) (c : ℕ) → IsUtf8 rest → rest ≡ encode c ++ t
    → first_bad before (chars rest) ≡ first_of (bad_after before c) (first_bad (before ++ c ∷ []) (chars t))
unfolding first_bad
first_bad-next before rest t c u e = ap (first_bad before) (chars_past_char rest t c u e)

fault-at : (text rest t : List ℕ) (c : ℕ) (low up : Bool) (e : Error) (s : Scanned text rest low up) → rest ≡ encode c ++ t
    → bad_after s.before c ≡ Some e → first_bad [] (chars text) ≡ Some e
fault-at text rest t c low up e s p h =
    sym s.same ∙ first_bad-next s.before rest t c s.rest_is_text p ∙ ap (λ (o : Option Error). first_of o (first_bad (s.before ++ c ∷ []) (chars t))) h

-- each kind of bad character, where it is the next one
pub Scanned-other : (text rest t : List ℕ) (c : ℕ) (low up : Bool) → Scanned text rest low up → rest ≡ encode c ++ t → is_ascii c ≡ false
    → first_bad [] (chars text) ≡ Some (NonAsciiChar c)
Scanned-other text rest t c low up s p h =
    fault-at text rest t c low up (NonAsciiChar c) s p (cond-true (leb 128 c) _ _ (le-leb 128 c (ltb-false c 128 h)))

ascii-only : (before : List ℕ) (c : ℕ) → is_ascii c ≡ true
    → bad_after before c ≡ cond (is_graphic c) (cond (bad_case before c) (Some MixedCase) None) (Some (InvalidAsciiByte c))
ascii-only before c h = cond-false (leb 128 c) _ _ (lt-leb 128 c (ltb-true c 128 h))

pub Scanned-invalid : (text rest t : List ℕ) (c : ℕ) (low up : Bool) → Scanned text rest low up → rest ≡ encode c ++ t → is_ascii c ≡ true → is_graphic c ≡ false
    → first_bad [] (chars text) ≡ Some (InvalidAsciiByte c)
Scanned-invalid text rest t c low up s p h n =
    fault-at text rest t c low up (InvalidAsciiByte c) s p (ascii-only s.before c h ∙ cond-false (is_graphic c) _ _ n)

graphic-case : (before : List ℕ) (c : ℕ) → is_ascii c ≡ true → is_graphic c ≡ true → bad_after before c ≡ cond (bad_case before c) (Some MixedCase) None
graphic-case before c h g = ascii-only before c h ∙ cond-true (is_graphic c) _ _ g

-- the flags tell what stands before
flags-case : (text rest : List ℕ) (c : ℕ) (low up : Bool) (s : Scanned text rest low up) → bad_case s.before c ≡ ((is_lower c && up) || (is_upper c && low))
flags-case text rest c low up s = sym (ap (λ (b : Bool). (is_lower c && b) || (is_upper c && low)) s.upper ∙ ap (λ (b : Bool). (is_lower c && list_any is_upper s.before) || (is_upper c && b)) s.lower)

pub Scanned-mixed : (text rest t : List ℕ) (c : ℕ) (low up : Bool) → Scanned text rest low up → rest ≡ encode c ++ t → is_ascii c ≡ true → is_graphic c ≡ true
    → ((is_lower c && up) || (is_upper c && low)) ≡ true → first_bad [] (chars text) ≡ Some MixedCase
Scanned-mixed text rest t c low up s p h g m =
    fault-at text rest t c low up MixedCase s p (graphic-case s.before c h g ∙ cond-true (bad_case s.before c) _ _ (flags-case text rest c low up s ∙ m))

-- a character that is not bad is read
pub Scanned-next : (text rest t : List ℕ) (c : ℕ) (low up : Bool) → Scanned text rest low up → rest ≡ encode c ++ t → is_ascii c ≡ true → is_graphic c ≡ true
    → ((is_lower c && up) || (is_upper c && low)) ≡ false → Scanned text t (low || is_lower c) (up || is_upper c)
Scanned-next text rest t c low up s p h g m =
    let one : encode c ≡ c ∷ [] = encode_ascii c (ltb-true c 128 h) in
    let none : bad_after s.before c ≡ None = graphic-case s.before c h g ∙ cond-false (bad_case s.before c) _ _ (flags-case text rest c low up s ∙ m) in
    record {
      before = s.before ++ c ∷ [];
      split = s.split ∙ ap (λ (x : List ℕ). s.before ++ x) (p ∙ ap (λ (x : List ℕ). x ++ t) one) ∙ sym (append_assoc s.before (c ∷ []) t);
      rest_is_text = IsUtf8-past_char rest t c s.rest_is_text p;
      graphic =
          list_all-append is_graphic s.before (c ∷ [])
          ∙ and_from (list_all is_graphic s.before) (list_all is_graphic (c ∷ [])) s.graphic (and_from (is_graphic c) true g refl);
      same = sym (first_bad-next s.before rest t c s.rest_is_text p ∙ ap (λ (o : Option Error). first_of o (first_bad (s.before ++ c ∷ []) (chars t))) none) ∙ s.same;
      lower = flag-more is_lower s.before c low s.lower;
      upper = flag-more is_upper s.before c up s.upper;
    }

-- all is read
pub Scanned-end : (text rest : List ℕ) (low up : Bool) → Scanned text rest low up → length rest ≡ 0 → (first_bad [] (chars text) ≡ None) × (list_all is_graphic text ≡ true)
unfolding first_bad
Scanned-end text rest low up s n =
    let e = nil_from_length rest n in (
      sym s.same ∙ ap (λ (x : List ℕ). first_bad s.before (chars x)) e ∙ ap (first_bad s.before) chars-nil,
      ap (list_all is_graphic) (s.split ∙ ap (λ (x : List ℕ). s.before ++ x) e ∙ append-nil s.before) ∙ s.graphic,
    )

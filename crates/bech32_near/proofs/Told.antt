-- The texts of all edits that a checksum accepts are the near edits of a text.
use Rattle.std.specs.List.{AllByRecursion}
use Rattle.std.specs.Prelude.{◌≢◌, Result, Ok, Err, IfOk, IfErr, MatchResult}
use Rattle.std.specs.Char.{to_ascii_lowercase}
use Rattle.std.proofs.Common.{◌≡◌, ℕ, ◌+◌, ◌/◌, List, [], ◌∷◌, ◌++◌, map, length, length-append, inl, inr, subst, sym, ap, ◌∙◌, refl, arith}
use Rattle.std.proofs.lemmas.List.{length-map}
use Rattle.bech32_gf.specs.Fe32 as fe32
use Rattle.bech32_gf.specs.Fe32.{element_of, elements_of}
use Rattle.bech32_gf.specs.declared.gf32.Fe32.{Fe32}
use Rattle.bech32_poly.specs.Distinct.{IsAmong, IsNotAmong, IsOnce}
use Rattle.bech32_poly.specs.Polynomial.{appended}
use Rattle.bech32_bch.proofs.Places.{look}
use Rattle.bech32_hrp.specs.Hrp.{lowered}
use Rattle.bech32_hrp.proofs.Lowered.{lowered-lowered}
use Rattle.bech32_checksum.specs.Code.{Code}
use Rattle.bech32_checksum.specs.Encoded.{char_of_element, spelled}
use Rattle.bech32_checksum.specs.TextPolynomial.{text_polynomial}
use Rattle.bech32_decode.specs.Acceptance.{Accepts, IsAccepted}
use Rattle.bech32_decode.specs.Text.{IsText}
use Rattle.bech32_decode.proofs.Grammar.{only-from_IsText}
use Rattle.bech32_decode.proofs.Spelling.{characters-elements, lower_text, spelled-text}
use Rattle.bech32_near.specs.edits.Edits.{AreAllOf, AreInOrder, IsBefore, IsEdit, IsToldEdit}
use Rattle.bech32_near.specs.edits.NearEdits.{AreNearEdits, HasNearEdit, IsEditedText, IsToldText}
use Rattle.bech32_near.specs.edits.Walks.{HasAcceptedEdit, LeavesTarget, IsAcceptedData, IsAcceptedEdit, IsEditOf, IsMadeText}
use Rattle.bech32_near.specs.declared.edits.edit.Edit.{Edit}
use Rattle.bech32_near.proofs.Once.{changed, moved, not_before}

-- the polynomial does not see the case
same_polynomial : (hrp part : List ℕ) (xs : List Fe32) → lowered hrp ≡ lowered part → text_polynomial hrp xs ≡ text_polynomial part xs
same_polynomial hrp part xs e =
    ap (λ (low : List ℕ). appended (fe32.one ∷ []) ((map (λ b. fe32.element (b / 32)) low ++ (fe32.zero ∷ map fe32.element low)) ++ xs)) e

same_length : (hrp part : List ℕ) → lowered hrp ≡ lowered part → length hrp ≡ length part
same_length hrp part e =
    sym (length-map hrp to_ascii_lowercase) ∙ ap (λ (l : List ℕ). length l) e ∙ length-map part to_ascii_lowercase

text_length : (hrp : List ℕ) (b : ℕ) (data_part text : List ℕ) → text ≡ hrp ++ (b ∷ data_part) → length text ≡ length hrp + 1 + length data_part
text_length hrp b data_part text e = omega (arith, ap (λ (l : List ℕ). length l) e, length-append hrp (b ∷ data_part))

module _ (code : Code) (text hrp data_part : List ℕ) (is : IsText text hrp data_part) where
  abbrev old : List Fe32
  old = elements_of data_part

  -- the checksum accepts the text of such elements
  accepted_text : (new : List Fe32) → IsAcceptedData code hrp new → Accepts code (spelled hrp new)
  accepted_text new a =
      let grammar = spelled-text hrp new is.is_hrp in
      let part : length (lowered hrp) ≡ length hrp = length-map hrp to_ascii_lowercase in
      let characters : length (map char_of_element new) ≡ length new = length-map new char_of_element in
      let whole = text_length (lowered hrp) 49 (map char_of_element new) (spelled hrp new) refl in (
        lowered hrp,
        map char_of_element new,
        record {
          grammar = grammar;
          text_length = omega (arith, whole, part, characters, a.lengths.0);
          data_length = omega (arith, characters, a.lengths.1);
          has_target = subst (LeavesTarget code) (sym (ap (text_polynomial (lowered hrp)) (characters-elements new) ∙ same_polynomial (lowered hrp) hrp new (lowered-lowered hrp))) a.has_target;
        },
      )

  -- and of an accepted text the elements are such
  accepted_data : (other other_hrp other_data : List ℕ) → lowered other_hrp ≡ lowered hrp → IsAccepted code other other_hrp other_data → IsAcceptedData code hrp (elements_of other_data)
  accepted_data other other_hrp other_data same a =
      let part : length other_hrp ≡ length hrp = same_length other_hrp hrp same in
      let characters : length (elements_of other_data) ≡ length other_data = length-map other_data element_of in
      let whole = text_length other_hrp 49 other_data other a.grammar.split in record {
        lengths = (omega (arith, whole, part, characters, a.text_length), omega (arith, characters, a.data_length));
        has_target = subst (LeavesTarget code) (same_polynomial other_hrp hrp (elements_of other_data) same) a.has_target;
      }

  -- a text is spelled by one list of elements
  same_elements : (xs ys : List Fe32) → spelled hrp xs ≡ spelled hrp ys → xs ≡ ys
  same_elements xs ys e =
      let parts = only-from_IsText (spelled hrp xs) (lowered hrp) (map char_of_element xs) (spelled-text hrp xs is.is_hrp) (lowered hrp) (map char_of_element ys) e (spelled-text hrp ys is.is_hrp).data_bytes in
      sym (characters-elements xs) ∙ ap elements_of (sym parts.1) ∙ characters-elements ys

  pub edit_of : (edit : Edit) → IsAcceptedEdit code hrp old edit → IsEditOf text edit
  edit_of edit (new, t, a) = (hrp, data_part, new, is, t.edit_is)

  pub edits_of : (edits : List Edit) → AllByRecursion (IsAcceptedEdit code hrp old) edits → AllByRecursion (IsEditOf text) edits
  edits_of [] a = tt
  edits_of (e ∷ edits) a = (edit_of e a.0, edits_of edits a.1)

  -- an accepted edit, and the text that it makes
  pub told_text : (edit : Edit) (made : List ℕ) (new : List Fe32) → IsToldEdit edit old new → IsAcceptedData code hrp new → made ≡ spelled hrp new → IsToldText edit text made × Accepts code made
  told_text edit made new t a e = (
    record { hrp = hrp; data_part = data_part; elements = new; grammar = is; told = t; spelling = e },
    subst (Accepts code) (sym e) (accepted_text new a),
  )

  pub some_told : HasAcceptedEdit code hrp old → HasNearEdit code text
  some_told (edit, (new, t, a)) = let p = told_text edit (spelled hrp new) new t a refl in (edit, spelled hrp new, p.0, p.1)

  -- ---- of anything that has an edit and a text

  module _ {M : Type 0} (edit_in : M → Edit) (text_in : M → List ℕ) where
    abbrev pairs : List M → List (Edit × List ℕ)
    pairs items = map (λ m. (edit_in m, text_in m)) items

    abbrev Made : M → Type 0
    Made m = IsMadeText (edit_in m) text (text_in m)

    abbrev Right : M → Type 0
    Right m = IsAcceptedEdit code hrp old (edit_in m)

    spelling : (m : M) (new : List Fe32) → Made m → IsToldEdit (edit_in m) old new → text_in m ≡ spelled hrp new
    spelling m new made t = made hrp data_part new is t.edit_is

    edits_in : (items : List M) → map edit_in items ≡ map (λ m. m.0) (pairs items)
    edits_in [] = refl
    edits_in (m ∷ items) = ap (λ u. edit_in m ∷ u) (edits_in items)

    right_all : (items : List M) → AllByRecursion (IsAcceptedEdit code hrp old) (map edit_in items) → AllByRecursion Right items
    right_all [] a = tt
    right_all (m ∷ items) a = (a.0, right_all items a.1)

    each_told : (items : List M) → AllByRecursion Made items → AllByRecursion Right items → AllByRecursion (λ m. IsToldText m.0 text m.1 × Accepts code m.1) (pairs items)
    each_told [] made right = tt
    each_told (m ∷ items) made right =
        let (new, t, a) = right.0 in
        (told_text (edit_in m) (text_in m) new t a (spelling m new made.0 t), each_told items made.1 right.1)

    -- the text of an edit that is among them
    among_texts : (edit : Edit) (new : List Fe32) → IsToldEdit edit old new → (items : List M) → AllByRecursion Made items → IsAmong edit (map edit_in items) → IsAmong (spelled hrp new) (map (λ m. m.1) (pairs items))
    among_texts edit new t [] made m = m
    among_texts edit new t (x ∷ items) made (inl e) = inl (sym (spelling x new made.0 (subst (λ (u : Edit). IsToldEdit u old new) e t)))
    among_texts edit new t (x ∷ items) made (inr m) = inr (among_texts edit new t items made.1 m)

    all_texts : (items : List M) → AllByRecursion Made items → ((e : Edit) → IsAcceptedEdit code hrp old e → IsAmong e (map edit_in items))
        → (edit : Edit) (other : List ℕ) → IsEditedText edit text other → Accepts code other → lowered other ≢ lowered text → IsAmong (lowered other) (map (λ m. m.1) (pairs items))
    all_texts items made all edit other t (oh, od, a) differs =
        let own = only-from_IsText text hrp data_part is t.hrp t.data_part t.grammar.split t.grammar.data_bytes in
        let parts = only-from_IsText other oh od a.grammar t.other_hrp t.other_data t.other_grammar.split t.other_grammar.data_bytes in
        let same : lowered oh ≡ lowered hrp = ap lowered (sym parts.0) ∙ t.same_hrp ∙ ap lowered own.0 in
        let new : List Fe32 = elements_of od in
        let low : lowered other ≡ spelled hrp new = lower_text other oh od a.grammar ∙ ap (λ (l : List ℕ). l ++ (49 ∷ map char_of_element new)) same in
        let is_edit : IsEdit edit old new = subst (λ (u : List Fe32). IsEdit edit u new) (ap elements_of own.1) (subst (λ (u : List Fe32). IsEdit edit (elements_of t.data_part) u) (ap elements_of parts.1) t.edit_is) in
        let (last, told) = moved edit old new is_edit (λ e. differs (low ∙ ap (spelled hrp) (sym e) ∙ sym (lower_text text hrp data_part is))) in
        subst (λ (u : List ℕ). IsAmong u (map (λ m. m.1) (pairs items))) (sym low)
        (among_texts last new told items made (all last (new, told, accepted_data other oh od same a)))

    -- each stands once
    differ : (x y : M) → Made x → Made y → Right x → Right y → IsBefore (edit_in x) (edit_in y) → text_in x ≢ text_in y
    differ x y made also (new, t, a) (others, u, b) before e =
        let same : others ≡ new = same_elements others new (sym (spelling y others also u) ∙ sym e ∙ spelling x new made t) in
        not_before (edit_in x) (edit_in y) old new t (subst (IsToldEdit (edit_in y) old) same u) before

    not_later : (x : M) (items : List M) → Made x → Right x → AllByRecursion Made items → AllByRecursion Right items → AllByRecursion (IsBefore (edit_in x)) (map edit_in items) → IsNotAmong (text_in x) (map (λ m. m.1) (pairs items))
    not_later x [] made right all rights before = tt
    not_later x (y ∷ items) made right all rights before = (differ x y made all.0 right rights.0 before.0, not_later x items made right all.1 rights.1 before.1)

    each_once : (items : List M) → AllByRecursion Made items → AllByRecursion Right items → AreInOrder (map edit_in items) → IsOnce (map (λ m. m.1) (pairs items))
    each_once [] made right order = tt
    each_once (m ∷ items) made right order = (not_later m items made.0 right.0 made.1 right.1 order.0, each_once items made.1 right.1 order.1)

    -- none is the text itself
    others : (items : List M) → AllByRecursion Made items → AllByRecursion Right items → IsNotAmong (lowered text) (map (λ m. m.1) (pairs items))
    others [] made right = tt
    others (m ∷ items) made right =
        let (new, t, a) = right.0 in (
          (λ e. changed (edit_in m) old new t (same_elements old new (sym (lower_text text hrp data_part is) ∙ e ∙ spelling m new made.0 t))),
          others items made.1 right.1,
        )

    near_edits : (edits : List Edit) (items : List M) → AreAllOf (IsAcceptedEdit code hrp old) edits → map edit_in items ≡ edits → AllByRecursion Made items → AreNearEdits code text (pairs items)
    near_edits edits items a same made =
        let all : AreAllOf (IsAcceptedEdit code hrp old) (map edit_in items) = subst (λ u. AreAllOf (IsAcceptedEdit code hrp old) u) (sym same) a in
        let right : AllByRecursion Right items = right_all items all.each in record {
          grammar = (hrp, data_part, is);
          each = each_told items made right;
          all = all_texts items made all.all;
          in_order = subst (λ u. AreInOrder u) (edits_in items) all.in_order;
          once = each_once items made right all.in_order;
          not_itself = others items made right;
        }

    -- the same where memory may not suffice for the texts
    pub near_or_told : {V E : Type 0} (edits : List Edit) (items : V → List M) (r : Result V E) → AreAllOf (IsAcceptedEdit code hrp old) edits
        → IfOk r (λ v. map edit_in (items v) ≡ edits) → IfOk r (λ v. AllByRecursion Made (items v)) → IfErr r (λ _. (edit : Edit) × IsAmong edit edits)
        → MatchResult r (λ v. AreNearEdits code text (pairs (items v))) (λ _. HasNearEdit code text)
    near_or_told edits items (Ok v) a same made some = near_edits edits (items v) a same made
    near_or_told edits items (Err e) a same made some =
        some_told (some.0, look (IsAcceptedEdit code hrp old) some.0 edits a.each some.1)

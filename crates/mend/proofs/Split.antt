-- Lines that ask for nothing, and words of a checksum and a text.
use Rattle.std.proofs.Common.{◌≡◌, ◌≢◌, ℕ, Bool, true, false, ◌||◌, List, [], ◌∷◌, refl, sym, ap, subst, ◌∙◌, cond, Option, Some, None, codes}
use Rattle.std.specs.List.{list_any}
use Rattle.line_program.specs.Words.{is_empty, words}
use Rattle.line_program.proofs.NoRequest.{asks-none, asks-none-empty}
use Rattle.line_program.proofs.Split.{words-some}
use Rattle.b32_replies.specs.Request.{checksum_of_word}
use Rattle.b32_replies.specs.declared.command.ChecksumName.{ChecksumName}
use Rattle.mend.specs.Request.{MendRequest, mend_request_of, mend_request_of_words, nearest_arguments, nearest_request, Suggest, suggest_arguments, suggest_request, text_arguments, text_request}

-- words that ask for nothing do so whether or not one of them is empty
none_either_way : (b : Bool) (o : Option MendRequest) → o ≡ None → cond b None o ≡ None
none_either_way true o e = refl
none_either_way false o e = e

-- ---- a checksum and a text

-- what all words of a line ask for
abbrev asked : List (List ℕ) → Option MendRequest
asked all = cond (list_any is_empty all) None (mend_request_of_words all)

module _ (request : ChecksumName → List ℕ → MendRequest) where
  -- what a line asks for by the words behind the first
  pub of-arguments : (line name : List ℕ) (arguments : List (List ℕ)) → words line ≡ name ∷ arguments → asked (name ∷ arguments) ≡ text_arguments request arguments
      → mend_request_of line ≡ text_arguments request arguments
  of-arguments line name arguments e is = ap asked e ∙ is

  none_empty_text : (arguments : List (List ℕ)) → list_any is_empty arguments ≡ true → text_arguments request arguments ≡ None
  none_empty_text arguments e = ap (λ (b : Bool). cond b None (text_request request arguments)) e

  -- with no second word, or an empty one before it
  pub text-no-word : (all : List (List ℕ)) → ((first second : List ℕ) (rest : List (List ℕ)) → all ≡ first ∷ second ∷ rest → first ≡ []) → text_arguments request all ≡ None
  text-no-word [] h = refl
  text-no-word (x ∷ []) h = none_either_way (list_any is_empty (x ∷ [])) (text_request request (x ∷ [])) refl
  text-no-word (x ∷ y ∷ more) h =
      let none : x ≡ [] = h x y more refl in
      subst (λ (w : List ℕ). text_arguments request (w ∷ y ∷ more) ≡ None) (sym none) refl

  pub text-no-checksum : (all more : List (List ℕ)) (name : List ℕ) → all ≡ name ∷ more → checksum_of_word name ≡ None → text_arguments request all ≡ None
  text-no-checksum all more name e none = ap (text_arguments request) e ∙ none_either_way (list_any is_empty (name ∷ more)) (text_request request (name ∷ more)) (cases more)
    where
      cases : (more : List (List ℕ)) → text_request request (name ∷ more) ≡ None
      cases [] = refl
      cases (text ∷ []) = rw none
      cases (text ∷ x ∷ more) = refl

  -- with no last word, or an empty one
  pub text-no-text : (all last : List (List ℕ)) (name : List ℕ) → all ≡ name ∷ last → ((word : List ℕ) → last ≡ word ∷ [] → word ≡ []) → text_arguments request all ≡ None
  text-no-text all last name e empty = ap (text_arguments request) e ∙ cases last empty
    where
      second : (a : Bool) → a || (true || false) ≡ true
      second true = refl
      second false = refl

      cases : (last : List (List ℕ)) → ((word : List ℕ) → last ≡ word ∷ [] → word ≡ []) → text_arguments request (name ∷ last) ≡ None
      cases [] h = none_either_way (list_any is_empty (name ∷ [])) (text_request request (name ∷ [])) refl
      cases (x ∷ y ∷ more) h = none_either_way (list_any is_empty (name ∷ x ∷ y ∷ more)) (text_request request (name ∷ x ∷ y ∷ more)) refl
      cases (x ∷ []) h =
          let none : x ≡ [] = h x refl in
          subst (λ (w : List ℕ). text_arguments request (name ∷ w ∷ []) ≡ None) (sym none) (none_empty_text (name ∷ [] ∷ []) (second (is_empty name)))

  -- with both
  pub text-both : (all : List (List ℕ)) (name text : List ℕ) (checksum : ChecksumName) → all ≡ name ∷ text ∷ [] → name ≢ [] → text ≢ [] → checksum_of_word name ≡ Some checksum
      → text_arguments request all ≡ Some (request checksum text)
  text-both all [] text checksum e some last is = absurd (some refl)
  text-both all (b ∷ bs) [] checksum e some last is = absurd (last refl)
  text-both all (b ∷ bs) (d ∷ ds) checksum e some last is = rw e (rw is refl)

-- ---- a human-readable part and a text

pub of-suggest : (line name : List ℕ) (arguments : List (List ℕ)) → words line ≡ name ∷ arguments → asked (name ∷ arguments) ≡ suggest_arguments arguments → mend_request_of line ≡ suggest_arguments arguments
of-suggest line name arguments e is = ap asked e ∙ is

-- with no second word, or an empty one before it
pub suggest-no-word : (all : List (List ℕ)) → ((first second : List ℕ) (rest : List (List ℕ)) → all ≡ first ∷ second ∷ rest → first ≡ []) → suggest_arguments all ≡ None
suggest-no-word [] h = refl
suggest-no-word (x ∷ []) h = none_either_way (list_any is_empty (x ∷ [])) (suggest_request (x ∷ [])) refl
suggest-no-word (x ∷ y ∷ more) h =
    let none : x ≡ [] = h x y more refl in
    subst (λ (w : List ℕ). suggest_arguments (w ∷ y ∷ more) ≡ None) (sym none) refl

-- with no last word, or an empty one
pub suggest-no-text : (all last : List (List ℕ)) (part : List ℕ) → all ≡ part ∷ last → ((word : List ℕ) → last ≡ word ∷ [] → word ≡ []) → suggest_arguments all ≡ None
suggest-no-text all last part e empty = ap suggest_arguments e ∙ cases last empty
  where
    second : (a : Bool) → a || (true || false) ≡ true
    second true = refl
    second false = refl

    cases : (last : List (List ℕ)) → ((word : List ℕ) → last ≡ word ∷ [] → word ≡ []) → suggest_arguments (part ∷ last) ≡ None
    cases [] h = none_either_way (list_any is_empty (part ∷ [])) (suggest_request (part ∷ [])) refl
    cases (x ∷ y ∷ more) h = none_either_way (list_any is_empty (part ∷ x ∷ y ∷ more)) (suggest_request (part ∷ x ∷ y ∷ more)) refl
    cases (x ∷ []) h =
        let none : x ≡ [] = h x refl in
        subst (λ (w : List ℕ). suggest_arguments (part ∷ w ∷ []) ≡ None) (sym none) (ap (λ (b : Bool). cond b None (suggest_request (part ∷ [] ∷ []))) (second (is_empty part)))

-- with both
pub suggest-both : (all : List (List ℕ)) (part text : List ℕ) → all ≡ part ∷ text ∷ [] → part ≢ [] → text ≢ [] → suggest_arguments all ≡ Some (Suggest part text)
suggest-both all [] text e some last = absurd (some refl)
suggest-both all (b ∷ bs) [] e some last = absurd (last refl)
suggest-both all (b ∷ bs) (d ∷ ds) e some last = rw e refl

-- ---- `checksum`, with no last word, or an empty one

pub checksum-no-text : (line : List ℕ) (last : List (List ℕ)) → words line ≡ codes "checksum" ∷ last → ((word : List ℕ) → last ≡ word ∷ [] → word ≡ []) → mend_request_of line ≡ None
checksum-no-text line [] e empty = asks-none mend_request_of_words line _ e refl
checksum-no-text line (x ∷ y ∷ more) e empty = asks-none mend_request_of_words line _ e refl
checksum-no-text line (x ∷ []) e empty = let none : x ≡ [] = empty x refl in asks-none-empty mend_request_of_words line (rw (e, none) refl)

-- ---- the words behind `nearest`

none_empty : (arguments : List (List ℕ)) → list_any is_empty arguments ≡ true → nearest_arguments arguments ≡ None
none_empty arguments e = ap (λ (b : Bool). cond b None (nearest_request arguments)) e

pub nearest-no-checksum : (arguments checksum : List ℕ) (more : List (List ℕ)) → words arguments ≡ checksum ∷ more → checksum_of_word checksum ≡ None → nearest_arguments (words arguments) ≡ None
nearest-no-checksum arguments checksum more e none = ap nearest_arguments e ∙ none_either_way (list_any is_empty (checksum ∷ more)) (nearest_request (checksum ∷ more)) (cases more)
  where
    cases : (more : List (List ℕ)) → nearest_request (checksum ∷ more) ≡ None
    cases [] = refl
    cases (text ∷ []) = refl
    cases (text ∷ errors ∷ []) = rw none
    cases (text ∷ locations ∷ errors ∷ []) = rw none
    cases (text ∷ locations ∷ errors ∷ x ∷ more) = refl

-- with no text, or an empty one
pub nearest-no-text : (arguments checksum : List ℕ) (more : List (List ℕ)) → words arguments ≡ checksum ∷ more
    → ((first second : List ℕ) (rest : List (List ℕ)) → more ≡ first ∷ second ∷ rest → first ≡ []) → nearest_arguments (words arguments) ≡ None
nearest-no-text arguments checksum more e empty = ap nearest_arguments e ∙ cases more empty
  where
    cases : (more : List (List ℕ)) → ((first second : List ℕ) (rest : List (List ℕ)) → more ≡ first ∷ second ∷ rest → first ≡ []) → nearest_arguments (checksum ∷ more) ≡ None
    cases [] h = none_either_way (list_any is_empty (checksum ∷ [])) (nearest_request (checksum ∷ [])) refl
    cases (x ∷ []) h = none_either_way (list_any is_empty (checksum ∷ x ∷ [])) (nearest_request (checksum ∷ x ∷ [])) refl
    cases (x ∷ y ∷ more) h =
        let none : x ≡ [] = h x y more refl in
        subst (λ (w : List ℕ). nearest_arguments (checksum ∷ w ∷ y ∷ more) ≡ None) (sym none)
        (none_empty (checksum ∷ [] ∷ y ∷ more) (second (is_empty checksum) (list_any is_empty (y ∷ more))))
      where
        second : (a b : Bool) → a || (true || b) ≡ true
        second true b = refl
        second false b = refl

-- with a text, and no more words, or an empty one before the last
pub nearest-no-errors : (arguments checksum text : List ℕ) (last : List ℕ) → words arguments ≡ checksum ∷ text ∷ words last
    → ((first second : List ℕ) (rest : List (List ℕ)) → words last ≡ first ∷ second ∷ rest → first ≡ []) → ((word : List ℕ) → words last ≡ word ∷ [] → word ≡ [])
    → nearest_arguments (words arguments) ≡ None
nearest-no-errors arguments checksum text last e first only = ap nearest_arguments e ∙ cases (words last) (words-some last) first only
  where
    third : (a b c : Bool) → a || (b || (true || c)) ≡ true
    third true b c = refl
    third false true c = refl
    third false false c = refl

    cases : (ws : List (List ℕ)) → (ws ≡ [] → ⊥) → ((first second : List ℕ) (rest : List (List ℕ)) → ws ≡ first ∷ second ∷ rest → first ≡ []) → ((word : List ℕ) → ws ≡ word ∷ [] → word ≡ [])
        → nearest_arguments (checksum ∷ text ∷ ws) ≡ None
    cases [] some f o = absurd (some refl)
    cases (x ∷ []) some f o = let none : x ≡ [] = o x refl in rw none (none_empty (checksum ∷ text ∷ [] ∷ []) (third (is_empty checksum) (is_empty text) false))
    cases (x ∷ y ∷ more) some f o =
        let none : x ≡ [] = f x y more refl in
        subst (λ (w : List ℕ). nearest_arguments (checksum ∷ text ∷ w ∷ y ∷ more) ≡ None) (sym none)
        (none_empty (checksum ∷ text ∷ [] ∷ y ∷ more) (third (is_empty checksum) (is_empty text) (list_any is_empty (y ∷ more))))

-- with locations, and no last word, or an empty one
pub nearest-at-no-errors : (arguments checksum text locations : List ℕ) (last : List (List ℕ)) → words arguments ≡ checksum ∷ text ∷ locations ∷ last → (last ≡ [] → ⊥)
    → ((word : List ℕ) → last ≡ word ∷ [] → word ≡ []) → nearest_arguments (words arguments) ≡ None
nearest-at-no-errors arguments checksum text locations [] e some empty = absurd (some refl)
nearest-at-no-errors arguments checksum text locations (x ∷ y ∷ more) e some empty =
    ap nearest_arguments e ∙ none_either_way (list_any is_empty (checksum ∷ text ∷ locations ∷ x ∷ y ∷ more)) (nearest_request (checksum ∷ text ∷ locations ∷ x ∷ y ∷ more)) refl
nearest-at-no-errors arguments checksum text locations (x ∷ []) e some empty =
    let none : x ≡ [] = empty x refl in
    ap nearest_arguments e ∙ rw none (none_empty (checksum ∷ text ∷ locations ∷ [] ∷ []) (fourth (is_empty checksum) (is_empty text) (is_empty locations)))
  where
    fourth : (a b c : Bool) → a || (b || (c || (true || false))) ≡ true
    fourth true b c = refl
    fourth false true c = refl
    fourth false false true = refl
    fourth false false false = refl

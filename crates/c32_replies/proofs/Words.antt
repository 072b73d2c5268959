-- The words of a line, and lines that ask for nothing.
use Rattle.std.proofs.Common.{◌≡◌, ◌≢◌, ℕ, ◌==◌, Bool, true, false, ◌||◌, List, [], ◌∷◌, length, refl, sym, ap, subst, ◌∙◌, arith, None, Some, Option, if◌then◌else◌, codes}
use Rattle.std.specs.List.{list_any}
use Rattle.std.proofs.lemmas.List.Splits.{length-slice_split}
use Rattle.line_program.specs.Words.{words, is_empty}
use Rattle.c32_replies.specs.Request.{Codex32Request, Derive, Encode, Recover, codex32_request_of, codex32_request_of_words, derive_request, encode_arguments, one_word, split_arguments, split_request, string_request, nonempty_words}

if-none : {A : Type 0} (b : Bool) (r : Option A) → r ≡ None → (if b then None else r) ≡ None
if-none true r e = refl
if-none false r e = e

-- where the last of four words is empty
one-of-four : {A : Type 0} (a b c : Bool) (some : Option A) → (if (a || (b || (c || (true || false)))) then None else some) ≡ None
one-of-four true b c some = refl
one-of-four false true c some = refl
one-of-four false false true some = refl
one-of-four false false false some = refl

-- a line has a word
some-word : (line : List ℕ) → words line ≡ [] → ⊥
some-word line e = omega (arith, length-slice_split (λ b. b == 32) line, ap (λ (ws : List (List ℕ)). length ws) e)

-- no first word and no only one: one is empty
pub one-empty : (line : List ℕ) → ((first second : List ℕ) (rest : List (List ℕ)) → words line ≡ first ∷ second ∷ rest → first ≡ []) → ((word : List ℕ) → words line ≡ word ∷ [] → word ≡ [])
    → list_any is_empty (words line) ≡ true
one-empty line first only = cases (words line) refl
  where
    cases : (all : List (List ℕ)) → words line ≡ all → list_any is_empty (words line) ≡ true
    cases [] e = absurd (some-word line e)
    cases (x ∷ []) e = let none : x ≡ [] = only x e in rw (e, none) refl
    cases (x ∷ y ∷ more) e = let none : x ≡ [] = first x y more e in rw (e, none) refl

-- ---- what words ask for

-- a line with a first word asks for what this and the others ask for, unless one is empty
asked : (line name : List ℕ) (rest : List (List ℕ)) → words line ≡ name ∷ rest → is_empty name ≡ false
    → codex32_request_of line ≡ (if list_any is_empty rest then None else codex32_request_of_words (name ∷ rest))
asked line name rest e some =
    ap (λ (ws : List (List ℕ)). if list_any is_empty ws then None else codex32_request_of_words ws) e
    ∙ ap (λ (b : Bool). if (b || list_any is_empty rest) then None else codex32_request_of_words (name ∷ rest)) some

-- a word that asks for a request of one other word
module _ (request : List ℕ → Codex32Request) (line name : List ℕ) (some : is_empty name ≡ false)
    (asks : (rest : List (List ℕ)) → codex32_request_of_words (name ∷ rest) ≡ one_word request rest) where
  -- with no such word, or an empty one
  pub no-text : (rest : List (List ℕ)) → words line ≡ name ∷ rest → ((word : List ℕ) → rest ≡ word ∷ [] → word ≡ []) → codex32_request_of line ≡ None
  no-text [] e empty = asked line name [] e some ∙ asks []
  no-text (x ∷ []) e empty = let none : x ≡ [] = empty x refl in asked line name (x ∷ []) e some ∙ ap (λ (w : List ℕ). if list_any is_empty (w ∷ []) then None else codex32_request_of_words (name ∷ x ∷ [])) none
  no-text (x ∷ y ∷ more) e empty =
      asked line name (x ∷ y ∷ more) e some
      ∙ if-none (list_any is_empty (x ∷ y ∷ more)) (codex32_request_of_words (name ∷ x ∷ y ∷ more)) (asks (x ∷ y ∷ more))

-- `encode` with no last word, or an empty one
pub encode-no-hex : (arguments : List (List ℕ)) (threshold identifier share_index : List ℕ) (last : List (List ℕ)) → arguments ≡ threshold ∷ identifier ∷ share_index ∷ last
    → ((word : List ℕ) → last ≡ word ∷ [] → word ≡ []) → encode_arguments arguments ≡ None
encode-no-hex arguments threshold identifier share_index [] e empty = rw e (if-none (list_any is_empty (threshold ∷ identifier ∷ share_index ∷ [])) (string_request (threshold ∷ identifier ∷ share_index ∷ [])) refl)
encode-no-hex arguments threshold identifier share_index (x ∷ y ∷ more) e empty = rw e (if-none (list_any is_empty (threshold ∷ identifier ∷ share_index ∷ x ∷ y ∷ more)) (string_request (threshold ∷ identifier ∷ share_index ∷ x ∷ y ∷ more)) refl)
encode-no-hex arguments threshold identifier share_index (x ∷ []) e empty =
    let none : x ≡ [] = empty x refl in
    rw (e, none) (one-of-four (is_empty threshold) (is_empty identifier) (is_empty share_index) (Some (Encode threshold identifier share_index [])))

-- where the last of five words is empty
one-of-five : {A : Type 0} (a b c d : Bool) (some : Option A) → (if (a || (b || (c || (d || (true || false))))) then None else some) ≡ None
one-of-five true b c d some = refl
one-of-five false b c d some = one-of-four b c d some

-- `split` with no last word, or an empty one
pub split-no-random : (arguments : List (List ℕ)) (threshold count identifier hex : List ℕ) (last : List (List ℕ)) → arguments ≡ threshold ∷ count ∷ identifier ∷ hex ∷ last
    → ((word : List ℕ) → last ≡ word ∷ [] → word ≡ []) → split_arguments arguments ≡ None
split-no-random arguments threshold count identifier hex [] e empty = rw e (if-none (list_any is_empty (threshold ∷ count ∷ identifier ∷ hex ∷ [])) (split_request (threshold ∷ count ∷ identifier ∷ hex ∷ [])) refl)
split-no-random arguments threshold count identifier hex (x ∷ y ∷ more) e empty =
    rw e (if-none (list_any is_empty (threshold ∷ count ∷ identifier ∷ hex ∷ x ∷ y ∷ more)) (split_request (threshold ∷ count ∷ identifier ∷ hex ∷ x ∷ y ∷ more)) refl)
split-no-random arguments threshold count identifier hex (x ∷ []) e empty =
    let none : x ≡ [] = empty x refl in
    rw (e, none) (one-of-five (is_empty threshold) (is_empty count) (is_empty identifier) (is_empty hex) (split_request (threshold ∷ count ∷ identifier ∷ hex ∷ [] ∷ [])))

-- `split` with no fourth word, or an empty one
pub split-no-hex : (arguments : List (List ℕ)) (threshold count identifier : List ℕ) (rest : List (List ℕ)) → arguments ≡ threshold ∷ count ∷ identifier ∷ rest
    → ((first second : List ℕ) (more : List (List ℕ)) → rest ≡ first ∷ second ∷ more → first ≡ []) → split_arguments arguments ≡ None
split-no-hex arguments threshold count identifier [] e empty = rw e (if-none (list_any is_empty (threshold ∷ count ∷ identifier ∷ [])) (split_request (threshold ∷ count ∷ identifier ∷ [])) refl)
split-no-hex arguments threshold count identifier (x ∷ []) e empty = rw e (if-none (list_any is_empty (threshold ∷ count ∷ identifier ∷ x ∷ [])) (split_request (threshold ∷ count ∷ identifier ∷ x ∷ [])) refl)
split-no-hex arguments threshold count identifier (x ∷ y ∷ more) e empty =
    let none : x ≡ [] = empty x y more refl in
    rw e (subst (λ (w : List ℕ). split_arguments (threshold ∷ count ∷ identifier ∷ w ∷ y ∷ more) ≡ None) (sym none) (one-of-four (is_empty threshold) (is_empty count) (is_empty identifier) (split_request (threshold ∷ count ∷ identifier ∷ [] ∷ y ∷ more))))

not-empty : (word : List ℕ) → word ≢ [] → is_empty word ≡ false
not-empty [] some = absurd (some refl)
not-empty (b ∷ bs) some = refl

-- `split` with five words
pub split-words : (arguments : List (List ℕ)) (threshold count identifier hex random : List ℕ) → arguments ≡ threshold ∷ count ∷ identifier ∷ hex ∷ random ∷ []
    → threshold ≢ [] → count ≢ [] → identifier ≢ [] → hex ≢ [] → random ≢ [] → split_arguments arguments ≡ split_request (threshold ∷ count ∷ identifier ∷ hex ∷ random ∷ [])
split-words arguments threshold count identifier hex random e a b c d f = rw (e, not-empty threshold a, not-empty count b, not-empty identifier c, not-empty hex d, not-empty random f) refl

-- ---- texts

pub no-texts : (texts : List (List ℕ)) → list_any is_empty texts ≡ true → nonempty_words texts ≡ None
no-texts texts e = ap (λ (b : Bool). if b then None else Some texts) e

some-texts : (b : Bool) (texts read : List (List ℕ)) → (if b then None else Some texts) ≡ Some read → (b ≡ false) × (texts ≡ read)
some-texts true texts read e = cc
some-texts false texts read e = (refl, cc)

-- `derive` with no index, or an empty one
pub derive-no-index : (line : List ℕ) (arguments : List (List ℕ)) → words line ≡ codes "derive" ∷ arguments
    → ((first second : List ℕ) (rest : List (List ℕ)) → arguments ≡ first ∷ second ∷ rest → first ≡ []) → codex32_request_of line ≡ None
derive-no-index line [] e empty = asked line (codes "derive") [] e refl
derive-no-index line (x ∷ []) e empty = asked line (codes "derive") (x ∷ []) e refl ∙ if-none (list_any is_empty (x ∷ [])) (derive_request (x ∷ [])) refl
derive-no-index line (x ∷ y ∷ more) e empty =
    let none : x ≡ [] = empty x y more refl in
    asked line (codes "derive") (x ∷ y ∷ more) e refl
    ∙ ap (λ (w : List ℕ). if list_any is_empty (w ∷ y ∷ more) then None else Some (Derive x (y ∷ more))) none

-- `derive`
pub derive-texts : (line index rest : List ℕ) (read : List (List ℕ)) → words line ≡ codes "derive" ∷ index ∷ words rest → index ≢ [] → nonempty_words (words rest) ≡ Some read
    → codex32_request_of line ≡ Some (Derive index read)
derive-texts line index rest read e full some = given index (words rest) e full some (some-word rest)
  where
    given : (i : List ℕ) (texts : List (List ℕ)) → words line ≡ codes "derive" ∷ i ∷ texts → i ≢ [] → nonempty_words texts ≡ Some read → (texts ≡ [] → ⊥) → codex32_request_of line ≡ Some (Derive i read)
    given [] texts e full some more = absurd (full refl)
    given (b ∷ bs) [] e full some more = absurd (more refl)
    given (b ∷ bs) (x ∷ xs) e full some more =
        let (fine, same) = some-texts (list_any is_empty (x ∷ xs)) (x ∷ xs) read some in
        asked line (codes "derive") ((b ∷ bs) ∷ x ∷ xs) e refl
        ∙ ap (λ (t : Bool). if t then None else Some (Derive (b ∷ bs) (x ∷ xs))) fine
        ∙ ap (λ (ts : List (List ℕ)). Some (Derive (b ∷ bs) ts)) same

-- `recover`
pub recover-texts : (line rest : List ℕ) (read : List (List ℕ)) → words line ≡ codes "recover" ∷ words rest → nonempty_words (words rest) ≡ Some read → codex32_request_of line ≡ Some (Recover read)
recover-texts line rest read e some = given (words rest) e some (some-word rest)
  where
    given : (texts : List (List ℕ)) → words line ≡ codes "recover" ∷ texts → nonempty_words texts ≡ Some read → (texts ≡ [] → ⊥) → codex32_request_of line ≡ Some (Recover read)
    given [] e some more = absurd (more refl)
    given (x ∷ xs) e some more =
        let (fine, same) = some-texts (list_any is_empty (x ∷ xs)) (x ∷ xs) read some in
        asked line (codes "recover") (x ∷ xs) e refl
        ∙ ap (λ (t : Bool). if t then None else Some (Recover (x ∷ xs))) fine
        ∙ ap (λ (ts : List (List ℕ)). Some (Recover ts)) same

-- The lines that end in some bytes, one piece after another.
use Rattle.std.proofs.Common.{◌≡◌, ℕ, suc, ◌+◌, ◌<◌, true, false, List, [], ◌∷◌, ◌++◌, length, take, drop, get_or, eqb, cond, sym, ap, ◌∙◌, refl, arith, append_assoc, append-nil, Some, None}
use Rattle.std.proofs.lemmas.Bool.{eqb-true, false_from_ne_true}
use Rattle.std.proofs.lemmas.List.{take-append-drop, drop_more, length-take, get_or-take}
use Rattle.memchr.specs.Find.{IsFirstByte, is_byte}
use Rattle.line_program.specs.Limit.{kept_of_line}
use Rattle.line_program.specs.Lines.{ended_from, rest_from, last_line}

pub ended-append : (before xs ys : List ℕ) → ended_from before (xs ++ ys) ≡ ended_from before xs ++ ended_from (rest_from before xs) ys
ended-append before [] ys = refl
ended-append before (x ∷ xs) ys = elim (eqb x 10) as (λ t. cond t (before ∷ ended_from [] (xs ++ ys)) (ended_from (before ++ x ∷ []) (xs ++ ys))
    ≡ cond t (before ∷ ended_from [] xs) (ended_from (before ++ x ∷ []) xs) ++ ended_from (cond t (rest_from [] xs) (rest_from (before ++ x ∷ []) xs)) ys) [
      | true ↦ ap (λ l. before ∷ l) (ended-append [] xs ys)
      | false ↦ ended-append (before ++ x ∷ []) xs ys
    ]

pub rest-append : (before xs ys : List ℕ) → rest_from before (xs ++ ys) ≡ rest_from (rest_from before xs) ys
rest-append before [] ys = refl
rest-append before (x ∷ xs) ys = elim (eqb x 10) as (λ t. cond t (rest_from [] (xs ++ ys)) (rest_from (before ++ x ∷ []) (xs ++ ys))
    ≡ rest_from (cond t (rest_from [] xs) (rest_from (before ++ x ∷ []) xs)) ys) [
      | true ↦ rest-append [] xs ys
      | false ↦ rest-append (before ++ x ∷ []) xs ys
    ]

-- ---- bytes without a newline

abbrev pub HasNoNewline : List ℕ → Type 0
HasNoNewline xs = (k : ℕ) → k < length xs → eqb (get_or xs k 0) 10 ≡ false

-- they are a piece of one line, and end none
pub rest-piece : (before xs : List ℕ) → HasNoNewline xs → rest_from before xs ≡ before ++ xs
rest-piece before [] h = sym (append-nil before)
rest-piece before (x ∷ xs) h =
    let other : eqb x 10 ≡ false = h 0 (omega arith) in
    ap (λ b. cond b (rest_from [] xs) (rest_from (before ++ x ∷ []) xs)) other
    ∙ rest-piece (before ++ x ∷ []) xs (λ k l. h (suc k) (omega (arith, l)))
    ∙ append_assoc before (x ∷ []) xs

pub ended-piece : (before xs : List ℕ) → HasNoNewline xs → ended_from before xs ≡ []
ended-piece before [] h = refl
ended-piece before (x ∷ xs) h =
    let other : eqb x 10 ≡ false = h 0 (omega arith) in
    ap (λ b. cond b (before ∷ ended_from [] xs) (ended_from (before ++ x ∷ []) xs)) other
    ∙ ended-piece (before ++ x ∷ []) xs (λ k l. h (suc k) (omega (arith, l)))

-- with a newline behind them they end one
pub ended-line : (before xs : List ℕ) → HasNoNewline xs → ended_from before (xs ++ 10 ∷ []) ≡ (before ++ xs) ∷ []
ended-line before xs h =
    ended-append before xs (10 ∷ [])
    ∙ ap (λ l. l ++ rest_from before xs ∷ []) (ended-piece before xs h)
    ∙ ap (λ l. l ∷ []) (rest-piece before xs h)

pub rest-line : (before xs : List ℕ) → rest_from before (xs ++ 10 ∷ []) ≡ []
rest-line before xs = rest-append before xs (10 ∷ [])

-- ---- the first newline

-- where there is none
pub no_newline : (xs : List ℕ) → IsFirstByte (is_byte 10) xs None → HasNoNewline xs
no_newline xs h k l = false_from_ne_true (eqb (get_or xs k 0) 10) (h k (omega arith) l)

-- what stands before it
pub front-no_newline : (xs : List ℕ) (n : ℕ) → IsFirstByte (is_byte 10) xs (Some n) → HasNoNewline (take n xs)
front-no_newline xs n h k l =
    let within : k < n = omega (arith, l, length-take n xs) in
    ap (λ (b : ℕ). eqb b 10) (get_or-take n xs k 0 within) ∙ false_from_ne_true (eqb (get_or xs k 0) 10) (h.0.before k (omega arith) within)

pub at_newline : (xs : List ℕ) (n : ℕ) → IsFirstByte (is_byte 10) xs (Some n) → xs ≡ (take n xs ++ 10 ∷ []) ++ drop (n + 1) xs
at_newline xs n h =
    let within : n < length xs = h.0.high in
    let byte : get_or xs n 0 ≡ 10 = eqb-true (get_or xs n 0) 10 h.1 in
    sym (take-append-drop n xs)
    ∙ ap (λ (t : List ℕ). take n xs ++ t) (drop_more xs n 0 within ∙ ap (λ (b : ℕ). b ∷ drop (n + 1) xs) byte)
    ∙ sym (append_assoc (take n xs) (10 ∷ []) (drop (n + 1) xs))

-- after a newline nothing stands of the next line
pub rest-turn : (before gone piece : List ℕ) → rest_from before (gone ++ (piece ++ 10 ∷ [])) ≡ []
rest-turn before gone piece = rest-append before gone (piece ++ 10 ∷ []) ∙ rest-line (rest_from before gone) piece

-- bytes, of which a piece is that ends with a newline, and what stands behind it
pub split-turn : (bytes gone rest piece behind : List ℕ) → bytes ≡ gone ++ rest → rest ≡ (piece ++ 10 ∷ []) ++ behind → bytes ≡ (gone ++ (piece ++ 10 ∷ [])) ++ behind
split-turn bytes gone rest piece behind e f = e ∙ ap (λ (l : List ℕ). gone ++ l) f ∙ sym (append_assoc gone (piece ++ 10 ∷ []) behind)

-- bytes that end no line, behind others
pub ended-more : (before gone rest : List ℕ) → HasNoNewline rest → ended_from before (gone ++ rest) ≡ ended_from before gone
ended-more before gone rest none =
    ended-append before gone rest ∙ ap (λ ls. ended_from before gone ++ ls) (ended-piece (rest_from before gone) rest none) ∙ append-nil (ended_from before gone)

pub rest-more : (before gone rest : List ℕ) → HasNoNewline rest → rest_from before (gone ++ rest) ≡ rest_from before gone ++ rest
rest-more before gone rest none = rest-append before gone rest ∙ rest-piece (rest_from before gone) rest none

-- what is kept of the last line, and more bytes behind it
pub kept-more : (limit : ℕ) (read bytes kept : List ℕ) → kept ≡ take (kept_of_line limit) (rest_from (rest_from [] read) bytes)
    → kept ≡ take (kept_of_line limit) (rest_from [] (read ++ bytes))
kept-more limit read bytes kept e = e ∙ ap (λ (t : List ℕ). take (kept_of_line limit) t) (sym (rest-append [] read bytes))

-- ---- the line at the end

pub last-some : (limit : ℕ) (before kept : List ℕ) → kept ≡ take (kept_of_line limit) before → 0 < length kept → last_line before ≡ before ∷ []
last-some limit [] kept e l = absurd (omega (arith, ap length e, length-take {A = ℕ} (kept_of_line limit) []))
last-some limit (x ∷ xs) kept e l = refl

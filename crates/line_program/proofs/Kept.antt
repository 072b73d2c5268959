-- A line of which only a front is kept.
use Rattle.std.proofs.Common.{◌≡◌, ℕ, ◌+◌, ◌-◌, ◌<◌, inl, inr, List, ◌++◌, length, take, sym, ap, subst, ◌∙◌, arith, append-nil, min}
use Rattle.std.proofs.lemmas.Bool.{cases_lt}
use Rattle.std.proofs.lemmas.List.{take_all, take-append-le, length-take}
use Rattle.line_program.proofs.Outputs.{take_past}

-- as many bytes of a piece as there are
pub take-least : (n : ℕ) (piece : List ℕ) → take (min (length piece) n) piece ≡ take n piece
take-least n piece = elim (cases_lt n (length piece)) [
  | inl within ↦ let least : min (length piece) n ≡ n = omega (arith, within) in ap (λ m. take m piece) least
  | inr past ↦
      let least : min (length piece) n ≡ length piece = omega (arith, past) in
      ap (λ m. take m piece) least ∙ take_all (length piece) piece (omega arith) ∙ sym (take_all n piece (omega (arith, past)))
]

-- what is kept of a line, and then of the next piece of it
pub kept-piece : (k : ℕ) (before kept piece : List ℕ) → kept ≡ take k before → kept ++ take (k - length kept) piece ≡ take k (before ++ piece)
kept-piece k before kept piece e =
    let n : length kept ≡ min k (length before) = ap length e ∙ length-take k before in
    elim (cases_lt (length before) k) [
      | inl short ↦
          let same : kept ≡ before = e ∙ take_all k before (omega (arith, short)) in
          let size : length kept ≡ length before = ap length same in
          let whole : k ≡ length before + (k - length kept) = omega (arith, short, size) in
          ap (λ (l : List ℕ). l ++ take (k - length kept) piece) same
          ∙ sym (take_past before piece (k - length kept))
          ∙ ap (λ m. take m (before ++ piece)) (sym whole)
      | inr full ↦
          let none : k - length kept ≡ 0 = omega (arith, full, n) in
          ap (λ m. kept ++ take m piece) none
          ∙ append-nil kept
          ∙ e
          ∙ sym (take-append-le k before piece (omega (arith, full)))
    ]

-- a line whose front is kept has the replies of that front, where all lines that are too long have the same replies
pub reply-kept : (R : List ℕ → List ℕ → Type 0) (limit k : ℕ) (before kept said : List ℕ)
    → ((one other said : List ℕ) → limit < length one → limit < length other → R one said → R other said)
    → limit < k → kept ≡ take k before → R kept said → R before said
reply-kept R limit k before kept said too_long w e h =
    let n : length kept ≡ min k (length before) = ap length e ∙ length-take k before in
    elim (cases_lt limit (length before)) [
      | inl long ↦ too_long kept before said (omega arith) long h
      | inr short ↦ let same : kept ≡ before = e ∙ take_all k before (omega arith) in subst (λ (l : List ℕ). R l said) same h
    ]

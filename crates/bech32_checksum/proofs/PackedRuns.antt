-- Rows that are packed from runs of values.
use Rattle.std.proofs.Common.{◌≡◌, ◌<◌, ◌≤◌, ◌+◌, ℕ, List, [], ◌∷◌, ◌++◌, length, Option, Some, None, MatchOption, sym, ◌∙◌, ap, subst, arith, ◌-◌, ◌*◌, ◌%◌, ◌^◌, lt_of_lt_of_le}
use Rattle.std.specs.List.{All}
use Rattle.std.specs.Iterator.{Yields}
use Rattle.std.specs.Iterator.Runs.{Run, EachRunFrom, WholeRun, AllItems}
use Rattle.std.proofs.iter.runs.Made.{each_of, run_of_turn, run_of_exit}
use Rattle.std.proofs.iter.runs.Lists.{Everywhere}
use Rattle.std.proofs.lemmas.Option.{slice_get-get_or}
use Rattle.std.proofs.lemmas.List.{length-append, get_or_append_left}
use Rattle.std.proofs.Math.Nat.{mod-eq_of_lt}
use Rattle.std.proofs.Math.Pow.{pow_mono}
use Rattle.bech32_checksum.specs.Packed.{digits, number_of_digits, Packs, HasDigits, pushed_digits}
use Rattle.bech32_checksum.proofs.PackedRows.{number_of_digits-more, number_of_digits-lt, digits-number_of_digits}

All-everywhere : (xs : List ℕ) (P : ℕ → Type 0) → Everywhere xs P → All P xs
All-everywhere xs P h = λ k d below.
    subst (λ (o : Option ℕ). MatchOption o (Unit {0}) P) (slice_get-get_or xs k d below) (h k)

-- each value of a run that fits is below 32
pub All-items : {S : Type 0} {steps : S → Option ℕ → S → Type 0} (p : Run steps) → AllItems p (λ v. v < 32) → All (λ v. v < 32) p.items
All-items p h = All-everywhere p.items (λ v. v < 32) (each_of p (λ v. v < 32) h)

-- the values so far and the next one fit a row of this many places
abbrev FitsRow : ℕ → List ℕ → ℕ → Type 0
FitsRow width xs x = (length xs + 1 ≤ width) × All (λ v. v < 32) (xs ++ (x ∷ []))

module _ {S : Type 0} (steps : S → Option ℕ → S → Type 0) (width : ℕ) (s : S)
    (fits : EachRunFrom steps s (λ p. (p.len ≤ width) × AllItems p (λ v. v < 32)))
    (start : S) (same : start ≡ s) (xs : List ℕ) (t : S) (gave : Yields steps start xs t) where
  ran : Yields steps s xs t
  ran = subst (λ k. Yields steps k xs t) same gave

  -- where each run fits, the values so far and the next one do
  pub turn_fits : (x : ℕ) (u : S) → steps t (Some x) u → FitsRow width xs x
  turn_fits x u step =
      let k = run_of_turn steps s xs t ran x u step in
      let fit = fits k.0 k.0.seen k.1 in
      (subst (λ n. n ≤ width) k.2.1 fit.0, subst (All (λ v. v < 32)) k.2.0 (All-items k.0 fit.1))

  -- at the end the row has the digits of all values
  pub packed_run : (row : ℕ) (u : S) → row ≡ number_of_digits xs → steps t None u
      → WholeRun steps s (λ p. Packs p.items row)
  packed_run row u is step =
      let k = run_of_exit steps s xs t ran u step in
      let whole : row ≡ number_of_digits k.0.items = is ∙ ap number_of_digits (sym k.3.0) in
      let small = All-items k.0 (fits k.0 k.0.seen k.1).1 in
      let elements = ap (digits (length k.0.items)) whole ∙ digits-number_of_digits k.0.items small in
      (k.0, k.1, k.2, record { number_is = whole; digits_are = elements })

All-before : (xs : List ℕ) (x : ℕ) → All (λ v. v < 32) (xs ++ (x ∷ [])) → All (λ v. v < 32) xs
All-before xs x h = λ k d below.
    subst (λ v. v < 32) (get_or_append_left xs (x ∷ []) d k below) (h k d (omega (arith, length-append xs (x ∷ []))))

-- the row so far leaves the highest place free
pub row-lt : (row width : ℕ) (xs : List ℕ) (x : ℕ) → row ≡ number_of_digits xs → FitsRow width xs x → row < 2 ^ (5 * (width - 1))
row-lt row width xs x is fit =
    let within : 5 * length xs ≤ 5 * (width - 1) = omega (arith, fit.0) in
    rw is (lt_of_lt_of_le (number_of_digits-lt xs (All-before xs x fit.1)) (pow_mono within))

pub row-clear : (row width : ℕ) (xs : List ℕ) (x : ℕ) → row ≡ number_of_digits xs → FitsRow width xs x → HasDigits width row
row-clear row width xs x is fit =
    let wider : 5 * (width - 1) ≤ 5 * width = omega arith in
    lt_of_lt_of_le (row-lt row width xs x is fit) (pow_mono wider)

-- the row with the next value in the lowest place
pub row-more : (row after width : ℕ) (xs : List ℕ) (x : ℕ) → row ≡ number_of_digits xs → FitsRow width xs x
    → (0 < width → after ≡ pushed_digits width row x) → after ≡ number_of_digits (xs ++ (x ∷ []))
row-more row after width xs x is fit others =
    let some : 0 < width = omega (arith, fit.0) in
    let whole : row % 2 ^ (5 * (width - 1)) ≡ row = mod-eq_of_lt (row-lt row width xs x is fit) in
    others some ∙ ap (λ m. m * 32 + x) (whole ∙ is) ∙ sym (number_of_digits-more xs x)

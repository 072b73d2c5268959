-- What is tried for a typed text: frames, each with a number of wrong characters, by slips.
use Rattle.std.specs.Prelude.{◌≡◌, ◌<◌, ◌⊎◌, Option, Some, None}
use Rattle.std.specs.Prelude.{◌+◌, ◌-◌, ◌*◌, ◌/◌, ◌^◌, ◌&&◌, ℕ, zero, suc, if◌then◌else◌, nat_le}
use Rattle.std.specs.Prelude.{Bool, List, [], ◌∷◌, length, map, drop}
use Rattle.std.specs.List.{flat_map, range_with_len, sum_by}
use Rattle.bech32_typed.specs.Frames.{frames_by, unread_in}
use Rattle.bech32_typed.specs.Readings.{has_looks, plain_reading, reading_at, readings, twos}
use Rattle.bech32_typed.specs.declared.fronts.Front.{Front}
use Rattle.bech32_typed.specs.declared.tries.Budget.{Budget}
use Rattle.bech32_typed.specs.declared.tries.Pass.{Pass}
use Rattle.bech32_typed.specs.declared.tries.Pass.TheVariants.{AsItLooks, Unread}

-- a frame, and how many of its characters are wrong beside those that cannot be read
pub record Try : Type 0 where
  pub frame : List ℕ
  pub errors : ℕ

abbrev pub with_errors : ℕ → List ℕ → Try
with_errors errors frame = record { frame = frame; errors = errors }

-- in how many ways so many of m places are chosen, of two at most
abbrev pub choices : ℕ → ℕ → ℕ
choices m zero = 1
choices m (suc zero) = m
choices m (suc (suc more)) = m * (m - 1) / 2

-- how many texts a try stands for, by two checksums: each character that cannot be read may be any
-- of 32, and each wrong one any of 31 others
abbrev pub texts_of_try : Try → ℕ
texts_of_try t =
    2 * (32 ^ unread_in t.frame
    * (choices (length t.frame - unread_in t.frame) t.errors * 31 ^ t.errors))

-- what is tried for a reading of a data part, where so many slips are left: frames that fewer slips
-- make first, each with as many wrong characters as slips remain
abbrev pub tries_by : List ℕ → ℕ → ℕ → List Try
tries_by part slips made = map (with_errors (slips - made)) (frames_by made part)

abbrev pub tries_of_reading : ℕ → List ℕ → List Try
tries_of_reading slips part = flat_map (tries_by part slips) (range_with_len 0 (slips + 1))

-- the same for the reading of a data part that looks as it does by a number
abbrev pub tries_of_numbered : ℕ → List ℕ → ℕ → List Try
tries_of_numbered slips part i = tries_of_reading slips (reading_at part i)

-- the readings of a data part: as it looks, in at most 1,024 ways; or, where a character looks like
-- one of the alphabet, with that unread
abbrev pub readings_of : Pass → List ℕ → List (List ℕ)
readings_of AsItLooks part = if nat_le (twos part) 10 then readings part else []
readings_of Unread part = if has_looks part then plain_reading part ∷ [] else []

-- what is tried for a front of a typed text, with so many slips in all
abbrev pub tries_of_front : Pass → List ℕ → ℕ → Front → List Try
tries_of_front pass text slips front =
    if nat_le front.slips slips
    then flat_map (tries_of_reading (slips - front.slips))
    (readings_of pass (drop front.size text))
    else []

-- what is tried with so many slips
abbrev pub level : Pass → List ℕ → List Front → ℕ → List Try
level pass text fronts slips = flat_map (tries_of_front pass text slips) fronts

-- A checksum accepts one text in 2^30. So, of 100 typed texts that are no mistyped addresses, at
-- most one is expected to get an answer, where so many texts are tried. The other bound is one on
-- time: many tries stand for two texts each.
abbrev pub whole_budget : Budget
whole_budget = record { texts = 2 ^ 30 / 100; tries = 2 ^ 16 }

-- it is enough for these tries
abbrev pub covers : Budget → List Try → Bool
covers budget ts = nat_le (sum_by texts_of_try ts) budget.texts && nat_le (length ts) budget.tries

-- what is left of it after them
abbrev pub minus : Budget → List Try → Budget
minus budget ts = record {
  texts = budget.texts - sum_by texts_of_try ts;
  tries = budget.tries - length ts;
}

-- what is left, or None where it is not enough
abbrev pub IsTaken : Budget → List Try → Option Budget → Type 0
IsTaken budget ts None =
    (budget.texts < sum_by texts_of_try ts) ⊎ (budget.tries < length ts)
IsTaken budget ts (Some rest) =
    (rest.texts + sum_by texts_of_try ts ≡ budget.texts) × (rest.tries + length ts ≡ budget.tries)

-- of how many levels, from the first on, a budget is enough for all, and what is left of it
abbrev pub covered : Budget → List (List Try) → ℕ
covered budget [] = 0
covered budget (ts ∷ more) =
    if covers budget ts then suc (covered (minus budget ts) more) else 0

abbrev pub left_after : Budget → List (List Try) → Budget
left_after budget [] = budget
left_after budget (ts ∷ more) =
    if covers budget ts then left_after (minus budget ts) more else budget

-- what is tried with no slip, with one, and with two
abbrev pub levels : Pass → List ℕ → List Front → List (List Try)
levels pass text fronts = map (level pass text fronts) (0 ∷ 1 ∷ 2 ∷ [])

-- how many of these levels are tried: those of the text as it looks, and then, with what is left,
-- those with characters unread
abbrev pub levels_of : Pass → List ℕ → List Front → ℕ
levels_of AsItLooks text fronts = covered whole_budget (levels AsItLooks text fronts)
levels_of Unread text fronts =
    covered (left_after whole_budget (levels AsItLooks text fronts))
    (levels Unread text fronts)

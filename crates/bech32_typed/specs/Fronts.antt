-- What stands for the human-readable part and the separator of a typed text.
use Rattle.std.specs.Prelude.{◌+◌, ◌-◌, ◌==◌, ◌&&◌, ◌||◌, ℕ, if◌then◌else◌, nat_eq, nat_le, nat_lt}
use Rattle.std.specs.Prelude.{Bool, true, false, List, [], ◌∷◌, ◌++◌, codes}
use Rattle.std.specs.Prelude.{length, map, take, drop}
use Rattle.std.specs.Cmp.Lexicographic.{pointwise}
use Rattle.std.specs.List.{filter, list_any, range_with_len}
use Rattle.bech32_typed.specs.Frames.{longest_with_slips}
use Rattle.bech32_typed.specs.Slips.{after_one_slip, after_slips, unread}
use Rattle.bech32_typed.specs.declared.fronts.Front.{Front}
use Rattle.bech32_typed.specs.declared.slips.Slip.TheVariants.{Wrong}

-- the character is this one, or cannot be read
abbrev pub is_or_unread : ℕ → ℕ → Bool
is_or_unread x y = (x == unread) || (x == y)

-- the frame is as long as the text, and has its characters, or `?`
abbrev pub stands_for : List ℕ → List ℕ → Bool
stands_for [] [] = true
stands_for [] (y ∷ ys) = false
stands_for (x ∷ xs) [] = false
stands_for (x ∷ xs) (y ∷ ys) = is_or_unread x y && stands_for xs ys

-- what any slip makes of a front
abbrev pub after_any_slip : List ℕ → List (List ℕ)
after_any_slip front = after_slips Wrong front ++ after_one_slip front

-- one slip makes the right front of the typed one, and two do
abbrev pub is_by_one : List ℕ → List ℕ → Bool
is_by_one right front = list_any (λ frame. stands_for frame right) (after_any_slip front)

abbrev pub is_by_two : List ℕ → List ℕ → Bool
is_by_two right front = list_any (is_by_one right) (after_any_slip front)

-- their lengths differ by two at most, and two slips are looked for in a front of this length
abbrev pub are_close : List ℕ → List ℕ → Bool
are_close right front =
    nat_le (length front) (length right + 2) && (nat_le (length right) (length front + 2)
    && nat_lt (length front) longest_with_slips)

-- the second text ends with the first
abbrev pub is_end : List ℕ → List ℕ → Bool
is_end end text =
    nat_le (length end) (length text)
    && pointwise nat_eq (drop (length text - length end) text) end

-- how many slips make the right front of a typed one, 3 where it is none: its beginning is lost, or
-- something stands before it
abbrev pub slips_of_front : List ℕ → List ℕ → ℕ
slips_of_front right front =
    if is_end front right || is_end right front then 1
    else (if are_close right front && is_by_one right front then 1
    else (if are_close right front && is_by_two right front then 2 else 3))

-- a front of so many characters takes so many slips
abbrev pub is_front_by : List ℕ → List ℕ → ℕ → ℕ → Bool
is_front_by right text slips size = slips_of_front right (take size text) == slips

-- a front of so many slips and characters
abbrev pub front_of : ℕ → ℕ → Front
front_of slips size = record { slips = slips; size = size }

-- the fronts that take so many slips, short ones first
abbrev pub fronts_by : List ℕ → List ℕ → ℕ → List Front
fronts_by right text slips =
    map (front_of slips)
    (filter (is_front_by right text slips) (range_with_len 0 (length text + 1)))

-- the text begins with the front
abbrev pub begins_with : List ℕ → List ℕ → Bool
begins_with front text = pointwise nat_eq (take (length front) text) front

-- the scheme of a payment request, without its colon (BIP-21)
abbrev pub scheme : List ℕ
scheme = codes "bitcoin"

-- the fronts of a typed text: the right one, where it begins with that, or with the scheme and
-- that; else first those with one slip, then those with two
abbrev pub fronts : List ℕ → List ℕ → List Front
fronts right text =
    if begins_with right text then front_of 0 (length right) ∷ []
    else (if begins_with (scheme ++ right) text then front_of 0 (length (scheme ++ right)) ∷ []
    else fronts_by right text 1 ++ fronts_by right text 2)

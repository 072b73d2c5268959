-- What one slip makes of a typed text: one wrong, two swapped, one too many, one missing.
use Rattle.std.specs.Prelude.{◌+◌, ◌-◌, ℕ}
use Rattle.std.specs.Prelude.{List, ◌∷◌, ◌++◌, length, map, take, drop, get_or}
use Rattle.std.specs.List.{range_with_len}
use Rattle.bech32_typed.specs.declared.slips.Slip.{Slip}
use Rattle.bech32_typed.specs.declared.slips.Slip.TheVariants.{Missing, Swapped, TooMany, Wrong}

-- `?`, which stands for a character that cannot be read
abbrev pub unread : ℕ
unread = 63

-- the characters at this place and the next change places
abbrev pub swapped_at : List ℕ → ℕ → List ℕ
swapped_at text i =
    take i text ++ get_or text (i + 1) 0 ∷ get_or text i 0 ∷ drop (i + 2) text

-- the character at this place is left out
abbrev pub without_at : List ℕ → ℕ → List ℕ
without_at text i = take i text ++ drop (i + 1) text

-- a character that cannot be read is put in before this place
abbrev pub with_unread_at : List ℕ → ℕ → List ℕ
with_unread_at text i = take i text ++ unread ∷ drop i text

-- the character at this place cannot be read
abbrev pub unread_at : List ℕ → ℕ → List ℕ
unread_at text i = take i text ++ unread ∷ drop (i + 1) text

-- what a slip of this kind makes of a text, at this place from the front
abbrev pub after_slip : Slip → List ℕ → ℕ → List ℕ
after_slip Wrong text i = unread_at text i
after_slip Swapped text i = swapped_at text i
after_slip TooMany text i = without_at text i
after_slip Missing text i = with_unread_at text i

-- at how many places a slip of this kind can be, in a text of n characters
abbrev pub places : Slip → ℕ → ℕ
places Wrong n = n
places Swapped n = n - 1
places TooMany n = n
places Missing n = n + 1

-- what slips of this kind make of a text, from the front on
abbrev pub after_slips : Slip → List ℕ → List (List ℕ)
after_slips slip text = map (after_slip slip text) (range_with_len 0 (places slip (length text)))

-- what a slip of order makes of a text: swaps first, then one left out, then one put in
abbrev pub after_one_slip : List ℕ → List (List ℕ)
after_one_slip text =
    after_slips Swapped text ++ (after_slips TooMany text ++ after_slips Missing text)

-- The frames of a typed data part: what it may stand for, with `?` for any character.
use Rattle.std.specs.Prelude.{◌+◌, ◌-◌, ◌==◌, ◌&&◌, ◌||◌, ℕ, zero, suc}
use Rattle.std.specs.Prelude.{if◌then◌else◌, nat_le, nat_lt}
use Rattle.std.specs.Prelude.{Bool, true, false, List, [], ◌∷◌, ◌++◌, length, map, take, drop}
use Rattle.std.specs.Prelude.{filter, fold, nat_eq}
use Rattle.std.specs.List.{flat_map, list_any, range_with_len}
use Rattle.std.specs.Cmp.Lexicographic.{pointwise}
use Rattle.bech32_typed.specs.Slips.{after_one_slip, unread}

-- the lengths of the data parts of addresses in use: a program of 20 bytes, or of 32
abbrev pub short_size : ℕ
short_size = 39

abbrev pub long_size : ℕ
long_size = 59

abbrev pub is_size : ℕ → Bool
is_size n = (n == short_size) || (n == long_size)

-- how many characters cannot be read
abbrev pub unread_in : List ℕ → ℕ
unread_in text = length (filter (λ c. c == unread) text)

-- the text is as long as an address in use, and at most four of its characters cannot be read
abbrev pub is_frame : List ℕ → Bool
is_frame text = is_size (length text) && nat_le (unread_in text) 4

-- no two slips make a frame of a text of more characters than this
abbrev pub longest_with_slips : ℕ
longest_with_slips = long_size + 2

-- two slips can make a frame of a text of so many characters
abbrev pub is_near_size : ℕ → Bool
is_near_size n =
    (nat_le short_size (n + 2) && nat_le n (short_size + 2))
    || (nat_le long_size (n + 2) && nat_le n longest_with_slips)

-- what one slip makes of a text, where two can make a frame
abbrev pub slipped : List ℕ → List (List ℕ)
slipped text = if is_near_size (length text) then after_one_slip text else []

-- the k characters from this place on stand twice
abbrev pub is_doubled : List ℕ → ℕ → ℕ → Bool
is_doubled text k i = pointwise nat_eq (take k (drop i text)) (take k (drop (i + k) text))

-- the text without the k characters from this place on
abbrev pub without_block : List ℕ → ℕ → ℕ → List ℕ
without_block text k i = take i text ++ drop (i + k) text

-- the text with a block of k characters that stands twice made once, from the front on
abbrev pub blocks_once : List ℕ → ℕ → List (List ℕ)
blocks_once text k =
    if nat_le 2 k && nat_le (k + k) (length text)
    then map (without_block text k)
    (filter (is_doubled text k) (range_with_len 0 (length text - (k + k) + 1)))
    else []

-- the front of a text that is longer than an address in use
abbrev pub cut_to : List ℕ → ℕ → List (List ℕ)
cut_to text size = if nat_lt size (length text) then take size text ∷ [] else []

-- a block that stands twice is made once, or what comes after an address is cut off
abbrev pub shortened : List ℕ → List (List ℕ)
shortened text =
    blocks_once text (length text - short_size)
    ++ (blocks_once text (length text - long_size)
    ++ (cut_to text short_size ++ cut_to text long_size))

-- three neighbours are missing before this place
abbrev pub with_three_unread_at : List ℕ → ℕ → List ℕ
with_three_unread_at text i = take i text ++ unread ∷ unread ∷ unread ∷ drop i text

-- three neighbours are missing, at any place
abbrev pub three_missing : List ℕ → List (List ℕ)
three_missing text =
    if is_size (length text + 3)
    then map (with_three_unread_at text) (range_with_len 0 (length text + 1)) else []

-- four are missing at the end
abbrev pub four_missing : List ℕ → List (List ℕ)
four_missing text =
    if is_size (length text + 4)
    then (text ++ unread ∷ unread ∷ unread ∷ unread ∷ []) ∷ [] else []

-- what one slip makes of a typed data part, and what two make
abbrev pub made_by_one_slip : List ℕ → List (List ℕ)
made_by_one_slip text = slipped text ++ shortened text

abbrev pub made_by_two_slips : List ℕ → List (List ℕ)
made_by_two_slips text =
    flat_map slipped (made_by_one_slip text) ++ (three_missing text ++ four_missing text)

-- what so many slips make of a typed data part: none, one, or two
abbrev pub made_by : ℕ → List ℕ → List (List ℕ)
made_by zero text = text ∷ []
made_by (suc zero) text = made_by_one_slip text
made_by (suc (suc more)) text = made_by_two_slips text

-- the text is added to those before, unless it is among them
abbrev pub with_text : List (List ℕ) → List ℕ → List (List ℕ)
with_text texts text =
    if list_any (pointwise nat_eq text) texts then texts else texts ++ text ∷ []

-- the frames among some texts are added to those before, each once
abbrev pub with_frames : List (List ℕ) → List (List ℕ) → List (List ℕ)
with_frames before texts = fold with_text before (filter is_frame texts)

-- the frames that fewer slips make of a typed data part, in their order, each once
abbrev pub frames_before : ℕ → List ℕ → List (List ℕ)
frames_before zero text = []
frames_before (suc slips) text =
    with_frames (frames_before slips text) (made_by slips text)

-- those that so many slips make, and no fewer
abbrev pub frames_by : ℕ → List ℕ → List (List ℕ)
frames_by slips text =
    drop (length (frames_before slips text)) (frames_before (suc slips) text)

-- the texts, or what one more slip makes of each
abbrev pub deeper : Bool → List (List ℕ) → List (List ℕ)
deeper false texts = texts
deeper true texts = flat_map slipped texts

-- How many texts are tried for a typed one, and so how many errors are looked for.
use Rattle.std.specs.Prelude.{ℕ, ◌+◌, ◌-◌, ◌*◌, ◌^◌, ◌==◌, if◌then◌else◌, nat_le, nat_lt}
use Rattle.std.specs.Prelude.{Bool, Option, Some, None}

-- how many texts two checksums try that differ from one in at most this many of m characters, 2 at
-- most: each may be any of 31 others, and of two there are m * (m - 1) / 2 choices
abbrev pub tried_within : ℕ → ℕ → ℕ
tried_within m errors =
    2 + (if nat_le 1 errors then 2 * 31 * m else 0)
    + (if nat_le 2 errors then 31 * 31 * (m * (m - 1)) else 0)

-- how many texts two checksums try that one edit makes of n characters: two neighbours are swapped,
-- one is left out, or one of 32 is put in
abbrev pub tried_by_edits : ℕ → ℕ
tried_by_edits n = 2 * ((n - 1) + n + 32 * (n + 1))

-- how many are tried in all for n characters behind the separator, of which `unread` cannot be
-- read: each of these may be any of 32; edits are tried only where all can be read
abbrev pub tried : ℕ → ℕ → ℕ → ℕ
tried n unread errors =
    32 ^ unread * tried_within (n - unread) errors
    + (if unread == 0 then tried_by_edits n else 0)

-- A checksum accepts one text in 2^30. So, of 100 typed texts that are no mistyped addresses, at
-- most one is expected to get an answer, where this many texts are tried for each.
abbrev pub is_safe : ℕ → Bool
is_safe count = nat_le (100 * count) (2 ^ 30)

-- the most errors, up to 2, for which so few texts are tried
abbrev pub most_safe : ℕ → ℕ → Option ℕ
most_safe n unread =
    if is_safe (tried n unread 2) then Some 2
    else (if is_safe (tried n unread 1) then Some 1
    else (if is_safe (tried n unread 0) then Some 0 else None))

-- how many errors are looked for. None where nothing is tried: in less than 10 characters, since an
-- address has 11 behind the separator at least; beside more than 3 that cannot be read, since the
-- checksums find no more; and where too many texts would be tried
abbrev pub most_errors : ℕ → ℕ → Option ℕ
most_errors n unread =
    if nat_lt n 10 then None
    else (if nat_lt 3 unread then None else most_safe n unread)

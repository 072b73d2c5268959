-- The kinds of bytes that may stand at the end of a text.
use Rattle.std.specs.Prelude.{ℕ, Bool, ◌&&◌, ◌==◌, nat_le, not}
use Rattle.bech32_gf.specs.Alphabet.{is_of_alphabet}
use Rattle.bech32_calls.specs.declared.fault.Kind.{Kind}
use Rattle.bech32_calls.specs.declared.fault.Kind.TheVariants.{Data, Continuation, NotSeparator}

-- whether a byte is one of a character of several, other than its first (UTF-8)
abbrev pub is_continuation : ℕ → Bool
is_continuation b = nat_le 128 b && nat_le b 191

-- whether a byte is not `1`
abbrev pub is_not_separator : ℕ → Bool
is_not_separator b = not (b == 49)

-- whether a byte is of a kind
abbrev pub is_of : Kind → ℕ → Bool
is_of Data b = is_of_alphabet b
is_of Continuation b = is_continuation b
is_of NotSeparator b = is_not_separator b

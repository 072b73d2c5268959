-- Words of hex digits.
use Rattle.std.specs.Char.{is_ascii_hexdigit}
use Rattle.std.specs.List.{AllPass, list_all}
use Rattle.std.specs.Result.{result_ok}
use Rattle.std.specs.Str.{bytes_eq}
use Rattle.std.proofs.Common.{◌≡◌, ℕ, ◌%◌, ◌/◌, ◌<◌, ◌≤◌, List, length, slice_index_or, take, sym, true, MatchResult, Result, Ok, Err, Some, None, false, codes, refl, ap, ◌∙◌, arith}
use Rattle.std.proofs.lemmas.List.Sums.{AllPass-from_list_all, list_all-from_AllPass}
use Rattle.hex.specs.Hex.{decode_of, is_hex_digit}
use Rattle.hex.specs.declared.error.FromHexError.{FromHexError}
use Rattle.hex.proofs.HexLemmas.{decode_of-even, decode_of-ok, decode_pairs-digits}
use Rattle.b32_replies.specs.Hex.{bytes_of}
use Rattle.b32_replies.specs.declared.refusal.Refusal.{Refusal}
use Rattle.b32_replies.specs.declared.refusal.Refusal.TheVariants.{BadHex}

-- std and the crate of hex mean the same digits
same_digits : (c : ℕ) → is_ascii_hexdigit c ≡ is_hex_digit c
same_digits c = grind (arith)

abbrev AreDigits : List ℕ → Type 0
AreDigits word = list_all is_ascii_hexdigit word ≡ true

pass : (word : List ℕ) → AreDigits word → AllPass is_hex_digit word
pass word h = λ k d less. sym (same_digits (slice_index_or word k d)) ∙ AllPass-from_list_all is_ascii_hexdigit word h k d less

passed : (word : List ℕ) → AllPass is_hex_digit word → AreDigits word
passed word h = list_all-from_AllPass is_ascii_hexdigit word (λ k d less. same_digits (slice_index_or word k d) ∙ h k d less)

-- a word with something else is none in hex
pub no_digits : (word : List ℕ) → (AreDigits word → ⊥) → result_ok (decode_of word) ≡ None
no_digits word none = step (decode_of word) refl
  where
    step : (read : Result (List ℕ) FromHexError) → decode_of word ≡ read → result_ok read ≡ None
    step (Ok bytes) e = absurd (none (passed word (decode_of-ok word bytes e).1))
    step (Err e) h = refl

-- pairs of digits are bytes
pub are_bytes : (word : List ℕ) → length word % 2 ≡ 0 → AreDigits word
    → (bytes : List ℕ) × (result_ok (decode_of word) ≡ Some bytes) × (length word / 2 ≡ length bytes)
are_bytes word even all =
    let (bytes, e) = decode_pairs-digits 0 word even (pass word all) in
    let whole : decode_of word ≡ Ok bytes = decode_of-even word even ∙ e in
    let size = (decode_of-ok word bytes whole).2 in
    (bytes, ap result_ok whole, omega (arith, size))

-- what is said of a word of more bytes than there is room for
pub too_long : (word before after : List ℕ) (size : ℕ) (r : Result ℕ Refusal) → bytes_eq word (codes "-") ≡ false → length before < size
    → MatchResult r (λ n. (n ≡ size) × (bytes : List ℕ) × (result_ok (decode_of word) ≡ Some bytes) × (n ≡ length bytes))
    (λ e. (e ≡ BadHex) × (result_ok (decode_of word) ≡ None))
    → MatchResult r (λ n. (bytes : List ℕ) × (bytes_of word ≡ Some bytes) × (n ≡ length bytes) × (n ≤ length before → take n after ≡ bytes))
    (λ e. (e ≡ BadHex) × (bytes_of word ≡ None))
too_long word before after size (Ok n) dash long (is, bytes, read, count) = rw dash (bytes, read, count, λ fits. absurd (omega (arith, is, long, fits)))
too_long word before after size (Err e) dash long (bad, none) = rw dash (bad, none)

use Rattle.std.proofs.Common.{◌≡◌, ℕ, ◌<◌, ◌≤◌, ◌-◌, true, false, List, Some, ◌++◌, ◌∷◌, ◌∙◌, ap, sym, subst, length, take, drop, get_or, arith}
use Rattle.std.specs.Str.Iter.{chars_rest}
use Rattle.std.proofs.Math.Utf8.{encode}
use Rattle.bech32_gf.specs.Alphabet.{is_of_alphabet, is_data}
use Rattle.bech32_decode.specs.Text.{split_at_last}
use Rattle.bech32_decode.proofs.DataEnds.{boundary-data, stranger-before, front-slice, whole-at, whole-ascii, all-data}
use Rattle.bech32_decode.proofs.Texts.{invalid_character-at, separator-at, separator-none, split_at_last-at, split_at_last-data}
use Rattle.bech32_decode.proofs.parts.before_separator.Goals as goal

-- where the end begins that is of the alphabet
abbrev IsDataStart : List ℕ → ℕ → Type 0
IsDataStart text n = (n ≤ length text) × (is_data (drop n text) ≡ true) × (0 < n → is_of_alphabet (get_or text (n - 1) 0) ≡ false)

pub range-requires-clause-end_boundary : goal.range-requires-clause-end_boundary
range-requires-clause-end_boundary g c =
    let (inside, data_part, before) = subst (λ (t : List ℕ). IsDataStart t c.data_start.result) c.as_bytes.ensures.value
    (c.data_start.ensures.bound, c.data_start.ensures.data, c.data_start.ensures.before) in
    boundary-data c.args.s.now c.data_start.result inside data_part

pub returns-in_default : goal.returns-in_default
returns-in_default g c =
    let (inside, data_part, before) = subst (λ (t : List ℕ). IsDataStart t c.data_start.result) c.as_bytes.ensures.value
    (c.data_start.ensures.bound, c.data_start.ensures.data, c.data_start.ensures.before) in
    let nothing : length (take c.data_start.result c.args.s.now) ≡ 0 = ap length (front-slice c.args.s.now c.data_start.result ∙ sym c.range.ensures.value ∙ sym c.chars-front.ensures.rest) ∙ c.in_default.ensures.steps.0 in
    let data_text = all-data c.args.s.now c.data_start.result inside nothing data_part in
    (separator-none c.args.s.now data_text, split_at_last-data c.args.s.now data_text)

pub returns-then-c-ne49 : goal.returns-then-c-ne49
returns-then-c-ne49 g c =
    let (inside, data_part, before) = subst (λ (t : List ℕ). IsDataStart t c.data_start.result) c.as_bytes.ensures.value
    (c.data_start.ensures.bound, c.data_start.ensures.data, c.data_start.ensures.before) in
    let text = c.args.s.now in
    let front = chars_rest c.next_back.new.self in
    let n = c.data_start.result in
    let part : take n text ≡ front ++ encode c.in-Some.c = front-slice c.args.s.now c.data_start.result ∙ sym c.range.ensures.value ∙ sym c.chars-front.ensures.rest ∙ c.in-Some.ensures.steps in
    invalid_character-at text front (drop n text) c.in-Some.c c.utf8.s c.refusal_by.ensures.scalar (whole-at text front n c.in-Some.c part) data_part
    (stranger-before text front n c.in-Some.c inside part before) c.if-c-ne49.true ∙ ap Some (sym c.refusal_by.ensures.value)

pub returns : goal.returns
returns g c =
    let (inside, data_part, before) = subst (λ (t : List ℕ). IsDataStart t c.data_start.result) c.as_bytes.ensures.value
    (c.data_start.ensures.bound, c.data_start.ensures.data, c.data_start.ensures.before) in
    let text = c.args.s.now in
    let front = c.as_str.result.now in
    let behind = drop c.data_start.result text in
    let part : take c.data_start.result text ≡ chars_rest c.next_back.new.self ++ encode c.in-Some.c = front-slice c.args.s.now c.data_start.result ∙ sym c.range.ensures.value ∙ sym c.chars-front.ensures.rest ∙ c.in-Some.ensures.steps in
    let at : text ≡ front ++ 49 ∷ behind =
    whole-ascii text (chars_rest c.next_back.new.self) c.data_start.result c.in-Some.c part (omega arith)
    ∙ ap (λ (x : List ℕ). x ++ c.in-Some.c ∷ behind) (sym c.as_str.ensures) ∙ ap (λ (b : ℕ). front ++ b ∷ behind) c.if-c-ne49.false in
    (separator-at text front behind c.utf8.s at data_part, (behind, at, data_part, ap split_at_last at ∙ split_at_last-at front behind data_part))

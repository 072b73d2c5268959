use Rattle.std.specs.Char.{is_ascii_hexdigit}
use Rattle.std.specs.List.{list_all}
use Rattle.std.proofs.Common.{refl, sym, ap, ◌∙◌}
use Rattle.b32_replies.proofs.HexWords.{are_bytes, no_digits}
use Rattle.b32_replies.proofs.hex_word.size_of_digits.Goals as goal

pub returns-then-not-are_digits : goal.returns-then-not-are_digits
returns-then-not-are_digits c = (
  refl,
  no_digits c.args.word.now (λ all.
      let yes = c.are_digits.ensures ∙ ap (list_all is_ascii_hexdigit) c.as_bytes.ensures.value ∙ all in
      let no = c.if-not-are_digits.true in
      absurd cc),
)

pub returns : goal.returns
returns c =
    let (bytes, read, size) = are_bytes c.args.word.now c.requires (sym (c.are_digits.ensures ∙ ap (list_all is_ascii_hexdigit) c.as_bytes.ensures.value) ∙ c.if-not-are_digits.false) in
    (refl, bytes, read, size)

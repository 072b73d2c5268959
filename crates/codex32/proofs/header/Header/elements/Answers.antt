use Rattle.std.proofs.Common.{◌≡◌, ◌+◌, true, subst, sym}
use Rattle.bech32_gf.specs.Alphabet.{is_of_alphabet}
use Rattle.codex32.proofs.Digits.{digit_of_alphabet}
use Rattle.codex32.proofs.header.Header.elements.Goals as goal

pub from_char_unchecked-digit-requires : goal.from_char_unchecked-digit-requires
from_char_unchecked-digit-requires c =
    subst (λ n. is_of_alphabet (48 + n) ≡ true) (sym c.number.ensures) (digit_of_alphabet c.args.self.now.threshold.number c.args.self.now.threshold.lawful)

use Rattle.std.proofs.Common.{◌≡◌, ℕ, ◌<◌, Bool, ◌&&◌, eqb, bit_or, bit_xor, min, refl, ap, ◌∙◌, rules}
use mathlib.Core.Bool.{not}
use Rattle.std.proofs.lemmas.Bool.{agree_below_at}
use Rattle.std.specs.Char.{is_ascii_alphanumeric}
use Rattle.bech32_gf.specs.Alphabet.{is_of_alphabet}
use Rattle.bech32_gf.proofs.alphabet.is_data_byte.Goals as goal

abbrev apart : ℕ → ℕ
apart b = min (min (min (bit_xor (bit_or b 32) 49) (bit_xor (bit_or b 32) 98)) (bit_xor (bit_or b 32) 105)) (bit_xor (bit_or b 32) 111)

bytes : (b : ℕ) → b < 256 → (is_ascii_alphanumeric b && not (eqb (apart b) 0)) ≡ is_of_alphabet b
unfolding is_of_alphabet
bytes b l = agree_below_at (λ b. is_ascii_alphanumeric b && not (eqb (apart b) 0)) is_of_alphabet 256 b refl l

pub returns : goal.returns
returns c =
    let byte : c.args.b < 256 = search rules in
    let last : c.min-apart.result ≡ apart c.args.b = c.min-apart.ensures ∙ ap (λ n. min n (bit_xor (bit_or c.args.b 32) 111)) (c.min-2.ensures ∙ ap (λ n. min n (bit_xor (bit_or c.args.b 32) 105)) c.min.ensures) in
    ap (λ (t : Bool). t && not (eqb c.min-apart.result 0)) c.is_ascii_alphanumeric.ensures.value
    ∙ ap (λ n. is_ascii_alphanumeric c.args.b && not (eqb n 0)) last ∙ bytes c.args.b byte

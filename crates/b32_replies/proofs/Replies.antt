-- What may be said of a line.
use Rattle.std.proofs.Common.{◌≡◌, ℕ, ◌<◌, ◌≤◌, inl, inr, List, ◌++◌, ap, refl, sym, subst, codes, Some, None}
use Rattle.bech32_bits.specs.Bits.{to_fes}
use Rattle.bech32_checksum.specs.Code.{Code}
use Rattle.bech32_hrp.specs.Hrp.{hrp_refusal}
use Rattle.bech32_hrp.specs.declared.Error.{Error as HrpError}
use Rattle.bech32_checksum.specs.Encoded.{IsEncodedText}
use Rattle.bech32_encode.specs.TextLength.{encoded_length_of}
use Rattle.b32_replies.specs.Hex.{bytes_of}
use Rattle.b32_replies.specs.Numbers.{number_of_reply}
use Rattle.b32_replies.specs.declared.refusal.Refusal.{Refusal}
use Rattle.b32_replies.specs.declared.refusal.Refusal.TheVariants.{BadHex, Hrp}
use Rattle.line_program.specs.Refused.{err}
use Rattle.b32_replies.specs.Reply.{IsEncodeAnswer}

-- ---- the answer to `encode`

-- the text of bytes and a human-readable part that are none refused
pub encode-text : (code : Code) (hrp hex bytes text : List ℕ) → bytes_of hex ≡ Some bytes → hrp_refusal hrp ≡ None
    → IsEncodedText code hrp (to_fes bytes) text → encoded_length_of code hrp (to_fes bytes) ≤ code.code_length
    → IsEncodeAnswer code hrp hex (codes "ok " ++ text)
encode-text code hrp hex bytes text b h is fits =
    rw (b, h) (inl (record { text = text; is_text = is; fits = fits; spelling = refl }))

-- a word in hex that is refused
pub encode-refused_hex : (code : Code) (hrp hex : List ℕ) (e : Refusal) → (e ≡ BadHex) × (bytes_of hex ≡ None)
    → IsEncodeAnswer code hrp hex (err (number_of_reply e))
encode-refused_hex code hrp hex e b =
    subst (λ (x : Refusal). IsEncodeAnswer code hrp hex (err (number_of_reply x))) (sym b.0) (rw b.1 refl)

-- a human-readable part that is refused
pub encode-refused_part : (code : Code) (hrp hex bytes : List ℕ) (e : HrpError) → bytes_of hex ≡ Some bytes → hrp_refusal hrp ≡ Some e
    → IsEncodeAnswer code hrp hex (err (number_of_reply (Hrp e)))
encode-refused_part code hrp hex bytes e b h = rw (b, h) refl

-- a text that is too long
pub encode-refused_text : (code : Code) (hrp hex bytes : List ℕ) (e : Refusal) → bytes_of hex ≡ Some bytes → hrp_refusal hrp ≡ None
    → (code.code_length < encoded_length_of code hrp (to_fes bytes)) × (number_of_reply e ≡ 51)
    → IsEncodeAnswer code hrp hex (err (number_of_reply e))
encode-refused_text code hrp hex bytes e b h long = rw (b, h) (inr (long.0, ap err long.1))

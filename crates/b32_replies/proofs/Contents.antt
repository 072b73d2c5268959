-- What is said of the content of a text.
use Rattle.std.proofs.Common.{◌≤◌, ◌+◌, ◌*◌, ℕ, List, ◌∷◌, ◌++◌, length, Result, Ok, Err, IfOk, IfErr, MatchResult, inl, inr, refl, arith, codes}
use Rattle.bech32_bits.specs.Bits.{to_fes}
use Rattle.bech32_checksum.specs.Code.{Code}
use Rattle.bech32_hrp.specs.Hrp.{lowered}
use Rattle.bech32_hrp.specs.HrpBytes.{hrp_bytes}
use Rattle.bech32_hrp.specs.declared.Hrp.{Hrp}
use Rattle.bech32.specs.Elements.{AreValues, IsElementsDecodeRefusal, elements_in}
use Rattle.bech32.specs.Spelling.{IsSpelledBy, IsStrictRefusal}
use Rattle.bech32_refusals.specs.declared.texts.TextError.{TextError}
use Rattle.bech32_numbers.specs.Numbers.{number_of_text_decode_error}
use Rattle.line_program.specs.Refused.{err}
use Rattle.b32_replies.specs.Contents.{IsDecodeByAnswer, IsDecodeByRefusal, IsDecodedTo}
use Rattle.b32_replies.specs.Hex.{hex_of}
use Rattle.b32_replies.specs.Reply.{IsAnswer}
use Rattle.b32_replies.specs.Request.{code_of_name, content_request}
use Rattle.b32_replies.specs.declared.command.ChecksumName.{ChecksumName}
use Rattle.b32_replies.specs.declared.content.Content.{Content}
use Rattle.b32_replies.specs.declared.content.Content.TheVariants.{Bytes, Elements}
use Rattle.b32_replies.proofs.Sizes.{strict-sizes, elements-sizes}

pub strict_decoded : {V : Type 0} (items : V → List ℕ) (code : Code) (text : List ℕ) (r : Result (Hrp × V) TextError)
    → IfOk r (λ d. IsSpelledBy code text (hrp_bytes d.0) (to_fes (items d.1))) → IfErr r (λ e. IsStrictRefusal code text e)
    → MatchResult r (λ d. IsDecodedTo Bytes code text (hrp_bytes d.0) (items d.1)) (λ e. IsDecodeByRefusal Bytes code text e)
strict_decoded items code text (Ok d) h refused = h
strict_decoded items code text (Err e) h refused = refused

pub elements_decoded : {V : Type 0} (items : V → List ℕ) (code : Code) (text : List ℕ) (r : Result (Hrp × V) TextError)
    → IfOk r (λ d. IsSpelledBy code text (hrp_bytes d.0) (elements_in (items d.1))) → IfOk r (λ d. AreValues (items d.1))
    → IfErr r (λ e. IsElementsDecodeRefusal code text e)
    → MatchResult r (λ d. IsDecodedTo Elements code text (hrp_bytes d.0) (items d.1)) (λ e. IsDecodeByRefusal Elements code text e)
elements_decoded items code text (Ok d) h values refused = (h, values)
elements_decoded items code text (Err e) h values refused = refused

module _ (code : Code) (text : List ℕ) where
  pub says-content : (content : Content) (hrp items : List ℕ) → IsDecodedTo content code text hrp items
      → IsDecodeByAnswer content code text (codes "ok " ++ (lowered hrp ++ (32 ∷ hex_of items)))
  says-content Bytes hrp items h = inl (record { hrp = hrp; bytes = items; is_spelled = h; spelling = refl })
  says-content Elements hrp items h = inl (record { hrp = hrp; values = items; is_spelled = h.0; are_values = h.1; spelling = refl })

  pub refuses-content : (content : Content) (e : TextError) → IsDecodeByRefusal content code text e → IsDecodeByAnswer content code text (err (number_of_text_decode_error e))
  refuses-content Bytes e h = inr (record { error = e; is_refusal = h; spelling = refl })
  refuses-content Elements e h = inr (record { error = e; is_refusal = h; spelling = refl })

  -- there is room for it
  pub content-sizes : (content : Content) (hrp items : List ℕ) → code.code_length ≤ 1023 → 6 ≤ length code.generator → IsDecodedTo content code text hrp items
      → length hrp + 2 * length items + 5 ≤ 2047
  content-sizes Bytes hrp items n degree h = let (part, rest) = strict-sizes code text hrp items n h in omega (arith, part, rest)
  content-sizes Elements hrp items n degree h = let (some, rest) = elements-sizes code text hrp items n degree h.0 in omega (arith, some, rest)

-- the answer is that to the request
pub answers-content : (content : Content) (checksum : ChecksumName) (text said : List ℕ) → IsDecodeByAnswer content (code_of_name checksum) text said
    → IsAnswer (content_request content checksum text) said
answers-content Bytes checksum text said h = h
answers-content Elements checksum text said h = h

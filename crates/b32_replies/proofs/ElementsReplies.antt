-- What may be said of elements that are encoded.
use Rattle.std.proofs.Common.{◌≡◌, ◌∙◌, ℕ, ◌++◌, List, refl, sym, ap, subst, codes, inl, inr, Some, None}
use Rattle.bech32_checksum.specs.Code.{Code}
use Rattle.bech32_hrp.specs.Hrp.{hrp_refusal}
use Rattle.bech32_hrp.specs.declared.Error.{Error as HrpError}
use Rattle.bech32.specs.Elements.{IsElementsEncodeRefusal}
use Rattle.bech32_refusals.specs.declared.texts.ElementsError.{ElementsError}
use Rattle.bech32_numbers.specs.Numbers.{number_of_elements_error, number_of_hrp_error}
use Rattle.line_program.specs.Refused.{err}
use Rattle.b32_replies.specs.Hex.{bytes_of}
use Rattle.b32_replies.specs.Numbers.{number_of_reply}
use Rattle.b32_replies.specs.Reply.{IsEncodeElementsAnswer, IsLongWritten, IsNotWritten}
use Rattle.b32_replies.specs.declared.long_command.Kind.TheVariants.{Elements}
use Rattle.b32_replies.specs.declared.refusal.Refusal.{Refusal}
use Rattle.b32_replies.specs.declared.refusal.Refusal.TheVariants.{BadNumber, BadHex, Hrp, Encode}
use Rattle.b32_replies.specs.declared.refusal.Refusal.TheVariants.{Elements as ElementsRefusal, Decode, Text}
use Rattle.b32_replies.specs.declared.refusal.Refusal.TheVariants.{SegwitEncode, SegwitDecode, Correct}
use Rattle.b32_replies.specs.declared.refusal.Refusal.TheVariants.{LiquidEncode, LiquidDecode, Memory}

-- a refusal of elements is the library's
of_elements : (code : Code) (hrp values : List ℕ) (own : Refusal) → IsNotWritten Elements code hrp values own
    → (e : ElementsError) × IsElementsEncodeRefusal code hrp values e × (number_of_reply own ≡ number_of_elements_error e)
of_elements code hrp values (ElementsRefusal e) h = (e, h, refl)
of_elements code hrp values BadNumber h = absurd h
of_elements code hrp values BadHex h = absurd h
of_elements code hrp values (Hrp e) h = absurd h
of_elements code hrp values (Encode e) h = absurd h
of_elements code hrp values (Decode e) h = absurd h
of_elements code hrp values (Text e) h = absurd h
of_elements code hrp values (SegwitEncode e) h = absurd h
of_elements code hrp values (SegwitDecode e) h = absurd h
of_elements code hrp values (Correct e) h = absurd h
of_elements code hrp values (LiquidEncode e) h = absurd h
of_elements code hrp values (LiquidDecode e) h = absurd h
of_elements code hrp values Memory h = absurd h

module _ (code : Code) (hrp hex : List ℕ) where
  pub elements-refused_hex : (e : Refusal) → (e ≡ BadHex) × (bytes_of hex ≡ None) → IsEncodeElementsAnswer code hrp hex (err (number_of_reply e))
  elements-refused_hex e h =
      subst (λ (x : Refusal). IsEncodeElementsAnswer code hrp hex (err (number_of_reply x))) (sym h.0) (rw h.1 refl)

  module _ (values : List ℕ) (some : bytes_of hex ≡ Some values) where
    pub elements-bad_hrp : (e : HrpError) → hrp_refusal hrp ≡ Some e → IsEncodeElementsAnswer code hrp hex (err (number_of_hrp_error e))
    elements-bad_hrp e refused = rw (some, refused) refl

    pub elements-text : (text : List ℕ) → hrp_refusal hrp ≡ None → IsLongWritten Elements code hrp values text → IsEncodeElementsAnswer code hrp hex (codes "ok " ++ text)
    elements-text text fine is =
        rw (some, fine) (inl (record { text = text; is_text = is.is_text; fits = is.fits; are_values = is.may_be; spelling = refl }))

    -- a refusal with the number of one of these elements
    pub elements-refused : (e own : Refusal) → hrp_refusal hrp ≡ None → IsNotWritten Elements code hrp values own → number_of_reply e ≡ number_of_reply own
        → IsEncodeElementsAnswer code hrp hex (err (number_of_reply e))
    elements-refused e own fine refusal same =
        let (error, is, number) = of_elements code hrp values own refusal in
        rw (some, fine) (inr (record { error = error; is_refusal = is; spelling = ap err (same ∙ number) }))

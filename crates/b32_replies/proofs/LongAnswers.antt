-- What may be said of long texts and of confidential addresses.
use Rattle.std.proofs.Common.{◌≡◌, ◌≤◌, ℕ, ◌++◌, List, length, refl, sym, subst, codes, inl, inr, Some, None, Result, Ok, Err, IfOk, IfErr, IsOk, MatchResult}
use Rattle.bech32_bits.specs.Bits.{to_fes}
use Rattle.bech32_gf.specs.declared.gf32.Fe32.{Fe32}
use Rattle.bech32_checksum.specs.Code.{Code}
use Rattle.bech32_checksum.specs.Encoded.{IsEncodedText}
use Rattle.bech32_encode.specs.TextLength.{encoded_length_of}
use Rattle.bech32_hrp.specs.Hrp.{hrp_refusal}
use Rattle.bech32_hrp.specs.HrpBytes.{hrp_bytes}
use Rattle.bech32_hrp.specs.declared.Error.{Error as HrpError}
use Rattle.bech32_hrp.specs.declared.Hrp.{Hrp}
use Rattle.bech32.specs.Elements.{AreValues, IsElementsDecodeRefusal, elements_in}
use Rattle.bech32.specs.Refusals.{IsEncodeRefusal}
use Rattle.bech32.specs.Spelling.{IsSpelledBy, IsStrictRefusal}
use Rattle.bech32.proofs.Spellings.{parts-from_spelling}
use Rattle.bech32_refusals.specs.declared.texts.EncodeError.{EncodeError}
use Rattle.bech32_refusals.specs.declared.texts.TextError.{TextError}
use Rattle.bech32_refusals.specs.declared.texts.TextError.TheVariants.{Memory as no_text_memory}
use Rattle.bech32_numbers.specs.Numbers.{number_of_hrp_error}
use Rattle.blech32.specs.Words.{blech32_code}
use Rattle.liquid.specs.Confidential.{IsLowerConfidential}
use Rattle.liquid.specs.Numbers.{number_of_confidential_encode_error}
use Rattle.liquid.specs.declared.error.EncodeError.{EncodeError as LiquidError}
use Rattle.line_program.specs.Refused.{err}
use Rattle.b32_replies.specs.Hex.{bytes_of}
use Rattle.b32_replies.specs.LongRequest.{code_of_long}
use Rattle.b32_replies.specs.Numbers.{number_of_reply}
use Rattle.b32_replies.specs.Reply.{IsEncodedConfidentialFault, IsKeyWord, IsLiquidEncodeAnswer, IsLongDecodeAnswer, IsLongEncodeAnswer, IsNoKey, IsNoVersion, IsNotRead, IsNotWritten, IsLongRead, IsVersionWord, IsLongWritten, memory_refusal}
use Rattle.b32_replies.specs.declared.long_command.Kind.{Kind}
use Rattle.b32_replies.specs.declared.long_command.Kind.TheVariants.{Bytes, Elements}
use Rattle.b32_replies.specs.declared.long_command.LongChecksum.{LongChecksum}
use Rattle.b32_replies.specs.declared.long_command.LongChecksum.TheVariants.{LongBech32, LongBech32m}
use Rattle.b32_replies.specs.declared.refusal.Refusal.{Refusal}
use Rattle.b32_replies.specs.declared.refusal.Refusal.TheVariants.{BadHex, Encode}
use Rattle.bech32.specs.Long.{max_long_text_length}

-- ---- what a text is the only one of, by what is decoded

pub read-bytes : {V : Type 0} (items : V → List ℕ) (code : Code) (text : List ℕ) (r : Result (Hrp × V) TextError)
    → IfOk r (λ d. IsSpelledBy code text (hrp_bytes d.0) (to_fes (items d.1))) → IfErr r (λ e. IsStrictRefusal code text e)
    → MatchResult r (λ d. IsLongRead Bytes code text (hrp_bytes d.0) (items d.1)) (λ e. IsNotRead Bytes code text e)
read-bytes items code text (Ok d) is refused = record { is_spelled = is; may_be = tt }
read-bytes items code text (Err e) is refused = refused

pub read-elements : {V : Type 0} (items : V → List ℕ) (code : Code) (text : List ℕ) (r : Result (Hrp × V) TextError)
    → IfOk r (λ d. IsSpelledBy code text (hrp_bytes d.0) (elements_in (items d.1))) → IfOk r (λ d. AreValues (items d.1))
    → IfErr r (λ e. IsElementsDecodeRefusal code text e)
    → MatchResult r (λ d. IsLongRead Elements code text (hrp_bytes d.0) (items d.1)) (λ e. IsNotRead Elements code text e)
read-elements items code text (Ok d) is values refused = record { is_spelled = is; may_be = values }
read-elements items code text (Err e) is values refused = refused

-- ---- texts by a kind and a code that are known

pub known : (P : Kind → Code → Type 0) (kind other : Kind) (code same : Code) → kind ≡ other → code ≡ same → P other same → P kind code
known P kind other code same k c h = subst (λ (x : Kind). P x code) (sym k) (subst (λ (x : Code). P other x) (sym c) h)

-- ---- how long the codes of long texts are

pub long-code : (checksum : LongChecksum) → (code_of_long checksum).code_length ≡ max_long_text_length
long-code LongBech32 = refl
long-code LongBech32m = refl

-- ---- the text of bytes, by what is encoded

pub written-bytes : {S : Type 0} (bytes : S → List ℕ) (code : Code) (hrp values : List ℕ) (r : Result S EncodeError) (told : Result S Refusal)
    → IfOk r (λ s. IsEncodedText code hrp (to_fes values) (bytes s)) → (IsOk r → encoded_length_of code hrp (to_fes values) ≤ code.code_length) → IfErr r (IsEncodeRefusal code hrp (to_fes values))
    → MatchResult r (λ s. told ≡ Ok s) (λ e. told ≡ Err (Encode e))
    → MatchResult told (λ s. IsLongWritten Bytes code hrp values (bytes s)) (λ e. IsNotWritten Bytes code hrp values e)
written-bytes bytes code hrp values (Ok s) told is fits refused same = rw same (record { is_text = is; fits = fits refl; may_be = tt })
written-bytes bytes code hrp values (Err e) told is fits refused same = rw same refused

-- ---- memory for the reply to a text that is read or written may run out

not-read : (kind : Kind) (code : Code) (text hrp values : List ℕ) → IsLongRead kind code text hrp values → IsNotRead kind code text no_text_memory
not-read Bytes code text hrp values is = (hrp, values, is.is_spelled.has_part.1.is_hrp, is.is_spelled.spelling)
not-read Elements code text hrp values is =
    let s = is.is_spelled in
    let parts = parts-from_spelling code text hrp (elements_in values) s.has_part.1.is_hrp s.spelling in
    (parts.part, parts.data_part, parts.accepted)

pub read-memory : (kind : Kind) (code : Code) (text hrp values : List ℕ) → IsLongRead kind code text hrp values → IsLongDecodeAnswer kind code text (err 91)
read-memory kind code text hrp values is = inr (record { error = no_text_memory; is_refusal = not-read kind code text hrp values is; spelling = refl })

pub not-written : (kind : Kind) (code : Code) (hrp values text : List ℕ) → IsLongWritten kind code hrp values text → IsNotWritten kind code hrp values (memory_refusal kind)
not-written Bytes code hrp values text is = is.fits
not-written Elements code hrp values text is = (is.fits, is.may_be)

-- ---- encoding

module _ (kind : Kind) (code : Code) (hrp hex : List ℕ) where
  pub long-refused_hex : (e : Refusal) → (e ≡ BadHex) × (bytes_of hex ≡ None) → IsLongEncodeAnswer kind code hrp hex (err (number_of_reply e))
  long-refused_hex e h = subst (λ (x : Refusal). IsLongEncodeAnswer kind code hrp hex (err (number_of_reply x))) (sym h.0) (rw h.1 refl)

  module _ (values : List ℕ) (some : bytes_of hex ≡ Some values) where
    pub long-bad_hrp : (e : HrpError) → hrp_refusal hrp ≡ Some e → IsLongEncodeAnswer kind code hrp hex (err (number_of_hrp_error e))
    long-bad_hrp e refused = rw (some, refused) refl

    module _ (fine : hrp_refusal hrp ≡ None) where
      pub long-text : (text : List ℕ) → IsLongWritten kind code hrp values text → IsLongEncodeAnswer kind code hrp hex (codes "ok " ++ text)
      long-text text is = rw (some, fine) (inl (record { text = text; written = is; spelling = refl }))

      pub long-refused : (e : Refusal) → IsNotWritten kind code hrp values e → IsLongEncodeAnswer kind code hrp hex (err (number_of_reply e))
      long-refused e is = rw (some, fine) (inr (record { error = e; is_refusal = is; spelling = refl }))

      -- a refusal with the number of one of these numbers
      pub long-same : (e own : Refusal) → IsNotWritten kind code hrp values own → number_of_reply e ≡ number_of_reply own → IsLongEncodeAnswer kind code hrp hex (err (number_of_reply e))
      long-same e own is same = subst (λ (n : ℕ). IsLongEncodeAnswer kind code hrp hex (err n)) (sym same) (long-refused own is)

-- ---- confidential addresses

module _ (hrp number key_word hex : List ℕ) where
  pub liquid-bad_number : IsNoVersion number → IsLiquidEncodeAnswer hrp number key_word hex (err 4)
  liquid-bad_number none = inl (none, refl)

  module _ (version : Fe32) (is : IsVersionWord number version) where
    pub liquid-no_key : IsNoKey key_word → IsLiquidEncodeAnswer hrp number key_word hex (err 5)
    liquid-no_key none = inr (version, is, inl (none, refl))

    module _ (key : List ℕ) (is_key : IsKeyWord key_word key) where
      pub liquid-bad_hex : bytes_of hex ≡ None → IsLiquidEncodeAnswer hrp number key_word hex (err 5)
      liquid-bad_hex none = inr (version, is, inr (key, is_key, rw none refl))

      module _ (program : List ℕ) (some : bytes_of hex ≡ Some program) where
        pub liquid-bad_hrp : (e : HrpError) → hrp_refusal hrp ≡ Some e → IsLiquidEncodeAnswer hrp number key_word hex (err (number_of_hrp_error e))
        liquid-bad_hrp e refused = inr (version, is, inr (key, is_key, rw (some, refused) refl))

        pub liquid-text : (text : List ℕ) → hrp_refusal hrp ≡ None → IsLowerConfidential blech32_code hrp version key program text
            → IsLiquidEncodeAnswer hrp number key_word hex (codes "ok " ++ text)
        liquid-text text fine address = inr (version, is, inr (key, is_key, rw (some, fine) (inl (record { text = text; is_address = address; spelling = refl }))))

        pub liquid-refused : (e : LiquidError) → hrp_refusal hrp ≡ None → IsEncodedConfidentialFault version (length program) e
            → IsLiquidEncodeAnswer hrp number key_word hex (err (number_of_confidential_encode_error e))
        liquid-refused e fine refusal = inr (version, is, inr (key, is_key, rw (some, fine) (inr (record { error = e; is_refusal = refusal; spelling = refl }))))

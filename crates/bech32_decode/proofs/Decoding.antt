-- What a text's parts and its checksum say of the text.
use Rattle.std.proofs.Common.{◌≡◌, ◌<◌, ◌≤◌, ◌∙◌, ◌+◌, ◌-◌, ◌++◌, ◌↔◌, ℕ, List, None, Result, Ok, Err, length, length-append, take, refl, sym, ap, subst, arith, IsOk, MatchResult}
use Rattle.std.proofs.lemmas.List.{take_at}
use Rattle.std.specs.Str.{IsUtf8}
use Rattle.bech32_gf.specs.Fe32.{ops}
use Rattle.bech32_gf.specs.laws.Fe32Laws.{is_field}
use Rattle.bech32_gf.specs.declared.gf32.Fe32.{Fe32}
use Rattle.bech32_poly.specs.Remainder.{IsRemainder}
use Rattle.bech32_poly.proofs.Remainder.{remainder_unique}
use Rattle.bech32_checksum.specs.Code.{Code, bech32, bech32m}
use Rattle.bech32_hrp.specs.HrpBytes.{hrp_bytes}
use Rattle.bech32_decode.specs.Text.{IsText, text_refusal}
use Rattle.bech32_decode.specs.Acceptance.{IsAccepted, Accepts}
use Rattle.bech32_decode.specs.BeforeChecksum.{IsBeforeChecksum}
use Rattle.bech32_decode.specs.Checked.{IsAcceptedAs, IsCheckedRefusal}
use Rattle.bech32_decode.specs.Refusals.{HasValidChecksum, IsChecksumRefusal, IsRefusedByBoth}
use Rattle.bech32_decode.specs.declared.checked.CheckedHrpstring.{CheckedHrpstring}
use Rattle.bech32_refusals.specs.declared.error.CheckedHrpstringError.{CheckedHrpstringError}
use Rattle.bech32_refusals.specs.declared.error.CheckedHrpstringError.TheVariants.{Parse as ParseFailed, Checksum as ChecksumFailed}
use Rattle.bech32_refusals.specs.declared.error.ChecksumError.{ChecksumError}
use Rattle.bech32_refusals.specs.declared.error.ChecksumError.TheVariants.{CodeLength, InvalidLength, InvalidResidue}
use Rattle.bech32_decode.proofs.Grammar.{only-from_IsText, text_refusal-none}

pub accepted : (code : Code) (text hrp data_part : List ℕ) → IsText text hrp data_part → HasValidChecksum code (length text) hrp data_part → IsAccepted code text hrp data_part
accepted code text hrp data_part is h = record { grammar = is; text_length = h.0; data_length = h.1; has_target = h.2 }

-- a text that is accepted is so by the parts that it has
pub valid-from_accepts : (code : Code) (text hrp data_part : List ℕ) → IsText text hrp data_part → Accepts code text → HasValidChecksum code (length text) hrp data_part
valid-from_accepts code text hrp data_part is a =
    let (h, d, yes_) = a in
    let same = only-from_IsText text hrp data_part is h d yes_.grammar.split yes_.grammar.data_bytes in
    subst (λ (x : List ℕ). HasValidChecksum code (length text) x data_part) same.0
    (subst (λ (x : List ℕ). HasValidChecksum code (length text) h x) same.1 (yes_.text_length, yes_.data_length, yes_.has_target))

-- there is one remainder
pub one_remainder : (low p r s : List Fe32) → IsRemainder ops low p r → IsRemainder ops low p s → r ≡ s
one_remainder low p r s a b = remainder_unique is_field low p r a ∙ sym (remainder_unique is_field low p s b)

-- a checksum that refuses is not valid
pub not_valid : (code : Code) (n : ℕ) (hrp data_part : List ℕ) (e : ChecksumError) → IsChecksumRefusal code n hrp data_part e → HasValidChecksum code n hrp data_part → ⊥
not_valid code n hrp data_part (CodeLength e) r v = let a : code.code_length < n = r.0 in let b : n ≤ code.code_length = v.0 in absurd (omega arith)
not_valid code n hrp data_part InvalidLength r v = let a : length data_part < length code.generator = r.1 in let b : length code.generator ≤ length data_part = v.1 in absurd (omega arith)
not_valid code n hrp data_part (InvalidResidue e) r v = r.2.not_target (one_remainder code.generator _ _ _ r.2.is_remainder v.2)

pub refused_by_both : (text hrp data_part : List ℕ) (e : ChecksumError) → IsText text hrp data_part
    → IsChecksumRefusal bech32m (length text) hrp data_part e → (HasValidChecksum bech32 (length text) hrp data_part → ⊥) → IsRefusedByBoth text e
refused_by_both text hrp data_part e is refusal none = record {
  hrp = hrp;
  data_part = data_part;
  grammar = is;
  refusal = refusal;
  not_bech32 = λ a. none (valid-from_accepts bech32 text hrp data_part is a);
}

-- a checksum is right exactly where it is not refused
pub valid-from_outcome : {U : Type 0} (code : Code) (n : ℕ) (hrp data_part : List ℕ) (r : Result U ChecksumError)
    → MatchResult r (λ _. HasValidChecksum code n hrp data_part) (λ e. IsChecksumRefusal code n hrp data_part e) → IsOk r ↔ HasValidChecksum code n hrp data_part
valid-from_outcome code n hrp data_part (Ok u) h = (λ _. h, λ _. refl)
valid-from_outcome code n hrp data_part (Err e) h = (λ ok. absurd cc, λ v. absurd (not_valid code n hrp data_part e h v))

-- a text that is read is accepted, and no other is
pub accepted-from_checked : (code : Code) (text : List ℕ) → IsUtf8 text → (r : Result CheckedHrpstring CheckedHrpstringError)
    → MatchResult r (λ c. IsAcceptedAs code text c) (λ e. IsCheckedRefusal code text e) → IsOk r ↔ Accepts code text
accepted-from_checked code text u (Ok c) h = (λ _. (hrp_bytes c.hrp, h.data_part, h.accepted), λ _. refl)
accepted-from_checked code text u (Err (ParseFailed e)) h =
    (λ ok. absurd cc, λ a. absurd (let none : text_refusal text ≡ None = text_refusal-none text u (a.0, a.1, a.2.grammar) in cc))
accepted-from_checked code text u (Err (ChecksumFailed e)) h =
    (λ ok. absurd cc, λ a. absurd (not_valid code (length text) h.hrp h.data_part e h.refusal (valid-from_accepts code text h.hrp h.data_part h.grammar a)))

-- the characters before the checksum
pub before_checksum : (code : Code) (data_part characters : List ℕ) → IsBeforeChecksum code data_part characters
    → characters ≡ take (length data_part - length code.generator) data_part
before_checksum code data_part characters h =
    let whole : length data_part ≡ length (characters ++ h.checksum) = ap length h.data_part_is in
    let both : length (characters ++ h.checksum) ≡ length characters + length h.checksum = length-append characters h.checksum in
    let size : length h.checksum ≡ length code.generator = h.size in
    let at : length data_part - length code.generator ≡ length characters = omega arith in
    sym (ap (λ (n : ℕ). take n data_part) at ∙ ap (take (length characters)) h.data_part_is ∙ take_at characters h.checksum (length characters) refl)

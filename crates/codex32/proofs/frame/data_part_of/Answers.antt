use Rattle.std.proofs.Common.{◌≡◌, ℕ, Bool, List, false, true, length, take, None, Some, ap, sym, subst, ◌∙◌}
use Rattle.std.specs.Str.{IsUtf8, bytes_eq}
use Rattle.bech32_decode.proofs.Grammar.{text_refusal-none}
use Rattle.bech32_decode.specs.Text.{IsText}
use Rattle.bech32_hrp.specs.Hrp.{lowered}
use Rattle.codex32.specs.Lengths.{may_have}
use Rattle.codex32.specs.ShareParts.{ms}
use Rattle.codex32.specs.Strings.{frame_refusal_by}
use Rattle.codex32.specs.declared.error.Codex32Error.TheVariants.{Length}
use Rattle.codex32.proofs.Refused.{not_refused, past_parts, refused_length}
use Rattle.codex32.proofs.frame.data_part_of.Goals as goal

-- where a text has the parts of a string, and may be as long
plain : (may : ℕ → Bool) (text bytes data_part : List ℕ) → bytes ≡ text → IsUtf8 text → may (length text) ≡ true
    → IsText bytes (take 2 bytes) data_part → lowered (take 2 bytes) ≡ ms
    → (frame_refusal_by may text ≡ None) × IsText text (take 2 text) data_part
plain may text bytes data_part same utf8 within is part =
    let is_text = subst (λ (t : List ℕ). IsText t (take 2 t) data_part) same is in
    let lower = ap (λ (t : List ℕ). lowered (take 2 t)) (sym same) ∙ part in (
      not_refused may text (take 2 text) data_part (text_refusal-none text utf8 (take 2 text, data_part, is_text)) within is_text (ap (λ (h : List ℕ). bytes_eq h ms) lower),
      is_text,
    )

-- and may not
other_length : (may : ℕ → Bool) (text bytes data_part : List ℕ) → bytes ≡ text → IsUtf8 text → may (length text) ≡ false → IsText bytes (take 2 bytes) data_part → frame_refusal_by may text ≡ Some Length
other_length may text bytes data_part same utf8 out is =
    let is_text = subst (λ (t : List ℕ). IsText t (take 2 t) data_part) same is in
    past_parts may text (take 2 text) data_part (text_refusal-none text utf8 (take 2 text, data_part, is_text)) is_text ∙ refused_length may (length text) (take 2 text) out

pub returns-then-not-allows : goal.returns-then-not-allows
returns-then-not-allows c =
    other_length (may_have c.args.lengths) c.args.text.now c.as_bytes.result.now c.in-Some.data_part.now c.as_bytes.ensures.value c.utf8.text (sym c.allows.ensures ∙ c.if-not-allows.true)
    c.in-Some.ensures.text

pub returns : goal.returns
returns c =
    plain (may_have c.args.lengths) c.args.text.now c.as_bytes.result.now c.in-Some.data_part.now c.as_bytes.ensures.value c.utf8.text (sym c.allows.ensures ∙ c.if-not-allows.false)
    c.in-Some.ensures.text c.in-Some.ensures.part

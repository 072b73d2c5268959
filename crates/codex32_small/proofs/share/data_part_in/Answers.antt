use Rattle.std.proofs.Common.{◌≡◌, ◌∙◌, ℕ, List, sym, subst}
use Rattle.bech32_checksum.specs.Code.{Code}
use Rattle.bech32_checksum.specs.TextPolynomial.{text_polynomial}
use Rattle.bech32_gf.specs.Fe32 as fe32
use Rattle.bech32_gf.specs.Fe32.{elements_of}
use Rattle.bech32_poly.specs.Division.{remainder_of}
use Rattle.codex32_steady.specs.texts.Parts.{ms}
use Rattle.codex32_small.proofs.Shares.{checksum_refused, has_data_part, header_refused}
use Rattle.codex32_small.proofs.share.data_part_in.Goals as goal

-- a code leaves its target of a data part
abbrev Leaves : List ℕ → Code → Type 0
Leaves given code = remainder_of fe32.ops code.generator (text_polynomial ms (elements_of given)) ≡ code.target

pub returns-then-not-has_target : goal.returns-then-not-has_target
returns-then-not-has_target c =
    let given = c.in-Ok.data_part.now in
    checksum_refused c.args.text.now given c.in-Ok.ensures.0 c.in-Ok.ensures.1
    (λ right. absurd (let k = sym c.if-not-has_target.true ∙ c.has_target.ensures.1 (subst (Leaves given) (sym c.kind_of.ensures) right) in cc))

pub returns-in-Ok-validate_header : goal.returns-in-Ok-validate_header
returns-in-Ok-validate_header c =
    let given = c.in-Ok.data_part.now in
    has_data_part c.args.text.now given c.in-Ok.ensures.0 c.in-Ok.ensures.1 (subst (Leaves given) c.kind_of.ensures (c.has_target.ensures.0 c.if-not-has_target.false)) c.in-Ok-validate_header.ensures

pub returns-in-Err-validate_header : goal.returns-in-Err-validate_header
returns-in-Err-validate_header c =
    let given = c.in-Ok.data_part.now in
    record {
      refusal = c.in-Err-validate_header.e;
      holds = header_refused c.args.text.now given c.in-Ok.ensures.0 c.in-Ok.ensures.1 c.in-Err-validate_header.e
          (subst (Leaves given) c.kind_of.ensures (c.has_target.ensures.0 c.if-not-has_target.false)) c.in-Err-validate_header.ensures;
      number = c.from-in-Err-validate_header.ensures ∙ c.codex32_error_number-in-Err-validate_header.ensures.value;
    }

use Rattle.std.proofs.Common.{◌≡◌, List, ℕ, Some, length, subst, sym, ap, ◌∙◌}
use Rattle.std.proofs.lemmas.Result.{err_from_is_err_and}
use Rattle.bech32_hrp.specs.Hrp.{first_of}
use Rattle.codex32.specs.Lengths.{may_have}
use Rattle.codex32.specs.Damaged.{read_text}
use Rattle.codex32.specs.Strings.{frame_refusal_by, codex32_length_fault, part_fault}
use Rattle.codex32.proofs.ReadTexts.{frame-read}
use Rattle.codex32.proofs.Separated.{read_text-none}
use Rattle.codex32.proofs.damaged.damaged_parts.Goals as goal

pub validate_grammar-requires : goal.validate_grammar-requires
validate_grammar-requires c = c.in-Some.ensures

pub unseparated-requires : goal.unseparated-requires
unseparated-requires c = c.in_default.ensures

pub returns-in_default : goal.returns-in_default
returns-in_default c =
    let text = c.args.text.now in
    subst (λ (t : List ℕ). frame_refusal_by (may_have c.args.lengths) t ≡ Some c.unseparated.result) (sym (read_text-none text c.in_default.ensures)) c.unseparated.ensures

pub returns-in_err-validate_outline : goal.returns-in_err-validate_outline
returns-in_err-validate_outline c =
    let text = c.args.text.now in
    let cut = c.in-Some.ensures in
    let left : frame_refusal_by (may_have c.args.lengths) (read_text text) ≡ first_of (codex32_length_fault (may_have c.args.lengths) (length text)) (part_fault c.as_bytes.result.now) =
    frame-read text c.in-Some.front.now c.in-Some.damaged.now cut (may_have c.args.lengths) c.in_ok-validate_grammar.ensures.0
    ∙ ap (λ (h : List ℕ). first_of (codex32_length_fault (may_have c.args.lengths) (length text)) (part_fault h)) (sym c.as_bytes.ensures.value) in
    let p = err_from_is_err_and c.from_residual-in_err-validate_outline.result c.from_residual-in_err-validate_outline.ensures.1 in
    rw p.1 (rw p.2 (left ∙ c.in_err-validate_outline.ensures))

pub returns : goal.returns
returns c =
    let text = c.args.text.now in
    let cut = c.in-Some.ensures in
    let left : frame_refusal_by (may_have c.args.lengths) (read_text text) ≡ first_of (codex32_length_fault (may_have c.args.lengths) (length text)) (part_fault c.as_bytes.result.now) =
    frame-read text c.in-Some.front.now c.in-Some.damaged.now cut (may_have c.args.lengths) c.in_ok-validate_grammar.ensures.0
    ∙ ap (λ (h : List ℕ). first_of (codex32_length_fault (may_have c.args.lengths) (length text)) (part_fault h)) (sym c.as_bytes.ensures.value) in
    (left ∙ c.in_ok-validate_outline.ensures, c.in_ok-validate_grammar.ensures.1)

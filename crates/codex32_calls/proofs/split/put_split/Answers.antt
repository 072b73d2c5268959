use Rattle.std.proofs.Common.{◌*◌, ◌∙◌, length, sym, take}
use Rattle.std.proofs.lemmas.Result.{err_from_is_err_and}
use Rattle.codex32.specs.HeaderParts.{identifier_word_fault}
use Rattle.codex32_calls.specs.Encode.{threshold_number_fault}
use Rattle.codex32_calls.proofs.Splits.{first-refused, none-refused, second-refused, unrefused}
use Rattle.codex32_calls.proofs.split.put_split.Goals as goal

pub returns-in_err-threshold-clause-refused : goal.returns-in_err-threshold-clause-refused
returns-in_err-threshold-clause-refused c =
    let p = err_from_is_err_and c.from_residual.result c.from_residual.ensures.1 in
    rw p.1 (rw p.2 (first-refused (threshold_number_fault c.args.threshold) (identifier_word_fault c.args.identifier.now) c.in_err-threshold.field-0.0 c.in_err-threshold.ensures))

pub returns-in_err-identifier-clause-refused : goal.returns-in_err-identifier-clause-refused
returns-in_err-identifier-clause-refused c =
    let p = err_from_is_err_and c.from_residual-in_err-identifier.result c.from_residual-in_err-identifier.ensures.1 in
    rw p.1
    (rw p.2
    (second-refused (threshold_number_fault c.args.threshold) (identifier_word_fault c.args.identifier.now) c.in_err-identifier.field-0.0 c.in_ok-threshold.ensures.0 c.in_err-identifier.ensures))

pub returns-in_err-split_into-clause-refused : goal.returns-in_err-split_into-clause-refused
returns-in_err-split_into-clause-refused c =
    let p = err_from_is_err_and c.from_residual-in_err-split_into.result c.from_residual-in_err-split_into.ensures.1 in
    rw p.1
    (rw p.2 (
      none-refused (threshold_number_fault c.args.threshold) (identifier_word_fault c.args.identifier.now) c.in_ok-threshold.ensures.0 c.in_ok-identifier.ensures.0,
      record { t = c.in_ok-threshold.threshold; threshold_is = c.in_ok-threshold.ensures.1; refusal_is = c.in_err-split_into.ensures.refused },
    ))

pub returns-clause-value : goal.returns-clause-value
returns-clause-value c = record {
  fine = none-refused (threshold_number_fault c.args.threshold) (identifier_word_fault c.args.identifier.now) c.in_ok-threshold.ensures.0 c.in_ok-identifier.ensures.0;
  t = c.in_ok-threshold.threshold;
  i = c.in_ok-identifier.identifier;
  threshold_is = c.in_ok-threshold.ensures.1;
  identifier_is = c.in_ok-identifier.ensures.1;
  texts = take (c.args.count * c.in_ok-split_into.field-0) c.split_into.new.buffer;
  is_split = c.in_ok-split_into.ensures.split;
  recovers = c.in_ok-split_into.ensures.recovers;
  size = c.in_ok-split_into.ensures.refused.1;
  put = c.in_ok-split_into.ensures.put;
}

pub returns-in_err-threshold-clause-accepts : goal.returns-in_err-threshold-clause-accepts
returns-in_err-threshold-clause-accepts c can =
    absurd (let k = sym can.fine ∙ first-refused (threshold_number_fault c.args.threshold) (identifier_word_fault c.args.identifier.now) _ c.in_err-threshold.ensures in cc)

pub returns-in_err-identifier-clause-accepts : goal.returns-in_err-identifier-clause-accepts
returns-in_err-identifier-clause-accepts c can =
    absurd (let k = sym can.fine ∙ second-refused (threshold_number_fault c.args.threshold) (identifier_word_fault c.args.identifier.now) _ c.in_ok-threshold.ensures.0 c.in_err-identifier.ensures in cc)

pub returns-in_err-split_into-clause-accepts : goal.returns-in_err-split_into-clause-accepts
returns-in_err-split_into-clause-accepts c can =
    let none = unrefused c.args.threshold c.args.identifier.now c.args.secret.now c.args.random.now c.args.count (length c.args.texts.now) can c.in_ok-threshold.threshold c.in_ok-threshold.ensures.1 in
    absurd (let k = sym none ∙ c.in_err-split_into.ensures.refused in cc)

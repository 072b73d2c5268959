use Rattle.std.proofs.Common.{length, take, ℕ}
use Rattle.std.proofs.lemmas.Result.{err_from_is_err_and}
use Rattle.codex32_calls.specs.Derive.{IsDeriveFault, IsDerivedOf, texts_of}
use Rattle.codex32_calls.specs.Recover.{IsSecretOf, secret_character}
use Rattle.codex32_calls.proofs.Recovered.{either-from_secret, no_derive_refusal, read-from_can, recovered-refused, recovered-value, refused-from_derive}
use Rattle.codex32_calls.proofs.recover.put_recovered.Goals as goal

pub returns-in_err-count-clause-refused : goal.returns-in_err-count-clause-refused
returns-in_err-count-clause-refused c =
    let at : (left : ℕ) → IsDeriveFault secret_character c.args.texts.characters.now c.args.texts.lengths.now left c.in_err-count.field-0.0 = λ left. rw c.from.ensures at c.in_err-count.ensures.refused left in
    let p = err_from_is_err_and c.from_residual.result c.from_residual.ensures.1 in
    rw p.1 (rw p.2 (refused-from_derive c.args.texts.characters.now c.args.texts.lengths.now (length c.args.bytes.now) c.in_err-count.field-0.0 at))

pub returns-in_err-count-clause-accepts : goal.returns-in_err-count-clause-accepts
returns-in_err-count-clause-accepts c can =
    let at : (left : ℕ) → IsDeriveFault secret_character c.args.texts.characters.now c.args.texts.lengths.now left c.in_err-count.field-0.0 = λ left. rw c.from.ensures at c.in_err-count.ensures.refused left in
    absurd (no_derive_refusal c.args.texts.characters.now c.args.texts.lengths.now (length c.args.bytes.now) c.in_err-count.field-0.0 can at)

pub put_bytes_of-requires : goal.put_bytes_of-requires
put_bytes_of-requires c =
    let is : IsDerivedOf secret_character (texts_of c.args.texts.characters.now c.args.texts.lengths.now) (take c.in_ok-count.count c.put_string.new.room) = rw c.from.ensures at c.in_ok-count.ensures.value.1 in
    let secret : IsSecretOf c.args.texts.characters.now c.args.texts.lengths.now (take c.in_ok-count.count c.put_string.new.room) = record { lengths_are = c.in_ok-count.ensures.value.0.lengths_are; is_text = is } in
    either-from_secret c.args.texts.characters.now c.args.texts.lengths.now (take c.in_ok-count.count c.put_string.new.room) secret

pub returns-clause-value : goal.returns-clause-value
returns-clause-value c =
    let is : IsDerivedOf secret_character (texts_of c.args.texts.characters.now c.args.texts.lengths.now) (take c.in_ok-count.count c.put_string.new.room) = rw c.from.ensures at c.in_ok-count.ensures.value.1 in
    let secret : IsSecretOf c.args.texts.characters.now c.args.texts.lengths.now (take c.in_ok-count.count c.put_string.new.room) = record { lengths_are = c.in_ok-count.ensures.value.0.lengths_are; is_text = is } in
    recovered-value c.args.texts.characters.now c.args.texts.lengths.now (length c.args.bytes.now) (take c.in_ok-count.count c.put_string.new.room) secret c.put_bytes_of.result c.args.bytes.now c.put_bytes_of.new.bytes c.put_bytes_of.ensures.value

pub returns-clause-refused : goal.returns-clause-refused
returns-clause-refused c =
    let is : IsDerivedOf secret_character (texts_of c.args.texts.characters.now c.args.texts.lengths.now) (take c.in_ok-count.count c.put_string.new.room) = rw c.from.ensures at c.in_ok-count.ensures.value.1 in
    let secret : IsSecretOf c.args.texts.characters.now c.args.texts.lengths.now (take c.in_ok-count.count c.put_string.new.room) = record { lengths_are = c.in_ok-count.ensures.value.0.lengths_are; is_text = is } in
    recovered-refused c.args.texts.characters.now c.args.texts.lengths.now (length c.args.bytes.now) (take c.in_ok-count.count c.put_string.new.room) secret c.put_bytes_of.result c.put_bytes_of.ensures.refused

pub returns-clause-accepts : goal.returns-clause-accepts
returns-clause-accepts c can =
    let is : IsDerivedOf secret_character (texts_of c.args.texts.characters.now c.args.texts.lengths.now) (take c.in_ok-count.count c.put_string.new.room) = rw c.from.ensures at c.in_ok-count.ensures.value.1 in
    let secret : IsSecretOf c.args.texts.characters.now c.args.texts.lengths.now (take c.in_ok-count.count c.put_string.new.room) = record { lengths_are = c.in_ok-count.ensures.value.0.lengths_are; is_text = is } in
    c.put_bytes_of.ensures.accepts (read-from_can c.args.texts.characters.now c.args.texts.lengths.now (take c.in_ok-count.count c.put_string.new.room) secret (length c.args.bytes.now) can)

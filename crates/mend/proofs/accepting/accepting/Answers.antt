use Rattle.std.proofs.Common.{◌≡◌, true, false, inl, inr, sym, ◌∙◌}
use Rattle.std.proofs.lemmas.Result.{err_from_is_err_and}
use Rattle.mend.proofs.accepting.accepting.Goals as goal

pub returns-in_err-reading : goal.returns-in_err-reading
returns-in_err-reading c =
    let p = err_from_is_err_and c.from_residual.result c.from_residual.ensures.1 in
    rw p.1 (rw p.2 (c.in_err-reading.ensures.refused, λ a. let ok = c.in_err-reading.ensures.accepts.1 (a.0, a.1, a.2.grammar) in absurd (cc ok)))

pub returns-then-is_accepted : goal.returns-then-is_accepted
returns-then-is_accepted c =
    let r = c.in_ok-reading.reading in
    (r.hrp.now, r.data_part.now, rw c.in_ok-reading.ensures.value at (c.is_accepted.ensures.0 c.if-is_accepted.true))

pub returns-in_err-validate_either : goal.returns-in_err-validate_either
returns-in_err-validate_either c =
    let h = rw c.in_ok-reading.ensures.value at c.in_err-validate_either.ensures in
    let p = err_from_is_err_and c.from_residual-in_err-validate_either.result c.from_residual-in_err-validate_either.ensures.1 in
    rw p.1 (rw p.2 (record { hrp = h.hrp; data_part = h.data_part; grammar = h.grammar; refusal = h.refusal }, h.not_bech32))

pub returns : goal.returns
returns c =
    let r = c.in_ok-reading.reading in
    elim c.in_ok-validate_either.ensures [
      | inl by_bech32m ↦ (let no : true ≡ false = sym (c.is_accepted.ensures.1 by_bech32m) ∙ c.if-is_accepted.false in cc no)
      | inr by_bech32 ↦ (r.hrp.now, r.data_part.now, rw c.in_ok-reading.ensures.value at by_bech32)
    ]

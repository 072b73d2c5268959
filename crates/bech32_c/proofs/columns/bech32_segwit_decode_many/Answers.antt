use Rattle.std.proofs.Common.{◌≡◌, ◌∙◌, length, sym}
use Rattle.bech32_more_calls.specs.columns.Decoded.{IsDecodeManyFault}
use Rattle.bech32_more_calls.proofs.Small.{not_refused, not_room}
use Rattle.bech32_c.proofs.columns.bech32_segwit_decode_many.Goals as goal

pub returns-in-Err-clause-first : goal.returns-in-Err-clause-first
returns-in-Err-clause-first c =
    let a = c.args in
    let fault : IsDecodeManyFault a.texts.now a.first (length a.numbers.now) a.hrp.now c.in-Err.refusal = rw c.in-Err.is at c.decode_many-put.ensures.refused in
    λ e. absurd (not_room a.texts.now a.first (length a.numbers.now) a.hrp.now c.in-Err.refusal fault (sym c.number.ensures.value ∙ e))

pub returns-in-Err-clause-accepts : goal.returns-in-Err-clause-accepts
returns-in-Err-clause-accepts c =
    let a = c.args in
    let fault : IsDecodeManyFault a.texts.now a.first (length a.numbers.now) a.hrp.now c.in-Err.refusal = rw c.in-Err.is at c.decode_many-put.ensures.refused in
    λ can. absurd (not_refused a.texts.now a.first (length a.numbers.now) a.hrp.now c.in-Err.refusal can fault)

pub returns-in-Err-clause-refused : goal.returns-in-Err-clause-refused
returns-in-Err-clause-refused c =
    let a = c.args in
    let fault : IsDecodeManyFault a.texts.now a.first (length a.numbers.now) a.hrp.now c.in-Err.refusal = rw c.in-Err.is at c.decode_many-put.ensures.refused in
    λ nz no. record { refusal = c.in-Err.refusal; holds = fault; number = c.number.ensures.value }

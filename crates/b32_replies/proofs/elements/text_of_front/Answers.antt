use Rattle.std.proofs.Common.{Ok, arith, string_bytes}
use Rattle.std.proofs.lemmas.Result.{err_from_is_err_and}
use Rattle.bech32_hrp.specs.HrpBytes.{hrp_bytes}
use Rattle.b32_replies.specs.declared.long_command.Kind.TheVariants.{Elements}
use Rattle.b32_replies.specs.declared.refusal.Refusal.TheVariants as refusals
use Rattle.b32_replies.proofs.Fronts.{of_front, refused_front}
use Rattle.b32_replies.proofs.elements.text_of_front.Goals as goal

pub returns : goal.returns
returns g c = λ values size there.
    let code = g.Ck.Checksum.code in
    let made = c.in_ok-encode_elements in
    of_front (λ s. string_bytes s) Elements code (hrp_bytes c.args.hrp) (omega (arith, c.requires.short)) c.args.room.now c.front_of.result.now values c.args.size (Ok made.field-0)
    (omega (arith, c.requires.short, c.requires.room)) c.front_of.ensures.fits c.front_of.ensures.whole
    (record { is_text = made.ensures.text; fits = made.ensures.fits; may_be = made.ensures.values }) size there

pub returns-in_err-encode_elements : goal.returns-in_err-encode_elements
returns-in_err-encode_elements g c = λ values size there.
    let code = g.Ck.Checksum.code in
    let p = err_from_is_err_and c.from_residual.result c.from_residual.ensures.1 in
    let e = c.in_err-encode_elements.field-0.0 in
    rw p.1 (rw p.2 (refused_front Elements code (hrp_bytes c.args.hrp) (omega (arith, c.requires.short)) c.args.room.now c.front_of.result.now values c.args.size
    (refusals.Elements e) (omega (arith, c.requires.short, c.requires.room)) c.front_of.ensures.fits c.front_of.ensures.whole c.in_err-encode_elements.ensures.refused size there))

use Rattle.std.proofs.Common.{◌≡◌, ◌∙◌, false, ap, sym, subst, OnOk, rules}
use Rattle.bech32_bits.specs.Bits.{to_fes}
use Rattle.io_traits.specs.Watched.{device_of}
use Rattle.bech32_hrp.specs.HrpBytes.{hrp_bytes}
use Rattle.bech32.specs.Writing.{AppendsText, AppendsBeginning}
use Rattle.bech32.proofs.Writing.{io_refusal}
use Rattle.bech32.proofs.writers.encode_lower_to_writer.Goals as goal

pub returns-clause-ok : goal.returns-clause-ok
returns-clause-ok g c =
    let held = g.W.Write.contents in
    let call = c.encode_into_bytes in
    let last : device_of call.new.sink ≡ c.w-1.given.0 = search rules in
    subst (λ w. OnOk call.result (AppendsText (held c.args.w.now) (held w) false g.Ck.Checksum.code (hrp_bytes c.args.hrp) c.args.data.now)) last
    (subst (λ w. OnOk call.result (AppendsText (held w) (held (device_of call.new.sink)) false g.Ck.Checksum.code (hrp_bytes c.args.hrp) c.args.data.now)) c.new-sink.ensures.device
    call.ensures.ok)

pub returns-clause-refused : goal.returns-clause-refused
returns-clause-refused g c =
    let held = g.W.Write.contents in
    let call = c.encode_into_bytes in
    let last : device_of call.new.sink ≡ c.w-1.given.0 = search rules in
    io_refusal g.Ck.Checksum.code (hrp_bytes c.args.hrp) (to_fes c.args.data.now) (λ same. sym last ∙ ap (λ s. device_of s) same ∙ c.new-sink.ensures.device)
    (λ failed. subst (λ w. AppendsBeginning (held c.args.w.now) (held w) false g.Ck.Checksum.code (hrp_bytes c.args.hrp) c.args.data.now) last
    (subst (λ w. AppendsBeginning (held w) (held (device_of call.new.sink)) false g.Ck.Checksum.code (hrp_bytes c.args.hrp) c.args.data.now) c.new-sink.ensures.device failed.1))
    call.result call.ensures.refused

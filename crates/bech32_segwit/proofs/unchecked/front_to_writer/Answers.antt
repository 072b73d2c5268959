use Rattle.std.proofs.Common.{◌≡◌, subst, OnOk, OnErr, rules}
use Rattle.io_traits.specs.Watched.{device_of}
use Rattle.bech32_hrp.specs.HrpBytes.{hrp_bytes}
use Rattle.bech32_segwit.specs.Unchecked.{AppendsFront, AppendsPartOfFront}
use Rattle.bech32_segwit.proofs.unchecked.front_to_writer.Goals as goal

pub returns-clause-ok : goal.returns-clause-ok
returns-clause-ok g c =
    let held = g.W.Write.contents in
    let call = c.encode_into_bytes_unchecked in
    let last : device_of call.new.sink ≡ c.w-1.given.0 = search rules in
    subst (λ w. OnOk call.result (AppendsFront (held c.args.w.now) (held w) c.args.upper (hrp_bytes c.args.hrp) c.args.version c.args.program.now)) last
    (subst (λ w. OnOk call.result (AppendsFront (held w) (held (device_of call.new.sink)) c.args.upper (hrp_bytes c.args.hrp) c.args.version c.args.program.now)) c.new-sink.ensures.device call.ensures.ok)

pub returns-clause-beginning : goal.returns-clause-beginning
returns-clause-beginning g c =
    let held = g.W.Write.contents in
    let call = c.encode_into_bytes_unchecked in
    let last : device_of call.new.sink ≡ c.w-1.given.0 = search rules in
    subst (λ w. OnErr call.result (AppendsPartOfFront (held c.args.w.now) (held w) c.args.upper (hrp_bytes c.args.hrp) c.args.version c.args.program.now)) last
    (subst (λ w. OnErr call.result (AppendsPartOfFront (held w) (held (device_of call.new.sink)) c.args.upper (hrp_bytes c.args.hrp) c.args.version c.args.program.now)) c.new-sink.ensures.device call.ensures.beginning)

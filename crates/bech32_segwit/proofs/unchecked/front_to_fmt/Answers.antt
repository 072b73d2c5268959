use Rattle.std.proofs.Common.{◌≡◌, subst, OnOk, rules}
use Rattle.std.proofs.lemmas.Result.{on_ok_weaker}
use Rattle.io_traits.specs.Watched.{device_of}
use Rattle.bech32_hrp.specs.HrpBytes.{hrp_bytes}
use Rattle.bech32_segwit.specs.Unchecked.{WritesFront}
use Rattle.bech32_segwit.proofs.Fronts.{front_through}
use Rattle.bech32_segwit.proofs.unchecked.front_to_fmt.Goals as goal

pub returns : goal.returns
returns g c =
    let took = g.W.Write.write_str_gives in
    let call = c.encode_into_fmt_unchecked in
    let last : device_of call.new.sink ≡ c.fmt-1.given.0 = search rules in
    subst (λ w. OnOk call.result (WritesFront took c.args.fmt.now w c.args.upper (hrp_bytes c.args.hrp) c.args.version c.args.program.now)) last
    (subst (λ w. OnOk call.result (WritesFront took w (device_of call.new.sink) c.args.upper (hrp_bytes c.args.hrp) c.args.version c.args.program.now)) c.new-sink.ensures.device
    (on_ok_weaker _ (front_through took (λ s. device_of s) _ _ c.args.upper _ _ _) call.ensures.ok))

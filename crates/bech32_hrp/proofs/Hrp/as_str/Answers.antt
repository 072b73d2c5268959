use Rattle.std.proofs.Common.{subst, sym}
use Rattle.std.proofs.lemmas.Str.{IsUtf8-from_ascii}
use Rattle.std.specs.Str.{IsUtf8}
use Rattle.bech32_hrp.specs.HrpBytes.{hrp_bytes}
use Rattle.bech32_hrp.proofs.HrpParts.{hrp_bytes-ascii, IsAscii-from_list_all}
use Rattle.bech32_hrp.proofs.Hrp.as_str.Goals as goal

pub unreachable-requires : goal.unreachable-requires
unreachable-requires c =
    c.in-Err.ensures.cases.0 (subst IsUtf8 (sym c.as_bytes.ensures) (IsUtf8-from_ascii (hrp_bytes c.args.self.now) (IsAscii-from_list_all (hrp_bytes c.args.self.now) (hrp_bytes-ascii c.args.self.now))))

-- The parts of a confidential address, as it is kept.
use Rattle.std.specs.Prelude.{ℕ, List, take, drop}
use Rattle.bech32_gf.specs.declared.gf32.Fe32.{Fe32}
use Rattle.bech32_hrp.specs.HrpBytes.{hrp_bytes}
use Rattle.bech32_hrp.specs.declared.Hrp.{Hrp}
use Rattle.liquid.specs.declared.address.Address.{Address}

-- its human-readable part
abbrev pub confidential_hrp : Address → Hrp
confidential_hrp a = a.hrp

-- the bytes of that part, in the case of the text
abbrev pub confidential_part : Address → List ℕ
confidential_part a = hrp_bytes a.hrp

-- its witness version
abbrev pub confidential_version : Address → Fe32
confidential_version a = a.witness_version

-- the bytes behind the version
abbrev pub confidential_payload : Address → List ℕ
confidential_payload a = take a.size a.bytes

-- its blinding key: the first 33 of them
abbrev pub confidential_key : Address → List ℕ
confidential_key a = take 33 (confidential_payload a)

-- its program: the others
abbrev pub confidential_program : Address → List ℕ
confidential_program a = drop 33 (confidential_payload a)

use Rattle.bech32_gf_ext.specs.Fe32768 as elements
use Rattle.bech32_gf_ext.specs.laws.Fe32ExtLaws.{eq_is_equal}
use Rattle.bech32_gf_ext.proofs.fe32768.Fe32768OperationsArithmetic.is_zero.Goals as goal

pub returns : goal.returns
returns c = rw c.equals.ensures (rw c.zero.ensures (eq_is_equal c.args.self elements.zero))

use Rattle.bech32_gf.proofs.Logarithms.{product-one}
use Rattle.bech32_gf.proofs.gf32.product_of_one.Goals as goal

pub returns : goal.returns
returns c = product-one

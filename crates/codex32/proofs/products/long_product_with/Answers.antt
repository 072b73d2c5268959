use Rattle.std.proofs.Common.{refl}
use Rattle.codex32.proofs.ProductRows.{long_row}
use Rattle.codex32.proofs.products.long_product_with.Goals as goal

pub returns : goal.returns
returns c = rw (c.xor_selected.ensures, c.to_u8.ensures) (record { row = long_row c.args.element; words = refl })

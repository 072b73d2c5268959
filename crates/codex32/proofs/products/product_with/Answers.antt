use Rattle.std.proofs.Common.{refl}
use Rattle.codex32.proofs.ProductRows.{row}
use Rattle.codex32.proofs.products.product_with.Goals as goal

pub returns : goal.returns
returns c = rw (c.xor_selected.ensures, c.to_u8.ensures) (record { row = row c.args.element; words = refl })

use Rattle.std.proofs.Common.{sym, ◌∙◌, arith}
use Rattle.bech32_checksum.proofs.Shifts.{highest_at, shifted}
use Rattle.bech32_checksum.proofs.packed.integers.U32PackedFe32.mul_by_x_then_add.Goals as goal

pub returns-clause-highest : goal.returns-clause-highest
returns-clause-highest c h =
    c.unpack-highest.ensures.value ∙ sym (highest_at c.args.self.now c.args.degree (c.requires.positive h) c.requires.clear)

pub returns-clause-others : goal.returns-clause-others
returns-clause-others c h =
    rw c.from.ensures (shifted 32 c.args.self.now c.args.degree c.args.add (c.requires.positive h) (omega arith))

use Rattle.std.proofs.Common.{◌<◌, length, arith}
use Rattle.bech32_more_calls.proofs.descriptor.checks.put_checksum.Goals as goal

pub returns-then-buffer-lt8-clause-refused : goal.returns-then-buffer-lt8-clause-refused
returns-then-buffer-lt8-clause-refused c = (c.in-Ok.ensures.characters_are, c.if-buffer-lt8.true)

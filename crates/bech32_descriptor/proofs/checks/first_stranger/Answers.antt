use Rattle.std.proofs.Common.{sym}
use Rattle.bech32_descriptor.specs.Descriptor.{is_stranger}
use Rattle.bech32_descriptor.proofs.Printed.{none_found}
use Rattle.bech32_descriptor.proofs.checks.first_stranger.Goals as goal

pub returns-then-are_characters : goal.returns-then-are_characters
returns-then-are_characters c = sym (none_found is_stranger c.args.payload.now (sym c.if-are_characters.ensures))

use Rattle.bech32_descriptor.proofs.Rewritten.{changed_ready}
use Rattle.bech32_descriptor.proofs.scratch.set_byte.Goals as goal

pub change_of-change-requires : goal.change_of-change-requires
change_of-change-requires c = record {
  long = c.requires.ready.long;
  few = c.requires.ready.few;
  within = c.requires.within;
  enough = c.requires.ready.enough;
}

pub returns-clause-ready : goal.returns-clause-ready
returns-clause-ready c =
    rw c.change_of-change.ensures (changed_ready c.args.rows.now c.args.text.now c.args.word c.args.i c.args.b c.requires.ready c.requires.within)

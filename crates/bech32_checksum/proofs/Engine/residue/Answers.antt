use Rattle.bech32_checksum.proofs.Engine.residue.Goals as goal

pub returns-clause-value : goal.returns-clause-value
returns-clause-value g c = c.self.view_is

pub returns-clause-clear : goal.returns-clause-clear
returns-clause-clear g c = c.self.invariant

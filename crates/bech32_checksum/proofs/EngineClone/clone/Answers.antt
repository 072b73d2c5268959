use Rattle.bech32_checksum.proofs.EngineClone.clone.Goals as goal

pub returns : goal.returns
returns g c = record { cases = c.self.view_is }

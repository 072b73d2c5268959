use Rattle.codex32.proofs.dealing.put_all_derived.Goals as goal

pub put_derived_at-requires-clause-whole : goal.put_derived_at-requires-clause-whole
put_derived_at-requires-clause-whole c = c.requires.whole c.index_of.result

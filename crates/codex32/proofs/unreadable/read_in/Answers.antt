use Rattle.std.proofs.Common.{rules, ◌≡◌, ◌++◌, ◌∷◌, [], ap, ◌∙◌}
use Rattle.std.proofs.lemmas.List.{take_all}
use Rattle.codex32.specs.Damaged.{read_data}
use Rattle.codex32.proofs.Reading.{read_more}
use Rattle.codex32.proofs.unreadable.read_in.Goals as goal

pub loop-c-preserved : goal.loop-c-preserved
loop-c-preserved g c =
    let pushed : c.push.new.self.items ≡ c.loop-c.read.items ++ (c.read_of.result ∷ []) = search rules in
    pushed ∙ read_more c.args.damaged.now c.loop-c.read.items c.loop-c.c-index c.read_of.result c.loop-c-test.true c.loop-c.invariant c.read_of.ensures

pub returns : goal.returns
returns g c = c.loop-c.invariant ∙ ap read_data (take_all c.loop-c.c-index c.args.damaged.now c.loop-c-test.false)

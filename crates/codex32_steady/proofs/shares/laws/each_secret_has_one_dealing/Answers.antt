use Rattle.bech32_gf.specs.laws.Fe32Laws.{is_field}
use Rattle.codex32_steady.proofs.Dealt.{one_dealing}
use Rattle.codex32_steady.proofs.shares.laws.each_secret_has_one_dealing.Goals as goal

pub returns : goal.returns
returns c = λ n s ds bs u v once apart same shares size. one_dealing is_field n s u ds bs v once apart same shares size

use Rattle.bech32_gf.specs.laws.Fe32Laws.{is_field}
use Rattle.codex32_steady.proofs.ShareTexts.{one_secret_text}
use Rattle.codex32_steady.proofs.shares.laws.fewer_shares_say_nothing.Goals as goal

pub returns : goal.returns
returns c = λ xs texts n s j v shares once size. one_secret_text is_field xs texts n s j v shares once size

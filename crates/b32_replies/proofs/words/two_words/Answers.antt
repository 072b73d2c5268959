use Rattle.std.proofs.Common.{refl}
use Rattle.b32_replies.specs.Counted.{one_of}
use Rattle.b32_replies.proofs.Counted.{both, first-none, one-none, one-some, others-none}
use Rattle.b32_replies.proofs.words.two_words.Goals as goal

pub returns-in_err-first : goal.returns-in_err-first
returns-in_err-first c = rw c.from_residual.ensures (first-none one_of _ refl c.in_err-first.ensures)

pub returns-in_err-second : goal.returns-in_err-second
returns-in_err-second c = rw c.from_residual-in_err-second.ensures (others-none one_of _ _ _ c.in_ok-first.ensures.0 (one-none _ c.in_err-second.ensures))

pub returns : goal.returns
returns c = both one_of _ _ _ _ c.in_ok-first.ensures.0 c.in_ok-first.ensures.1 (one-some _ _ c.in_ok-second.ensures.0 c.in_ok-second.ensures.1)

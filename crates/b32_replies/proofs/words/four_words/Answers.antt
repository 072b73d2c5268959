use Rattle.std.proofs.Common.{refl}
use Rattle.b32_replies.specs.Counted.{three_of}
use Rattle.b32_replies.proofs.Counted.{both, first-none, others-none}
use Rattle.b32_replies.proofs.words.four_words.Goals as goal

pub returns-in_err-first : goal.returns-in_err-first
returns-in_err-first c = rw c.from_residual.ensures (first-none three_of _ refl c.in_err-first.ensures)

pub returns-in_err-others : goal.returns-in_err-others
returns-in_err-others c = rw c.from_residual-in_err-others.ensures (others-none three_of _ _ _ c.in_ok-first.ensures.0 c.in_err-others.ensures)

pub returns : goal.returns
returns c = both three_of _ _ _ _ c.in_ok-first.ensures.0 c.in_ok-first.ensures.1 c.in_ok-others.ensures

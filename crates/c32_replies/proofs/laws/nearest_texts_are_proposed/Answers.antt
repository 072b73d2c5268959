use Rattle.codex32.specs.Nearest.{IsNearestLongText, IsNearestText}
use Rattle.codex32.specs.Strings.{frame_refusal, long_frame_refusal}
use Rattle.c32_replies.proofs.OneAnswer.{not_proposed, proposed}
use Rattle.c32_replies.proofs.laws.nearest_texts_are_proposed.Goals as goal

pub returns-clause-some : goal.returns-clause-some
returns-clause-some c = λ text nearest said framed is answer. proposed IsNearestText frame_refusal text said framed nearest is answer

pub returns-clause-none : goal.returns-clause-none
returns-clause-none c = λ text said framed none answer. not_proposed IsNearestText frame_refusal text said framed none answer

pub returns-clause-long_some : goal.returns-clause-long_some
returns-clause-long_some c = λ text nearest said framed is answer. proposed IsNearestLongText long_frame_refusal text said framed nearest is answer

pub returns-clause-long_none : goal.returns-clause-long_none
returns-clause-long_none c = λ text said framed none answer. not_proposed IsNearestLongText long_frame_refusal text said framed none answer

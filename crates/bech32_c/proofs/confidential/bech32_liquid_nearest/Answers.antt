use Rattle.bech32_c.proofs.Counted.{all-put, no_other, not_all-put, zero_or_92}
use Rattle.bech32_c.proofs.confidential.bech32_liquid_nearest.Goals as goal

pub returns-in-Ok-clause-value : goal.returns-in-Ok-clause-value
returns-in-Ok-clause-value c = λ zero. rw c.counted.ensures.count (c.in-Ok.ensures.all (all-put _ _ c.counted.ensures.number zero))

pub returns-in-Ok-clause-first : goal.returns-in-Ok-clause-first
returns-in-Ok-clause-first c = λ is. rw c.counted.ensures.count (c.in-Ok.ensures.first (not_all-put _ _ c.counted.ensures.number is))

pub returns-in-Ok-clause-room : goal.returns-in-Ok-clause-room
returns-in-Ok-clause-room c = λ is. rw c.counted.ensures.count (c.in-Ok.ensures.room (not_all-put _ _ c.counted.ensures.number is))

pub returns-in-Ok-clause-accepts : goal.returns-in-Ok-clause-accepts
returns-in-Ok-clause-accepts c = λ _ _. zero_or_92 _ _ c.counted.ensures.number

pub returns-in-Ok-clause-refused : goal.returns-in-Ok-clause-refused
returns-in-Ok-clause-refused c = λ some other. absurd (no_other _ _ c.counted.ensures.number some other)

pub returns-in-Ok-clause-same : goal.returns-in-Ok-clause-same
returns-in-Ok-clause-same c = λ some other. absurd (no_other _ _ c.counted.ensures.number some other)

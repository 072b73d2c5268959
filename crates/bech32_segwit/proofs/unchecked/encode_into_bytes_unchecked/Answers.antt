use Rattle.std.proofs.Common.{take}
use Rattle.bech32_segwit.proofs.Fronts.{appends_front, appends_part, error_of_front}
use Rattle.bech32_segwit.proofs.unchecked.encode_into_bytes_unchecked.Goals as goal

pub returns-clause-ok : goal.returns-clause-ok
returns-clause-ok g c =
    appends_front _ _ _ _ _ _ (take c.put_front-count.result c.put_front-count.new.buffer) c.put_front-count.ensures.front c.write_all.result c.write_all.ensures.ok

pub returns-clause-beginning : goal.returns-clause-beginning
returns-clause-beginning g c =
    appends_part _ _ _ _ _ _ (take c.put_front-count.result c.put_front-count.new.buffer) c.put_front-count.ensures.front c.write_all.result c.write_all.ensures.beginning

pub returns-clause-error : goal.returns-clause-error
returns-clause-error g c =
    error_of_front g.S.ByteSink.write_gives _ _ _ _ (take c.put_front-count.result c.put_front-count.new.buffer) c.put_front-count.ensures.front _ c.write_all.result c.write_all.ensures.error

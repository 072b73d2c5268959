use Rattle.std.proofs.Common.{◌≡◌, true, false}
use Rattle.bech32_decode.proofs.reading.Reading.is_accepted.Goals as goal

pub returns-in-Ok : goal.returns-in-Ok
returns-in-Ok g c = (
  λ yes. record {
    grammar = c.args.self.now.is_reading.grammar;
    text_length = c.in-Ok.ensures.0;
    data_length = c.in-Ok.ensures.1;
    has_target = c.has_target.ensures.0 yes;
  },
  λ is. c.has_target.ensures.1 is.has_target,
)

pub returns-in-Err : goal.returns-in-Err
returns-in-Err g c = (λ yes. let no_ : false ≡ true = yes in absurd cc, λ is. absurd (c.in-Err.ensures.1 (is.text_length, is.data_length)))

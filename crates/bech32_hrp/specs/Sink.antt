-- What a sink holds of a text that came in pieces.
use Rattle.std.specs.Prelude.{◌≡◌, ℕ, ◌-◌, ◌^◌, List, ◌++◌, length, take, min}
use Rattle.bech32_hrp.specs.declared.sink.HrpSink.{HrpSink}

-- the first 83 bytes of the text, and its length as far as a usize counts
pub record Holds (sink : HrpSink) (text : List ℕ) : Type 0 where
  pub front : take sink.length sink.buf ≡ take 83 text
  pub count : sink.length ≡ min (length text) (2 ^ 64 - 1)

-- a piece: what was a text is that text and the piece
abbrev pub Takes : HrpSink → List ℕ → HrpSink → Type 0
Takes s piece t = (text : List ℕ) → Holds s text → Holds t (text ++ piece)

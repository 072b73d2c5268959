use Rattle.std.specs.Prelude.{flat_map}
use Rattle.std.proofs.Common.{◌≡◌, ◌≤◌, ◌++◌, length, take, drop}
use Rattle.bech32_calls.proofs.listed.put_texts.Given as goal

abbrev pub invariant-loop-i : goal.invariant-loop-i
invariant-loop-i g l = record {
  size : l.end ≡ length (flat_map g.T.AsText.text_of (take l.i l.rows));
  fits : l.end ≤ length l.initial.texts;
  buffer : l.texts ≡ flat_map g.T.AsText.text_of (take l.i l.rows) ++ drop l.end l.initial.texts;
}

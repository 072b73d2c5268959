use Rattle.std.proofs.Common.{◌≡◌, ◌++◌, length, drop}
use Rattle.codex32_steady.proofs.texts.payload.put_bytes.Given as goal

-- the bytes that were given are written
abbrev pub invariant-loop-byte : goal.invariant-loop-byte
invariant-loop-byte l = record {
  counted : l.count ≡ length l.yielded;
  put : l.buffer ≡ l.yielded ++ drop l.count l.initial.buffer;
}

use Rattle.std.proofs.Common.{◌∙◌, [], ◌∷◌, take, ap, sym, refl, arith, length-append, take-append-drop}
use Rattle.bech32_decode.specs.Readers.{bytes_to_come}
use Rattle.bech32_decode.proofs.DataBytes.{byte_more, one_fits, one_given}
use Rattle.bech32_decode.proofs.data_bytes.put_rest.Goals as goal

pub loop-byte-init : goal.loop-byte-init
loop-byte-init c = record {
  given = ap bytes_to_come c.into_iter-byte-iterator.ensures.into_iter_gives ∙ c.new-byte-items.ensures;
  counted = omega arith;
  put = sym (take-append-drop c.args.at c.args.buffer.now);
}

pub bounds-buffer-count : goal.bounds-buffer-count
bounds-buffer-count c =
    let fits = one_fits c.loop-byte.yielded _ _ _ c.in-Some.byte c.loop-byte.invariant.given c.in-Some.ensures.steps in
    omega (arith, c.requires.room, fits, c.loop-byte.invariant.counted)

pub loop-byte-preserved : goal.loop-byte-preserved
loop-byte-preserved c =
    let fits = one_fits c.loop-byte.yielded _ _ _ c.in-Some.byte c.loop-byte.invariant.given c.in-Some.ensures.steps in
    record {
      given = one_given c.loop-byte.yielded _ _ _ c.in-Some.byte c.loop-byte.invariant.given c.in-Some.ensures.steps;
      counted = omega (arith, length-append c.loop-byte.yielded (c.in-Some.byte ∷ []), c.loop-byte.invariant.counted);
      put = byte_more (take c.args.at c.args.buffer.now) c.loop-byte.yielded c.args.buffer.now c.loop-byte.buffer c.args.at c.loop-byte.count c.in-Some.byte
          (omega (arith, c.requires.room)) c.loop-byte.invariant.counted (omega (arith, c.requires.room, fits, c.loop-byte.invariant.counted)) refl c.loop-byte.invariant.put;
    }

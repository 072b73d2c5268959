use Rattle.std.proofs.Common.{◌≡◌, length, true, false, arith, rules}
use Rattle.std.proofs.lemmas.Result.{err_from_is_err_and}
use Rattle.codex32.specs.Share.{IsShareOf}
use Rattle.codex32_calls.specs.declared.refusal.Refusal.TheVariants as refusals
use Rattle.codex32_calls.proofs.Accepted.{no_share_fault, utf8-from_either}
use Rattle.codex32_calls.proofs.recover.put_bytes_of.Goals as goal

clash : false ≡ true → ⊥
clash e = cc

pub from_utf8_unchecked-requires : goal.from_utf8_unchecked-requires
from_utf8_unchecked-requires c = utf8-from_either c.args.string.now c.requires

pub unreachable-requires : goal.unreachable-requires
unreachable-requires c = clash (c.in_default.ensures.accepts.1 (rw c.from_utf8_unchecked.ensures c.requires))

pub returns-in_err-count-clause-refused : goal.returns-in_err-count-clause-refused
returns-in_err-count-clause-refused c =
    let of : IsShareOf c.args.string.now c.in-Ok.share = rw c.from_utf8_unchecked.ensures at c.in-Ok.ensures.parts in
    let p = err_from_is_err_and c.from_residual.result c.from_residual.ensures.1 in
    rw p.1
    (rw p.2
    (record {
      header = c.in-Ok.share.header;
      payload = c.in-Ok.share.payload.now;
      is_string = of.is_string;
      holds = c.in_err-count.ensures;
    }))

pub returns-then-count-bytes-clause-refused : goal.returns-then-count-bytes-clause-refused
returns-then-count-bytes-clause-refused c =
    let of : IsShareOf c.args.string.now c.in-Ok.share = rw c.from_utf8_unchecked.ensures at c.in-Ok.ensures.parts in
    record {
      header = c.in-Ok.share.header;
      payload = c.in-Ok.share.payload.now;
      is_string = of.is_string;
      holds = (c.in_ok-count.ensures.1, omega (arith, c.if-count-bytes.true, c.in_ok-count.ensures.0));
    }

pub returns-in_err-count-clause-accepts : goal.returns-in_err-count-clause-accepts
returns-in_err-count-clause-accepts c can =
    let of : IsShareOf c.args.string.now c.in-Ok.share = rw c.from_utf8_unchecked.ensures at c.in-Ok.ensures.parts in
    absurd (no_share_fault c.args.string.now (length c.args.bytes.now) (refusals.Payload c.in_err-count.field-0.0) can
    (record {
      header = c.in-Ok.share.header;
      payload = c.in-Ok.share.payload.now;
      is_string = of.is_string;
      holds = c.in_err-count.ensures;
    }))

pub returns-then-count-bytes-clause-accepts : goal.returns-then-count-bytes-clause-accepts
returns-then-count-bytes-clause-accepts c can =
    absurd (no_share_fault c.args.string.now (length c.args.bytes.now) refusals.NoRoom can (returns-then-count-bytes-clause-refused c))

pub returns-clause-value : goal.returns-clause-value
returns-clause-value c =
    let of : IsShareOf c.args.string.now c.in-Ok.share = rw c.from_utf8_unchecked.ensures at c.in-Ok.ensures.parts in (
      c.in-Ok.share.header,
      record {
        payload = c.in-Ok.share.payload.now;
        is_string = of.is_string;
        few = c.in_ok-count.ensures.1;
        put = record { fits = omega (arith, c.if-count-bytes.false, c.in_ok-count.ensures.0); buffer = search rules; count_is = c.in_ok-count.ensures.0 };
      },
    )

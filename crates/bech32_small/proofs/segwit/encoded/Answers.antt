use Rattle.std.proofs.Common.{◌≢◌, ◌<◌, length, inl, inr, refl, subst, arith}
use Rattle.std.proofs.lemmas.Result.{err_from_is_err_and}
use Rattle.bech32_gf.specs.declared.gf32.Fe32.{Fe32}
use Rattle.bech32_decode.specs.Segwit.{IsLowerAddress, segwit_code}
use Rattle.bech32_segwit.specs.SegwitEncoding.{HasAddress, IsSegwitEncodeRefusal, address_length}
use Rattle.bech32_segwit.specs.declared.error.EncodeError.TheVariants.{Memory}
use Rattle.bech32_segwit.proofs.SegwitEncoding.{address-from_text}
use Rattle.bech32_calls.specs.declared.refusal.Refusal.TheVariants.{BadNumber, NoAddress, NoRoom}
use Rattle.bech32_small.proofs.Numbers.{numbered}
use Rattle.bech32_small.proofs.segwit.encoded.Goals as goal

pub returns-clause-value : goal.returns-clause-value
returns-clause-value c =
    let hrp = c.args.hrp.now in
    let version = c.in-Some.element in
    let program = c.args.program.now in
    let (small, version_is) = (rw c.in-Some.is at c.element_of.ensures) in
    let (written, is_text, put) = c.put_in_room.ensures (segwit_code version) c.target_of-target.ensures in
    record {
      text = written;
      is_hrp = c.in_ok-test_part.ensures;
      small = small;
      is_address = subst (λ (v : Fe32). IsLowerAddress hrp v program written) version_is
          (address-from_text hrp version program written c.in-Ok.ensures.0 is_text);
      put = put;
    }

pub returns-in_default-clause-refused : goal.returns-in_default-clause-refused
returns-in_default-clause-refused c =
    record { refusal = BadNumber; holds = inl (rw c.in_default.is at c.element_of.ensures, refl); number = refl }

pub returns-in_err-test_part-clause-refused : goal.returns-in_err-test_part-clause-refused
returns-in_err-test_part-clause-refused c =
    let p = err_from_is_err_and c.from_residual.result c.from_residual.ensures.1 in
    let small = (rw c.in-Some.is at c.element_of.ensures).0 in
    rw p.1 (rw p.2 (numbered _ (λ e f. inr (small, inl f)) c.in_err-test_part.ensures))

pub returns-in-Err-clause-refused : goal.returns-in-Err-clause-refused
returns-in-Err-clause-refused c =
    let (small, version_is) = (rw c.in-Some.is at c.element_of.ensures) in
    record {
      refusal = NoAddress c.in-Err.e;
      holds = inr (
        small,
        inr (
          c.in_ok-test_part.ensures,
          subst (λ (v : Fe32). IsSegwitEncodeRefusal c.args.hrp.now v c.args.program.now c.in-Err.e × (c.in-Err.e ≢ Memory)) version_is c.in-Err.ensures,
        ),
      );
      number = c.number.ensures.value;
    }

pub returns-then-size-text-clause-refused : goal.returns-then-size-text-clause-refused
returns-then-size-text-clause-refused c =
    let (small, version_is) = (rw c.in-Some.is at c.element_of.ensures) in
    let lack : length c.args.text.now < address_length c.args.hrp.now c.args.program.now = omega (arith, c.in-Ok.ensures.1, c.if-size-text.true) in
    record {
      refusal = NoRoom;
      holds = inr (small, inr (c.in_ok-test_part.ensures, (subst (λ (v : Fe32). HasAddress c.args.hrp.now v c.args.program.now) version_is c.in-Ok.ensures.0, lack)));
      number = refl;
    }

pub put_in_room-requires : goal.put_in_room-requires
put_in_room-requires c = omega (arith, c.in-Ok.ensures.1, c.if-size-text.false)

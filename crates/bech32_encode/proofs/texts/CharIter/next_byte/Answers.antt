use Rattle.std.proofs.Common.{arith, drop, refl}
use Rattle.bech32_encode.specs.WitnessVersion.{version_steps}
use Rattle.bech32_encode.specs.ChecksumElements.{then_checksum}
use Rattle.bech32_checksum.specs.Encoded.{char_of_element}
use Rattle.bech32_encode.specs.TextFrom.{text_front}
use Rattle.bech32_encode.proofs.EncodedTexts.{front-past}
use Rattle.bech32_encode.proofs.FrontedWalks.{front_step, inner_item}
use Rattle.bech32_checksum.proofs.HrpPlaces.{drop_of_some}
use Rattle.bech32_encode.proofs.texts.CharIter.next_byte.Goals as goal

pub returns-then-self-clause-steps : goal.returns-then-self-clause-steps
returns-then-self-clause-steps g c =
    let s = c.args.self.now in (
      front_step (version_steps g.I.Iterator.next_gives)
          (λ v. v.elements) (λ v xs. then_checksum g.Ck.MidstateRepr.PackedFe32.number g.Ck.Checksum.code v.engine v.tail xs)
          (λ u. u.checksummed) (λ u. drop u.place (text_front u.hrp.now)) char_of_element
          _ _ c.front_byte-byte.result (drop_of_some (text_front s.hrp.now) s.place c.front_byte-byte.result c.front_byte-byte.ensures.byte) refl,
      c.front_byte-byte.ensures.ascii,
    )

pub returns-in-Some-clause-steps : goal.returns-in-Some-clause-steps
returns-in-Some-clause-steps g c =
    let s = c.args.self.now in
    let past = front-past s.hrp.now s.place (omega (arith, c.if-self.false)) in (
      inner_item (version_steps g.I.Iterator.next_gives)
          (λ v. v.elements) (λ v xs. then_checksum g.Ck.MidstateRepr.PackedFe32.number g.Ck.Checksum.code v.engine v.tail xs)
          (λ u. u.checksummed) (λ u. drop u.place (text_front u.hrp.now)) char_of_element
          _ _ c.in-Some.fe c.to_char.result c.to_char.ensures.value past past c.in-Some.ensures.steps,
      c.to_char.ensures.ascii,
    )

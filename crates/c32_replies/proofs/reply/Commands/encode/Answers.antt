use Rattle.std.specs.Prelude.{◌||◌, true}
use Rattle.std.proofs.Common.{rules, inr, ◌≡◌, ◌≤◌, ◌<◌, ◌++◌, arith, codes, refl, inl, length, string_bytes}
use Rattle.codex32.specs.Encode.{IsEncodedString, is_byte_count, is_long_byte_count}
use Rattle.codex32.specs.declared.error.EncodeError.TheVariants as encode_errors
use Rattle.line_program.proofs.Pieces.{two-pieces}
use Rattle.c32_replies.proofs.Replies.{says-encoded, says-not_encoded}
use Rattle.c32_replies.proofs.Sizes.{too-many}
use Rattle.c32_replies.specs.declared.refusal.Refusal.TheVariants as refusals
use Rattle.c32_replies.proofs.reply.Commands.encode.Goals as goal

pub returns-in_default-clause-answer : goal.returns-in_default-clause-answer
returns-in_default-clause-answer g c = (inr (record { error = refusals.BadHex; is_refusal = c.in_default.ensures.put.1; spelling = refl }), refl)

pub returns-then-size-gt-ROOM-clause-answer : goal.returns-then-size-gt-ROOM-clause-answer
returns-then-size-gt-ROOM-clause-answer g c =
    let (bytes, digits, size, there) = c.in-Ok.ensures.put in
    let many : 64 < length bytes = omega (arith, size, c.if-size-gt-ROOM.true) in (
      says-not_encoded c.args.header.0.now c.args.header.1.now c.args.header.2.now c.args.hex.now bytes encode_errors.Size digits c.in_ok-header.ensures.0 (inl (refl, too-many (length bytes) many)),
      refl,
    )

pub returns-clause-answer : goal.returns-clause-answer
returns-clause-answer g c =
    let (bytes, digits, size, there) = c.in-Ok.ensures.put in
    let (fine, threshold_is, identifier_is, share_index_is) = c.in_ok-header.ensures in
    let out = c.args.out.now.items in
    let header = c.in_ok-header.header in
    let text = string_bytes c.in_ok-text.text in
    let few : c.in-Ok.size ≤ 64 = omega (arith, c.if-size-gt-ROOM.false) in
    let at = there few in
    let is : IsEncodedString header bytes text = rw at at c.in_ok-text.ensures.text in
    let counted : is_byte_count (length bytes) || is_long_byte_count (length bytes) ≡ true = rw at at c.in_ok-text.ensures.refused in
    let (payload, string, elements) = c.in_ok-text.ensures.string in
    let first : c.append.new.out.items ≡ out ++ codes "ok " = search rules in
    let second : c.append-2.new.out.items ≡ c.append.new.out.items ++ text = search rules in
    says-encoded c.args.header.0.now c.args.header.1.now c.args.header.2.now c.args.hex.now header bytes text payload out _
    (record { threshold_is = threshold_is; identifier_is = identifier_is; share_index_is = share_index_is })
    fine digits counted is string (two-pieces out (codes "ok ") text _ _ first second)

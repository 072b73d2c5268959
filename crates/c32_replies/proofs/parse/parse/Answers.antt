use Rattle.std.proofs.Common.{◌≡◌, rules, ◌++◌, ◌∷◌, [], refl, inl, arith, codes, length-append}
use Rattle.std.proofs.lemmas.Result.{err_from_is_err_and}
use Rattle.line_program.specs.Added.{Adds}
use Rattle.line_program.proofs.Pieces.{four-pieces}
use Rattle.c32_replies.specs.Reply.{IsParseAnswer}
use Rattle.c32_replies.proofs.Replies.{says-no_string}
use Rattle.c32_replies.proofs.Sizes.{payload-size, share_index-small}
use Rattle.c32_replies.proofs.parse.parse.Goals as goal

pub returns-in_err-parts : goal.returns-in_err-parts
returns-in_err-parts c =
    let p = err_from_is_err_and c.from_residual.result c.from_residual.ensures.1 in
    record {
      answer = rw p.1 (rw p.2 (says-no_string c.args.text.now c.in_err-parts.field-0.0 c.in_err-parts.ensures.refused, refl));
      capacity = search rules;
    }

pub overflow_cast-share_index : goal.overflow_cast-share_index
overflow_cast-share_index c =
    let small = share_index-small _ _ _ _ _ _ _ c.in_ok-parts.ensures.parts.is_string in
    omega (arith, small, c.share_index-share_index.ensures)

pub returns : goal.returns
returns c =
    let parts = c.in_ok-parts.parts in
    let is = c.in_ok-parts.ensures.parts.is_string in
    let out = c.args.out.now.items in
    let first : c.append.new.out.items ≡ out ++ (111 ∷ 107 ∷ 32 ∷ parts.threshold ∷ 32 ∷ []) = search rules in
    let second : c.append-2.new.out.items ≡ c.append.new.out.items ++ parts.identifier.now = search rules in
    let third : c.append-3.new.out.items ≡ c.append-2.new.out.items ++ (32 ∷ parts.share_index ∷ 32 ∷ []) = search rules in
    let fourth : c.append-4.new.out.items ≡ c.append-3.new.out.items ++ parts.payload.now = search rules in
    let answer : Adds (IsParseAnswer c.args.text.now) out c.append-4.new.out.items = record {
      said = codes "ok " ++ (parts.threshold ∷ 32 ∷ (parts.identifier.now ++ (32 ∷ parts.share_index ∷ 32 ∷ parts.payload.now)));
      says = inl (record {
        hrp = c.in_ok-parts.ensures.parts.hrp;
        threshold = parts.threshold;
        identifier = parts.identifier.now;
        share_index = parts.share_index;
        payload = parts.payload.now;
        checksum = c.in_ok-parts.ensures.parts.checksum;
        is_string = is;
        spelling = refl;
      });
      size = omega (
        arith,
        payload-size _ _ _ _ _ _ _ is,
        is.identifier_length,
        length-append parts.identifier.now (32 ∷ parts.share_index ∷ 32 ∷ parts.payload.now),
      );
      added = four-pieces out (111 ∷ 107 ∷ 32 ∷ parts.threshold ∷ 32 ∷ []) parts.identifier.now (32 ∷ parts.share_index ∷ 32 ∷ []) parts.payload.now _ _ _ _ first second third fourth;
    } in
    record { answer = answer; capacity = omega arith }

use Rattle.std.proofs.Common.{◌≡◌, ◌++◌, rules, arith, ◌∙◌, List, ℕ, ap, sym, codes, refl, take}
use Rattle.std.proofs.lemmas.List.{take_at}
use Rattle.std.proofs.lemmas.Result.{err_from_is_err_and}
use Rattle.b32_replies.specs.Hex.{hex_of}
use Rattle.codex32.specs.Share.{bytes_of_share, header_of_share, identifier_of_share, index_of_share, threshold_of_share}
use Rattle.line_program.proofs.Pieces.{three-pieces}
use Rattle.c32_replies.specs.Reply.{header_words}
use Rattle.c32_replies.proofs.Replies.{says-left_over, says-share}
use Rattle.c32_replies.proofs.Sizes.{bytes-few}
use Rattle.c32_replies.proofs.share.share.Goals as goal

pub returns-in_err-count : goal.returns-in_err-count
returns-in_err-count c =
    let p = err_from_is_err_and c.from_residual-in_err-count.result c.from_residual-in_err-count.ensures.1 in
    record {
      answer = rw p.1 (rw p.2 (says-left_over c.args.text.now c.in_ok-share.share c.in_err-count.field-0.0 c.in_ok-share.ensures.parts c.in_err-count.ensures, refl));
      capacity = search rules;
    }

pub put_bytes-requires : goal.put_bytes-requires
put_bytes-requires c = bytes-few c.in_ok-share.share

pub returns : goal.returns
returns c =
    let share = c.in_ok-share.share in
    let out = c.args.out.now.items in
    let front = header_words (threshold_of_share share) (identifier_of_share share) (index_of_share share) in
    let bytes = bytes_of_share share in
    let count = c.in_ok-count.count in
    let first : c.append.new.out.items ≡ out ++ codes "ok " = search rules in
    let header : c.header.result ≡ header_of_share share = c.header.ensures in
    let second : c.append_header.new.out.items ≡ c.append.new.out.items ++ front = rw header at c.append_header.ensures.items in
    let filled : take count c.put_bytes.new.buffer ≡ bytes = ap (λ (l : List ℕ). take count l) c.put_bytes.ensures.buffer ∙ take_at bytes _ count (sym c.in_ok-count.ensures.0) in
    let third : c.append_hex.new.out.items ≡ c.append_header.new.out.items ++ hex_of (take count c.put_bytes.new.buffer) = search rules in
    let whole = third ∙ ap (λ (l : List ℕ). c.append_header.new.out.items ++ hex_of l) filled in
    record {
      answer = says-share c.args.text.now out _ share c.in_ok-share.ensures.parts c.in_ok-count.ensures.1
          (three-pieces out (codes "ok ") front (hex_of bytes) _ _ _ first second whole);
      capacity = omega arith;
    }

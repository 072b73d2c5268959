use Rattle.std.specs.Prelude.{string_bytes}
use Rattle.std.proofs.Common.{rules, ◌≡◌, ℕ, List, None, subst}
use Rattle.codex32.specs.Lengths.{may_have}
use Rattle.codex32.specs.Damaged.{read_data, read_text, unreadable}
use Rattle.codex32.specs.Strings.{frame_refusal_by}
use Rattle.codex32.proofs.Proposed.{answer_from_found, framed-from_parts}
use Rattle.codex32.proofs.nearest.proposed_in.Goals as goal

pub nearest_read_in-requires : goal.nearest_read_in-requires
nearest_read_in-requires g c =
    let may = may_have g.Ck.StringChecksum.lengths in
    let part : List ℕ = c.in_ok-part.part.now in
    let damaged : List ℕ = c.in_ok-part.damaged.now in
    let parts = c.in_ok-part.ensures in
    let read : c.deref.result.now ≡ read_data damaged = search rules in
    let front : c.as_bytes-3.result.now ≡ part = search rules in
    let fine = subst (λ w. frame_refusal_by (may_have w) (read_text c.args.text.now) ≡ None) c.lengths.ensures parts.0 in
    (search rules, rw read (rw front (framed-from_parts may c.args.text.now part damaged parts.1 fine)))

pub returns : goal.returns
returns g c =
    let text = c.args.text.now in
    let part : List ℕ = c.in_ok-part.part.now in
    let damaged : List ℕ = c.in_ok-part.damaged.now in
    let parts = c.in_ok-part.ensures in
    let read : c.deref.result.now ≡ read_data damaged = search rules in
    let front : c.as_bytes-3.result.now ≡ part = search rules in
    let at : c.deref-2.result.now ≡ unreadable damaged = search rules in (
      subst (λ w. frame_refusal_by (may_have w) (read_text text) ≡ None) c.lengths.ensures parts.0,
      answer_from_found g.Ck.Checksum.code text part damaged c.as_bytes-3.result.now c.deref.result.now c.deref-2.result.now parts.1 front read at string_bytes c.in_ok-nearest.nearest c.in_ok-nearest.ensures,
    )

use Rattle.std.proofs.Common.{◌≡◌, ◌∙◌, true, false, length, sym}
use Rattle.std.proofs.lemmas.Bool.{eq-eqb, eqb-true}
use Rattle.bech32_hrp.specs.HrpBytes.{hrp_bytes}
use Rattle.bech32_suggest.proofs.Adding.{adds_found, edits_read, edits_unread, if_ok}
use Rattle.bech32_suggest.proofs.tried.push_found.Goals as goal

pub returns-then-not-is_empty : goal.returns-then-not-is_empty
returns-then-not-is_empty g c =
    let w = c.args.wanted.now in
    let some : length w.unread.now ≡ 0 → ⊥ = λ e. absurd (let k : true ≡ false = sym (eq-eqb (length w.unread.now) 0 e) ∙ (sym c.is_empty.ensures ∙ c.if-not-is_empty.true) in cc k) in
    record {
      first = _;
      second = _;
      by_bech32 = c.in_ok-push_near.ensures;
      by_bech32m = c.in_ok-push_near-2.ensures;
      edits = edits_unread (hrp_bytes w.hrp.now) w.typed.now c.args.reading.now.text.now w.unread.now _ some;
    }

pub returns : goal.returns
returns g c =
    let w = c.args.wanted.now in
    let none : length w.unread.now ≡ 0 = eqb-true (length w.unread.now) 0 (sym c.is_empty.ensures ∙ c.if-not-is_empty.false) in
    adds_found (hrp_bytes w.hrp.now) w.typed.now c.args.reading.now.text.now w.unread.now w.errors _ _ _ _ c.push_edits-2.result c.in_ok-push_near.ensures c.in_ok-push_near-2.ensures
    (if_ok c.push_edits-2.result
    (λ h. edits_read (hrp_bytes w.hrp.now) w.typed.now c.args.reading.now.text.now w.unread.now _ _ _ none (rw c.by_bech32.ensures.text at c.in_ok-push_edits.ensures) h)
    c.push_edits-2.ensures)

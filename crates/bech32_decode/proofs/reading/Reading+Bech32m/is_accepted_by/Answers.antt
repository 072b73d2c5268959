use Rattle.std.specs.Prelude.{IsTrue, ◌↔◌}
use Rattle.std.proofs.Common.{◌∙◌, Bool, cond, sym, ap, subst}
use Rattle.bech32_checksum.specs.Code.{Code, bech32, bech32m}
use Rattle.bech32_decode.specs.Acceptance.{IsAccepted}
use Rattle.bech32_decode.proofs.reading.Reading+Bech32m.is_accepted_by.Goals as goal

pub returns-then-eq : goal.returns-then-eq
returns-then-eq c =
    let s = c.args.self.now in
    subst (λ (k : Code). IsTrue c.is_accepted.result ↔ IsAccepted k s.text.now s.hrp.now s.data_part.now)
    (sym (ap (λ (b : Bool). cond b bech32 bech32m) (sym c.eq.ensures ∙ c.if-eq.true)))
    (rw (c.by_bech32.ensures.text, c.by_bech32.ensures.hrp, c.by_bech32.ensures.data_part) at c.is_accepted.ensures)

pub returns-else-eq : goal.returns-else-eq
returns-else-eq c =
    let s = c.args.self.now in
    subst (λ (k : Code). IsTrue c.is_accepted-else-eq.result ↔ IsAccepted k s.text.now s.hrp.now s.data_part.now)
    (sym (ap (λ (b : Bool). cond b bech32 bech32m) (sym c.eq.ensures ∙ c.if-eq.false)))
    c.is_accepted-else-eq.ensures

use Rattle.std.proofs.Common.{◌≡◌, ◌+◌, ℕ, true, List, take, drop, sym, subst}
use Rattle.bech32_decode.specs.Acceptance.{IsAccepted}
use Rattle.testing_tools.specs.PlainChecksum.{code_of_plain}
use Rattle.testing_tools.proofs.Cuts.{none_up_to}
use Rattle.testing_tools.proofs.plain.accepts.Goals as goal

pub loop-at-preserved : goal.loop-at-preserved
loop-at-preserved c =
    none_up_to (code_of_plain c.args.checksum) c.args.text.now c.loop-at.at c.loop-at.invariant
    (λ is.
    let held = subst (λ (t : List ℕ). IsAccepted (code_of_plain c.args.checksum) t (take c.loop-at.at t) (drop (c.loop-at.at + 1) t)) (sym c.as_bytes-bytes.ensures.value) is in
    let yes_ : c.in_ok-accepts_at.field-0 ≡ true = c.in_ok-accepts_at.ensures.1 held in
    let no_ = c.if-branch.false in
    cc)

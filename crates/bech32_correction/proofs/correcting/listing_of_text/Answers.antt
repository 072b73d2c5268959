use Rattle.std.proofs.Common.{ℕ, List, MatchResult, subst}
use Rattle.bech32_correction.specs.Mistyped.{IsCorrectRefusal, IsListedCorrection}
use Rattle.bech32_correction.proofs.correcting.listing_of_text.Goals as goal

pub returns-clause-value : goal.returns-clause-value
returns-clause-value g c =
    let code = g.Ck.Checksum.code in
    subst (λ (text : List ℕ). MatchResult c.listing_of_reading.result (λ answer. IsListedCorrection code g.Ck.Checksum.bound text c.args.erasures.now answer) (λ e. IsCorrectRefusal code text e))
    c.in_ok-reading.ensures.value c.listing_of_reading.ensures.value

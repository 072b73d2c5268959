use Rattle.std.proofs.Common.{ℕ, List, MatchResult, subst}
use Rattle.bech32_checksum.specs.Code.{bech32m}
use Rattle.bech32_correction.specs.Mistyped.{IsListedInPlace, IsRefusal}
use Rattle.bech32_correction.proofs.in_place.bech32m_listing.Goals as goal

pub returns : goal.returns
returns c =
    subst (λ (text : List ℕ). MatchResult c.said_of_read.result (λ answer. IsListedInPlace bech32m 3 text c.args.erasures.now answer) (λ e. IsRefusal bech32m text e))
    c.in_ok-reading.ensures.value c.said_of_read.ensures

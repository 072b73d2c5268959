-- How far strings of one length are apart.
use Rattle.std.specs.Prelude.{◌≡◌, ◌⊎◌, ◌<◌, ◌==◌, ℕ, List}
use Rattle.bech32_bch.specs.Distance.{places_that_differ}
use Rattle.bech32_hrp.specs.Hrp.{lowered}

-- the texts are the same but for case, or differ in more characters than the bound
abbrev pub AreSameTextsOrFar : ℕ → List ℕ → List ℕ → Type 0
AreSameTextsOrFar bound text other =
    (lowered other ≡ lowered text)
    ⊎ (bound < places_that_differ (λ a b. a == b) (lowered text) (lowered other))

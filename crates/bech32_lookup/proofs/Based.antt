-- What a search over a base field found, where that field is the one of 32 elements.
use Rattle.std.specs.Prelude.{MatchOption}
use Rattle.std.proofs.Common.{◌≡◌, ℕ, List, Option, subst}
use Rattle.bech32_gf.specs.Fe32 as fe32
use Rattle.bech32_gf.specs.Field.{Ops}
use Rattle.bech32_gf.specs.declared.gf32.Fe32.{Fe32}
use Rattle.bech32_bch.specs.Listing.{IsListing}
use Rattle.bech32_bch.specs.Pattern.{Solves}
use Rattle.bech32_bch.specs.Search.{AreUsableRoots, IsCandidate}

pub candidate_over : {b : Ops Fe32} → b ≡ fe32.ops → (window : ℕ) (erasures : List ℕ) (count : ℕ) (listing : List (ℕ × Fe32))
    → IsCandidate b window erasures count listing → IsCandidate fe32.ops window erasures count listing
candidate_over same window erasures count listing = subst (λ (b : Ops Fe32). IsCandidate b window erasures count listing) same

pub found_over : {K : Type 0} {b : Ops Fe32} → b ≡ fe32.ops → (o : Ops K) (embed : Fe32 → K) (base : K) (start count window : ℕ) (residue : List Fe32) (erasures : List ℕ) (answer : Option (List (ℕ × Fe32)))
    → ((g : List Fe32) (e : List (ℕ × Fe32)) → AreUsableRoots b o embed g base start count window → Solves b g residue erasures window count e
    → MatchOption answer ⊥ (λ listing. IsListing b erasures e listing))
    → (g : List Fe32) (e : List (ℕ × Fe32)) → AreUsableRoots fe32.ops o embed g base start count window → Solves fe32.ops g residue erasures window count e
    → MatchOption answer ⊥ (λ listing. IsListing fe32.ops erasures e listing)
found_over same o embed base start count window residue erasures answer =
    subst (λ (b : Ops Fe32). (g : List Fe32) (e : List (ℕ × Fe32)) → AreUsableRoots b o embed g base start count window → Solves b g residue erasures window count e
    → MatchOption answer ⊥ (λ listing. IsListing b erasures e listing)) same

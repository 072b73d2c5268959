-- No three locations below the last one serve.
use Rattle.std.specs.Prelude.{◌≡◌, suc, true}
use Rattle.std.proofs.Common.{refl}
use Rattle.bech32_gf.specs.laws.Below.{each_below}
use Rattle.bech32_detect.proofs.Triples.{fine}

pub all_fine : each_below 88 (λ c. each_below c (λ b. each_below b (λ a. fine (suc a) (suc b) (suc c)))) ≡ true
all_fine = refl

-- What the listing of the only pattern says over any field.
use Rattle.std.proofs.Common.{ℕ, List}
use Rattle.bech32_gf.specs.Fe32.{ops}
use Rattle.bech32_gf.specs.declared.gf32.Fe32.{Fe32}
use Rattle.bech32_checksum.specs.Code.{Code}
use Rattle.bech32_bch.specs.Listing.{IsSound}
use Rattle.bech32_lookup.specs.Question.{IsOnlyListing, Question}

pub sound_of : (code : Code) (bound : ℕ) (q : Question) (listing : List (ℕ × Fe32)) → IsOnlyListing code bound q listing
    → IsSound ops code.generator q.residue q.erasures q.window bound listing
sound_of code bound q listing h = record { pattern = h.pattern; solves = h.explains; listing = h.lists; alone = h.alone }

-- A text whose polynomial leaves the target is a descriptor where it is in the grammar.
use Rattle.std.specs.Prelude.{IsTrue, MatchOption, is_some, not}
use Rattle.std.proofs.Common.{◌≡◌, Bool, Option, None, Some, List, ℕ, sym, ap, ◌∙◌, true≢false}
use Rattle.std.proofs.lemmas.Bool.{not-false}
use Rattle.bech32_gf.specs.Fe32.{ops}
use Rattle.bech32_poly.specs.Remainder.{IsRemainder}
use Rattle.bech32_descriptor.specs.Code.{descriptor}
use Rattle.bech32_descriptor.specs.Descriptor.{IsCheckRefusal, IsDescriptor, IsDescriptorText, polynomial_of}
use Rattle.bech32_descriptor.specs.declared.error.CheckError.{CheckError}
use Rattle.bech32_descriptor.proofs.Checksums.{not_refused}

pub grammar_is : (o : Option CheckError) (b : Bool) (text : List ℕ) → is_some o ≡ not b → MatchOption o (IsDescriptorText text) (λ e. IsCheckRefusal text e)
    → IsRemainder ops descriptor.generator (polynomial_of text) descriptor.target → (IsTrue b → IsDescriptor text) × (IsDescriptor text → IsTrue b)
grammar_is None b text e h r = (λ t. record { grammar = h; has_target = r }, λ d. not-false b (sym e))
grammar_is (Some fault) b text e h r = (λ t. absurd (true≢false (e ∙ ap not t)), λ d. absurd (not_refused text fault h d))

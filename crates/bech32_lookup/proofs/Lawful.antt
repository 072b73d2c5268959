-- What is the only listing, where the roots of a checksum are lawful.
use Rattle.std.specs.Prelude.{slice_index}
use Rattle.std.proofs.Common.{◌≡◌, ◌≤◌, ◌<◌, ◌+◌, ℕ, List, length, sym, refl, subst}
use Rattle.bech32_gf.specs.Field.{Ops, IsField}
use Rattle.bech32_gf.specs.Fe32 as fe32
use Rattle.bech32_gf.specs.declared.gf32.Fe32.{Fe32}
use Rattle.bech32_gf.specs.laws.Fe32Laws.{is_field}
use Rattle.bech32_poly.specs.Embedding.{Embeds}
use Rattle.bech32_poly.specs.Pattern.{value_of_pattern_at}
use Rattle.bech32_checksum.specs.Code.{Code}
use Rattle.bech32_checksum.specs.Lookup.{IfLookedUp}
use Rattle.bech32_checksum.specs.Roots.{AreLawfulRoots, singleton_bound}
use Rattle.bech32_checksum.specs.declared.lookups.Lookup.{Lookup}
use Rattle.bech32_checksum.specs.declared.lookups.Lookup.TheVariants.{NoTable, Absent, Found}
use Rattle.bech32_bch.specs.Erasures.{AreErasures}
use Rattle.bech32_bch.specs.Pattern.{HasRemainder}
use Rattle.bech32_bch.specs.Search.{IsCandidate}
use Rattle.bech32_lookup.specs.Found.{IsErasedListing}
use Rattle.bech32_lookup.specs.Question.{IsAnswerTo, IsOnlyListing}
use Rattle.bech32_lookup.proofs.ErasedPatterns.{erased_listing, erased_pattern}
use Rattle.bech32_lookup.proofs.Only.{only_listing}
use Rattle.bech32_lookup.proofs.Usable.{usable_read}

-- a candidate below a window within the code length
pub only_lawful : {K : Type 0} {o : Ops K} (l : IsField o) {embed : Fe32 → K} (into : Embeds fe32.ops o embed) (apart : (x y : Fe32) → embed x ≡ embed y → x ≡ y)
    (code : Code) (base : K) (start end bound limit window : ℕ) → bound ≡ singleton_bound start end → code.code_length ≡ limit → length code.target ≡ length code.generator
    → AreLawfulRoots o embed code base start end → window ≤ limit
    → (residue : List Fe32) (s : List ℕ) (listing : List (ℕ × Fe32)) → AreErasures window s → IsCandidate fe32.ops window s bound listing → HasRemainder fe32.ops code.generator residue listing
    → IsOnlyListing code bound (record { residue = residue; window = window; erasures = s }) listing
only_lawful {K} {o} l {embed} into apart code base start end bound limit window count whole size lawful within residue s listing erased candidate leaves =
    only_listing l into apart base start bound window code residue s listing
    (usable_read o embed into.one code base base start start end bound window refl refl count lawful (subst (λ n. window ≤ n) (sym whole) within))
    erased candidate size leaves

-- values at all erasures, of which there are no more than the bound, and so many that no error can stand beside them
pub only_erasures : {K : Type 0} {o : Ops K} (l : IsField o) {embed : Fe32 → K} (into : Embeds fe32.ops o embed) (apart : (x y : Fe32) → embed x ≡ embed y → x ≡ y)
    (code : Code) (base : K) (start end bound limit window : ℕ) → bound ≡ singleton_bound start end → code.code_length ≡ limit → length code.target ≡ length code.generator
    → AreLawfulRoots o embed code base start end → window ≤ limit
    → (residue : List Fe32) (s : List ℕ) (found : Lookup (List (ℕ × Fe32))) → length s ≤ bound → bound < length s + 2
    → IfLookedUp found (λ one. AreErasures window s × IsErasedListing code.generator residue s one)
    → IfLookedUp found (λ one. AreErasures window s × IsAnswerTo code bound (record { residue = residue; window = window; erasures = s }) one)
only_erasures l into apart code base start end bound limit window count whole size lawful within residue s NoTable few full h = h
only_erasures l into apart code base start end bound limit window count whole size lawful within residue s Absent few full (erased, none) = (
  erased,
  λ e h. none (λ i. value_of_pattern_at fe32.ops e (slice_index s i)) (erased_pattern is_field code.generator residue s window bound e erased full h),
)
only_erasures l into apart code base start end bound limit window count whole size lawful within residue s (Found listing) few full (erased, all) = (
  erased,
  only_lawful l into apart code base start end bound limit window count whole size lawful within residue s listing erased (erased_listing fe32.ops window bound s listing all.0 few) all.1,
)

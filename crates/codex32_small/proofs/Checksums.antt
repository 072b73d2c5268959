-- The checksums of both kinds of strings, by their remainders.
use Rattle.std.proofs.Common.{◌≡◌, ◌∙◌, ◌++◌, ◌≤◌, ◌+◌, ◌<◌, ℕ, List, [], ◌∷◌, length, map, reverse, take, get_or, sym, ap, subst, append_assoc, refl, arith}
use Rattle.std.proofs.Math.ListN.{get_or-map}
use Rattle.std.proofs.lemmas.List.{length-reverse}
use Rattle.bech32_gf.specs.Fe32 as fe32
use Rattle.bech32_gf.specs.Fe32.{value}
use Rattle.bech32_gf.specs.Gf32 as gf32
use Rattle.bech32_gf.specs.laws.Fe32Laws.{is_field}
use Rattle.bech32_gf.specs.declared.gf32.Fe32.{Fe32}
use Rattle.bech32_poly.specs.Division.{remainder_of, step}
use Rattle.bech32_poly.specs.Polynomial.{appended}
use Rattle.bech32_poly.specs.Remainder.{IsRemainder}
use Rattle.bech32_poly.proofs.Appended.{appended-append, appended-take_more, checksum_of_target}
use Rattle.bech32_poly.proofs.Remainder.{length-remainder_of, remainder_exists}
use Rattle.bech32_checksum.specs.TextPolynomial.{IsChecksumOf, hrp_elements, text_polynomial}
use Rattle.codex32_calls.specs.declared.propose.Kind.{Kind}
use Rattle.codex32_calls.specs.declared.propose.Kind.TheVariants.{Short, Long}
use Rattle.codex32_steady.specs.texts.Parts.{ms}
use Rattle.codex32_small.specs.Code.{code_of_kind}
use Rattle.codex32_small.specs.declared.register.TheConstants.{GENERATOR, LONG_GENERATOR, LONG_TARGET, START, TARGET}
use Rattle.codex32_small.proofs.Rows.{same_values}

abbrev generator : Kind → List Fe32
generator kind = (code_of_kind kind).generator

abbrev target : Kind → List Fe32
target kind = (code_of_kind kind).target

pub degree-least : (kind : Kind) → 13 ≤ length (generator kind)
degree-least Short = omega arith
degree-least Long = omega arith

pub degree-most : (kind : Kind) → length (generator kind) ≤ 15
degree-most Short = omega arith
degree-most Long = omega arith

pub length-target : (kind : Kind) → length (target kind) ≡ length (generator kind)
length-target Short = refl
length-target Long = refl

-- ---- the constants

pub generator-short : (i : ℕ) → fe32.element (get_or GENERATOR i 0) ≡ get_or (generator Short) i fe32.zero
generator-short i = sym (get_or-map fe32.element GENERATOR i 0)

pub generator-long : (i : ℕ) → fe32.element (get_or LONG_GENERATOR i 0) ≡ get_or (generator Long) i fe32.zero
generator-long i = sym (get_or-map fe32.element LONG_GENERATOR i 0)

pub target-short : (i : ℕ) → fe32.element (get_or TARGET i 0) ≡ get_or (target Short) i fe32.zero
target-short i = sym (get_or-map fe32.element TARGET i 0)

pub target-long : (i : ℕ) → fe32.element (get_or LONG_TARGET i 0) ≡ get_or (target Long) i fe32.zero
target-long i = sym (get_or-map fe32.element LONG_TARGET i 0)

abbrev pub started : List Fe32
started = map fe32.element START

-- what the human-readable part leaves
pub start : (kind : Kind) (n : ℕ) → n ≡ length (generator kind) → take n started ≡ remainder_of fe32.ops (generator kind) (text_polynomial ms [])
unfolding gf32.product
start Short n e = ap (λ (k : ℕ). take k started) e ∙ same_values (take 13 started) (remainder_of fe32.ops (generator Short) (text_polynomial ms [])) refl
start Long n e = ap (λ (k : ℕ). take k started) e ∙ same_values (take 15 started) (remainder_of fe32.ops (generator Long) (text_polynomial ms [])) refl

-- ---- one element more

pub length-remainder : (kind : Kind) (p : List Fe32) → length (remainder_of fe32.ops (generator kind) p) ≡ length (generator kind)
length-remainder kind p = length-remainder_of is_field (generator kind) p

pub remainder-more : (kind : Kind) (p xs rest new : List Fe32) (i : ℕ) (x : Fe32) → i < length xs → x ≡ get_or xs i fe32.zero
    → rest ≡ remainder_of fe32.ops (generator kind) (appended p (take i xs)) → new ≡ step fe32.ops (generator kind) rest x
    → new ≡ remainder_of fe32.ops (generator kind) (appended p (take (i + 1) xs))
remainder-more kind p xs rest new i x within is before stepped =
    stepped
    ∙ ap (λ (r : List Fe32). step fe32.ops (generator kind) r x) before
    ∙ ap (λ (y : Fe32). remainder_of fe32.ops (generator kind) (y ∷ appended p (take i xs))) is
    ∙ ap (remainder_of fe32.ops (generator kind)) (sym (appended-take_more p xs i fe32.zero within))

-- ---- the checksum

-- the polynomial without its last elements
pub polynomial-parts : (hrp : List ℕ) (elements last : List Fe32) → appended (text_polynomial hrp elements) last ≡ text_polynomial hrp (elements ++ last)
polynomial-parts hrp elements last =
    sym (appended-append (fe32.one ∷ []) (hrp_elements hrp ++ elements) last) ∙ ap (appended (fe32.one ∷ [])) (append_assoc (hrp_elements hrp) elements last)

pub checksum-from_remainder : (kind : Kind) (elements rest : List Fe32)
    → rest ≡ remainder_of fe32.ops (generator kind) (appended (text_polynomial ms elements) (reverse (target kind)))
    → IsChecksumOf (code_of_kind kind) ms elements (reverse rest)
checksum-from_remainder kind elements rest is =
    let front : List Fe32 = text_polynomial ms elements in
    let all : List Fe32 = appended front (reverse (target kind)) in
    let held : IsRemainder fe32.ops (generator kind) all rest = subst (IsRemainder fe32.ops (generator kind) all) (sym is) (remainder_exists is_field (generator kind) all) in
    record {
      size = length-reverse rest ∙ held.short;
      has_target = subst (λ (p : List Fe32). IsRemainder fe32.ops (generator kind) p (target kind)) (polynomial-parts ms elements (reverse rest))
          (checksum_of_target is_field (generator kind) front (target kind) rest (λ x. refl) (length-target kind) held);
    }

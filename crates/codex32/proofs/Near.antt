-- The nearest text: from a listing, from the lack of one, and that there is only one.
use Rattle.std.specs.List.{AllByRecursion}
use Rattle.std.specs.Prelude.{◌≢◌, ◌*◌, map, IfOk, MatchOption, MatchResult}
use Rattle.std.proofs.Common.{◌≡◌, ℕ, ◌+◌, ◌-◌, ◌<◌, ◌≤◌, Bool, List, [], ◌∷◌, ◌++◌, Option, None, Result, Ok, Err, length, inl, inr, refl, sym, ap, subst, ◌∙◌, arith}
use Rattle.std.proofs.lemmas.List.{length-map, length-append}
use Rattle.bech32_gf.specs.Fe32 as fe32
use Rattle.bech32_gf.specs.Fe32.{element_of, elements_of, ops}
use Rattle.bech32_gf.specs.declared.gf32.Fe32.{Fe32}
use Rattle.bech32_gf.specs.laws.Fe32Laws.{is_field}
use Rattle.bech32_gf_ext.specs.Fe1024 as fe1024
use Rattle.bech32_gf_ext.specs.laws.Fe1024Laws as fe1024_laws
use Rattle.bech32_poly.specs.Distinct.{IsAmong}
use Rattle.bech32_poly.specs.Division.{remainder_of}
use Rattle.bech32_poly.specs.Embedding.{Embeds}
use Rattle.bech32_poly.specs.Pattern.{pattern_polynomial, value_of_pattern_at}
use Rattle.bech32_poly.specs.Polynomial.{IsSamePolynomial, add, appended, coefficient}
use Rattle.bech32_poly.specs.Remainder.{IsRemainder}
use Rattle.bech32_poly.proofs.Lists.{coefficient-add}
use Rattle.bech32_poly.proofs.Remainder.{remainder_of-add, remainder_of-same, remainder_unique}
use Rattle.bech32_hrp.specs.Hrp.{IsHrp, lowered}
use Rattle.bech32_checksum.specs.Code.{Code}
use Rattle.bech32_checksum.specs.Roots.{AreLawfulRoots}
use Rattle.bech32_gf_ext.specs.declared.Fe32Ext.{Fe32Ext}
use Rattle.bech32_checksum.specs.Encoded.{char_of_element, spelled}
use Rattle.bech32_checksum.specs.TextPolynomial.{text_polynomial}
use Rattle.bech32_bch.specs.Distance.{places_that_differ}
use Rattle.bech32_bch.specs.Erasures.{with_erasures}
use Rattle.bech32_bch.specs.Listing.{IsSound}
use Rattle.bech32_bch.specs.Pattern.{HasRemainder, Solves, errors_outside, locations}
use Rattle.bech32_bch.proofs.Alone.{mem_or_not}
use Rattle.bech32_bch.proofs.Candidates.{apart_inside}
use Rattle.bech32_bch.proofs.Counting.{located_outside, outside, outside_located}
use Rattle.bech32_bch.proofs.Patterns.{at_absent, locations_listed, outside_count}
use Rattle.bech32_bch.proofs.Places.{mem_split, once_fits}
use Rattle.bech32_bch.proofs.Solved.{once_outside}
use Rattle.bech32_lookup.proofs.Remainders.{left_over}
use Rattle.bech32_decode.specs.Acceptance.{Accepts, IsAccepted}
use Rattle.bech32_detect.specs.Distance.{AreSameOrFar, same_element}
use Rattle.bech32_decode.specs.Text.{IsText}
use Rattle.bech32_detect.proofs.Distances.{data_fits, far_from_others}
use Rattle.bech32_decode.proofs.Grammar.{only-from_IsText}
use Rattle.bech32_decode.proofs.Spelling.{characters-elements, spelled-text}
use Rattle.bech32_correction.proofs.Different.{erasures_are}
use Rattle.bech32_correction.specs.MendedElements.{mended}
use Rattle.bech32_correction.specs.Mistyped.{HasResidue, IsRefusedFor, question_of}
use Rattle.bech32_correction.proofs.Sound.{sound_of}
use Rattle.bech32_correction.proofs.Accepted.{front, in_parts, lowered_parts}
use Rattle.bech32_correction.proofs.Sums.{appended-mended, length-mended}
use Rattle.bech32_correction.proofs.Texts.{mendable-from_accepts}
use Rattle.codex32.specs.Damaged.{AreParts, changed, read_data, read_text, unreadable}
use Rattle.codex32.specs.Nearest.{AreAdditions, IsNearestBy, IsUnlisted}
use Rattle.codex32.specs.Strings.{frame_refusal_by}
use Rattle.codex32.proofs.Locations.{again, changed-once, changed_outside, count_data, count_read, differences, differences-below, differences-once, differences-values, few_apart, located, mended-differences, unreadable-below, unreadable-once}
use Rattle.codex32.proofs.Separated.{one_split, parts-from}

-- ---- accepted texts of elements

-- an accepted text in lower case has these parts
pub accepted_spelled : (code : Code) (hrp : List ℕ) (ys : List Fe32) → IsHrp hrp → Accepts code (spelled hrp ys)
    → IsAccepted code (spelled hrp ys) (lowered hrp) (map char_of_element ys)
accepted_spelled code hrp ys ok a =
    let (h, d, is) = a in
    let (same_hrp, same_data) = only-from_IsText (spelled hrp ys) (lowered hrp) (map char_of_element ys) (spelled-text hrp ys ok) h d is.grammar.split is.grammar.data_bytes in
    subst (λ (u : List ℕ). IsAccepted code (spelled hrp ys) u (map char_of_element ys)) same_hrp
    (subst (λ (v : List ℕ). IsAccepted code (spelled hrp ys) h v) same_data is)

spelled_leaves : (code : Code) (hrp : List ℕ) (ys : List Fe32) → IsHrp hrp → Accepts code (spelled hrp ys)
    → IsRemainder ops code.generator (appended (front (lowered hrp)) ys) code.target
spelled_leaves code hrp ys ok a =
    subst (λ (p : List Fe32). IsRemainder ops code.generator p code.target)
    (ap (text_polynomial (lowered hrp)) (characters-elements ys) ∙ lowered_parts hrp ys)
    (accepted_spelled code hrp ys ok a).has_target

-- ---- the differences between a text and an accepted one solve its residue

module _ (code : Code) (text hrp data_part : List ℕ) (residue : List Fe32) (is : HasResidue code text hrp data_part residue)
    (ys : List Fe32) (sizes : length (elements_of data_part) ≡ length ys) (leaves : IsRemainder ops code.generator (appended (front (lowered hrp)) ys) code.target) where
  explains : HasRemainder ops code.generator residue (differences (elements_of data_part) ys)
  explains = left_over is_field code.generator residue (differences (elements_of data_part) ys) same
    where
      sum : IsSamePolynomial ops (appended (front (lowered hrp)) ys) (add ops (appended (front (lowered hrp)) (elements_of data_part)) (pattern_polynomial ops (differences (elements_of data_part) ys)))
      sum = subst (λ (zs : List Fe32). IsSamePolynomial ops (appended (front (lowered hrp)) zs) (add ops (appended (front (lowered hrp)) (elements_of data_part)) (pattern_polynomial ops (differences (elements_of data_part) ys))))
          (mended-differences (elements_of data_part) ys sizes)
          (appended-mended is_field (differences (elements_of data_part) ys) (front (lowered hrp)) (elements_of data_part) (differences-below (elements_of data_part) ys))

      mine : is.remainder ≡ remainder_of ops code.generator (appended (front (lowered hrp)) (elements_of data_part))
      mine = remainder_unique is_field code.generator (appended (front (lowered hrp)) (elements_of data_part)) is.remainder
          (subst (λ (p : List Fe32). IsRemainder ops code.generator p is.remainder) (in_parts hrp (elements_of data_part)) is.is_remainder)

      target : code.target ≡ add ops is.remainder (remainder_of ops code.generator (pattern_polynomial ops (differences (elements_of data_part) ys)))
      target =
          remainder_unique is_field code.generator (appended (front (lowered hrp)) ys) code.target leaves
          ∙ remainder_of-same is_field code.generator (appended (front (lowered hrp)) ys)
          (add ops (appended (front (lowered hrp)) (elements_of data_part)) (pattern_polynomial ops (differences (elements_of data_part) ys))) sum
          ∙ remainder_of-add is_field code.generator (appended (front (lowered hrp)) (elements_of data_part)) (pattern_polynomial ops (differences (elements_of data_part) ys))
          ∙ ap (λ (r : List Fe32). add ops r (remainder_of ops code.generator (pattern_polynomial ops (differences (elements_of data_part) ys)))) (sym mine)

      same : IsSamePolynomial ops (remainder_of ops code.generator (pattern_polynomial ops (differences (elements_of data_part) ys))) residue
      same n =
          sym (is.residue_is n
          ∙ coefficient-add is_field is.remainder code.target n
          ∙ ap (fe32.add (coefficient ops is.remainder n)) (ap (λ (t : List Fe32). coefficient ops t n) target ∙ coefficient-add is_field is.remainder (remainder_of ops code.generator (pattern_polynomial ops (differences (elements_of data_part) ys))) n)
          ∙ again (coefficient ops is.remainder n) (coefficient ops (remainder_of ops code.generator (pattern_polynomial ops (differences (elements_of data_part) ys))) n))

-- ---- how many errors stand outside the unreadable characters

few_outside : (damaged : List ℕ) (ys : List Fe32)
    → errors_outside (unreadable damaged) (differences (elements_of (read_data damaged)) ys) ≤ length (changed damaged ys)
few_outside damaged ys =
    let e : List (ℕ × Fe32) = differences (elements_of (read_data damaged)) ys in
    let fits : length (outside (unreadable damaged) e) ≤ length (changed damaged ys) =
    once_fits (outside (unreadable damaged) e) (changed damaged ys) (once_outside (unreadable damaged) e (differences-once (elements_of (read_data damaged)) ys))
    (λ i m. let there = outside_located (unreadable damaged) e i m in located damaged ys i there.0 there.1) in
    let counted : length (outside (unreadable damaged) e) ≡ errors_outside (unreadable damaged) e = outside_count (unreadable damaged) e in
    omega (arith, fits, counted)

few_changed : (g residue : List Fe32) (w bound : ℕ) (damaged : List ℕ) (listing : List (ℕ × Fe32)) (h : IsSound ops g residue (unreadable damaged) w bound listing)
    → length (changed damaged (mended ops listing (elements_of (read_data damaged)))) ≤ errors_outside (unreadable damaged) h.pattern
few_changed g residue w bound damaged listing h =
    let fits : length (changed damaged (mended ops listing (elements_of (read_data damaged)))) ≤ length (outside (unreadable damaged) h.pattern) =
    once_fits (changed damaged (mended ops listing (elements_of (read_data damaged)))) (outside (unreadable damaged) h.pattern)
    (changed-once damaged (mended ops listing (elements_of (read_data damaged))))
    (λ i m. let there = changed_outside listing damaged i m in located_outside (unreadable damaged) h.pattern i (of_pattern i there.0 there.1) there.1) in
    let counted : length (outside (unreadable damaged) h.pattern) ≡ errors_outside (unreadable damaged) h.pattern = outside_count (unreadable damaged) h.pattern in
    omega (arith, fits, counted)
  where
    places : locations listing ≡ unreadable damaged ++ h.listing.errors
    places = ap locations h.listing.items_are ∙ locations_listed (value_of_pattern_at ops h.pattern) (unreadable damaged ++ h.listing.errors)

    listed : (i : ℕ) → value_of_pattern_at ops listing i ≢ fe32.zero → IsAmong i (locations listing)
    listed i n = elim (mem_or_not i (locations listing)) [ inl m ↦ m | inr k ↦ absurd (n (at_absent is_field listing i k)) ]

    of_pattern : (i : ℕ) → value_of_pattern_at ops listing i ≢ fe32.zero → (IsAmong i (unreadable damaged) → ⊥) → IsAmong i (locations h.pattern)
    of_pattern i n out = elim (mem_split i (unreadable damaged) h.listing.errors (subst (λ (u : List ℕ). IsAmong i u) places (listed i n))) [
      | inl m ↦ absurd (out m)
      | inr m ↦ elim (mem_or_not i (locations h.pattern)) [
        | inl k ↦ k
        | inr k ↦ absurd (((h.listing.are_errors i).0 m).0 (at_absent is_field h.pattern i k))
      ]
    ]

-- ---- what follows of a text

module _ (code : Code) (text hrp damaged : List ℕ) (parts : AreParts text hrp damaged) where
  size_read : length (elements_of (read_data damaged)) ≡ length damaged
  size_read = count_read damaged

  nearest-from : (ys : List Fe32) → length ys ≡ length damaged → Accepts code (spelled hrp ys)
      → 2 * length (changed damaged ys) + length (unreadable damaged) ≤ 8 → IsNearestBy code text (spelled hrp ys)
  nearest-from ys size a few = record {
    hrp = hrp;
    damaged = damaged;
    split = parts.split;
    grammar = parts.grammar;
    elements = ys;
    same_length = size;
    spelling = refl;
    accepted = a;
    few = few;
  }

  -- nothing is changed in the elements that were read
  pub none_changed : length (changed damaged (mended ops [] (elements_of (read_data damaged)))) ≡ 0
  none_changed = empty (changed damaged (mended ops [] (elements_of (read_data damaged)))) (λ i m. (changed_outside [] damaged i m).0 refl)
    where
      empty : (us : List ℕ) → ((i : ℕ) → IsAmong i us → ⊥) → length us ≡ 0
      empty [] h = refl
      empty (u ∷ us) h = absurd (h u (inl refl))

  -- the parts of the text that was read are these
  same_parts : (h d : List ℕ) → IsText (read_text text) h d → (h ≡ hrp) × (d ≡ read_data damaged)
  same_parts h d is = only-from_IsText (read_text text) hrp (read_data damaged) parts.grammar h d is.split is.data_bytes

  pub nearest-from_listed : (listing : List (ℕ × Fe32)) → AreAdditions code (read_text text) (unreadable damaged) listing
      → IsNearestBy code text (spelled hrp (mended ops listing (elements_of (read_data damaged))))
  nearest-from_listed listing (inl h) =
      let m = mendable-from_accepts code (read_text text) h.1 in
      let (same_hrp, same_data) = same_parts m.hrp m.data_part m.grammar in
      let nothing : length (changed damaged (mended ops [] (elements_of (read_data damaged)))) ≡ 0 = none_changed in
      let few : length (unreadable damaged) ≤ 8 = h.2 in
      subst (λ (l : List (ℕ × Fe32)). IsNearestBy code text (spelled hrp (mended ops l (elements_of (read_data damaged))))) (sym h.0)
      (nearest-from (mended ops [] (elements_of (read_data damaged))) (length-mended ops [] (elements_of (read_data damaged)) ∙ size_read)
      (subst (λ (u : List ℕ). Accepts code (spelled u (mended ops [] (elements_of (read_data damaged))))) same_hrp
      (subst (λ (v : List ℕ). Accepts code (spelled m.hrp (mended ops [] (elements_of v)))) same_data m.accepts))
      (omega (arith, nothing, few)))
  nearest-from_listed listing (inr is) =
      let (same_hrp, same_data) = same_parts is.hrp is.data_part is.refused.read.grammar in
      let erased : with_erasures [] (unreadable damaged) ≡ unreadable damaged = erasures_are (unreadable damaged) (unreadable-once damaged) in
      let sound : IsSound ops code.generator is.residue (unreadable damaged) (length is.data_part) 8 listing =
      subst (λ (s : List ℕ). IsSound ops code.generator is.residue s (length is.data_part) 8 listing) erased
      (sound_of code 8 (question_of is.data_part is.residue (unreadable damaged)) listing is.only) in
      let most : length (changed damaged (mended ops listing (elements_of (read_data damaged)))) ≤ errors_outside (unreadable damaged) sound.pattern =
      few_changed code.generator is.residue (length is.data_part) 8 damaged listing sound in
      let few : 2 * errors_outside (unreadable damaged) sound.pattern + length (unreadable damaged) ≤ 8 = sound.solves.few in
      nearest-from (mended ops listing (elements_of (read_data damaged))) (length-mended ops listing (elements_of (read_data damaged)) ∙ size_read)
      (subst (λ (u : List ℕ). Accepts code (spelled u (mended ops listing (elements_of (read_data damaged))))) same_hrp
      (subst (λ (v : List ℕ). Accepts code (spelled is.hrp (mended ops listing (elements_of v)))) same_data is.mends))
      (omega (arith, most, few))

  -- the elements of any nearest text
  elements_near : (nearest : List ℕ) (n : IsNearestBy code text nearest) → (n.hrp ≡ hrp) × (n.damaged ≡ damaged)
  elements_near nearest n = one_split text n.hrp n.damaged hrp damaged (parts-from text n.hrp n.damaged n.split n.grammar).cut parts.cut

  -- the same with the parts of the text
  pub record IsNear (nearest : List ℕ) : Type 0 where
    pub elements : List Fe32
    pub same_length : length elements ≡ length damaged
    pub spelling : nearest ≡ spelled hrp elements
    pub accepted : Accepts code (spelled hrp elements)
    pub few : 2 * length (changed damaged elements) + length (unreadable damaged) ≤ 8

  pub near-from : (nearest : List ℕ) → IsNearestBy code text nearest → IsNear nearest
  near-from nearest n =
      let (same_hrp, same_damaged) = elements_near nearest n in
      let spelling : nearest ≡ spelled hrp n.elements = n.spelling ∙ ap (λ (h : List ℕ). spelled h n.elements) same_hrp in
      record {
        elements = n.elements;
        same_length = n.same_length ∙ ap length same_damaged;
        spelling = spelling;
        accepted = subst (Accepts code) spelling n.accepted;
        few = subst (λ (d : List ℕ). 2 * length (changed d n.elements) + length (unreadable d) ≤ 8) same_damaged n.few;
      }

  pub none-from_unlisted : IsUnlisted code (read_text text) (unreadable damaged) → (nearest : List ℕ) → IsNearestBy code text nearest → ⊥
  none-from_unlisted (inl many) nearest n = let near = near-from nearest n in let few = near.few in omega (arith, many, few)
  none-from_unlisted (inr none) nearest n =
      let near = near-from nearest n in
      let (same_hrp, same_data) = same_parts none.hrp none.data_part none.refused.read.grammar in
      let refused : IsRefusedFor code (read_text text) hrp (read_data damaged) none.residue =
      subst (λ (u : List ℕ). IsRefusedFor code (read_text text) u (read_data damaged) none.residue) same_hrp
      (subst (λ (v : List ℕ). IsRefusedFor code (read_text text) none.hrp v none.residue) same_data none.refused) in
      let sizes : length (elements_of (read_data damaged)) ≡ length near.elements = size_read ∙ sym near.same_length in
      let outer : errors_outside (unreadable damaged) (differences (elements_of (read_data damaged)) near.elements) ≤ length (changed damaged near.elements) = few_outside damaged near.elements in
      let few : 2 * length (changed damaged near.elements) + length (unreadable damaged) ≤ 8 = near.few in
      let wide : length (elements_of (read_data damaged)) ≡ length (read_data damaged) = length-map (read_data damaged) element_of in
      let solves : Solves ops code.generator none.residue (unreadable damaged) (length (read_data damaged)) 8 (differences (elements_of (read_data damaged)) near.elements) =
      record {
        pattern = record {
          below = subst (λ (w : ℕ). AllByRecursion (λ (p : ℕ × Fe32). p.0 < w) (differences (elements_of (read_data damaged)) near.elements)) wide (differences-below (elements_of (read_data damaged)) near.elements);
          values = differences-values (elements_of (read_data damaged)) near.elements;
          once = differences-once (elements_of (read_data damaged)) near.elements;
        };
        remainder = explains code (read_text text) hrp (read_data damaged) none.residue refused.read near.elements sizes (spelled_leaves code hrp near.elements parts.grammar.is_hrp near.accepted);
        few = omega (arith, outer, few);
      } in
      let erased : with_erasures [] (unreadable damaged) ≡ unreadable damaged = erasures_are (unreadable damaged) (unreadable-once damaged) in
      none.none (inside none.data_part same_data) (differences (elements_of (read_data damaged)) near.elements)
      (subst (λ (s : List ℕ). Solves ops code.generator none.residue s (length none.data_part) 8 (differences (elements_of (read_data damaged)) near.elements)) (sym erased)
      (subst (λ (d : List ℕ). Solves ops code.generator none.residue (unreadable damaged) (length d) 8 (differences (elements_of (read_data damaged)) near.elements)) (sym same_data) solves))
    where
      inside : (d : List ℕ) → d ≡ read_data damaged → AllByRecursion (λ i. i < length d) (unreadable damaged)
      inside d e = subst (λ (n : ℕ). AllByRecursion (λ i. i < n) (unreadable damaged)) (sym (ap length e ∙ count_data damaged)) (unreadable-below damaged)

  -- there is one at most
  pub one_near : (base : Fe32Ext 2) (start end : ℕ) → AreLawfulRoots fe1024.ops fe1024.embed code base start end → end - start + 1 ≡ 8 → (one other : List ℕ) → IsNear one → IsNear other → one ≡ other
  one_near base start end roots eight one other n m =
      let ok : IsHrp hrp = parts.grammar.is_hrp in
      let apart : AreSameOrFar 8 (elements_of (map char_of_element n.elements)) (elements_of (map char_of_element m.elements)) =
      subst (λ (b : ℕ). AreSameOrFar b (elements_of (map char_of_element n.elements)) (elements_of (map char_of_element m.elements))) eight
      (far_from_others fe1024_laws.is_field into (apart_inside fe1024.embed fe1024.retract fe1024_laws.retract-embed) code base start end roots code.code_length (spelled hrp n.elements) (lowered hrp)
      (map char_of_element n.elements) (spelled hrp m.elements) (lowered hrp) (map char_of_element m.elements)
      (accepted_spelled code hrp n.elements ok n.accepted) (accepted_spelled code hrp m.elements ok m.accepted) refl lengths
      (data_fits code (spelled hrp n.elements) (lowered hrp) (map char_of_element n.elements) (accepted_spelled code hrp n.elements ok n.accepted))) in
      let near : AreSameOrFar 8 n.elements m.elements =
      subst (λ (ys : List Fe32). AreSameOrFar 8 ys m.elements) (characters-elements n.elements)
      (subst (λ (zs : List Fe32). AreSameOrFar 8 (elements_of (map char_of_element n.elements)) zs) (characters-elements m.elements) apart) in
      n.spelling ∙ ap (spelled hrp) (same near) ∙ sym m.spelling
    where
      into : Embeds fe32.ops fe1024.ops fe1024.embed
      into = record { one = refl; add = fe1024_laws.embed-add; mul = fe1024_laws.embed-mul }

      size : (ys : List Fe32) → length ys ≡ length damaged → length (spelled hrp ys) ≡ length (lowered hrp) + (1 + length damaged)
      size ys e = omega (arith, length-append (lowered hrp) (49 ∷ map char_of_element ys), length-map ys char_of_element, e)

      lengths : length (spelled hrp m.elements) ≡ length (spelled hrp n.elements)
      lengths = size m.elements m.same_length ∙ sym (size n.elements n.same_length)

      same : AreSameOrFar 8 n.elements m.elements → n.elements ≡ m.elements
      same (inl e) = e
      same (inr far) =
          let most : places_that_differ same_element n.elements m.elements ≤ length (changed damaged n.elements) + length (changed damaged m.elements) + length (unreadable damaged) =
          few_apart damaged n.elements m.elements n.same_length m.same_length in
          let few : 2 * length (changed damaged n.elements) + length (unreadable damaged) ≤ 8 = n.few in
          let few_other : 2 * length (changed damaged m.elements) + length (unreadable damaged) ≤ 8 = m.few in
          absurd (omega (arith, far, most, few, few_other))

-- any two nearest texts are the same
pub one_nearest : (code : Code) (base : Fe32Ext 2) (start end : ℕ) → AreLawfulRoots fe1024.ops fe1024.embed code base start end → end - start + 1 ≡ 8
    → (text one other : List ℕ) → IsNearestBy code text one → IsNearestBy code text other → one ≡ other
one_nearest code base start end roots eight text one other n m =
    let parts = parts-from text n.hrp n.damaged n.split n.grammar in
    one_near code text n.hrp n.damaged parts base start end roots eight one other (near-from code text n.hrp n.damaged parts one n) (near-from code text n.hrp n.damaged parts other m)

-- what the outcome of a call says
module _ {S E : Type 0} (code : Code) (may : ℕ → Bool) (text : List ℕ) (bytes : S → List ℕ) (Q : E → Type 0) where
  abbrev IsAnswered : Option S → Type 0
  IsAnswered answer = MatchOption answer ((nearest : List ℕ) → IsNearestBy code text nearest → ⊥) (λ s. IsNearestBy code text (bytes s))

  pub value-from_outcome : (r : Result (Option S) E) → MatchResult r (λ answer. (frame_refusal_by may (read_text text) ≡ None) × IsAnswered answer) Q → IfOk r IsAnswered
  value-from_outcome (Ok answer) h = h.1
  value-from_outcome (Err e) h = tt

  pub refused-from_outcome : (r : Result (Option S) E) → MatchResult r (λ answer. (frame_refusal_by may (read_text text) ≡ None) × IsAnswered answer) Q → MatchResult r (λ _. frame_refusal_by may (read_text text) ≡ None) Q
  refused-from_outcome (Ok answer) h = h.0
  refused-from_outcome (Err e) h = h

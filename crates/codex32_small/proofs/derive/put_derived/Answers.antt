use Rattle.std.specs.List.{sum}
use Rattle.std.proofs.Common.{◌++◌, [], ◌≡◌, ◌≤◌, ◌<◌, ◌∷◌, ◌∙◌, ◌⊎◌, ℕ, List, Result, Ok, length, take, drop, get_or, inl, inr, refl, sym, ap, subst, arith, rules}
use Rattle.std.proofs.lemmas.List.{take_rest}
use Rattle.std.proofs.lemmas.Result.{MatchResult-weaker, err_from_is_err_and}
use Rattle.bech32_gf.specs.Fe32.{element_of}
use Rattle.bech32_gf.specs.declared.gf32.Fe32.{Fe32}
use Rattle.bech32_numbers.specs.Refused.{IsNumberBy}
use Rattle.codex32.specs.Derive.{IsDeriveIntoRefusal, IsDerivedString, IsWholeSet}
use Rattle.codex32.specs.Share.{AreSharesOf, IsShareOf}
use Rattle.codex32.specs.declared.error.DeriveError.{DeriveError}
use Rattle.codex32.specs.declared.error.DeriveError.TheVariants as derive_errors
use Rattle.codex32.specs.declared.share.Share.{Share}
use Rattle.codex32.proofs.DerivedStrings.{string-from_put}
use Rattle.codex32_calls.specs.Derive.{IsAsked, IsDeriveFault, IsDerivedOf, texts_of}
use Rattle.codex32_calls.specs.Faults.{IsNumberOfCodex32}
use Rattle.codex32_calls.specs.Share.{IsEitherFault}
use Rattle.codex32_calls.specs.declared.refusal.Refusal.TheVariants as refusals
use Rattle.codex32_calls.proofs.TextsInTurn.{fault-behind, fault-first, refused-from_texts, shares-first, whole-behind}
use Rattle.codex32.specs.Numbers.{number_of_derive_error}
use Rattle.codex32_small.specs.Parts.{share_of_part, shares_of}
use Rattle.codex32_small.specs.declared.part.Part.{Part}
use Rattle.codex32_small.proofs.Parts.{none_of, shares-append, shares-take}
use Rattle.codex32_small.proofs.derive.put_derived.Goals as goal

pub returns-in_default-clause-refused : goal.returns-in_default-clause-refused
returns-in_default-clause-refused c = λ x asked is.
    let none : length c.args.lengths.now ≡ 0 = search rules in
    record {
      refusal = refusals.Derive derive_errors.TooFew;
      holds = (asked, ([], none_of c.args.texts.now c.args.lengths.now none, inl (inr (inr (inr (refl, tt, tt, (λ un. un), refl))))));
      number = refl;
    }

pub returns-in_err-parts-clause-refused : goal.returns-in_err-parts-clause-refused
returns-in_err-parts-clause-refused c =
    let some : 1 ≤ length c.args.lengths.now = search rules in
    let first : c.in-Some.first.now ≡ get_or c.args.lengths.now 0 c.in-Some.first.now = search rules in
    let e = c.in_err-parts.ensures in
    let p = err_from_is_err_and c.from_residual.result c.from_residual.ensures.1 in
    rw p.1
    (rw p.2
    (λ x asked is. record {
      refusal = e.refusal;
      holds = refused-from_texts x c.args.texts.now c.args.lengths.now (length c.args.text.now) e.refusal asked
          (fault-first c.args.texts.now c.args.lengths.now c.in-Some.first.now e.refusal some first (subst (λ (t : List ℕ). IsEitherFault t e.refusal) c.split_at.ensures.front e.holds));
      number = e.number;
    }))

pub put_parts-requires-clause-whole : goal.put_parts-requires-clause-whole
put_parts-requires-clause-whole c =
    let some : 1 ≤ length c.args.lengths.now = search rules in
    let is : c.in-Some.first.now ≡ get_or c.args.lengths.now 0 c.in-Some.first.now = search rules in
    let total : sum c.args.lengths.now ≡ length c.args.texts.now = search rules in
    let whole = whole-behind c.args.texts.now c.args.lengths.now _ c.in-Some.first.now some is (take_rest c.args.lengths.now 1) total in
    omega (arith, whole, c.split_at.ensures.back_len)

pub returns-in_err-put_parts-clause-refused : goal.returns-in_err-put_parts-clause-refused
returns-in_err-put_parts-clause-refused c =
    let some : 1 ≤ length c.args.lengths.now = search rules in
    let n : ℕ = c.in-Some.first.now in
    let at : c.in-Some.first.now ≡ get_or c.args.lengths.now 0 c.in-Some.first.now = search rules in
    let e = c.in_err-put_parts.ensures.outcome in
    let s : Share = share_of_part c.in_ok-parts.field-0 in
    let first : IsShareOf (take n c.args.texts.now) s = subst (λ (t : List ℕ). IsShareOf t s) c.split_at.ensures.front c.in_ok-parts.ensures in
    let p = err_from_is_err_and c.from_residual-in_err-put_parts.result c.from_residual-in_err-put_parts.ensures.1 in
    rw p.1
    (rw p.2
    (λ x asked is. record {
      refusal = e.refusal;
      holds = refused-from_texts x c.args.texts.now c.args.lengths.now (length c.args.text.now) e.refusal asked
          (fault-behind c.args.texts.now c.split_at.result.1.now c.args.lengths.now _ n s e.refusal some at c.split_at.ensures.back (take_rest c.args.lengths.now 1) first e.holds);
      number = e.number;
    }))

-- ---- the shares of all

are_all : (texts behind ns rest : List ℕ) (n : ℕ) (p : Part) (room : List Part) → 1 ≤ length ns → n ≡ get_or ns 0 n → behind ≡ drop n texts
    → rest ≡ drop 1 ns → IsShareOf (take n texts) (share_of_part p) → AreSharesOf (texts_of behind rest) (shares_of (take (length rest) room))
    → AreSharesOf (texts_of texts ns) (shares_of (take (length ns) (p ∷ (room ++ []))))
are_all texts behind ns rest n p room some at back tail first others =
    subst (λ (ss : List Share). AreSharesOf (texts_of texts ns) ss)
    (sym (shares-take (length ns) (p ∷ (room ++ [])) ∙ ap (λ (l : List Share). take (length ns) (share_of_part p ∷ l)) (shares-append room [])))
    (shares-first texts behind ns rest n (share_of_part p) (shares_of room) some at back tail first
    (subst (λ (ss : List Share). AreSharesOf (texts_of behind rest) ss) (shares-take (length rest) room) others))

module _ (x : ℕ) (texts ns : List ℕ) (room : ℕ) (index : Fe32) (shares : List Share) (are : AreSharesOf (texts_of texts ns) shares) (asked : IsAsked x texts ns)
    (is : index ≡ element_of x) where
  derived_of : (made : List ℕ) → IsWholeSet shares index → IsDerivedString shares index made → IsDerivedOf x (texts_of texts ns) made
  derived_of made whole derived =
      let at_x = subst (λ (y : Fe32). IsWholeSet shares y × IsDerivedString shares y made) is (whole, derived) in
      let made_so : Result ℕ DeriveError = Ok 0 in
      record {
        shares = shares;
        are = are;
        whole = at_x.0;
        is_derived = at_x.1;
        is_string = string-from_put (λ (e : DeriveError). ⊥) (λ (n : ℕ). made) shares (element_of x) made_so at_x;
      }

  refused_by : (n : ℕ) → IsNumberBy number_of_derive_error (λ e. IsDeriveIntoRefusal shares index e) n
      ⊎ ((n ≡ 92) × IsWholeSet shares index × (made : List ℕ) × IsDerivedString shares index made × (room < length made))
      → IsNumberOfCodex32 (IsDeriveFault x texts ns room) n
  refused_by n (inl h) = record {
    refusal = refusals.Derive h.refusal;
    holds = (asked, (shares, are, subst (λ (y : Fe32). IsDeriveIntoRefusal shares y h.refusal) is h.holds));
    number = h.number;
  }
  refused_by n (inr (number, whole, made, derived, lacks)) = record {
    refusal = refusals.NoRoom;
    holds = record { asked = asked; text = made; is_text = derived_of made whole derived; lacks = lacks };
    number = number;
  }

pub returns-clause-value : goal.returns-clause-value
returns-clause-value c =
    let some : 1 ≤ length c.args.lengths.now = search rules in
    let n : ℕ = c.in-Some.first.now in
    let at : c.in-Some.first.now ≡ get_or c.args.lengths.now 0 c.in-Some.first.now = search rules in
    let p : Part = c.in_ok-parts.field-0 in
    let first : IsShareOf (take n c.args.texts.now) (share_of_part p) = subst (λ (t : List ℕ). IsShareOf t (share_of_part p)) c.split_at.ensures.front c.in_ok-parts.ensures in
    let are = are_all c.args.texts.now c.split_at.result.1.now c.args.lengths.now _ n p c.put_parts.new.room some at c.split_at.ensures.back (take_rest c.args.lengths.now 1) first c.in_ok-put_parts.ensures.outcome in
    MatchResult-weaker c.put_string.result c.put_string.ensures.value
    (λ count h x asked is.
    let (made, whole, derived, put) = h in
    record {
      asked = asked;
      text = made;
      is_text = derived_of x c.args.texts.now c.args.lengths.now (length c.args.text.now) c.args.index _ are asked is made whole derived;
      put = put;
    })
    (λ _ _. tt)

pub returns-clause-refused : goal.returns-clause-refused
returns-clause-refused c =
    let some : 1 ≤ length c.args.lengths.now = search rules in
    let n : ℕ = c.in-Some.first.now in
    let at : c.in-Some.first.now ≡ get_or c.args.lengths.now 0 c.in-Some.first.now = search rules in
    let p : Part = c.in_ok-parts.field-0 in
    let first : IsShareOf (take n c.args.texts.now) (share_of_part p) = subst (λ (t : List ℕ). IsShareOf t (share_of_part p)) c.split_at.ensures.front c.in_ok-parts.ensures in
    let are = are_all c.args.texts.now c.split_at.result.1.now c.args.lengths.now _ n p c.put_parts.new.room some at c.split_at.ensures.back (take_rest c.args.lengths.now 1) first c.in_ok-put_parts.ensures.outcome in
    MatchResult-weaker c.put_string.result c.put_string.ensures.refused
    (λ _ _. tt)
    (λ number h x asked is. refused_by x c.args.texts.now c.args.lengths.now (length c.args.text.now) c.args.index _ are asked is number h)

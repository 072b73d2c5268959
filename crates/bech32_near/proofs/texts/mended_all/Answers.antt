use Rattle.std.specs.Prelude.{string_bytes}
use Rattle.std.specs.List.{AllByRecursion}
use Rattle.std.specs.Vec.Iter.{into_iter_items}
use Rattle.std.proofs.Common.{rules, ◌≡◌, ◌++◌, ◌∷◌, [], ℕ, List, length, append-nil, append_assoc, subst, sym, ap, ◌∙◌, arith}
use Rattle.std.proofs.lemmas.List.{nil_from_length}
use Rattle.bech32_gf.specs.declared.gf32.Fe32.{Fe32}
use Rattle.bech32_correction.specs.Mistyped.{IsPlacedIn}
use Rattle.bech32_near.proofs.Nearby.{all_within, texts_more}
use Rattle.bech32_near.proofs.texts.mended_all.Goals as goal

pub mended_by-requires : goal.mended_by-requires
mended_by-requires g c =
    let at = c.loop-listing in
    let steps : into_iter_items at.listing-iterator ≡ c.in-Some.listing ∷ into_iter_items c.next.new.self = c.in-Some.ensures.steps.0 in
    let all : AllByRecursion (λ l. IsPlacedIn c.args.text.now l) (at.yielded ++ c.in-Some.listing ∷ into_iter_items c.next.new.self) =
    subst (AllByRecursion (λ l. IsPlacedIn c.args.text.now l)) (sym at.invariant.rest ∙ ap (λ (u : List (List (ℕ × Fe32))). at.yielded ++ u) steps) c.requires in
    (search rules, all_within (λ l. IsPlacedIn c.args.text.now l) at.yielded c.in-Some.listing (into_iter_items c.next.new.self) all)

pub loop-listing-preserved : goal.loop-listing-preserved
loop-listing-preserved g c =
    let at = c.loop-listing in
    let steps : into_iter_items at.listing-iterator ≡ c.in-Some.listing ∷ into_iter_items c.next.new.self = c.in-Some.ensures.steps.0 in
    let all : AllByRecursion (λ l. IsPlacedIn c.args.text.now l) (at.yielded ++ c.in-Some.listing ∷ into_iter_items c.next.new.self) =
    subst (AllByRecursion (λ l. IsPlacedIn c.args.text.now l)) (sym at.invariant.rest ∙ ap (λ (u : List (List (ℕ × Fe32))). at.yielded ++ u) steps) c.requires in
    record {
      rest = append_assoc at.yielded (c.in-Some.listing ∷ []) (into_iter_items c.next.new.self) ∙ ap (λ (u : List (List (ℕ × Fe32))). at.yielded ++ u) (sym steps) ∙ at.invariant.rest;
      left = let gone = c.in-Some.ensures.steps.1 in omega (arith, at.invariant.left, gone, ap length steps);
      mended = texts_more (λ m. m.listing) (λ m. string_bytes m.text) c.args.text.now at.yielded c.in-Some.listing at.texts.items c.push.new.self.items c.in_ok-mended.mended
          (all_within (λ l. IsPlacedIn c.args.text.now l) at.yielded c.in-Some.listing (into_iter_items c.next.new.self) all)
          c.in_ok-mended.ensures.same c.in_ok-mended.ensures.spelling c.in_ok-push.ensures.items at.invariant.mended;
    }

pub returns-clause-same : goal.returns-clause-same
returns-clause-same g c =
    let at = c.loop-listing in
    let empty : into_iter_items at.listing-iterator ≡ [] = nil_from_length (into_iter_items at.listing-iterator) (sym at.invariant.left ∙ c.in-None.ensures.steps.0) in
    at.invariant.mended.0 ∙ sym (append-nil at.yielded) ∙ ap (λ (u : List (List (ℕ × Fe32))). at.yielded ++ u) (sym empty) ∙ at.invariant.rest

use Rattle.std.specs.List.{AllByRecursion}
use Rattle.std.specs.Vec.Iter.{into_iter_items}
use Rattle.std.proofs.Common.{◌≡◌, ◌++◌, ◌∷◌, [], List, length, append-nil, append_assoc, subst, sym, ap, ◌∙◌, refl, arith}
use Rattle.std.proofs.lemmas.List.{nil_from_length}
use Rattle.bech32_descriptor.specs.Edits.{IsToldMend, made}
use Rattle.bech32_descriptor.specs.declared.edits.Edit.{Edit}
use Rattle.bech32_descriptor.proofs.Listed.{all_within, texts_more}
use Rattle.bech32_descriptor.proofs.mends.made_all.Goals as goal

pub made_text-requires : goal.made_text-requires
made_text-requires g c =
    let at = c.loop-edit in
    let steps : into_iter_items at.edit-iterator ≡ c.in-Some.edit ∷ into_iter_items c.next.new.self = c.in-Some.ensures.steps.0 in
    let P = λ (e : Edit). IsToldMend e c.args.text.now in
    let all : AllByRecursion P (at.yielded ++ c.in-Some.edit ∷ into_iter_items c.next.new.self) =
    subst (AllByRecursion P) (sym at.invariant.rest ∙ ap (λ (u : List Edit). at.yielded ++ u) steps) c.requires.1 in
    record { few = c.requires.0; told = all_within P at.yielded c.in-Some.edit (into_iter_items c.next.new.self) all }

pub loop-edit-preserved : goal.loop-edit-preserved
loop-edit-preserved g c =
    let at = c.loop-edit in
    let steps : into_iter_items at.edit-iterator ≡ c.in-Some.edit ∷ into_iter_items c.next.new.self = c.in-Some.ensures.steps.0 in
    record {
      rest = append_assoc at.yielded (c.in-Some.edit ∷ []) (into_iter_items c.next.new.self) ∙ ap (λ (u : List Edit). at.yielded ++ u) (sym steps) ∙ at.invariant.rest;
      left = let gone = c.in-Some.ensures.steps.1 in omega (arith, at.invariant.left, gone, ap length steps);
      texts = texts_more (λ m. m.edit) (λ m. m.text.items) (λ e. made e c.args.text.now) at.yielded c.in-Some.edit at.found.items c.push.new.self.items _ refl
          c.in_ok-text.ensures c.in_ok-push.ensures.items at.invariant.texts;
    }

pub returns-clause-same : goal.returns-clause-same
returns-clause-same g c =
    let at = c.loop-edit in
    let empty : into_iter_items at.edit-iterator ≡ [] = nil_from_length (into_iter_items at.edit-iterator) (sym at.invariant.left ∙ c.in-None.ensures.steps.0) in
    at.invariant.texts.0 ∙ sym (append-nil at.yielded) ∙ ap (λ (u : List Edit). at.yielded ++ u) (sym empty) ∙ at.invariant.rest

use Rattle.std.specs.Prelude.{string_bytes}
use Rattle.std.specs.List.{AllByRecursion}
use Rattle.std.specs.Vec.Iter.{into_iter_items}
use Rattle.std.proofs.Common.{◌≡◌, ◌++◌, ◌∷◌, [], List, length, append-nil, append_assoc, subst, sym, ap, ◌∙◌, refl, arith}
use Rattle.std.proofs.lemmas.List.{nil_from_length}
use Rattle.std.proofs.lemmas.Result.{err_from_is_err_and}
use Rattle.bech32_near.specs.edits.Walks.{IsEditOf}
use Rattle.bech32_near.specs.declared.edits.edit.Edit.{Edit}
use Rattle.bech32_near.proofs.Listed.{all_within, between, texts_more}
use Rattle.bech32_near.proofs.edits.texts.edited_all.Goals as goal

pub edited_text-requires : goal.edited_text-requires
edited_text-requires g c =
    let at = c.loop-edit in
    let steps : into_iter_items at.edit-iterator ≡ c.in-Some.edit ∷ into_iter_items c.next.new.self = c.in-Some.ensures.steps.0 in
    let all : AllByRecursion (IsEditOf c.args.text.now) (at.yielded ++ c.in-Some.edit ∷ into_iter_items c.next.new.self) =
    subst (AllByRecursion (IsEditOf c.args.text.now)) (sym at.invariant.rest ∙ ap (λ (u : List Edit). at.yielded ++ u) steps) c.requires in
    all_within (IsEditOf c.args.text.now) at.yielded c.in-Some.edit (into_iter_items c.next.new.self) all

pub loop-edit-preserved : goal.loop-edit-preserved
loop-edit-preserved g c =
    let at = c.loop-edit in
    let steps : into_iter_items at.edit-iterator ≡ c.in-Some.edit ∷ into_iter_items c.next.new.self = c.in-Some.ensures.steps.0 in
    record {
      rest = append_assoc at.yielded (c.in-Some.edit ∷ []) (into_iter_items c.next.new.self) ∙ ap (λ (u : List Edit). at.yielded ++ u) (sym steps) ∙ at.invariant.rest;
      left = let gone = c.in-Some.ensures.steps.1 in omega (arith, at.invariant.left, gone, ap length steps);
      made = texts_more (λ m. m.edit) (λ m. string_bytes m.text) c.args.text.now at.yielded c.in-Some.edit at.texts.items c.push.new.self.items _ refl
          c.in_ok-text.ensures c.in_ok-push.ensures.items at.invariant.made;
    }

pub returns-clause-same : goal.returns-clause-same
returns-clause-same g c =
    let at = c.loop-edit in
    let empty : into_iter_items at.edit-iterator ≡ [] = nil_from_length (into_iter_items at.edit-iterator) (sym at.invariant.left ∙ c.in-None.ensures.steps.0) in
    at.invariant.made.0 ∙ sym (append-nil at.yielded) ∙ ap (λ (u : List Edit). at.yielded ++ u) (sym empty) ∙ at.invariant.rest

pub returns-in_err-text-clause-some : goal.returns-in_err-text-clause-some
returns-in_err-text-clause-some g c =
    let at = c.loop-edit in
    let steps : into_iter_items at.edit-iterator ≡ c.in-Some.edit ∷ into_iter_items c.next.new.self = c.in-Some.ensures.steps.0 in
    let p = err_from_is_err_and c.from_residual.result c.from_residual.ensures.1 in
    rw p.1 (c.in-Some.edit, between at.yielded c.in-Some.edit (into_iter_items c.next.new.self) c.args.edits.items (ap (λ (u : List Edit). at.yielded ++ u) (sym steps) ∙ at.invariant.rest))

pub returns-in_err-push-clause-some : goal.returns-in_err-push-clause-some
returns-in_err-push-clause-some g c =
    let at = c.loop-edit in
    let steps : into_iter_items at.edit-iterator ≡ c.in-Some.edit ∷ into_iter_items c.next.new.self = c.in-Some.ensures.steps.0 in
    let p = err_from_is_err_and c.from_residual-in_err-push.result c.from_residual-in_err-push.ensures.1 in
    rw p.1 (c.in-Some.edit, between at.yielded c.in-Some.edit (into_iter_items c.next.new.self) c.args.edits.items (ap (λ (u : List Edit). at.yielded ++ u) (sym steps) ∙ at.invariant.rest))

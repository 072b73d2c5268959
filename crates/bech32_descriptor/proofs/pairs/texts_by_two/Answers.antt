use Rattle.std.specs.List.{AllByRecursion}
use Rattle.std.specs.Vec.Iter.{into_iter_items}
use Rattle.std.proofs.Common.{◌≡◌, ◌++◌, ◌∷◌, [], ℕ, List, length, append-nil, append_assoc, subst, sym, ap, ◌∙◌, refl, arith}
use Rattle.std.proofs.lemmas.List.{nil_from_length}
use Rattle.bech32_descriptor.specs.Edits.{IsToldMend, made}
use Rattle.bech32_descriptor.specs.Pairs.{IsMendByTwo, made_by_two}
use Rattle.bech32_descriptor.specs.declared.edits.TwoEdits.{TwoEdits}
use Rattle.bech32_descriptor.proofs.Listed.{all_within, texts_more}
use Rattle.bech32_descriptor.proofs.TwoChanges.{length_changed, told_half}
use Rattle.bech32_descriptor.proofs.pairs.texts_by_two.Goals as goal

mends : (text : List ℕ) (before rest : List TwoEdits) (e : TwoEdits) (all : List TwoEdits) → before ++ e ∷ rest ≡ all → AllByRecursion (IsMendByTwo text) all → IsMendByTwo text e
mends text before rest e all is h =
    all_within (IsMendByTwo text) before e rest (subst (λ (l : List TwoEdits). AllByRecursion (IsMendByTwo text) l) (sym is) h)

pub made_text-requires : goal.made_text-requires
made_text-requires g c =
    let at = c.loop-edits in
    let rest = into_iter_items c.next.new.self in
    let steps : into_iter_items at.edits-iterator ≡ c.in-Some.edits ∷ rest = c.in-Some.ensures.steps.0 in
    let is = ap (λ (u : List TwoEdits). at.yielded ++ u) (sym steps) ∙ at.invariant.rest in
    record { few = omega (arith, c.requires.few); told = (mends c.args.text.now at.yielded rest c.in-Some.edits c.args.found.items is c.requires.mends).second_changes.1 }

pub made_text-requires-in-loop-edits : goal.made_text-requires-in-loop-edits
made_text-requires-in-loop-edits g c =
    let at = c.loop-edits in
    let text = c.args.text.now in
    let e = c.in-Some.edits in
    let rest = into_iter_items c.next.new.self in
    let steps : into_iter_items at.edits-iterator ≡ e ∷ rest = c.in-Some.ensures.steps.0 in
    let is = ap (λ (u : List TwoEdits). at.yielded ++ u) (sym steps) ∙ at.invariant.rest in
    let m = mends text at.yielded rest e c.args.found.items is c.requires.mends in
    let half : c.deref.result.now ≡ made e.second text = c.deref.ensures.value ∙ c.in_ok-half.ensures in
    let size : length c.deref.result.now ≡ length text = ap (λ (u : List ℕ). length u) half ∙ length_changed text e.second m.second_changes.0 in
    record {
      few = omega (arith, size, c.requires.few);
      told = subst (λ (u : List ℕ). IsToldMend e.first u) (sym half) (told_half text e m);
    }

pub loop-edits-preserved : goal.loop-edits-preserved
loop-edits-preserved g c =
    let at = c.loop-edits in
    let steps : into_iter_items at.edits-iterator ≡ c.in-Some.edits ∷ into_iter_items c.next.new.self = c.in-Some.ensures.steps.0 in
    record {
      rest = append_assoc at.yielded (c.in-Some.edits ∷ []) (into_iter_items c.next.new.self) ∙ ap (λ (u : List TwoEdits). at.yielded ++ u) (sym steps) ∙ at.invariant.rest;
      left = let gone = c.in-Some.ensures.steps.1 in omega (arith, at.invariant.left, gone, ap length steps);
      texts = texts_more (λ m. m.edits) (λ m. m.text.items) (λ e. made_by_two e c.args.text.now) at.yielded c.in-Some.edits at.all.items c.push.new.self.items _ refl
          (c.in_ok-text.ensures ∙ ap (λ (u : List ℕ). made c.in-Some.edits.first u) (c.deref.ensures.value ∙ c.in_ok-half.ensures)) c.in_ok-push.ensures.items at.invariant.texts;
    }

pub returns-clause-same : goal.returns-clause-same
returns-clause-same g c =
    let at = c.loop-edits in
    let empty : into_iter_items at.edits-iterator ≡ [] = nil_from_length (into_iter_items at.edits-iterator) (sym at.invariant.left ∙ c.in-None.ensures.steps.0) in
    at.invariant.texts.0 ∙ sym (append-nil at.yielded) ∙ ap (λ (u : List TwoEdits). at.yielded ++ u) (sym empty) ∙ at.invariant.rest

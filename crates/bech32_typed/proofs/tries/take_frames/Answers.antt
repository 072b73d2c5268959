use Rattle.std.proofs.Common.{rules, ◌≡◌, ◌∷◌, ◌∙◌, List, None, Option, ap, drop, get_or, map, subst, sym, take, [], ◌+◌}
use Rattle.bech32_typed.specs.Frames.{is_frame}
use Rattle.bech32_typed.specs.Tries.{IsTaken, Try, texts_of_try, with_errors}
use Rattle.bech32_typed.specs.declared.tries.Budget.{Budget}
use Rattle.bech32_typed.proofs.Split.{passes-at, split}
use Rattle.bech32_typed.proofs.Taking.{taken-append, taken-fewer}
use Rattle.bech32_typed.proofs.tries.take_frames.Goals as goal

pub texts-requires-clause-frame : goal.texts-requires-clause-frame
texts-requires-clause-frame c =
    ap is_frame (c.as_slice.ensures.value ∙ ap (λ f. f.items) c.frame-item.is)
    ∙ passes-at is_frame (λ f. f.items) c.args.frames.now c.loop-frame.frame-index c.frame-item.result c.loop-frame-test.true c.requires.frames

pub returns-in_err-left : goal.returns-in_err-left
returns-in_err-left c =
    let we = with_errors c.args.errors in
    let i = c.loop-frame.frame-index in
    let frames = c.args.frames.now in
    let one : Try = we (get_or frames i c.frame-item.result).items in
    let all : List Try = map we (map (λ f. f.items) frames) in
    let before : List Try = map we (map (λ f. f.items) (take i frames)) in
    let behind : List Try = map we (map (λ f. f.items) (drop (i + 1) frames)) in
    let texts : c.texts.result ≡ texts_of_try one = c.texts.ensures ∙ ap (λ f. texts_of_try (we f)) (c.as_slice.ensures.value ∙ ap (λ f. f.items) c.frame-item.is) in
    subst (λ (o : Option Budget). IsTaken c.args.left all o) (sym c.from_residual.ensures)
    (subst (λ (ts : List Try). IsTaken c.args.left ts None) (sym (split we (λ f. f.items) frames i c.frame-item.result c.loop-frame-test.true))
    (taken-append c.args.left c.loop-frame.left before (one ∷ behind) c.loop-frame.invariant None
    (taken-fewer c.loop-frame.left (one ∷ []) behind (search (rules, texts)))))
